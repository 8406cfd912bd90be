-- A new block among the others, and that freeing it leaves these.
use Rattle.std.proofs.Common.{◌≡◌, ◌∙◌, ℕ, zero, suc, ◌<◌, ◌≤◌, true, false, not, ◌&&◌, ◌||◌, if◌then◌else◌, List, [], ◌∷◌, length, insert, refl, ap, inl, inr, arith}
use Rattle.std.specs.List.{list_any}
use Rattle.std.proofs.lemmas.Bool.{and_right, cases_lt, eq-eqb, le-ltb, lt-ltb, ne_eqb, or_right}
use Rattle.std.proofs.lemmas.List.Folds.{list_any_none}
use Rattle.ir_mem.proofs.LastLemmas.{IsBegun}
use Rattle.ir_mem.proofs.OrderLemmas.{bases_rise}
use Rattle.ir_mem.specs.Memory.{IsMemory}
use Rattle.ir_mem.specs.Placing.{begins, freed, placed}
use Rattle.ir_mem.specs.declared.block.Block.{Block}

pub placed_first : (new block : Block) (blocks : List Block) → new.base < block.base → placed new (block ∷ blocks) ≡ new ∷ (block ∷ blocks)
placed_first new block blocks before =
    ap (λ test. if test then new ∷ (block ∷ blocks) else block ∷ placed new blocks) (lt-ltb new.base block.base before)

pub placed_behind : (new block : Block) (blocks : List Block) → block.base ≤ new.base → placed new (block ∷ blocks) ≡ block ∷ placed new blocks
placed_behind new block blocks behind =
    ap (λ test. if test then new ∷ (block ∷ blocks) else block ∷ placed new blocks) (le-ltb new.base block.base behind)

-- a new block stands behind those that begin at or before its base
pub placed_at : (new : Block) (blocks : List Block) (count : ℕ) → count ≤ length blocks → IsBegun blocks new.base count →
    placed new blocks ≡ insert blocks count new
placed_at new [] zero upto begun = refl
placed_at new [] (suc count) upto begun = absurd (omega arith)
placed_at new (block ∷ blocks) zero upto begun = placed_first new block blocks (begun.1 0 block (omega arith) (omega arith))
placed_at new (block ∷ blocks) (suc count) upto begun =
    placed_behind new block blocks (begun.0 0 block (omega arith) (omega arith))
    ∙ ap (λ bs. block ∷ bs) (placed_at new blocks count (omega arith)
    (λ k d low high. begun.0 (suc k) d (omega arith) (omega arith), λ k d low high. begun.1 (suc k) d (omega arith) (omega arith)))

new_begins : (new : Block) (blocks : List Block) → list_any (begins new.base) (placed new blocks) ≡ true
new_begins new [] = ap (λ test. test || false) (eq-eqb new.base new.base refl)
new_begins new (block ∷ blocks) = elim (cases_lt new.base block.base) [
  | inl before ↦
      ap (list_any (begins new.base)) (placed_first new block blocks before)
      ∙ ap (λ test. test || list_any (begins new.base) (block ∷ blocks)) (eq-eqb new.base new.base refl)
  | inr behind ↦
      ap (list_any (begins new.base)) (placed_behind new block blocks behind)
      ∙ or_right (begins new.base block) (list_any (begins new.base) (placed new blocks)) (new_begins new blocks)
]

none_before : (new block : Block) (blocks : List Block) → IsMemory (block ∷ blocks) → new.base < block.base → list_any (begins new.base) (block ∷ blocks) ≡ false
none_before new block blocks memory before =
    list_any_none (begins new.base) (block ∷ blocks) (λ k d inside.
    let rises = bases_rise (block ∷ blocks) memory 0 k d (omega arith) inside in
    ne_eqb _ new.base (λ same. omega (arith, rises, same)))

-- a block that is placed and then freed leaves the blocks that were there
pub freed_placed : (new : Block) (blocks : List Block) → IsMemory blocks → freed new.base (placed new blocks) ≡ blocks
freed_placed new [] memory = ap (λ test. if test && true then [] else new ∷ []) (eq-eqb new.base new.base refl)
freed_placed new (block ∷ blocks) memory = elim (cases_lt new.base block.base) [
  | inl before ↦
      ap (freed new.base) (placed_first new block blocks before)
      ∙ ap (λ test. if test && not (list_any (begins new.base) (block ∷ blocks)) then block ∷ blocks else new ∷ freed new.base (block ∷ blocks))
      (eq-eqb new.base new.base refl)
      ∙ ap (λ test. if not test then block ∷ blocks else new ∷ freed new.base (block ∷ blocks)) (none_before new block blocks memory before)
  | inr behind ↦
      ap (freed new.base) (placed_behind new block blocks behind)
      ∙ ap (λ test. if test then placed new blocks else block ∷ freed new.base (placed new blocks))
      (and_right (begins new.base block) (not (list_any (begins new.base) (placed new blocks))) (ap not (new_begins new blocks)))
      ∙ ap (λ bs. block ∷ bs) (freed_placed new blocks memory.2)
]
