-- What the order of a memory's blocks says, and what tests of a block say.
use Rattle.std.proofs.Common.{◌≡◌, ℕ, zero, suc, ◌+◌, ◌<◌, ◌≤◌, ◌^◌, true, false, List, [], ◌∷◌, length, get_or, nat_le, max, min, ap, inl, inr, arith}
use Rattle.std.specs.List.Sorted.{IsNonDecreasingBy}
use Rattle.std.proofs.lemmas.Bool.{and_parts, cases_lt, false_from_ne_true, leb-true, lt-ltb, ltb-true}
use Rattle.ir_mem.specs.Memory.{IsMemory, Precedes, end_of, holds}
use Rattle.ir_mem.specs.Placing.{meets}
use Rattle.ir_mem.specs.declared.block.Block.{Block}

-- of two blocks the earlier precedes the later
pub precedes_at : (blocks : List Block) → IsMemory blocks → (i j : ℕ) (d : Block) → i < j → j < length blocks →
    Precedes (get_or blocks i d) (get_or blocks j d)
precedes_at [] memory i j d before inside = absurd (omega arith)
precedes_at (block ∷ blocks) memory zero zero d before inside = absurd (omega arith)
precedes_at (block ∷ blocks) memory zero (suc j) d before inside = memory.1 j d (omega arith)
precedes_at (block ∷ blocks) memory (suc i) zero d before inside = absurd (omega arith)
precedes_at (block ∷ blocks) memory (suc i) (suc j) d before inside = precedes_at blocks memory.2 i j d (omega arith) (omega arith)

pub bases_rise : (blocks : List Block) → IsMemory blocks → IsNonDecreasingBy (λ (block : Block). block.base) blocks
bases_rise blocks memory i j d upto inside = elim (cases_lt i j) [
  | inl before ↦ (precedes_at blocks memory i j d before inside).0
  | inr behind ↦
      let same : i ≡ j = omega arith in
      let base : (get_or blocks i d).base ≡ (get_or blocks j d).base = ap (λ k. (get_or blocks k d).base) same in
      omega (arith, base)
]

-- no block wraps
pub fits_at : (blocks : List Block) → IsMemory blocks → (i : ℕ) (d : Block) → i < length blocks → end_of (get_or blocks i d) ≤ 2 ^ 64
fits_at [] memory i d inside = absurd (omega arith)
fits_at (block ∷ blocks) memory zero d inside = memory.0
fits_at (block ∷ blocks) memory (suc i) d inside = fits_at blocks memory.2 i d (omega arith)

pub is_held : (at size : ℕ) (block : Block) → holds at size block ≡ true → (block.base ≤ at) × (at + size ≤ end_of block)
is_held at size block held =
    let parts = and_parts (nat_le block.base at) (nat_le (at + size) (end_of block)) held in
    (leb-true _ _ parts.0, leb-true _ _ parts.1)

pub not_held : (at size : ℕ) (block : Block) → (block.base ≤ at → at + size ≤ end_of block → ⊥) → holds at size block ≡ false
not_held at size block never =
    false_from_ne_true (holds at size block) (λ held. let parts = is_held at size block held in never parts.0 parts.1)

-- a range that is not empty is in one block alone
pub held_once : (at size : ℕ) (first second : Block) → 0 < size → Precedes first second → holds at size first ≡ true → holds at size second ≡ true → ⊥
held_once at size first second some precedes one two =
    let a = is_held at size first one in
    let b = is_held at size second two in
    let apart = precedes.1 (omega (arith, a.0, a.1)) (omega (arith, b.0, b.1)) in
    omega (arith, apart, a.0, a.1, b.0, b.1)

pub is_met : (at size : ℕ) (block : Block) → at < at + size → at < end_of block → block.base < at + size → 0 < length block.bytes → meets at size block ≡ true
is_met at size block some begun ends filled = lt-ltb _ _ (omega arith)

pub met_parts : (at size : ℕ) (block : Block) → meets at size block ≡ true →
    (0 < size) × (at < end_of block) × (block.base < at + size) × (0 < length block.bytes)
met_parts at size block met =
    let less = ltb-true (max at block.base) (min (at + size) (end_of block)) met in
    (omega (arith, less), omega (arith, less), omega (arith, less), omega (arith, less))

pub not_met : (at size : ℕ) (block : Block) → (0 < size → at < end_of block → block.base < at + size → 0 < length block.bytes → ⊥) → meets at size block ≡ false
not_met at size block never =
    false_from_ne_true (meets at size block) (λ met. let parts = met_parts at size block met in never parts.0 parts.1 parts.2 parts.3)
