-- A free takes the same block before a store and behind it.
use Rattle.std.proofs.Common.{◌≡◌, ◌∙◌, ℕ, Bool, true, false, not, ◌&&◌, ◌||◌, cond, List, [], ◌∷◌, map, nat_eq, refl, ap}
use Rattle.std.specs.List.{list_any}
use Rattle.ir_mem.proofs.FindLemmas.{one_stored}
use Rattle.ir_mem.proofs.StayLemmas.{one_alike}
use Rattle.ir_mem.specs.Memory.{stored}
use Rattle.ir_mem.specs.Placing.{begins, freed}
use Rattle.ir_mem.specs.declared.block.Block.{Block}

begins_kept : (base at : ℕ) (bytes : List ℕ) (block : Block) → begins base (one_stored at bytes block) ≡ begins base block
begins_kept base at bytes block = ap (λ n. nat_eq n base) (one_alike at bytes block).base

any_kept : (base at : ℕ) (bytes : List ℕ) (blocks : List Block) → list_any (begins base) (stored at bytes blocks) ≡ list_any (begins base) blocks
any_kept base at bytes [] = refl
any_kept base at bytes (block ∷ blocks) =
    ap (λ test. test || list_any (begins base) (stored at bytes blocks)) (begins_kept base at bytes block)
    ∙ ap (λ test. begins base block || test) (any_kept base at bytes blocks)

-- a list with its first block or without it, mapped
mapped : (f : Block → Block) (test : Bool) (block : Block) (blocks rest : List Block) →
    cond test (map f blocks) (f block ∷ map f rest) ≡ map f (cond test blocks (block ∷ rest))
mapped f true block blocks rest = refl
mapped f false block blocks rest = refl

pub freed_stored : (base at : ℕ) (bytes : List ℕ) (blocks : List Block) → freed base (stored at bytes blocks) ≡ stored at bytes (freed base blocks)
freed_stored base at bytes [] = refl
freed_stored base at bytes (block ∷ blocks) =
    let f = one_stored at bytes in
    ap (λ test. cond (test && not (list_any (begins base) (stored at bytes blocks))) (stored at bytes blocks) (f block ∷ freed base (stored at bytes blocks)))
    (begins_kept base at bytes block)
    ∙ ap (λ test. cond (begins base block && not test) (stored at bytes blocks) (f block ∷ freed base (stored at bytes blocks))) (any_kept base at bytes blocks)
    ∙ ap (λ rest. cond (begins base block && not (list_any (begins base) blocks)) (stored at bytes blocks) (f block ∷ rest)) (freed_stored base at bytes blocks)
    ∙ mapped f (begins base block && not (list_any (begins base) blocks)) block blocks (freed base blocks)
