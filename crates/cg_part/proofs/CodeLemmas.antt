-- Lists of copies.
use Rattle.std.proofs.Common.{◌≡◌, ◌≤◌, ◌+◌, ◌-◌, ◌++◌, ◌∷◌, [], ℕ, List, ap, sym, ◌∙◌, arith, append_assoc}
use Rattle.std.proofs.lemmas.List.FromFn.{map-range_with_len_more}
use Rattle.rv_isa.specs.declared.inst.Inst.{Inst}
use Rattle.cg_part.specs.Code.{copies}
use Rattle.rv_isa.specs.Instructions.{mv}

-- the copies up to a place, and the one of that place
one_more_copy : (rd first place : ℕ) → first ≤ place → copies rd first (place + 1 - first) ≡ copies rd first (place - first) ++ mv rd (10 + place) ∷ []
one_more_copy rd first place before =
    let next : place + 1 - first ≡ (place - first) + 1 = omega arith in
    let here : first + (place - first) ≡ place = omega arith in
    ap (copies rd first) next ∙ map-range_with_len_more (λ i. mv rd (10 + i)) first (place - first) place here

-- code that ends in the copies up to a place, with one more
pub copies_more : (rd first place : ℕ) (old code : List Inst) (copy : Inst) → first ≤ place →
    code ≡ old ++ copies rd first (place - first) → copy ≡ mv rd (10 + place) →
    code ++ copy ∷ [] ≡ old ++ copies rd first (place + 1 - first)
copies_more rd first place old code copy before so_far is =
    ap (λ code. code ++ copy ∷ []) so_far
    ∙ append_assoc old (copies rd first (place - first)) (copy ∷ [])
    ∙ ap (λ last. old ++ (copies rd first (place - first) ++ last ∷ [])) is
    ∙ ap (λ all. old ++ all) (sym (one_more_copy rd first place before))
