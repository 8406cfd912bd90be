-- One more function, block or instruction prepared for running.
use Rattle.std.proofs.Common.{◌≡◌, ◌∙◌, ◌+◌, ◌<◌, ℕ, List, [], ◌∷◌, ◌++◌, length, get_or, map, take, sym, ap, subst}
use Rattle.std.proofs.lemmas.List.{map-append, take_more}
use Rattle.std.specs.List.{AllZip}
use Rattle.ir_flow.proofs.CaseLemmas.{zip_more}

-- one more of a list in order, and what stands for it
pub next_zip : {A B : Type 0} (R : A → B → Type 0) (xs : List A) (i : ℕ) (x : A) (ys : List B) (y : B) → i < length xs → x ≡ get_or xs i x → AllZip R (take i xs) ys → R x y
    → AllZip R (take (i + 1) xs) (ys ++ y ∷ [])
next_zip R xs i x ys y inside is before one =
    subst (λ all. AllZip R all (ys ++ y ∷ [])) (ap (λ x. take i xs ++ x ∷ []) is ∙ sym (take_more xs i x inside)) (zip_more R (take i xs) ys x y before one)
