-- Items with their places, one more after the other.
use Rattle.std.proofs.Common.{◌≡◌, ◌∙◌, ℕ, zero, suc, ◌+◌, ◌<◌, List, [], ◌∷◌, ◌++◌, length, take, get_or, sym, ap, arith}
use Rattle.std.proofs.lemmas.List.{append-nil, append_assoc}
use Rattle.ir_uses.specs.Numbered.{flat_numbered}

numbered-next : {A B : Type 0} (f : ℕ → A → List B) (at : ℕ) (xs : List A) (i : ℕ) (x : A) → i < length xs → x ≡ get_or xs i x →
    flat_numbered f at (take i xs) ++ f (at + i) x ≡ flat_numbered f at (take (suc i) xs)
numbered-next f at [] i x inside is = absurd (omega (arith, inside))
numbered-next f at (y ∷ xs) zero x inside is =
    let here : at + zero ≡ at = omega arith in
    (λ k. f (here k) (is k)) ∙ sym (append-nil (f at y))
numbered-next f at (y ∷ xs) (suc i) x inside is =
    let here : at + suc i ≡ suc at + i = omega arith in
    ap (λ n. (f at y ++ flat_numbered f (suc at) (take i xs)) ++ f n x) here
    ∙ append_assoc (f at y) (flat_numbered f (suc at) (take i xs)) (f (suc at + i) x)
    ∙ ap (λ rest. f at y ++ rest) (numbered-next f (suc at) xs i x (omega (arith, inside)) is)

-- what is made of the items up to one more
pub numbered-more : {A B : Type 0} (f : ℕ → A → List B) (xs : List A) (i : ℕ) (x : A) → i < length xs → x ≡ get_or xs i x →
    flat_numbered f 0 (take i xs) ++ f i x ≡ flat_numbered f 0 (take (i + 1) xs)
numbered-more f xs i x inside is =
    let next : suc i ≡ i + 1 = omega arith in
    let here : i ≡ 0 + i = omega arith in
    ap (λ n. flat_numbered f 0 (take i xs) ++ f n x) here ∙ numbered-next f 0 xs i x inside is ∙ ap (λ n. flat_numbered f 0 (take n xs)) next
