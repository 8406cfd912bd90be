-- The least line of a list that is put together.
use Rattle.std.proofs.Common.{◌≡◌, ◌∙◌, ℕ, suc, ◌+◌, ◌<◌, List, [], ◌∷◌, ◌++◌, length, take, get_or, flat_map, Option, None, Some, is_some, true, false, refl, sym, ap, arith}
use Rattle.std.proofs.Math.Seq.{take-suc}
use Rattle.std.proofs.lemmas.List.{flat_map_more}
use Rattle.ir_names.specs.Least.{earlier_of, least}

earlier_assoc : (a b c : Option ℕ) → earlier_of (earlier_of a b) c ≡ earlier_of a (earlier_of b c)
earlier_assoc None b c = refl
earlier_assoc (Some a) None c = refl
earlier_assoc (Some a) (Some b) None = refl
earlier_assoc (Some a) (Some b) (Some c) = ap (λ n. Some n) (omega arith)

pub least_append : (xs ys : List ℕ) → least (xs ++ ys) ≡ earlier_of (least xs) (least ys)
least_append [] ys = refl
least_append (x ∷ xs) ys = ap (earlier_of (Some x)) (least_append xs ys) ∙ sym (earlier_assoc (Some x) (least xs) (least ys))

pub take_more : {A : Type 0} (xs : List A) (i : ℕ) (x : A) → i < length xs → x ≡ get_or xs i x → take (i + 1) xs ≡ take i xs ++ x ∷ []
take_more xs i x inside is =
    let next : i + 1 ≡ suc i = omega arith in
    ap (λ n. take n xs) next ∙ take-suc xs i x inside ∙ ap (λ y. take i xs ++ y ∷ []) (sym is)

-- one more part of a list
pub least_more : {A : Type 0} (f : A → List ℕ) (xs : List A) (i : ℕ) (x : A) (first here : Option ℕ) → i < length xs → x ≡ get_or xs i x →
    first ≡ least (flat_map f (take i xs)) → here ≡ least (f x) → earlier_of first here ≡ least (flat_map f (take (i + 1) xs))
least_more f xs i x first here inside is before now =
    (λ k. earlier_of (before k) (now k))
    ∙ sym (least_append (flat_map f (take i xs)) (f x))
    ∙ ap least (flat_map_more f [] (take i xs) x)
    ∙ ap (λ ys. least (flat_map f ys)) (sym (take_more xs i x inside is))

some_line : (a : ℕ) (b : Option ℕ) → is_some (earlier_of (Some a) b) ≡ true
some_line a None = refl
some_line a (Some b) = refl

-- only an empty list has no least line
pub none_is_empty : (lines : List ℕ) → None ≡ least lines → lines ≡ []
none_is_empty [] e = refl
none_is_empty (x ∷ lines) e = absurd (true_is_not_false (sym (some_line x (least lines)) ∙ sym (ap is_some e)))
  where
    true_is_not_false : true ≡ false → ⊥
    true_is_not_false h = grind (arith, h)
