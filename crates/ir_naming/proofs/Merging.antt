-- Two lists of items merged by their places, one item after the other.
use Rattle.std.proofs.Common.{◌≡◌, ◌∙◌, sym, ap, refl, ℕ, ◌+◌, ◌<◌, ◌≤◌, ◌⊎◌, inl, inr, nat_le, true, false, List, [], ◌∷◌, ◌++◌, cond, drop, get_or, length}
use Rattle.std.proofs.lemmas.List.{append-nil, append_assoc, drop_all, drop_more}
use Rattle.ir_naming.specs.Items.{NamedItem, merged, merged_with}

pub merged_none : (left : List NamedItem) → merged left [] ≡ left
unfolding merged
merged_none [] = refl
merged_none (x ∷ left) = ap (λ l. x ∷ l) (merged_none left)

first_left : (a b : NamedItem) (left right : List NamedItem) → nat_le a.place b.place ≡ true → merged (a ∷ left) (b ∷ right) ≡ a ∷ merged left (b ∷ right)
unfolding merged
first_left a b left right first = ap (λ t. cond t (a ∷ merged left (b ∷ right)) (b ∷ merged_with a (merged left) right)) first

first_right : (a b : NamedItem) (left right : List NamedItem) → nat_le a.place b.place ≡ false → merged (a ∷ left) (b ∷ right) ≡ b ∷ merged (a ∷ left) right
unfolding merged
first_right a b left right later = ap (λ t. cond t (a ∷ merged left (b ∷ right)) (b ∷ merged_with a (merged left) right)) later

drop_is : (xs : List NamedItem) (i : ℕ) (x : NamedItem) → i < length xs → x ≡ get_or xs i x → drop i xs ≡ x ∷ drop (i + 1) xs
drop_is xs i x inside is = drop_more xs i x inside ∙ ap (λ y. y ∷ drop (i + 1) xs) (sym is)

-- the first item that is left of the left list comes next
pub takes_left : (names left right all : List NamedItem) (i j : ℕ) (x y : NamedItem) → i < length left → j < length right → x ≡ get_or left i x → y ≡ get_or right j y
    → nat_le x.place y.place ≡ true → names ++ merged (drop i left) (drop j right) ≡ all
    → (names ++ x ∷ []) ++ merged (drop (i + 1) left) (drop j right) ≡ all
takes_left names left right all i j x y inside inside' is is' first before =
    append_assoc names (x ∷ []) (merged (drop (i + 1) left) (drop j right))
    ∙ ap (λ l. names ++ x ∷ merged (drop (i + 1) left) l) (drop_is right j y inside' is')
    ∙ ap (λ l. names ++ l) (sym (first_left x y (drop (i + 1) left) (drop (j + 1) right) first))
    ∙ ap (λ l. names ++ merged l (y ∷ drop (j + 1) right)) (sym (drop_is left i x inside is))
    ∙ ap (λ l. names ++ merged (drop i left) l) (sym (drop_is right j y inside' is'))
    ∙ before

-- the first item that is left of the right list comes next
pub takes_right : (names left right all : List NamedItem) (i j : ℕ) (x y : NamedItem) → i < length left → j < length right → x ≡ get_or left i x → y ≡ get_or right j y
    → nat_le x.place y.place ≡ false → names ++ merged (drop i left) (drop j right) ≡ all
    → (names ++ y ∷ []) ++ merged (drop i left) (drop (j + 1) right) ≡ all
takes_right names left right all i j x y inside inside' is is' later before =
    append_assoc names (y ∷ []) (merged (drop i left) (drop (j + 1) right))
    ∙ ap (λ l. names ++ y ∷ merged l (drop (j + 1) right)) (drop_is left i x inside is)
    ∙ ap (λ l. names ++ l) (sym (first_right x y (drop (i + 1) left) (drop (j + 1) right) later))
    ∙ ap (λ l. names ++ merged l (y ∷ drop (j + 1) right)) (sym (drop_is left i x inside is))
    ∙ ap (λ l. names ++ merged (drop i left) l) (sym (drop_is right j y inside' is'))
    ∙ before

-- the rest, where one of the lists is at its end
pub takes_rest : (names left right all : List NamedItem) (i j : ℕ) → (length left ≤ i) ⊎ (length right ≤ j) → names ++ merged (drop i left) (drop j right) ≡ all
    → (names ++ drop i left) ++ drop j right ≡ all
unfolding merged
takes_rest names left right all i j (inl ends) before =
    ap (λ l. (names ++ l) ++ drop j right) (drop_all i left ends)
    ∙ ap (λ l. l ++ drop j right) (append-nil names)
    ∙ ap (λ l. names ++ merged l (drop j right)) (sym (drop_all i left ends))
    ∙ before
takes_rest names left right all i j (inr ends) before =
    ap (λ l. (names ++ drop i left) ++ l) (drop_all j right ends)
    ∙ append-nil (names ++ drop i left)
    ∙ ap (λ l. names ++ l) (sym (merged_none (drop i left)))
    ∙ ap (λ l. names ++ merged (drop i left) l) (sym (drop_all j right ends))
    ∙ before
