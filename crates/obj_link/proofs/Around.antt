-- Lists around one object: what is made for each object, split at one of them.
use Rattle.std.proofs.Common.{◌≡◌, List, [], ◌∷◌, ◌++◌, ap, sym, ◌∙◌, append_assoc}
use Rattle.std.specs.List.{flat_map}
use Rattle.std.proofs.lemmas.List.{append-nil}
use Rattle.obj_link.specs.Names.{with_before}

later_before : {A B : Type 0} (f : List A × A → List B) (prefix xs : List A) (y : A) (zs : List A)
    → flat_map f (with_before prefix (xs ++ y ∷ zs))
    ≡ flat_map f (with_before prefix xs) ++ (f (prefix ++ xs, y) ++ flat_map f (with_before (prefix ++ (xs ++ y ∷ [])) zs))
later_before f prefix [] y zs = ap (λ before. f (before, y) ++ flat_map f (with_before (prefix ++ y ∷ []) zs)) (sym (append-nil prefix))
later_before f prefix (x ∷ xs) y zs =
    ap (λ more. f (prefix, x) ++ more) (later_before f (prefix ++ x ∷ []) xs y zs)
    ∙ sym (append_assoc (f (prefix, x)) (flat_map f (with_before (prefix ++ x ∷ []) xs)) _)
    ∙ ap (λ before. (f (prefix, x) ++ flat_map f (with_before (prefix ++ x ∷ []) xs)) ++ (f (before, y) ++ flat_map f (with_before ((prefix ++ x ∷ []) ++ (xs ++ y ∷ [])) zs)))
    (append_assoc prefix (x ∷ []) xs)
    ∙ ap (λ before. (f (prefix, x) ++ flat_map f (with_before (prefix ++ x ∷ []) xs)) ++ (f (prefix ++ (x ∷ xs), y) ++ flat_map f (with_before before zs)))
    (append_assoc prefix (x ∷ []) (xs ++ y ∷ []))

-- what is made for the objects before one, for it, and for those behind it
pub split_before : {A B : Type 0} (f : List A × A → List B) (objects before : List A) (object : A) (after : List A) → objects ≡ before ++ object ∷ after
    → flat_map f (with_before [] objects)
    ≡ flat_map f (with_before [] before) ++ (f (before, object) ++ flat_map f (with_before (before ++ object ∷ []) after))
split_before f objects before object after is = ap (λ all. flat_map f (with_before [] all)) is ∙ later_before f [] before object after
