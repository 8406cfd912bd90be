-- The places of named items, one more after the other.
use Rattle.std.proofs.Common.{◌≡◌, ◌∙◌, ℕ, suc, ◌+◌, ◌<◌, Bool, true, false, Option, None, Some, option_map, List, [], ◌∷◌, ◌++◌, length, take, get_or, if◌then◌else◌, refl, sym, ap, arith}
use Rattle.std.proofs.lemmas.List.{length-take-le, take_more}
use Rattle.ir_ident.proofs.NameLemmas.{bytes_eq_turned, nat_eq_turned}
use Rattle.ir_ident.specs.NameMaps.{or_else}
use Rattle.ir_ident.specs.Places.{place_by}
use Rattle.ir_ident.specs.Names.{same_name}
use Rattle.ir_ident.specs.declared.name.Name.{Name}
use Rattle.ir_ident.specs.declared.name.Name.TheVariants.{Named, Unnamed, Implicit}

same_name_turned : (a b : Name) → same_name a b ≡ same_name b a
same_name_turned (Named a) (Named b) = bytes_eq_turned a b
same_name_turned (Unnamed a) (Unnamed b) = nat_eq_turned a b
same_name_turned (Named a) (Unnamed b) = refl
same_name_turned (Unnamed a) (Named b) = refl
same_name_turned Implicit (Named b) = refl
same_name_turned Implicit (Unnamed b) = refl
same_name_turned (Named a) Implicit = refl
same_name_turned (Unnamed a) Implicit = refl
same_name_turned Implicit Implicit = refl

behind-one : (place : Option ℕ) (here : Bool) (at : ℕ) →
    option_map (λ p. suc p) (or_else place (if here then Some at else None)) ≡ or_else (option_map (λ p. suc p) place) (if here then Some (suc at) else None)
behind-one None true at = refl
behind-one None false at = refl
behind-one (Some place) here at = refl

place_by-push : {A : Type 0} (name_of : A → Name) (xs : List A) (x : A) (name : Name) →
    place_by name_of (xs ++ x ∷ []) name ≡ or_else (place_by name_of xs name) (if same_name (name_of x) name then Some (length xs) else None)
place_by-push name_of [] x name = by (same_name (name_of x) name)
  where
    by : (here : Bool) → if◌then◌else◌ {A = Option ℕ} here (Some 0) None ≡ or_else None (if here then Some 0 else None)
    by true = refl
    by false = refl
place_by-push name_of (y ∷ xs) x name = by (same_name (name_of y) name)
    (ap (option_map (λ p. suc p)) (place_by-push name_of xs x name) ∙ behind-one (place_by name_of xs name) (same_name (name_of x) name) (length xs))
  where
    by : (first : Bool) →
        option_map (λ p. suc p) (place_by name_of (xs ++ x ∷ []) name)
        ≡ or_else (option_map (λ p. suc p) (place_by name_of xs name)) (if same_name (name_of x) name then Some (length (y ∷ xs)) else None) →
        (if first then Some 0 else option_map (λ p. suc p) (place_by name_of (xs ++ x ∷ []) name))
        ≡ or_else (if first then Some 0 else option_map (λ p. suc p) (place_by name_of xs name)) (if same_name (name_of x) name then Some (length (y ∷ xs)) else None)
    by true rest = refl
    by false rest = rest

-- the places after one more item
pub place_by-more : {A : Type 0} (name_of : A → Name) (xs : List A) (i : ℕ) (x : A) (name : Name) → i < length xs → x ≡ get_or xs i x →
    or_else (place_by name_of (take i xs) name) (if same_name name (name_of x) then Some i else None) ≡ place_by name_of (take (i + 1) xs) name
place_by-more name_of xs i x name inside is =
    let count : i ≡ length (take i xs) = sym (length-take-le i xs (omega (arith, inside))) in
    (λ k. or_else (place_by name_of (take i xs) name) (if same_name_turned name (name_of x) k then Some (count k) else None))
    ∙ sym (place_by-push name_of (take i xs) x name)
    ∙ ap (λ more. place_by name_of more name) (ap (λ y. take i xs ++ y ∷ []) is ∙ sym (take_more xs i x inside))
