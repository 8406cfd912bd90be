-- Where no function's name is repeated, the names of those that are defined differ.
use Rattle.std.proofs.Common.{◌≡◌, ◌++◌, ◌∷◌, [], ℕ, List, Bool, true, false, cond, filter, map, refl, ap, sym, ◌∙◌, subst, append_assoc}
use Rattle.std.specs.Prelude.{bytes_eq}
use Rattle.std.specs.List.{IsDistinct, list_any, AllByRecursion as ByRecursion}
use Rattle.std.proofs.lemmas.Bool.{or_from, or_parts}
use Rattle.std.proofs.lemmas.Cmp.{nat_list_eq_equiv}
use Rattle.std.proofs.lemmas.List.{append-nil, map-append}
use Rattle.std.proofs.lemmas.List.Elements.{filter-append}
use Rattle.std.proofs.lemmas.Map.Keys.{IsDistinct-push}
use Rattle.ir_ident.specs.declared.name.NameUse.{NameUse}
use Rattle.ir_naming.specs.Items.{function_item, item_use}
use Rattle.ir_naming.specs.Repeated.{is_among, repeats, repeats_after}
use Rattle.ir_syntax.specs.Lines.{line_if}
use Rattle.ir_ident.specs.Names.{name_bytes, same_name}
use Rattle.ir_syntax.specs.declared.function.Function.{Function}
use Rattle.ir_ident.specs.declared.name.Name.{Name}
use Rattle.ir_ident.specs.declared.name.Name.TheVariants.{Named, Unnamed, Implicit}
use Rattle.rv_isa.specs.Symbol.{is_bare}
use Rattle.cg_built.specs.Built.{IsBuiltFunction}
use Rattle.cg_built.specs.Definitions.{has_body}
use Rattle.cg_built.specs.Built.{function_name}
use Rattle.cg_built.proofs.BareNames.{name_is_bare}
use Rattle.ir_check.proofs.NoLines.{no_fault, none_joined}

-- a function's name with its line
abbrev pub function_use : Function → NameUse
function_use f = item_use (function_item f)

-- a bare name is compared by its bytes
same_bytes : (n other : Name) → is_bare (name_bytes n) ≡ true → bytes_eq (name_bytes n) (name_bytes other) ≡ same_name n other
same_bytes (Named []) other bare = absurd (cc)
same_bytes (Named (b ∷ bytes)) (Named other) bare = refl
same_bytes (Named (b ∷ bytes)) (Unnamed number) bare = refl
same_bytes (Named (b ∷ bytes)) Implicit bare = refl
same_bytes (Unnamed number) other bare = absurd (cc)
same_bytes Implicit other bare = absurd (cc)

-- one that no function has is that of none that is defined
not_defined : (n : Name) (functions : List Function) → is_bare (name_bytes n) ≡ true → is_among (map function_use functions) n ≡ false →
    list_any (bytes_eq (name_bytes n)) (map function_name (filter has_body functions)) ≡ false
not_defined n [] bare none = refl
not_defined n (f ∷ functions) bare none =
    let parts = or_parts (same_name n f.name) (is_among (map function_use functions) n) none in
    by_test (has_body f) (same_bytes n f.name bare ∙ parts.0) (not_defined n functions bare parts.1)
  where
    by_test : (t : Bool) → bytes_eq (name_bytes n) (function_name f) ≡ false →
        list_any (bytes_eq (name_bytes n)) (map function_name (filter has_body functions)) ≡ false →
        list_any (bytes_eq (name_bytes n)) (map function_name (cond t (f ∷ filter has_body functions) (filter has_body functions))) ≡ false
    by_test true here later = or_from _ _ here later
    by_test false here later = later

-- the names of the functions that are defined
abbrev names : List Function → List (List ℕ)
names functions = map function_name (filter has_body functions)

names_more : (before : List Function) (f : Function) → names (before ++ f ∷ []) ≡ names before ++ names (f ∷ [])
names_more before f =
    ap (map function_name) (filter-append has_body before (f ∷ [])) ∙ map-append function_name (filter has_body before) (filter has_body (f ∷ []))

-- one function more, if it is defined, has a name that those before it do not have
one_more : (test : Bool) (before rest : List Function) (f : Function) → ByRecursion IsBuiltFunction (cond test (f ∷ rest) rest) →
    is_among (map function_use before) f.name ≡ false → IsDistinct bytes_eq (names before) →
    IsDistinct bytes_eq (names before ++ map function_name (cond test (f ∷ []) [])) × ByRecursion IsBuiltFunction rest
one_more true before rest f built fresh distinct = (
  IsDistinct-push nat_list_eq_equiv (names before) (function_name f) distinct
      (not_defined f.name before (name_is_bare (function_name f) built.0.name) fresh),
  built.1,
)
one_more false before rest f built fresh distinct = (subst (IsDistinct bytes_eq) (sym (append-nil (names before))) distinct, built)

distinct_after : (before functions : List Function) → ByRecursion IsBuiltFunction (filter has_body functions) →
    IsDistinct bytes_eq (names before) → repeats_after (map function_use before) (map function_use functions) ≡ [] →
    IsDistinct bytes_eq (names (before ++ functions))
distinct_after before [] built distinct none = subst (λ all. IsDistinct bytes_eq (names all)) (sym (append-nil before)) distinct
distinct_after before (f ∷ functions) built distinct none =
    let seen = map function_use before in
    let parts = none_joined (line_if (is_among seen f.name) f.line) (repeats_after (seen ++ function_use f ∷ []) (map function_use functions)) none in
    let more = one_more (has_body f) before (filter has_body functions) f built (no_fault (is_among seen f.name) f.line parts.0) distinct in
    subst (λ all. IsDistinct bytes_eq (names all)) (append_assoc before (f ∷ []) functions)
    (distinct_after (before ++ f ∷ []) functions more.1 (subst (IsDistinct bytes_eq) (sym (names_more before f)) more.0)
    (ap (λ all. repeats_after all (map function_use functions)) (map-append function_use before (f ∷ [])) ∙ parts.1))

pub defined_differ : (functions : List Function) → ByRecursion IsBuiltFunction (filter has_body functions) →
    repeats (map function_use functions) ≡ [] → IsDistinct bytes_eq (map function_name (filter has_body functions))
unfolding IsDistinct
defined_differ functions built none = distinct_after [] functions built tt none
