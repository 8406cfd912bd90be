-- The `main` of a module of which all is built: of the two types that fit it has the one without parameters.
use Rattle.std.proofs.Common.{◌≡◌, ◌∙◌, ◌&&◌, ◌||◌, [], ◌∷◌, suc, Bool, true, false, cond, Option, Some, None, List, Contains, codes, refl, ap, sym, subst, arith}
use Rattle.std.specs.Prelude.{find, unwrap_or}
use Rattle.std.specs.Str.{bytes_eq}
use Rattle.std.specs.List.{AllByRecursion as ByRecursion}
use Rattle.std.specs.Cmp.Lexicographic.{same_text}
use Rattle.std.proofs.lemmas.Bool.{and_parts, eqb-true}
use Rattle.std.proofs.lemmas.List.Elements.{recursion_from_All}
use Rattle.ir_check.specs.Hosts.{is_i32, takes_none}
use Rattle.ir_syntax.specs.Types.{TextTree, int}
use Rattle.ir_syntax.specs.declared.function.Function.{Function}
use Rattle.ir_syntax.specs.declared.function.Param.{Param}
use Rattle.ir_syntax.specs.declared.module.Module.{Module}
use Rattle.cg_built.specs.Built.{IsBuiltFunction, function_name}
use Rattle.cg_built.specs.Definitions.{has_body}
use Rattle.cg_built.specs.Main.{is_main, is_ptr, takes_words}
use Rattle.cg_built.specs.Unbuilt.{is_external}
use Rattle.cg_part.specs.Meaning.{IsMain}

-- what is found passes the test, and is among the elements
passes_by : {A : Type 0} (test : A → Bool) (y x : A) (rest : Option A) (t : Bool) → test y ≡ t → (rest ≡ Some x → test x ≡ true) →
    cond t (Some y) rest ≡ Some x → test x ≡ true
passes_by test y x rest true passes later found = subst (λ z. test z ≡ true) (ap (λ o. unwrap_or o y) found) passes
passes_by test y x rest false fails later found = later found

pub find_passes : {A : Type 0} (test : A → Bool) (xs : List A) (x : A) → find test xs ≡ Some x → test x ≡ true
find_passes test [] x found = absurd (cc)
find_passes test (y ∷ xs) x found = passes_by test y x (find test xs) (test y) refl (find_passes test xs x) found

among_by : {A : Type 0} (y x : A) (xs : List A) (rest : Option A) (t : Bool) → (rest ≡ Some x → Contains xs x) →
    cond t (Some y) rest ≡ Some x → Contains (y ∷ xs) x
among_by y x xs rest true later found = (0, omega arith, ap (λ o. unwrap_or o y) found)
among_by y x xs rest false later found = let place = later found in (suc place.0, omega (arith, place.1), place.2)

pub find_among : {A : Type 0} (test : A → Bool) (xs : List A) (x : A) → find test xs ≡ Some x → Contains xs x
find_among test [] x found = absurd (cc)
find_among test (y ∷ xs) x found = among_by y x xs (find test xs) (test y) (find_among test xs x) found

pub main_among : (m : Module) (f : Function) → IsMain m f → Contains m.functions f
main_among m f main = find_among is_main m.functions f main.found

pub main_is : (m : Module) (f : Function) → IsMain m f → is_main f ≡ true
main_is m f main = find_passes is_main m.functions f main.found

pub main_has_body : (m : Module) (f : Function) → IsMain m f → has_body f ≡ true
main_has_body m f main =
    let parts = and_parts (has_body f && is_external f.linkage) (bytes_eq (function_name f) (codes "main")) (main_is m f main) in
    (and_parts (has_body f) (is_external f.linkage) parts.0).0

pub main_named : (m : Module) (f : Function) → IsMain m f → function_name f ≡ codes "main"
main_named m f main =
    let parts = and_parts (has_body f && is_external f.linkage) (bytes_eq (function_name f) (codes "main")) (main_is m f main) in
    same_text (function_name f) (codes "main") (sym parts.1)

i32_is : (ty : Option TextTree) → is_i32 ty ≡ true → ty ≡ Some (int 32)
i32_is None wrong = absurd (cc)
i32_is (Some (int bits)) right = ap (λ n. Some (int n)) (eqb-true bits 32 right)
i32_is (Some other) wrong = absurd (cc)

pub main_result : (m : Module) (f : Function) → IsMain m f → f.result ≡ Some (int 32)
main_result m f main = i32_is f.result (and_parts (is_i32 f.result) (takes_none f.params || takes_words f.params) main.fits).0

no_pointer : (ty : Option TextTree) → ty ≡ Some (int 32) → is_ptr ty ≡ true → ⊥
no_pointer ty is pointer = clash (sym (ap is_ptr is) ∙ pointer)
  where
    clash : is_ptr (Some (int 32)) ≡ true → ⊥
    clash e = cc

-- all parameters of a function that is built are of its result's type, so none is a pointer
none_taken : (result : Option TextTree) (params : List Param) → result ≡ Some (int 32) → ByRecursion (λ p. p.ty ≡ result) params →
    (takes_none params || takes_words params) ≡ true → params ≡ []
none_taken result [] is types fits = refl
none_taken result (one ∷ []) is types fits = absurd (cc)
none_taken result (count ∷ words ∷ []) is types fits =
    absurd (no_pointer words.ty (types.1.0 ∙ is) (and_parts (is_i32 count.ty) (is_ptr words.ty) fits).1)
none_taken result (one ∷ two ∷ three ∷ more) is types fits = absurd (cc)

pub main_params : (m : Module) (f : Function) → IsBuiltFunction f → IsMain m f → f.params ≡ []
main_params m f built main =
    none_taken f.result f.params (main_result m f main) (recursion_from_All (λ p. p.ty ≡ f.result) f.params built.params)
    (and_parts (is_i32 f.result) (takes_none f.params || takes_words f.params) main.fits).1
