-- A program's objects define each name once.
use Rattle.std.proofs.Common.{◌≡◌, ◌+◌, ◌++◌, ◌∷◌, [], ℕ, List, Bool, true, false, cond, ◌&&◌, ◌||◌, refl, ap, sym, ◌∙◌, codes, length, map, filter}
use Rattle.std.specs.List.{AllByRecursion as ByRecursion}
use Rattle.std.specs.Str.{bytes_eq}
use Rattle.std.proofs.lemmas.List.Elements.{recursion_from_All}
use Rattle.std.proofs.lemmas.Slice.Eq.{bytes_eq-Decides}
use Rattle.asm_read.specs.declared.object.ObjectSymbol.{ObjectSymbol}
use Rattle.ir_naming.specs.Reserved.{is_reserved}
use Rattle.ir_syntax.specs.declared.function.Function.{Function}
use Rattle.ir_syntax.specs.declared.module.Module.{Module}
use Rattle.obj_link.specs.Names.{is_global, duplicates}
use Rattle.obj_link.specs.Runtime.{runtime}
use Rattle.cg_built.specs.Built.{IsBuiltFunction}
use Rattle.cg_part.specs.Code.{function_code}
use Rattle.cg_built.specs.Definitions.{defined_functions}
use Rattle.cg_built.specs.Built.{function_name}
use Rattle.cg_built.proofs.Programs.{IsProgram}
use Rattle.cg_part.proofs.Objects.{part_symbols}
use Rattle.cg_part.proofs.Programs.{program_objects}
use Rattle.cg_built.proofs.BareNames.{name_not_reserved}
use Rattle.cg_part.proofs.NameLemmas.{free_differs}

differ : (a b : List ℕ) → (b ≡ a → ⊥) → bytes_eq a b ≡ false
differ a b other = by_test (bytes_eq a b) refl
  where
    by_test : (t : Bool) → bytes_eq a b ≡ t → t ≡ false
    by_test true is = absurd (other (sym ((bytes_eq-Decides a b).0 is)))
    by_test false is = refl

pub same : (a b : List ℕ) → a ≡ b → bytes_eq a b ≡ true
same a b is = (bytes_eq-Decides a b).1 is

-- the runtime defines no name that a definition may have
free_of_runtime : (name : List ℕ) → is_reserved name ≡ false → is_global (runtime ∷ []) name ≡ false
free_of_runtime name free =
    let none : Bool → Bool → Bool → Bool = λ a b c. ((true && a) || ((true && b) || ((true && c) || false))) || false in
    let differs : (other : List ℕ) → is_reserved other ≡ true → bytes_eq other name ≡ false =
    λ other taken. differ other name (free_differs name other free taken) in
    ap (λ a. none a (bytes_eq (codes "__host_put") name) (bytes_eq (codes "__host_get") name)) (differs (codes "_start") refl)
    ∙ ap (λ b. none false b (bytes_eq (codes "__host_get") name)) (differs (codes "__host_put") refl)
    ∙ ap (λ c. none false false c) (differs (codes "__host_get") refl)

-- whether a symbol is a global one that the runtime defines, too
abbrev is_again : ObjectSymbol → Bool
is_again s = s.global && is_global (runtime ∷ []) s.name

none_kept : {A : Type 0} (x : A) (more : List A) (test : Bool) → test ≡ false → more ≡ [] → cond test (x ∷ more) more ≡ []
none_kept x more test fails none = ap (λ t. cond t (x ∷ more) more) fails ∙ none

none_again : (before : ℕ) (functions : List Function) → ByRecursion IsBuiltFunction functions →
    filter is_again (part_symbols before functions) ≡ []
none_again before [] built = refl
none_again before (f ∷ functions) built =
    none_kept _ (filter is_again (part_symbols (before + length (function_code f)) functions)) _
    (free_of_runtime (function_name f) (name_not_reserved (function_name f) built.0.name))
    (none_again (before + length (function_code f)) functions built.1)

-- no name is defined twice, also where there is no `main`
pub part_differs : (m : Module) → IsProgram m → duplicates (program_objects m) ≡ []
part_differs m program =
    ap (λ again. map (λ s. s.name) again ++ []) (none_again 0 (defined_functions m) (recursion_from_All IsBuiltFunction (defined_functions m) program.functions))
