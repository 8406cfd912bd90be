-- An element of a list with what stands before and after it, and the code of functions around one of them.
use Rattle.std.proofs.Common.{◌≡◌, ◌++◌, ◌∷◌, [], Bool, true, cond, List, zero, suc, filter, map, Contains, ap, arith, refl, subst, sym, ◌∙◌}
use Rattle.std.specs.List.{AllByRecursion as ByRecursion}
use Rattle.std.proofs.lemmas.Grind.{flat_map-append}
use Rattle.std.proofs.lemmas.List.{map-append}
use Rattle.std.proofs.lemmas.List.Elements.{Contains-append_right, filter-append}
use Rattle.ir_syntax.specs.declared.function.Function.{Function}
use Rattle.ir_syntax.specs.declared.module.Module.{Module}
use Rattle.asm_print.specs.Items.{Item, items_code}
use Rattle.cg_part.specs.Code.{function_code}
use Rattle.cg_part.specs.Text.{item_of}
use Rattle.cg_built.specs.Definitions.{defined_functions, has_body}
use Rattle.cg_part.specs.Meaning.{IsMain}
use Rattle.cg_part.proofs.Mains.{main_among, main_has_body}
use Rattle.cg_part.proofs.Objects.{part_code}

-- a list around an element
pub record Around {A : Type 0} (xs : List A) (x : A) : Type 0 where
  pub prefix : List A
  pub suffix : List A
  pub is : xs ≡ prefix ++ x ∷ suffix

pub around : {A : Type 0} (xs : List A) (x : A) → Contains xs x → Around xs x
around [] x (k, inside, here) = absurd (omega arith)
around (y ∷ xs) x (zero, inside, here) = record { prefix = []; suffix = xs; is = ap (λ z. z ∷ xs) here }
around (y ∷ xs) x (suc k, inside, here) =
    let later = around xs x (k, omega arith, here) in
    record { prefix = y ∷ later.prefix; suffix = later.suffix; is = ap (λ all. y ∷ all) later.is }

-- an element that passes a test is among those that pass
pub among_passing : {A : Type 0} (test : A → Bool) (xs : List A) (x : A) → Contains xs x → test x ≡ true → Contains (filter test xs) x
among_passing test xs x among passes =
    let place = around xs x among in
    let rest : filter test (x ∷ place.suffix) ≡ x ∷ filter test place.suffix = ap (λ t. cond t (x ∷ filter test place.suffix) (filter test place.suffix)) passes in
    let whole : filter test xs ≡ filter test place.prefix ++ x ∷ filter test place.suffix =
    ap (filter test) place.is ∙ filter-append test place.prefix (x ∷ place.suffix) ∙ ap (λ more. filter test place.prefix ++ more) rest in
    subst (λ all. Contains all x) (sym whole) (Contains-append_right (filter test place.prefix) (x ∷ filter test place.suffix) x (0, omega arith, refl))

-- so `main` is among the functions that are defined
pub main_defined : (m : Module) (f : Function) → IsMain m f → Contains (defined_functions m) f
main_defined m f main = among_passing has_body m.functions f (main_among m f main) (main_has_body m f main)

-- what holds of each element holds of one among them
pub at_middle : {A B : Type 0} (P : B → Type 0) (g : A → B) (prefix suffix : List A) (x : A) →
    ByRecursion P (map g (prefix ++ x ∷ suffix)) → P (g x)
at_middle P g [] suffix x all = all.0
at_middle P g (y ∷ prefix) suffix x all = at_middle P g prefix suffix x all.1

pub code_around : (prefix suffix : List Function) (f : Function) →
    part_code (prefix ++ f ∷ suffix) ≡ part_code prefix ++ (function_code f ++ part_code suffix)
code_around prefix suffix f =
    ap items_code (map-append item_of prefix (f ∷ suffix)) ∙ flat_map-append (λ (item : Item). item.code) (map item_of prefix) (map item_of (f ∷ suffix))
