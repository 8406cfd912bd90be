-- The object of a part has a symbol for each function that the module defines, at the function's code.
use Rattle.std.proofs.Common.{◌≡◌, ◌+◌, ◌*◌, ◌++◌, ◌∷◌, [], ℕ, pos, true, List, Contains, length, map, refl, ap, sym, ◌∙◌, subst, arith, length-append}
use Rattle.std.specs.List.{IsDistinct}
use Rattle.std.specs.Str.{bytes_eq}
use Rattle.std.proofs.lemmas.List.{length-map, map-append}
use Rattle.std.proofs.lemmas.List.Elements.{Contains-append_right}
use Rattle.asm_read.specs.declared.object.ObjectSymbol.{ObjectSymbol}
use Rattle.asm_read.specs.declared.object.Section.TheVariants.{Text}
use Rattle.ir_syntax.specs.declared.function.Function.{Function}
use Rattle.ir_syntax.specs.declared.module.Module.{Module}
use Rattle.obj_link.specs.Names.{HasDistinctNames}
use Rattle.rv_isa.specs.declared.inst.Inst.{Inst}
use Rattle.rv_isa.specs.declared.inst.Line.{Line}
use Rattle.rv_isa.specs.declared.inst.Line.TheVariants.{Plain}
use Rattle.cg_built.specs.Built.{function_name}
use Rattle.cg_built.specs.Definitions.{defined_functions}
use Rattle.cg_built.proofs.Programs.{IsProgram}
use Rattle.cg_part.specs.Code.{function_code}
use Rattle.cg_part.proofs.LinkingLists.{Around, around, code_around}
use Rattle.cg_part.proofs.LinkingObject.{HasSymbol}
use Rattle.cg_part.proofs.Objects.{part_code, part_object, part_symbols}

-- the symbol of a function whose code begins after so many instructions
abbrev symbol_after : ℕ → Function → ObjectSymbol
symbol_after before f = record { name = function_name f; global = true; section = Text; offset = pos (4 * before) }

symbol_among : (before : ℕ) (prefix suffix : List Function) (f : Function) →
    Contains (part_symbols before (prefix ++ f ∷ suffix)) (symbol_after (before + length (part_code prefix)) f)
symbol_among before [] suffix f =
    let here : before ≡ before + length {A = Inst} [] = omega arith in
    (0, omega arith, ap (λ n. symbol_after n f) here)
symbol_among before (g ∷ prefix) suffix f =
    let first : ObjectSymbol = symbol_after before g in
    let more : ℕ = before + length (function_code g) in
    let whole = length-append (function_code g) (part_code prefix) in
    let place : more + length (part_code prefix) ≡ before + length (part_code (g ∷ prefix)) = omega arith in
    subst (λ n. Contains (part_symbols before ((g ∷ prefix) ++ f ∷ suffix)) (symbol_after n f)) place
    (Contains-append_right (first ∷ []) (part_symbols more (prefix ++ f ∷ suffix)) (symbol_after (more + length (part_code prefix)) f) (symbol_among more prefix suffix f))

pub part_has : (m : Module) (f : Function) → Contains (defined_functions m) f → HasSymbol (part_object m) (function_name f) (function_code f)
part_has m f among =
    let place : Around (defined_functions m) f = around (defined_functions m) f among in
    let prefix : List Inst = part_code place.prefix in
    let suffix : List Inst = part_code place.suffix in
    let lines : List Inst → List Line = map (λ i. Plain i) in
    let count = length-map prefix (λ i. Plain i) in
    record {
      symbol = symbol_after (0 + length prefix) f;
      among = subst (λ functions. Contains (part_symbols 0 functions) (symbol_after (0 + length prefix) f)) (sym place.is) (symbol_among 0 place.prefix place.suffix f);
      name_is = refl;
      global = refl;
      text = refl;
      prefix = lines prefix;
      suffix = lines suffix;
      words =
          ap (λ functions. lines (part_code functions)) place.is ∙ ap lines (code_around place.prefix place.suffix f)
          ∙ map-append (λ i. Plain i) prefix (function_code f ++ suffix)
          ∙ ap (λ more. lines prefix ++ more) (map-append (λ i. Plain i) (function_code f) suffix);
      offset = ap (λ n. pos (4 * n)) (omega arith);
    }

symbol_names : (before : ℕ) (functions : List Function) → map (λ s. s.name) (part_symbols before functions) ≡ map function_name functions
symbol_names before [] = refl
symbol_names before (f ∷ functions) = ap (λ names. function_name f ∷ names) (symbol_names (before + length (function_code f)) functions)

pub part_distinct : (m : Module) → IsProgram m → HasDistinctNames (part_object m)
part_distinct m program = subst (λ names. IsDistinct bytes_eq names) (sym (symbol_names 0 (defined_functions m))) program.differ
