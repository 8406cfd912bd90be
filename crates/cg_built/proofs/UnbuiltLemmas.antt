-- A module in which nothing is not built is a program.
use Rattle.std.proofs.Common.{◌≡◌, ◌∷◌, [], List, Option, Some, None, is_some, Bool, true, false, cond, not, filter, map, refl, ap, sym, ◌∙◌}
use Rattle.std.specs.Prelude.{find}
use Rattle.std.specs.List.{flat_map, AllByRecursion as ByRecursion}
use Rattle.std.proofs.lemmas.Bool.{not-false}
use Rattle.std.proofs.lemmas.List.Elements.{All-from_recursion}
use Rattle.ir_check.specs.Checks.{IsChecked}
use Rattle.ir_check.proofs.CheckedFacts.{few_defined, items_differ, items_free}
use Rattle.ir_ident.specs.Names.{name_bytes}
use Rattle.ir_naming.specs.Items.{NamedItem, alias_item, function_item, item_use, merged, named_items, variable_item}
use Rattle.ir_naming.specs.Repeated.{repeats}
use Rattle.ir_naming.specs.Reserved.{is_label_name, is_misnamed, is_reserved}
use Rattle.ir_naming.proofs.Merging.{merged_none}
use Rattle.ir_syntax.specs.Lines.{line_if}
use Rattle.ir_syntax.specs.declared.block.Block.{Block}
use Rattle.ir_syntax.specs.declared.function.Function.{Function}
use Rattle.ir_syntax.specs.declared.module.Module.{Module}
use Rattle.cg_built.specs.Built.{IsBuiltFunction}
use Rattle.cg_built.specs.Definitions.{defined_functions, has_body}
use Rattle.cg_built.specs.Unbuilt.{IsBuilt, is_built_body, is_built_head, unbuilt_by, unbuilt_in, unbuilt_lines}
use Rattle.cg_built.proofs.BuiltLemmas.{function_built}
use Rattle.cg_built.proofs.DistinctNames.{defined_differ, function_use}
use Rattle.cg_built.proofs.Programs.{IsProgram}
use Rattle.ir_check.proofs.NoLines.{no_fault, none_joined, none_least, none_mapped}

-- a function that is defined, has no line and is not misnamed is built
built_by : (f : Function) (blocks : Option (List Block)) → f.blocks ≡ blocks → is_some blocks ≡ true → is_misnamed (function_item f) ≡ false →
    unbuilt_by f blocks ≡ [] → IsBuiltFunction f
built_by f None is some named none = absurd (cc)
built_by f (Some []) is some named none = absurd (cc)
built_by f (Some (first ∷ more)) is some named none =
    let parts = none_joined (line_if (not (is_built_head f)) f.line) (line_if (not (is_built_body f first more)) first.line) none in
    let defined : has_body f ≡ true = ap is_some is in
    let free : is_reserved (name_bytes f.name) ≡ false =
    sym (ap (λ t. cond t (is_reserved (name_bytes f.name)) (is_label_name (name_bytes f.name))) defined) ∙ named in
    function_built f first more is free (not-false (is_built_head f) (no_fault (not (is_built_head f)) f.line parts.0))
    (not-false (is_built_body f first more) (no_fault (not (is_built_body f first more)) first.line parts.1))

-- of items none of which is misnamed the first is not, and none of the others
none_misnamed : (i : NamedItem) (items : List NamedItem) → find is_misnamed (i ∷ items) ≡ None → (is_misnamed i ≡ false) × (find is_misnamed items ≡ None)
none_misnamed i items none = by_test (is_misnamed i) refl none
  where
    by_test : (t : Bool) → is_misnamed i ≡ t → cond t (Some i) (find is_misnamed items) ≡ None → (is_misnamed i ≡ false) × (find is_misnamed items ≡ None)
    by_test true is some = absurd (cc)
    by_test false is none = (is, none)

all_built : (functions : List Function) → find is_misnamed (map function_item functions) ≡ None → flat_map unbuilt_in functions ≡ [] →
    ByRecursion IsBuiltFunction (filter has_body functions)
all_built [] named none = tt
all_built (f ∷ functions) named none =
    let parts = none_joined (unbuilt_in f) (flat_map unbuilt_in functions) none in
    let names = none_misnamed (function_item f) (map function_item functions) named in
    by_test (has_body f) (λ defined. built_by f f.blocks refl defined names.0 parts.0) (all_built functions names.1 parts.1)
  where
    by_test : (t : Bool) → (t ≡ true → IsBuiltFunction f) → ByRecursion IsBuiltFunction (filter has_body functions) →
        ByRecursion IsBuiltFunction (cond t (f ∷ filter has_body functions) (filter has_body functions))
    by_test true here later = (here refl, later)
    by_test false here later = later

-- no line of any kind
record HasNoLines (m : Module) : Type 0 where
  variables : map (λ g. g.line) m.globals ≡ []
  aliases : map (λ a. a.line) m.aliases ≡ []
  functions : flat_map unbuilt_in m.functions ≡ []

no_lines : (m : Module) → unbuilt_lines m ≡ [] → HasNoLines m
no_lines m none =
    let variables = none_joined (map (λ g. g.line) m.globals) _ none in
    let aliases = none_joined (map (λ a. a.line) m.aliases) (flat_map unbuilt_in m.functions) variables.1 in
    record {
      variables = variables.0;
      aliases = aliases.0;
      functions = aliases.1;
    }

-- the named items of a module that has functions alone
functions_alone : (m : Module) → m.globals ≡ [] → m.aliases ≡ [] → named_items m ≡ map function_item m.functions
unfolding merged
functions_alone m variables aliases =
    ap (λ globals. merged (map variable_item globals) (merged (map function_item m.functions) (map alias_item m.aliases))) variables
    ∙ ap (λ all. merged (map function_item m.functions) (map alias_item all)) aliases
    ∙ merged_none (map function_item m.functions)

uses_of : (functions : List Function) → map function_use functions ≡ map item_use (map function_item functions)
uses_of [] = refl
uses_of (f ∷ functions) = ap (λ rest. function_use f ∷ rest) (uses_of functions)

-- where no name is repeated, that of no function is
no_function_repeated : (m : Module) → IsChecked m → named_items m ≡ map function_item m.functions → repeats (map function_use m.functions) ≡ []
no_function_repeated m checked items = ap repeats (uses_of m.functions) ∙ ap (λ all. repeats (map item_use all)) (sym items) ∙ items_differ m checked

-- where nothing is misnamed, no function is
no_function_misnamed : (m : Module) → IsChecked m → named_items m ≡ map function_item m.functions → find is_misnamed (map function_item m.functions) ≡ None
no_function_misnamed m checked items = ap (find is_misnamed) (sym items) ∙ items_free m checked

pub is_program : (m : Module) → IsBuilt m → IsProgram m
is_program m is =
    let lines = no_lines m (none_least (unbuilt_lines m) is.built) in
    let variables = none_mapped (λ g. g.line) m.globals lines.variables in
    let aliases = none_mapped (λ a. a.line) m.aliases lines.aliases in
    let items = functions_alone m variables aliases in
    let built = all_built m.functions (no_function_misnamed m is.checked items) lines.functions in
    record {
      globals = variables;
      functions = All-from_recursion IsBuiltFunction (defined_functions m) built;
      aliases = aliases;
      differ = defined_differ m.functions built (no_function_repeated m is.checked items);
      few = few_defined m is.checked;
    }
