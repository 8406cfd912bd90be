-- Names that are defined twice (LangRef, "Identifiers").
use Rattle.std.proofs.Common.{◌∙◌, sym, ap}
use base.Stored.{Coded}
use Rattle.ir_ident.specs.Codes.{use_code, use_back, use_back_code}
use Rattle.std.specs.Prelude.{ℕ, Bool, List, [], ◌∷◌, ◌++◌, map}
use Rattle.std.specs.List.{flat_map, list_any}
use Rattle.ir_ident.specs.Names.{same_name}
use Rattle.ir_syntax.specs.Lines.{line_if}
use Rattle.ir_syntax.specs.declared.function.Function.{Function}
use Rattle.ir_syntax.specs.declared.module.Module.{Module}
use Rattle.ir_ident.specs.declared.name.Name.{Name}
use Rattle.ir_ident.specs.declared.name.NameUse.{NameUse}
use Rattle.ir_syntax.specs.declared.type_def.TypeDef.{TypeDef}
use Rattle.ir_naming.specs.Items.{item_use, named_items}
use Rattle.ir_walk.specs.Locals.{Local, value_local, label_local, in_function}

-- a name with the line of the first token of what it is defined for
abbrev pub defined_at : ℕ → Name → NameUse
defined_at line name = record { line = line; name = name }

-- such a name as a tree of numbers
abbrev pub defined_code : Coded NameUse
defined_code = record { code = use_code; inj = λ x y p. sym (use_back_code x) ∙ ap use_back p ∙ use_back_code y }

abbrev pub type_name : TypeDef → NameUse
type_name t = defined_at t.line t.name

-- a local name
abbrev pub names_in : Local → List NameUse
names_in (value_local line name_line name) = defined_at line name ∷ []
names_in (label_local line name) = defined_at line name ∷ []

-- the local names of a function: labels and values share one space
abbrev pub local_names : Function → List NameUse
local_names f = in_function names_in f

-- whether a name is among these
abbrev pub is_among : List NameUse → Name → Bool
is_among names name = list_any (λ n. same_name name n.name) names

-- the lines of these names that are among those before them
abbrev pub repeats_after : List NameUse → List NameUse → List ℕ
repeats_after before [] = []
repeats_after before (n ∷ names) = line_if (is_among before n.name) n.line ++ repeats_after (before ++ n ∷ []) names

abbrev pub repeats : List NameUse → List ℕ
repeats names = repeats_after [] names

-- the lines at which a type, a variable, a function or an alias, or a local name of one function is defined again
abbrev pub repeated_lines : Module → List ℕ
repeated_lines m =
    repeats (map type_name m.types) ++ (repeats (map item_use (named_items m)) ++ flat_map (λ f. repeats (local_names f)) m.functions)
