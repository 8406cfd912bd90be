-- The rules that a module keeps which passes the checks, the first one that another breaks, and what the checks make of it.
use Rattle.std.specs.Prelude.{◌≡◌, ◌⊎◌, ℕ, min, Option, Some, None, Ok, Err, List, find, option_map}
use Rattle.std.specs.List.{reduce}
use Rattle.std.specs.declared.result.Result.{Result}
use Rattle.ir_aliases.specs.Ends.{first_bad_alias}
use Rattle.ir_check.specs.Faults.{IsAliasFault, IsFirstFlowFault, first_type_fault}
use Rattle.ir_check.specs.Limits.{exceeded_limit}
use Rattle.ir_ident.specs.Names.{name_bytes}
use Rattle.ir_naming.specs.Items.{named_items}
use Rattle.ir_naming.specs.Repeated.{repeated_lines}
use Rattle.ir_naming.specs.Reserved.{is_misnamed}
use Rattle.ir_prune.specs.Pruned.{pruned}
use Rattle.ir_syntax.specs.declared.module.Module.{Module}
use Rattle.ir_syntax.specs.declared.refusal.Refusal.{Refusal}
use Rattle.ir_syntax.specs.declared.refusal.Refusal.TheVariants as refusals
use Rattle.ir_unname.specs.Unnamed.{unnamed}

-- the least line at which a name is defined again
abbrev pub first_repeated : Module → Option ℕ
first_repeated m = reduce min (repeated_lines m)

-- the name of the first item in the text that has one which it may not have
abbrev pub first_reserved : Module → Option (List ℕ)
first_reserved m = option_map (λ i. name_bytes i.name) (find is_misnamed (named_items m))

-- no name is defined twice, and none is reserved
abbrev pub KeepsNames : Module → Type 0
KeepsNames m = (first_repeated m ≡ None) × (first_reserved m ≡ None)

-- nor is a rule on types broken
abbrev pub KeepsTypes : Module → Type 0
KeepsTypes m = KeepsNames m × (first_type_fault m ≡ None)

-- nor one on the flow of control
abbrev pub KeepsFlow : Module → Type 0
KeepsFlow m = KeepsTypes m × IsFirstFlowFault m None

-- nor that of aliases
abbrev pub KeepsAliases : Module → Type 0
KeepsAliases m = KeepsFlow m × (first_bad_alias m ≡ None)

-- nor is a limit exceeded
abbrev pub KeepsRules : Module → Type 0
KeepsRules m = KeepsAliases m × (exceeded_limit m ≡ None)

-- the first rule that a module breaks, as a refusal
abbrev pub IsCheckRefusal : Module → Refusal → Type 0
IsCheckRefusal m (refusals.Repeated line) = first_repeated m ≡ Some line
IsCheckRefusal m (refusals.Reserved name) = (first_repeated m ≡ None) × (first_reserved m ≡ Some name)
IsCheckRefusal m (refusals.TypeRule line) = KeepsNames m × (first_type_fault m ≡ Some line)
IsCheckRefusal m (refusals.FlowRule line) = KeepsTypes m × IsFirstFlowFault m (Some line)
IsCheckRefusal m (refusals.AliasRule name) = KeepsFlow m × IsAliasFault m name
IsCheckRefusal m (refusals.Count which) = KeepsAliases m × (exceeded_limit m ≡ Some which)
IsCheckRefusal m other = ⊥

-- what the checks make of a module: the blocks that no path reaches are dropped, and so are the names of types
abbrev pub checked_module : Module → Module
checked_module m = unnamed (pruned m)

-- one module is what the checks make of another, which keeps the rules
pub record IsCheckedFrom (m checked : Module) : Type 0 where
  pub keeps : KeepsRules m
  pub is : checked ≡ checked_module m

-- what the checks make of some module
abbrev pub IsChecked : Module → Type 0
IsChecked checked = (m : Module) × IsCheckedFrom m checked

-- what the checks make of a module that keeps the rules, or else the first rule that it breaks, unless memory ran out
abbrev pub Checks : Module → Result Module Refusal → Type 0
Checks m (Ok checked) = IsCheckedFrom m checked
Checks m (Err refusal) = (refusal ≡ refusals.NoMemory) ⊎ IsCheckRefusal m refusal
