-- No module both keeps the rules and is refused for one.
use Rattle.std.proofs.Common.{◌≡◌, Option, None, Some, ap}
use Rattle.std.specs.Option.{option_and_then}
use Rattle.ir_aliases.specs.Ends.{first_bad_alias}
use Rattle.ir_given.specs.Given.{alias_symbol}
use Rattle.ir_syntax.specs.declared.module.Module.{Module}
use Rattle.ir_syntax.specs.declared.refusal.Refusal.{Refusal}
use Rattle.ir_syntax.specs.declared.refusal.Refusal.TheVariants as refusals
use Rattle.ir_check.specs.Checks.{IsCheckRefusal, KeepsRules, first_repeated, first_reserved}
use Rattle.ir_check.specs.Faults.{first_type_fault}
use Rattle.ir_check.specs.Limits.{exceeded_limit}

none_some : {A : Type 0} (found : Option A) (x : A) → found ≡ None → found ≡ Some x → ⊥
none_some found x none some = absurd (cc)

pub keeping_excludes : (m : Module) (e : Refusal) → KeepsRules m → IsCheckRefusal m e → ⊥
keeping_excludes m (refusals.Repeated line) keeps broken = none_some (first_repeated m) line keeps.0.0.0.0.0 broken
keeping_excludes m (refusals.Reserved name) keeps broken = none_some (first_reserved m) name keeps.0.0.0.0.1 broken.1
keeping_excludes m (refusals.TypeRule line) keeps broken = none_some (first_type_fault m) line keeps.0.0.0.1 broken.1
keeping_excludes m (refusals.FlowRule line) keeps broken = keeps.0.0.1 line broken.1.0
keeping_excludes m (refusals.AliasRule name) keeps broken =
    none_some (option_and_then (alias_symbol m) (first_bad_alias m)) name (ap (option_and_then (alias_symbol m)) keeps.0.1) broken.1
keeping_excludes m (refusals.Count which) keeps broken = none_some (exceeded_limit m) which keeps.1 broken.1
keeping_excludes m other keeps broken = broken
