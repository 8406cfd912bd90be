use Rattle.std.proofs.Common.{◌≡◌, ◌++◌, List, length}
use Rattle.std.specs.Prelude.{Option, filter_map}
use Rattle.ir_rules.specs.Rules.{each}
use Rattle.ir_rules.specs.Repeats.{into}
use Rattle.ir_items.specs.Entities.{entities, modules}
use Rattle.ir_entities.specs.declared.entity.Entity.{Entity}
use Rattle.ir_items.proofs.items.read_items.Given as goal

abbrev pub invariant-loop-alloc : goal.invariant-loop-alloc
invariant-loop-alloc l = into (λ (found : List (Option Entity)). l.list.items ++ filter_map (λ e. e) found) ((each entities).read l.rest) ≡ modules.read l.fn.rest

abbrev pub decreases-loop-alloc : goal.decreases-loop-alloc
decreases-loop-alloc l = length l.rest
