use Rattle.std.proofs.Common.{◌≡◌, ◌+◌, ◌*◌, length}
use Rattle.ir_rules.specs.Rules.{commas, each, ◌▷◌}
use Rattle.ir_rules.specs.Repeats.{prefixed}
use Rattle.ir_words.specs.declared.class.Class.TheVariants as Classes
use Rattle.ir_types.specs.Types.{types}
use Rattle.ir_types.proofs.types.+types.Given as goal

abbrev pub decreases-read_type : goal.decreases-read_type
decreases-read_type l = 5 * l.depth

abbrev pub decreases-read_array : goal.decreases-read_array
decreases-read_array l = 5 * l.depth + 1

abbrev pub decreases-read_types : goal.decreases-read_types
decreases-read_types l = 5 * l.depth + 1

abbrev pub decreases-read_plain_struct : goal.decreases-read_plain_struct
decreases-read_plain_struct l = 5 * l.depth + 2

abbrev pub decreases-read_packed_struct : goal.decreases-read_packed_struct
decreases-read_packed_struct l = 5 * l.depth + 2

abbrev pub decreases-read_bracketed : goal.decreases-read_bracketed
decreases-read_bracketed l = 5 * l.depth + 3

abbrev pub invariant-read_types-loop-alloc : goal.invariant-read_types-loop-alloc
invariant-read_types-loop-alloc l = prefixed l.list.items ((each (Classes.Comma ▷ types l.depth)).read l.rest) ≡ (commas (types l.depth)).read l.fn.rest

abbrev pub decreases-read_types-loop-alloc : goal.decreases-read_types-loop-alloc
decreases-read_types-loop-alloc l = length l.rest
