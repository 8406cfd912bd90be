use Rattle.std.proofs.Common.{◌≡◌, ◌+◌, ◌*◌, length}
use Rattle.ir_rules.specs.Rules.{commas, each, ◌▷◌}
use Rattle.ir_rules.specs.Repeats.{prefixed}
use Rattle.ir_words.specs.declared.class.Class.TheVariants as Classes
use Rattle.ir_inits.specs.Initialisers.{inits, parts}
use Rattle.ir_inits.proofs.initialisers.+inits.Given as goal

abbrev pub decreases-read_init : goal.decreases-read_init
decreases-read_init l = 6 * l.depth

abbrev pub decreases-read_part : goal.decreases-read_part
decreases-read_part l = 6 * l.depth + 1

abbrev pub decreases-read_parts : goal.decreases-read_parts
decreases-read_parts l = 6 * l.depth + 2

abbrev pub decreases-read_array_init : goal.decreases-read_array_init
decreases-read_array_init l = 6 * l.depth + 3

abbrev pub decreases-read_struct_init : goal.decreases-read_struct_init
decreases-read_struct_init l = 6 * l.depth + 3

abbrev pub decreases-read_packed_init : goal.decreases-read_packed_init
decreases-read_packed_init l = 6 * l.depth + 3

abbrev pub decreases-read_bracketed_init : goal.decreases-read_bracketed_init
decreases-read_bracketed_init l = 6 * l.depth + 4

abbrev pub invariant-read_parts-loop-alloc : goal.invariant-read_parts-loop-alloc
invariant-read_parts-loop-alloc l = prefixed l.list ((each (Classes.Comma ▷ parts l.depth (inits l.depth))).read l.rest) ≡ (commas (parts l.depth (inits l.depth))).read l.fn.rest

abbrev pub decreases-read_parts-loop-alloc : goal.decreases-read_parts-loop-alloc
decreases-read_parts-loop-alloc l = length l.rest
