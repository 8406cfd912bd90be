use Rattle.std.proofs.Common.{◌≡◌, min, take}
use Rattle.ir_syntax.specs.Values.{value_count}
use Rattle.ir_syntax.proofs.values.value_count.Given as goal

abbrev pub invariant-loop-block : goal.invariant-loop-block
invariant-loop-block l = l.count ≡ min (value_count l.params (take l.block-index l.blocks)) 18446744073709551615
