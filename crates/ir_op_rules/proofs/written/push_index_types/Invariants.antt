use Rattle.std.proofs.Common.{◌≡◌, ◌++◌, map, take}
use Rattle.ir_op_rules.proofs.written.push_index_types.Given as goal

abbrev pub invariant-loop-index : goal.invariant-loop-index
invariant-loop-index l = l.types.items ≡ l.initial.types.items ++ map (λ i. i.ty) (take l.index-index l.indices)
