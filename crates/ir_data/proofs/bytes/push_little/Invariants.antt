use Rattle.std.proofs.Common.{◌≡◌, ◌++◌, ◌-◌}
use Rattle.ir_mem.specs.Bytes.{to_little}
use Rattle.ir_data.proofs.bytes.push_little.Given as goal

abbrev pub invariant-loop : goal.invariant-loop
invariant-loop l = l.bytes.items ++ to_little (l.size - l.counter) l.rest ≡ l.initial.bytes.items ++ to_little l.size l.number
