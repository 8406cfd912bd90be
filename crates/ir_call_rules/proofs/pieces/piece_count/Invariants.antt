use Rattle.std.proofs.Common.{◌≡◌, ◌≤◌, ◌+◌, ◌-◌}
use Rattle.ir_call_rules.specs.Pieces.{pieces_from}
use Rattle.ir_call_rules.proofs.pieces.piece_count.Given as goal

abbrev pub invariant-loop-done : goal.invariant-loop-done
invariant-loop-done l = record {
  counted : l.count + pieces_from (l.size - l._done) l.align l.size l.offset ≡ pieces_from l.size l.align l.size 0;
  few : l.count ≤ l._done;
  within : l.offset ≤ l.size + 8;
}
