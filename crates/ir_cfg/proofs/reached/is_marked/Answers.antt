use Rattle.std.proofs.Common.{arith, false, sym}
use Rattle.ir_cfg.proofs.SeenLemmas.{mark_at-is, mark_at-past}
use Rattle.ir_cfg.proofs.reached.is_marked.Goals as goal

pub returns-then-place-marks : goal.returns-then-place-marks
returns-then-place-marks c = sym (mark_at-is c.args.marks.now c.args.place false (omega arith))

pub returns : goal.returns
returns c = sym (mark_at-past c.args.marks.now c.args.place (omega arith))
