use Rattle.std.proofs.Common.{subst, ◌-◌, drop, length, ◌≡◌, arith}
use Rattle.asm_inst.specs.Bytes.{IsAbsent}
use Rattle.asm_inst.proofs.BytesLemmas.{absent_back, not_absent}
use Rattle.asm_inst.proofs.bytes.cut_at_last.Goals as goal

pub loop-after-preserved : goal.loop-after-preserved
loop-after-preserved c = absent_back _ _ _ c.loop-after-test.true c.loop-after.invariant c.if-bytes-at.false

pub returns : goal.returns
returns c = λ left right e.
    let none : length c.args.bytes.now - c.loop-after.after ≡ 0 = omega (arith, c.loop-after-test.false) in
    not_absent _ left right (subst (IsAbsent c.args.byte) e (subst (λ n. IsAbsent c.args.byte (drop n c.args.bytes.now)) none c.loop-after.invariant))
