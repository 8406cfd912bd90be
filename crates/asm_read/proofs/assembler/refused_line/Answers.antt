use Rattle.std.proofs.Common.{refl, ap, take}
use Rattle.asm_read.proofs.FarLemmas.{far_answer, none_answer}
use Rattle.asm_read.proofs.assembler.refused_line.Goals as goal

pub returns-in-Some : goal.returns-in-Some
returns-in-Some c =
    let lines = c.args.lines.now in
    let end = c.in_ok-end.ensures in
    let found = c.in-Some.ensures in
    (c.in-Some.at, far_answer lines.readings.items lines.whole c.in_ok-end.end end.0 _ (ap (take c.in_ok-end.end) c.as_slice.ensures.value) c.in-Some.at found.0 found.1 found.2, refl)

pub returns-in-None-2 : goal.returns-in-None-2
returns-in-None-2 c =
    let lines = c.args.lines.now in
    let end = c.in_ok-end.ensures in
    none_answer lines.readings.items lines.whole c.in_ok-end.end end.0 _ (ap (take c.in_ok-end.end) c.as_slice.ensures.value) c.in-None-2.ensures c.in_ok-end.is_refused end.1 c.if-is_refused.false
