use Rattle.std.proofs.Common.{subst}
use Rattle.asm_read.specs.Assembly.{IsObjectOf}
use Rattle.asm_read.specs.Checks.{statements_in}
use Rattle.asm_read.proofs.AssemblyLemmas.{accepted, assembly_once, first_bad, statements_said, never_refused}
use Rattle.asm_read.proofs.FarLemmas.{all_near}
use Rattle.asm_read.proofs.assembler.assemble.Goals as goal

pub returns-in-Ok-Some-clause-line : goal.returns-in-Ok-Some-clause-line
returns-in-Ok-Some-clause-line c =
    let read = c.in-Ok.ensures in
    let refused = rw c.in-Ok-Some.field-0-is at c.in-Ok-Some.ensures in
    (read.0, read.1, refused.0, read.2, first_bad read.0 read.1 c.in-Ok.lines.readings.items c.in-Ok.lines.whole read.3 read.4 refused.0 refused.1, refused.2)

pub returns-in-Ok-Some-clause-only : goal.returns-in-Ok-Some-clause-only
returns-in-Ok-Some-clause-only c = λ statements h.
    let read = c.in-Ok.ensures in
    let refused = rw c.in-Ok-Some.field-0-is at c.in-Ok-Some.ensures in
    absurd (never_refused c.args.text.now statements c.in-Ok-Some.line h
    (read.0, read.1, refused.0, read.2, first_bad read.0 read.1 c.in-Ok.lines.readings.items c.in-Ok.lines.whole read.3 read.4 refused.0 refused.1, refused.2))

pub returns-in-Ok-build-clause-object : goal.returns-in-Ok-build-clause-object
returns-in-Ok-build-clause-object c =
    let read = c.in-Ok.ensures in
    let readings = c.in-Ok.lines.readings.items in
    (statements_in readings, accepted read.0 read.1 readings c.in-Ok.lines.whole read.3 read.4 c.args.text.now read.2 (rw c.in-Ok-None.field-0-is at c.in-Ok-None.ensures), c.in-Ok-build.ensures)

pub returns-in-Ok-build-clause-only : goal.returns-in-Ok-build-clause-only
returns-in-Ok-build-clause-only c = λ statements h.
    let read = c.in-Ok.ensures in
    let readings = c.in-Ok.lines.readings.items in
    let same = assembly_once c.args.text.now (statements_in readings) statements (accepted read.0 read.1 readings c.in-Ok.lines.whole read.3 read.4 c.args.text.now read.2 (rw c.in-Ok-None.field-0-is at c.in-Ok-None.ensures)) h in
    subst (λ fs. IsObjectOf fs c.in-Ok-build.object) same c.in-Ok-build.ensures

pub build-requires-clause-grammar : goal.build-requires-clause-grammar
build-requires-clause-grammar c =
    let read = c.in-Ok.ensures in
    statements_said read.0 c.in-Ok.lines.readings.items read.3

pub build-requires-clause-near : goal.build-requires-clause-near
build-requires-clause-near c =
    all_near c.in-Ok.lines.readings.items c.in-Ok.lines.whole (rw c.in-Ok-None.field-0-is at c.in-Ok-None.ensures)
