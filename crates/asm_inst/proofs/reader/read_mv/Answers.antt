use Rattle.std.proofs.Common.{sym, ◌∙◌, arith}
use Rattle.rv_isa.specs.Table.{shape}
use Rattle.asm_inst.proofs.FormLemmas.{mv_form}
use Rattle.asm_inst.proofs.OperandLemmas.{first_once}
use Rattle.asm_inst.proofs.RegisterLemmas.{register_once}
use Rattle.asm_inst.proofs.reader.read_mv.Goals as goal

pub returns-in_default : goal.returns-in_default
returns-in_default c = λ x h. c.in_default.ensures x.rd _ h.0.inst.rd h.2

pub returns-in_default-read_register : goal.returns-in_default-read_register
returns-in_default-read_register c = λ x h.
    let found = c.in-Some.ensures in
    let read = c.in-Some-read_register.ensures in
    let same = (first_once _ _ x.rd _ _ found.0 h.0.inst.rd found.1 h.2).1 in
    let is = register_once c.in-Some-read_register.rs1 x.rs1 read.0 h.0.inst.rs1 (sym read.1 ∙ same) in
    omega (arith, is, c.if-rs1-ne0.false, (mv_form (shape x.op) x h.1).1)

pub returns-in_default-read_register-2 : goal.returns-in_default-read_register-2
returns-in_default-read_register-2 c = λ x h.
    let found = c.in-Some.ensures in
    c.in_default-read_register.ensures x.rs1 (h.0.inst.rs1, (first_once _ _ x.rd _ _ found.0 h.0.inst.rd found.1 h.2).1)
