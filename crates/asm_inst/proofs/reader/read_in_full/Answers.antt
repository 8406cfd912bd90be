use Rattle.std.proofs.Common.{sym, ap, ◌∙◌}
use Rattle.std.proofs.lemmas.Bool.{false≢true}
use Rattle.rv_isa.specs.Table.{row, shape}
use Rattle.asm_inst.specs.Forms.{in_full_form, stands_in_full}
use Rattle.asm_inst.proofs.FieldLemmas.{fields_of, fields_once}
use Rattle.asm_inst.proofs.reader.read_in_full.Goals as goal

pub returns-in_default : goal.returns-in_default
returns-in_default c = λ x h.
    let read = c.in-Some.ensures in
    let same = fields_once (shape c.args.op) (row c.args.op) c.in-Some.inst x (read.0 ∙ sym h.1) read.1 (fields_of c.args.op x h.0 h.1 h.3) (sym read.2 ∙ h.4) in
    false≢true (c.if-is_in_full.ensures ∙ ap stands_in_full same ∙ ap in_full_form h.2)
