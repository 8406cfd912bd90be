use Rattle.asm_read.proofs.labels.add_label.Goals as goal

pub returns-in-Ok : goal.returns-in-Ok
returns-in-Ok c = λ q. c.in-Ok.ensures.updates.0 (record { ref_ptr = (0, 0); now = q })
