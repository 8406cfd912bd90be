use Rattle.std.proofs.Common.{◌∙◌, ◌++◌, ap, arith, take}
use Rattle.std.proofs.lemmas.List.{append_assoc}
use Rattle.ir_uses.proofs.NumberedLemmas.{numbered-more}
use Rattle.ir_uses.specs.Numbered.{flat_numbered}
use Rattle.ir_uses.specs.Uses.{instr_uses}
use Rattle.ir_uses.proofs.uses.push_instrs.Goals as goal

pub loop-before-preserved : goal.loop-before-preserved
loop-before-preserved c =
    let here = instr_uses c.args.place in
    c.in_ok-push_instr.ensures
    ∙ ap (λ uses. uses ++ here c.loop-before.before c.index-instrs-before.result) c.loop-before.invariant
    ∙ append_assoc c.args.uses.now.items (flat_numbered here 0 (take c.loop-before.before c.args.instrs.now)) _
    ∙ ap (λ uses. c.args.uses.now.items ++ uses)
    (numbered-more here c.args.instrs.now c.loop-before.before c.index-instrs-before.result (omega arith) c.index-instrs-before.is)
