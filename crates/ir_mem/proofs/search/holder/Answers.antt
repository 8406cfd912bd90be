use Rattle.std.proofs.Common.{◌∙◌, ap, sym}
use Rattle.ir_mem.proofs.LastLemmas.{none_holds, other_holds}
use Rattle.ir_mem.specs.Memory.{holds}
use Rattle.ir_mem.proofs.search.holder.Goals as goal

pub returns-in_err-place-clause-none : goal.returns-in_err-place-clause-none
returns-in_err-place-clause-none c =
    rw c.from_residual.ensures
    (none_holds c.args.blocks.now c.args.at c.args.size c.begun.result c.requires.some c.begun.ensures.cut c.in_err-place.ensures)

pub returns-else-is_held-clause-none : goal.returns-else-is_held-clause-none
returns-else-is_held-clause-none c =
    other_holds c.args.blocks.now c.requires.memory c.args.at c.args.size c.begun.result c.in_ok-place.place c.index-blocks-place.result c.requires.some
    c.begun.ensures.bound c.begun.ensures.cut c.in_ok-place.ensures
    (ap (holds c.args.at c.args.size) (sym c.index-blocks-place.is) ∙ sym c.is_held.ensures ∙ c.if-is_held.false)
