use Rattle.std.proofs.Common.{◌∙◌, ap, arith, sym, nat_lt}
use Rattle.ir_mem.proofs.LastLemmas.{empty_meets, last_meets, none_meets}
use Rattle.ir_mem.specs.Memory.{end_of}
use Rattle.ir_mem.proofs.search.meets_any.Goals as goal

pub returns-then-size-eq0 : goal.returns-then-size-eq0
returns-then-size-eq0 c = sym (empty_meets c.args.at c.args.size c.args.blocks.now c.if-size-eq0.true)

pub returns-in-Some : goal.returns-in-Some
returns-in-Some c =
    c.ends_behind.ensures
    ∙ ap (λ block. nat_lt c.args.at (end_of block)) c.index-blocks-place.is
    ∙ sym (last_meets c.args.blocks.now c.requires.memory c.args.at c.args.size c.begun.result c.in-Some.place c.index-blocks-place.result (omega arith)
    c.begun.ensures.bound c.begun.ensures.cut c.in-Some.ensures)

pub returns-in-None : goal.returns-in-None
returns-in-None c = sym (none_meets c.args.blocks.now c.args.at c.args.size c.begun.result (omega arith) c.begun.ensures.cut c.in-None.ensures)
