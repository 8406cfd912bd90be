use Rattle.std.proofs.Common.{◌∙◌, ◌-◌, ap, arith}
use Rattle.std.proofs.lemmas.List.{get_or_default}
use Rattle.ir_mem.specs.declared.block.Block.{Block}
use Rattle.ir_mem.proofs.LastLemmas.{none_at}
use Rattle.ir_mem.proofs.search.last_at.Goals.{else-count-gt0-via-then-count-gt0+else-blocks-count, else-count-gt0-via-else-count-gt0}
use Rattle.ir_mem.proofs.search.last_at.Goals as goal

pub returns-else-count-gt0 : goal.returns-else-count-gt0
returns-else-count-gt0 c =
    none_at c.args.blocks.now c.requires c.args.at c.begun-count.result c.begun-count.ensures.cut c.begun-count.ensures.bound
    (λ d some here. elim c.else-count-gt0.branch [
      | else-count-gt0-via-then-count-gt0+else-blocks-count w ↦
          let there = ap (λ (block : Block). block.base) (get_or_default c.args.blocks.now (c.begun-count.result - 1) w.index-blocks-count.result d (omega (arith, some))) in
          w.if-blocks-count.false (there ∙ here)
      | else-count-gt0-via-else-count-gt0 w ↦ omega (arith, some, w.if-count-gt0.false)
    ])
