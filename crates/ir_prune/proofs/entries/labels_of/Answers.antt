use Rattle.std.proofs.Common.{◌∙◌, ◌<◌, ◌||◌, arith, length, ap, sym, take}
use Rattle.std.proofs.lemmas.List.{take_all}
use Rattle.std.proofs.lemmas.List.Folds.{list_any_more}
use Rattle.ir_ident.specs.Names.{same_name}
use Rattle.ir_prune.specs.Pruned.{is_label}
use Rattle.ir_prune.proofs.entries.labels_of.Goals as goal

pub loop-block-preserved : goal.loop-block-preserved
loop-block-preserved c = λ name.
    let inside : c.loop-block.block-index < length c.args.blocks.now = omega arith in
    c.in_ok-insert.ensures.ok name
    ∙ ap (λ before. before || same_name name c.block-item.result.label) (c.loop-block.invariant name)
    ∙ ap (λ b. is_label (take c.loop-block.block-index c.args.blocks.now) name || same_name name b.label) c.block-item.is
    ∙ sym (list_any_more (λ b. same_name name b.label) c.args.blocks.now c.loop-block.block-index c.block-item.result inside)

pub returns : goal.returns
returns c = λ name. c.loop-block.invariant name ∙ ap (λ blocks. is_label blocks name) (take_all c.loop-block.block-index c.args.blocks.now (omega arith))
