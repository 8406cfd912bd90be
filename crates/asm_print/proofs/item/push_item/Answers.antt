use Rattle.asm_print.proofs.Written.{item_written}
use Rattle.asm_print.proofs.item.push_item.Goals as goal

pub returns : goal.returns
returns c =
    item_written c.args.out.now.items _ _ _ _ _ c.args.name.now c.args.exported c.args.code.now c.in_ok-push_section.ensures
    c.in_ok-push_export.ensures c.in_ok-push_alignment.ensures c.in_ok-push_definition.ensures c.in_ok-push_code.ensures
