use Rattle.std.proofs.Common.{◌≡◌, ◌++◌, filter, map, take}
use Rattle.asm_print.specs.Items.{items_text}
use Rattle.cg_built.specs.Definitions.{has_body}
use Rattle.cg_part.specs.Text.{item_of}
use Rattle.cg_part.proofs.text.push_functions.Given as goal

abbrev pub invariant-loop-function : goal.invariant-loop-function
invariant-loop-function l = l.out.items ≡ l.initial.out.items ++ items_text (map item_of (filter has_body (take l.function-index l.functions)))
