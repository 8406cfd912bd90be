use Rattle.std.proofs.Common.{◌≡◌, ◌++◌, take, map}
use Rattle.ir_naming.specs.Items.{item_use}
use Rattle.ir_naming.proofs.defined.push_items.Given as goal

abbrev pub invariant-loop-item : goal.invariant-loop-item
invariant-loop-item l = l.names.items ≡ l.initial.names.items ++ map item_use (take l.item-index l.items)
