-- The text of items assembles to their object, and to no other.
use Rattle.std.proofs.Common.{◌≡◌, ℕ, List}
use Rattle.asm_read.specs.Assembly.{Assembles, IsRefusal}
use Rattle.asm_read.specs.declared.object.Object.{Object}
use Rattle.asm_read.specs.declared.refusal.AsmRefusal.TheVariants.{Line as RefusedLine}
use Rattle.asm_read.proofs.AssemblyLemmas.{assembled_once, never_refused}
use Rattle.asm_read.proofs.OrderLemmas.{assembly_when_ordered}
use Rattle.asm_print.specs.Items.{AreItems, Item, items_text, object_of, statements_of}
use Rattle.asm_print.proofs.Objects.{items_object}
use Rattle.asm_print.proofs.Ordering.{items_ordered}

pub items_assemble : (items : List Item) → AreItems items → Assembles (items_text items) (object_of items)
items_assemble items are =
    (statements_of items, assembly_when_ordered (statements_of items) (items_ordered items are), items_object items are.differ)

pub items_assemble_once : (items : List Item) (object : Object) → AreItems items → Assembles (items_text items) object → object ≡ object_of items
items_assemble_once items object are other = assembled_once (items_text items) object (object_of items) other (items_assemble items are)

pub items_not_refused : (items : List Item) (line : ℕ) → AreItems items → IsRefusal (items_text items) (RefusedLine line) → ⊥
items_not_refused items line are refused =
    never_refused (items_text items) (statements_of items) line (assembly_when_ordered (statements_of items) (items_ordered items are)) refused
