use Rattle.std.proofs.Common.{◌≡◌, ◌/◌, ◌∙◌, ℕ, List, ap, ap₂, arith}
use Rattle.obj_link.specs.Layout.{addresses, instruction_count}
use Rattle.obj_link.specs.Words.{image_bytes}
use Rattle.obj_link.specs.declared.image.Image.{Image}
use Rattle.obj_link.specs.declared.image.SymbolAddress.{SymbolAddress}
use Rattle.obj_link.proofs.Sizes.{image_size-instructions}
use Rattle.obj_link.proofs.linking.image_of_size.Goals as goal

abbrev image_with : List ℕ → ℕ → List (List SymbolAddress) → Image
image_with bytes instructions addresses = record { bytes = bytes; instructions = instructions; addresses = addresses }

pub returns : goal.returns
returns c =
    let size = image_size-instructions c.args.inputs.now in
    let count : c.args.size / 4 ≡ instruction_count c.args.inputs.now = omega arith in
    ap (λ bytes. image_with bytes (c.args.size / 4) c.in_ok-addresses.addresses) (c.from_vec.ensures ∙ c.in_ok-linked_bytes.ensures)
    ∙ ap₂ (image_with (image_bytes c.args.inputs.now)) count c.in_ok-addresses.ensures
