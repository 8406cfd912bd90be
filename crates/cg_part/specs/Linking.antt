-- What texts of assembly are linked to.
use Rattle.std.specs.Prelude.{◌≡◌, ◌∷◌, ℕ, List}
use Rattle.std.specs.List.{AllZip}
use Rattle.asm_read.specs.Assembly.{Assembles}
use Rattle.asm_read.specs.declared.object.Object.{Object}
use Rattle.obj_link.specs.Cause.{IsLinkable, IsUnlinked}
use Rattle.obj_link.specs.Image.{linked_image}
use Rattle.obj_link.specs.Runtime.{runtime}
use Rattle.obj_link.specs.declared.image.Image.{Image}
use Rattle.obj_link.specs.declared.refusal.Unlinked.{Unlinked}

-- the texts assemble to objects that can be linked behind the runtime, and this is their image
pub record IsImageOf (texts : List (List ℕ)) (image : Image) : Type 0 where
  pub objects : List Object
  pub assembled : AllZip Assembles texts objects
  pub linkable : IsLinkable (runtime ∷ objects)
  pub linked : image ≡ linked_image (runtime ∷ objects)

-- the texts assemble to objects that cannot be linked behind the runtime, and this is why
pub record AreUnlinked (texts : List (List ℕ)) (why : Unlinked) : Type 0 where
  pub objects : List Object
  pub assembled : AllZip Assembles texts objects
  pub unlinked : IsUnlinked why (runtime ∷ objects)
