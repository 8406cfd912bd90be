-- Whether objects, the runtime the first of them, can be linked, and why not.
use Rattle.std.specs.Prelude.{◌≡◌, ◌-◌, ◌^◌, ◌<◌, ◌≤◌, min, List, [], Some, slice_get}
use Rattle.asm_read.specs.declared.object.Object.{Object}
use Rattle.obj_link.specs.Names.{duplicates, undefined}
use Rattle.obj_link.specs.Layout.{image_size}
use Rattle.obj_link.specs.declared.refusal.LinkRefusal.{LinkRefusal}
use Rattle.obj_link.specs.declared.refusal.LinkRefusal.TheVariants as link
use Rattle.obj_link.specs.declared.refusal.Unlinked.{Unlinked}
use Rattle.obj_link.specs.declared.refusal.Unlinked.TheVariants.{Undefined, TooLarge, NoMemory}

-- no global name is defined twice, each need has a definition, and the image is not too large
pub record IsLinkable (objects : List Object) : Type 0 where
  pub differ : duplicates objects ≡ []
  pub defined : undefined objects ≡ []
  pub small : image_size objects ≤ 67108864

-- why objects whose global names differ have no image; a cause holds only where none before it does
abbrev pub IsUnlinked : Unlinked → List Object → Type 0
IsUnlinked (Undefined name) objects = slice_get (undefined objects) 0 ≡ Some name
IsUnlinked (TooLarge bytes) objects =
    (undefined objects ≡ []) × (67108864 < image_size objects) × (bytes ≡ min (image_size objects) (2 ^ 64 - 1))
IsUnlinked NoMemory objects = Unit {0}

-- why objects have no image: the first duplicate name, or, where there is none, one of the causes above
abbrev pub IsCause : LinkRefusal → List Object → Type 0
IsCause (link.Duplicate name) objects = slice_get (duplicates objects) 0 ≡ Some name
IsCause (link.Undefined name) objects = (duplicates objects ≡ []) × IsUnlinked (Undefined name) objects
IsCause (link.TooLarge bytes) objects = (duplicates objects ≡ []) × IsUnlinked (TooLarge bytes) objects
IsCause link.NoMemory objects = Unit {0}
