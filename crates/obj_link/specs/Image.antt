-- The image that objects, the runtime the first of them, are linked to.
use Rattle.std.specs.Prelude.{List}
use Rattle.asm_read.specs.declared.object.Object.{Object}
use Rattle.obj_link.specs.Layout.{addresses, instruction_count}
use Rattle.obj_link.specs.Words.{image_bytes}
use Rattle.obj_link.specs.declared.image.Image.{Image}

abbrev pub linked_image : List Object → Image
linked_image objects = record {
  bytes = image_bytes objects;
  instructions = instruction_count objects;
  addresses = addresses objects;
}
