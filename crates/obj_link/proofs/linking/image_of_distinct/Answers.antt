use Rattle.std.proofs.Common.{sym, arith}
use Rattle.obj_link.specs.Names.{undefined}
use Rattle.obj_link.proofs.Lists.{first_empty}
use Rattle.obj_link.proofs.linking.image_of_distinct.Goals as goal

pub returns-then-size-gt-MAX_IMAGE_BYTES-clause-refused : goal.returns-then-size-gt-MAX_IMAGE_BYTES-clause-refused
returns-then-size-gt-MAX_IMAGE_BYTES-clause-refused c =
    (first_empty (undefined c.args.inputs.now) (sym c.in_default.ensures), omega arith, c.total_size-size.ensures)

pub returns-in-Ok-image_of_size-clause-linkable : goal.returns-in-Ok-image_of_size-clause-linkable
returns-in-Ok-image_of_size-clause-linkable c = record {
  differ = c.requires;
  defined = first_empty (undefined c.args.inputs.now) (sym c.in_default.ensures);
  small = omega arith;
}
