use Rattle.std.proofs.Common.{subst, sym}
use Rattle.obj_link.specs.Cause.{IsUnlinked}
use Rattle.obj_link.specs.Names.{duplicates}
use Rattle.obj_link.specs.declared.refusal.Unlinked.{Unlinked}
use Rattle.obj_link.proofs.Lists.{first_empty}
use Rattle.obj_link.proofs.linking.image_of.Goals as goal

pub image_of_distinct-requires : goal.image_of_distinct-requires
image_of_distinct-requires c = first_empty (duplicates c.args.inputs.now) (sym c.in_default.ensures)

pub returns-in-Err-Undefined-clause-refused : goal.returns-in-Err-Undefined-clause-refused
returns-in-Err-Undefined-clause-refused c = (
  first_empty (duplicates c.args.inputs.now) (sym c.in_default.ensures),
  subst (λ (u : Unlinked). IsUnlinked u c.args.inputs.now) c.in-Err-Undefined.field-0-is c.in-Err-Undefined.ensures.refused,
)

pub returns-in-Err-TooLarge-clause-refused : goal.returns-in-Err-TooLarge-clause-refused
returns-in-Err-TooLarge-clause-refused c = (
  first_empty (duplicates c.args.inputs.now) (sym c.in_default.ensures),
  subst (λ (u : Unlinked). IsUnlinked u c.args.inputs.now) c.in-Err-TooLarge.field-0-is c.in-Err-TooLarge.ensures.refused,
)
