use Rattle.std.proofs.Common.{◌≡◌, ◌∷◌, [], subst, sym}
use Rattle.asm_read.specs.declared.object.Object.{Object}
use Rattle.obj_link.specs.Names.{duplicates}
use Rattle.obj_link.specs.Runtime.{runtime}
use Rattle.cg_built.proofs.UnbuiltLemmas.{is_program}
use Rattle.cg_part.specs.Text.{part_text}
use Rattle.cg_part.proofs.AssemblingLemmas.{part_assembles, part_assembles_once}
use Rattle.cg_part.proofs.LinkingImage.{image_linked, image_refused}
use Rattle.cg_part.proofs.LinkingNames.{part_differs}
use Rattle.cg_part.proofs.Objects.{part_object}
use Rattle.cg_part.proofs.program.program_of.Goals as goal

pub link_distinct-requires : goal.link_distinct-requires
link_distinct-requires c =
    subst (λ (o : Object). duplicates (runtime ∷ o ∷ []) ≡ [])
    (sym (part_assembles_once c.args.m.now c.in-Ok.object (is_program c.args.m.now c.requires) c.in-Ok.ensures))
    (part_differs c.args.m.now (is_program c.args.m.now c.requires))

pub returns-in-Ok : goal.returns-in-Ok
returns-in-Ok c = record {
  image = image_linked (part_text c.args.m.now ∷ []) (c.in-Ok.object ∷ []) c.link_distinct.result (c.in-Ok.ensures, tt)
      c.link_distinct.ensures.linkable c.link_distinct.ensures.image;
  unlinked = image_refused (part_text c.args.m.now ∷ []) (c.in-Ok.object ∷ []) c.link_distinct.result (c.in-Ok.ensures, tt)
      c.link_distinct.ensures.refused;
}

pub returns-in-Err : goal.returns-in-Err
returns-in-Err c = record {
  image = tt;
  unlinked = record { objects = part_object c.args.m.now ∷ []; assembled = (part_assembles c.args.m.now (is_program c.args.m.now c.requires), tt); unlinked = tt };
}
