-- Texts have one image at most, and what linking their objects answers.
use Rattle.std.proofs.Common.{◌≡◌, ◌∷◌, [], ℕ, List, Ok, Err, OnOk, IfOk, IfErr, refl, ap, ap₂, sym, subst, ◌∙◌}
use Rattle.std.specs.Prelude.{◌≢◌}
use Rattle.std.specs.declared.result.Result.{Result}
use Rattle.std.specs.List.{AllZip}
use Rattle.asm_read.specs.Assembly.{Assembles}
use Rattle.asm_read.specs.declared.object.Object.{Object}
use Rattle.asm_read.proofs.AssemblyLemmas.{assembled_once}
use Rattle.obj_link.specs.Cause.{IsLinkable, IsUnlinked}
use Rattle.obj_link.specs.Image.{linked_image}
use Rattle.obj_link.specs.Runtime.{runtime}
use Rattle.obj_link.specs.declared.image.Image.{Image}
use Rattle.obj_link.specs.declared.refusal.Unlinked.{Unlinked}
use Rattle.obj_link.specs.declared.refusal.Unlinked.TheVariants.{NoMemory}
use Rattle.obj_link.proofs.Causes.{linkable_excludes, one_cause}
use Rattle.cg_part.specs.Linking.{AreUnlinked, IsImageOf}

pub objects_once : (texts : List (List ℕ)) (one other : List Object) → AllZip Assembles texts one → AllZip Assembles texts other → one ≡ other
objects_once [] [] [] first second = refl
objects_once [] (o ∷ one) other first second = absurd first
objects_once [] [] (o ∷ other) first second = absurd second
objects_once (text ∷ texts) [] other first second = absurd first
objects_once (text ∷ texts) (o ∷ one) [] first second = absurd second
objects_once (text ∷ texts) (o ∷ one) (p ∷ other) first second =
    ap₂ (λ (object : Object) (objects : List Object). object ∷ objects) (assembled_once text o p first.0 second.0)
    (objects_once texts one other first.1 second.1)

pub image_once : (texts : List (List ℕ)) (one other : Image) → IsImageOf texts one → IsImageOf texts other → one ≡ other
image_once texts one other first second =
    first.linked
    ∙ ap (λ (objects : List Object). linked_image (runtime ∷ objects)) (objects_once texts first.objects second.objects first.assembled second.assembled)
    ∙ sym second.linked

-- where texts have an image, linking fails only if memory runs out
pub image_excludes : (texts : List (List ℕ)) (image : Image) (why : Unlinked) → IsImageOf texts image → AreUnlinked texts why → why ≡ NoMemory
image_excludes texts image why linked refused =
    linkable_excludes (runtime ∷ linked.objects) why linked.linkable
    (subst (λ (objects : List Object). IsUnlinked why (runtime ∷ objects))
    (objects_once texts refused.objects linked.objects refused.assembled linked.assembled) refused.unlinked)

-- and others for one cause beside it
pub unlinked_once : (texts : List (List ℕ)) (one other : Unlinked) → AreUnlinked texts one → AreUnlinked texts other →
    one ≢ NoMemory → other ≢ NoMemory → one ≡ other
unlinked_once texts one other first second =
    one_cause (runtime ∷ first.objects) one other first.unlinked
    (subst (λ (objects : List Object). IsUnlinked other (runtime ∷ objects))
    (objects_once texts second.objects first.objects second.assembled first.assembled) second.unlinked)

-- what linking the objects of texts answers

pub image_linked : (texts : List (List ℕ)) (objects : List Object) (result : Result Image Unlinked) → AllZip Assembles texts objects →
    OnOk result (IsLinkable (runtime ∷ objects)) → IfOk result (λ image. image ≡ linked_image (runtime ∷ objects)) → IfOk result (IsImageOf texts)
image_linked texts objects (Ok image) assembled linkable linked =
    record { objects = objects; assembled = assembled; linkable = linkable; linked = linked }
image_linked texts objects (Err why) assembled linkable linked = tt

pub image_refused : (texts : List (List ℕ)) (objects : List Object) (result : Result Image Unlinked) → AllZip Assembles texts objects →
    IfErr result (λ why. IsUnlinked why (runtime ∷ objects)) → IfErr result (AreUnlinked texts)
image_refused texts objects (Ok image) assembled refused = tt
image_refused texts objects (Err why) assembled refused = record { objects = objects; assembled = assembled; unlinked = refused }
