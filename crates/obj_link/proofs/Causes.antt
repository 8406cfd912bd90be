-- Objects have an image or no image, and for one cause.
use Rattle.std.proofs.Common.{◌≡◌, List, [], Some, slice_get, refl, ap, sym, ◌∙◌, arith}
use Rattle.std.specs.Prelude.{◌≢◌}
use Rattle.asm_read.specs.declared.object.Object.{Object}
use Rattle.obj_link.specs.Cause.{IsLinkable, IsUnlinked}
use Rattle.obj_link.specs.Names.{undefined}
use Rattle.obj_link.specs.declared.refusal.Unlinked.{Unlinked}
use Rattle.obj_link.specs.declared.refusal.Unlinked.TheVariants.{Undefined, TooLarge, NoMemory}

-- an empty list has no first element
none_first : {A : Type 0} (xs : List A) (x : A) → xs ≡ [] → slice_get xs 0 ≡ Some x → ⊥
none_first xs x none first = absurd (cc)

one_first : {A : Type 0} (xs : List A) (x y : A) → slice_get xs 0 ≡ Some x → slice_get xs 0 ≡ Some y → x ≡ y
one_first xs x y first second = cc

pub linkable_excludes : (objects : List Object) (why : Unlinked) → IsLinkable objects → IsUnlinked why objects → why ≡ NoMemory
linkable_excludes objects (Undefined name) linkable unlinked = absurd (none_first (undefined objects) name linkable.defined unlinked)
linkable_excludes objects (TooLarge bytes) linkable unlinked = absurd (omega (arith, linkable.small, unlinked.1))
linkable_excludes objects NoMemory linkable unlinked = refl

pub one_cause : (objects : List Object) (one other : Unlinked) → IsUnlinked one objects → IsUnlinked other objects →
    one ≢ NoMemory → other ≢ NoMemory → one ≡ other
one_cause objects NoMemory other first second some more = absurd (some refl)
one_cause objects (Undefined name) NoMemory first second some more = absurd (more refl)
one_cause objects (TooLarge bytes) NoMemory first second some more = absurd (more refl)
one_cause objects (Undefined name) (Undefined same) first second some more = ap (λ n. Undefined n) (one_first (undefined objects) name same first second)
one_cause objects (Undefined name) (TooLarge bytes) first second some more = absurd (none_first (undefined objects) name second.0 first)
one_cause objects (TooLarge bytes) (Undefined name) first second some more = absurd (none_first (undefined objects) name first.0 second)
one_cause objects (TooLarge bytes) (TooLarge same) first second some more = ap (λ n. TooLarge n) (first.2 ∙ sym second.2)
