-- Types as plain trees: what a type is, without the boxes that it is kept in.
use Rattle.std.specs.Prelude.{ℕ, Bool, List, [], ◌∷◌}
use Rattle.ty_core.specs.declared.types.Ty.{Ty}
use Rattle.ty_core.specs.declared.types.Ty.TheVariants.{Int, Ptr, Array', Struct}
use Rattle.ty_core.specs.declared.types.TyList.{TyList}
use Rattle.ty_core.specs.declared.types.TyList.TheVariants.{End, More'}

mutual
  -- a type: an integer of a width, a pointer, an array of a length, a struct that is packed or not
  pub data Tree : Type 0 where
    int : ℕ → Tree
    ptr : Tree
    array : ℕ → Tree → Tree
    struct : Bool → Trees → Tree

  -- the types of a struct's fields in order
  pub data Trees : Type 0 where
    end : Trees
    more : Tree → Trees → Trees

abbrev mutual
  pub tree_of : Ty → Tree
  tree_of (Int bits) = int bits
  tree_of Ptr = ptr
  tree_of (Array' len p elem) = array len (tree_of elem)
  tree_of (Struct packed fields) = struct packed (trees_of fields)

  pub trees_of : TyList → Trees
  trees_of End = end
  trees_of (More' p head q tail) = more (tree_of head) (trees_of tail)

-- the types of a list in order
abbrev pub types_in : TyList → List Ty
types_in End = []
types_in (More' p head q tail) = head ∷ types_in tail
