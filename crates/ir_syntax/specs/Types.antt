-- Types as plain trees: what the text writes of a type, without the boxes that it is kept in.
use Rattle.std.specs.Prelude.{ℕ, Bool, List, [], ◌∷◌}
use Rattle.ir_ident.specs.declared.name.NameUse.{NameUse}
use Rattle.ir_syntax.specs.declared.tree.TypeTree.{TypeTree}
use Rattle.ir_syntax.specs.declared.tree.TypeTree.TheVariants.{Int, Ptr, Array', Struct', Named}
use Rattle.ir_syntax.specs.declared.tree.TypeTreeList.{TypeTreeList}
use Rattle.ir_syntax.specs.declared.tree.TypeTreeList.TheVariants.{End, More'}

mutual
  -- a type: an integer of a width, a pointer, an array of a length, a struct that is packed or not, a name
  pub data TextTree : Type 0 where
    int : ℕ → TextTree
    ptr : TextTree
    array : ℕ → TextTree → TextTree
    struct : Bool → TextTrees → TextTree
    named : NameUse → TextTree

  -- the types of a struct's fields in order
  pub data TextTrees : Type 0 where
    end : TextTrees
    more : TextTree → TextTrees → TextTrees

abbrev mutual
  pub tree_of : TypeTree → TextTree
  tree_of (Int bits) = int bits
  tree_of Ptr = ptr
  tree_of (Array' len p elem) = array len (tree_of elem)
  tree_of (Struct' packed p fields) = struct packed (trees_in fields)
  tree_of (Named name) = named name.value

  pub trees_in : TypeTreeList → TextTrees
  trees_in End = end
  trees_in (More' p ty tail) = more (tree_of ty) (trees_in tail)

-- the types of a list as those of fields
abbrev pub trees_from : List TextTree → TextTrees
trees_from [] = end
trees_from (head ∷ tail) = more head (trees_from tail)

-- the types of fields as a list
abbrev pub list_of : TextTrees → List TextTree
list_of end = []
list_of (more head tail) = head ∷ list_of tail
