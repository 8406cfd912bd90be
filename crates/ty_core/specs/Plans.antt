-- Lists of types as they are planned, with repeats among them: their places, and their nodes.
use Rattle.std.specs.Prelude.{◌≡◌, ℕ, ◌<◌, ◌≤◌, min, List, [], ◌∷◌, ◌++◌, map}
use Rattle.std.specs.List.{flat_map, sum_by}
use Rattle.ty_core.specs.Places.{places_of}
use Rattle.ty_core.specs.Tree.{Tree, int, ptr, array, struct, Trees, end, more, tree_of, types_in}
use Rattle.ty_core.specs.declared.plan_end.PlanEnd.{PlanEnd}
use Rattle.ty_core.specs.declared.plan_end.PlanEnd.TheVariants.{TooMany, NoMemory}
use Rattle.ty_core.specs.declared.types.TyList.{TyList}

-- the types of a list in order, as trees
abbrev pub trees_in : TyList → List Tree
trees_in types = map tree_of (types_in types)

-- the greatest number of places that the types of a plan may have
abbrev pub plan_limit : ℕ
plan_limit = 4194304

-- the places of all these types, each as often as it is listed
abbrev pub all_places : List Tree → ℕ
all_places trees = sum_by places_of trees

-- a number, or the greatest of a word if it is above that
abbrev pub capped : ℕ → ℕ
capped n = min n 18446744073709551615

-- why there is no plan: too many places, with their number, or no memory
abbrev pub IsPlanEnd : List Tree → PlanEnd → Type 0
IsPlanEnd trees (TooMany places) = (plan_limit < all_places trees) × (places ≡ capped (all_places trees))
IsPlanEnd trees NoMemory = all_places trees ≤ plan_limit

-- a node: a type, or the cell of a field with the fields behind it
pub data Node : Type 0 where
  type : Tree → Node
  cell : Trees → Node

abbrev mutual
  -- a type, its parts, and a cell for each field in it
  pub nodes_of : Tree → List Node
  nodes_of (int bits) = type (int bits) ∷ []
  nodes_of ptr = type ptr ∷ []
  nodes_of (array len elem) = type (array len elem) ∷ nodes_of elem
  nodes_of (struct packed fields) = type (struct packed fields) ∷ nodes_in fields

  pub nodes_in : Trees → List Node
  nodes_in end = []
  nodes_in (more head tail) = cell (more head tail) ∷ (nodes_of head ++ nodes_in tail)

-- the nodes of all these types, each as often as it stands in them
abbrev pub all_nodes : List Tree → List Node
all_nodes trees = flat_map nodes_of trees
