-- The nodes of types, counted.
use Rattle.std.proofs.Common.{◌≡◌, ◌∙◌, ◌+◌, List, [], ◌∷◌, length, refl, sym, arith}
use Rattle.std.proofs.lemmas.List.{length-append}
use Rattle.std.proofs.lemmas.List.Sums.{sum_by-cons}
use Rattle.ty_core.specs.Places.{places_of, places_in}
use Rattle.ty_core.specs.Plans.{all_nodes, all_places, nodes_of, nodes_in}
use Rattle.ty_core.specs.Tree.{Tree, int, ptr, array, struct, Trees, end, more}

mutual
  length-nodes_of : (tree : Tree) → length (nodes_of tree) ≡ places_of tree
  length-nodes_of (int bits) = refl
  length-nodes_of ptr = refl
  length-nodes_of (array len elem) = omega (arith, length-nodes_of elem)
  length-nodes_of (struct packed fields) = omega (arith, length-nodes_in fields)

  length-nodes_in : (fields : Trees) → length (nodes_in fields) ≡ places_in fields
  length-nodes_in end = refl
  length-nodes_in (more head tail) = omega (arith, length-append (nodes_of head) (nodes_in tail), length-nodes_of head, length-nodes_in tail)

-- types have as many nodes as places
pub length-all_nodes : (trees : List Tree) → length (all_nodes trees) ≡ all_places trees
length-all_nodes [] = refl
length-all_nodes (head ∷ tail) =
    length-append (nodes_of head) (all_nodes tail)
    ∙ (λ i. length-nodes_of head i + length-all_nodes tail i)
    ∙ sym (sum_by-cons places_of head tail)
