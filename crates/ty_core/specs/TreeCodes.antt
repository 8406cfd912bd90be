-- Types as trees of numbers, and back: so two types can be told apart.
use Rattle.std.proofs.Common.{◌≡◌, ◌∙◌, Bool, true, false, refl, sym, ap}
use base.Stored.{Gv, gnil, gnum, gcons, Coded}
use Rattle.ty_core.specs.Tree.{Tree, int, ptr, array, struct, Trees, end, more}

abbrev pub packed_code : Bool → Gv
packed_code true = gnum 0
packed_code false = gnil

abbrev pub packed_back : Gv → Bool
packed_back gnil = false
packed_back (gnum n) = true
packed_back (gcons a b) = false

abbrev pub packed_back_code : (packed : Bool) → packed_back (packed_code packed) ≡ packed
packed_back_code true = refl
packed_back_code false = refl

abbrev mutual
  pub to_code : Tree → Gv
  to_code (int bits) = gnum bits
  to_code ptr = gnil
  to_code (array len elem) = gcons (gnum len) (to_code elem)
  to_code (struct packed fields) = gcons (gcons gnil (packed_code packed)) (list_code fields)

  pub list_code : Trees → Gv
  list_code end = gnil
  list_code (more head tail) = gcons (to_code head) (list_code tail)

abbrev mutual
  pub from_code : Gv → Tree
  from_code gnil = ptr
  from_code (gnum n) = int n
  from_code (gcons gnil b) = ptr
  from_code (gcons (gnum n) b) = array n (from_code b)
  from_code (gcons (gcons x y) b) = struct (packed_back y) (list_from b)

  pub list_from : Gv → Trees
  list_from gnil = end
  list_from (gnum n) = end
  list_from (gcons a b) = more (from_code a) (list_from b)

abbrev mutual
  pub tree_back_code : (tree : Tree) → from_code (to_code tree) ≡ tree
  tree_back_code (int bits) = refl
  tree_back_code ptr = refl
  tree_back_code (array len elem) = ap (array len) (tree_back_code elem)
  tree_back_code (struct packed fields) = λ i. struct (packed_back_code packed i) (list_back_code fields i)

  pub list_back_code : (trees : Trees) → list_from (list_code trees) ≡ trees
  list_back_code end = refl
  list_back_code (more head tail) = λ i. more (tree_back_code head i) (list_back_code tail i)

abbrev pub tree_code : Coded Tree
tree_code = record { code = to_code; inj = λ x y p. sym (tree_back_code x) ∙ ap from_code p ∙ tree_back_code y }
