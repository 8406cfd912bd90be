-- Types as trees of numbers, and back: so two types can be told apart.
use Rattle.std.proofs.Common.{◌≡◌, ◌∙◌, refl, sym, ap}
use base.Stored.{Gv, gnil, gnum, gcons, Coded}
use Rattle.ir_ident.specs.Codes.{bool_code, bool_back, bool_back_code, use_code, use_back, use_back_code}
use Rattle.ir_syntax.specs.Types.{TextTree, int, ptr, array, struct, named, TextTrees, end, more}

abbrev mutual
  pub to_code : TextTree → Gv
  to_code (int bits) = gnum bits
  to_code ptr = gnil
  to_code (array len elem) = gcons (gnum len) (to_code elem)
  to_code (struct packed fields) = gcons (gcons gnil (bool_code packed)) (list_code fields)
  to_code (named name) = gcons gnil (use_code name)

  pub list_code : TextTrees → Gv
  list_code end = gnil
  list_code (more head tail) = gcons (to_code head) (list_code tail)

abbrev mutual
  pub from_code : Gv → TextTree
  from_code gnil = ptr
  from_code (gnum n) = int n
  from_code (gcons gnil b) = named (use_back b)
  from_code (gcons (gnum n) b) = array n (from_code b)
  from_code (gcons (gcons x y) b) = struct (bool_back y) (list_from b)

  pub list_from : Gv → TextTrees
  list_from gnil = end
  list_from (gnum n) = end
  list_from (gcons a b) = more (from_code a) (list_from b)

abbrev mutual
  pub tree_back_code : (tree : TextTree) → from_code (to_code tree) ≡ tree
  tree_back_code (int bits) = refl
  tree_back_code ptr = refl
  tree_back_code (array len elem) = ap (array len) (tree_back_code elem)
  tree_back_code (struct packed fields) = λ i. struct (bool_back_code packed i) (list_back_code fields i)
  tree_back_code (named name) = ap named (use_back_code name)

  pub list_back_code : (trees : TextTrees) → list_from (list_code trees) ≡ trees
  list_back_code end = refl
  list_back_code (more head tail) = λ i. more (tree_back_code head i) (list_back_code tail i)

abbrev pub tree_code : Coded TextTree
tree_code = record { code = to_code; inj = λ x y p. sym (tree_back_code x) ∙ ap from_code p ∙ tree_back_code y }
