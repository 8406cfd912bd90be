-- The types of a list, and the fields of the same types.
use Rattle.std.proofs.Common.{◌≡◌, ◌∙◌, List, [], ◌∷◌, ◌++◌, map, refl, sym, ap}
use Rattle.std.proofs.lemmas.List.{append_assoc, map-append}
use Rattle.ty_core.specs.Plans.{trees_in}
use Rattle.ty_core.specs.Tree.{Tree, Trees, end, more, tree_of, trees_of}
use Rattle.ty_core.specs.declared.types.Ty.{Ty}
use Rattle.ty_core.specs.declared.types.TyList.{TyList}
use Rattle.ty_core.specs.declared.types.TyList.TheVariants.{End, More'}

abbrev fields_from : List Tree → Trees
fields_from [] = end
fields_from (head ∷ tail) = more head (fields_from tail)

from_its_list : (types : TyList) → fields_from (trees_in types) ≡ trees_of types
from_its_list End = refl
from_its_list (More' p head q tail) = ap (more (tree_of head)) (from_its_list tail)

-- lists of the same types are the same fields
pub same_fields : (copy types : TyList) → trees_in copy ≡ trees_in types → trees_of copy ≡ trees_of types
same_fields copy types same = sym (from_its_list copy) ∙ ap fields_from same ∙ from_its_list types

-- the types copied so far and those that are left are all of them
pub one_more : (copies : List Ty) (copy head : Ty) (left all : List Tree) → tree_of copy ≡ tree_of head →
    map tree_of copies ++ tree_of head ∷ left ≡ all → map tree_of (copies ++ copy ∷ []) ++ left ≡ all
one_more copies copy head left all same so_far =
    ap (λ trees. trees ++ left) (map-append tree_of copies (copy ∷ []))
    ∙ append_assoc (map tree_of copies) (tree_of copy ∷ []) left
    ∙ ap (λ tree. map tree_of copies ++ tree ∷ left) same
    ∙ so_far
