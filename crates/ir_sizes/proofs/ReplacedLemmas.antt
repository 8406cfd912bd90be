-- Types with the names in them replaced.
use Rattle.std.proofs.Common.{◌≡◌, ◌∙◌, ℕ, suc, Option, None, Some, option_map, List, [], ◌∷◌, ◌++◌, map, refl, sym, ap}
use Rattle.std.proofs.lemmas.List.{map-append}
use Rattle.ir_sizes.specs.Named.{struct_in}
use Rattle.ir_sizes.specs.Sized.{fields_by, more_of, named_by, replaced, type_by}
use Rattle.ir_syntax.specs.Types as text
use Rattle.ir_syntax.specs.Types.{TextTree, TextTrees}
use Rattle.ir_syntax.specs.declared.type_def.TypeDef.{TypeDef}
use Rattle.ty_core.specs.Tree.{Tree, Trees, end, more, tree_of, trees_of, types_in}
use Rattle.ty_core.specs.declared.types.Ty.{Ty}
use Rattle.ty_core.specs.declared.types.TyList.{TyList}
use Rattle.ty_core.specs.declared.types.TyList.TheVariants.{End, More'}

-- a name stands for a struct
pub stands_for_struct : (inner : TextTree → Option Tree) (body : Option TextTree) → named_by inner (struct_in body) ≡ named_by inner body
stands_for_struct inner None = refl
stands_for_struct inner (Some (text.int bits)) = refl
stands_for_struct inner (Some text.ptr) = refl
stands_for_struct inner (Some (text.array len elem)) = refl
stands_for_struct inner (Some (text.struct packed fields)) = refl
stands_for_struct inner (Some (text.named place)) = refl

-- fields with these types before them
abbrev pub fields_behind : List Tree → Trees → Trees
fields_behind [] fields = fields
fields_behind (head ∷ heads) fields = more head (fields_behind heads fields)

behind-one : (heads : List Tree) (head : Tree) (fields : Trees) → fields_behind (heads ++ head ∷ []) fields ≡ fields_behind heads (more head fields)
behind-one [] head fields = refl
behind-one (h ∷ heads) head fields = ap (more h) (behind-one heads head fields)

more-behind : (heads : List Tree) (head : Tree) (fields : Option Trees) →
    option_map (fields_behind (heads ++ head ∷ [])) fields ≡ option_map (fields_behind heads) (more_of (Some head) fields)
more-behind heads head None = refl
more-behind heads head (Some fields) = ap (λ f. Some f) (behind-one heads head fields)

-- one more type is made of those of the fields
pub one_more : (inner : TextTree → Option Tree) (made : List Ty) (ty : Ty) (head : TextTree) (tail : TextTrees) (all : Option Trees) →
    Some (tree_of ty) ≡ inner head → option_map (fields_behind (map tree_of made)) (fields_by inner (text.more head tail)) ≡ all →
    option_map (fields_behind (map tree_of (made ++ ty ∷ []))) (fields_by inner tail) ≡ all
one_more inner made ty head tail all is so_far =
    ap (λ heads. option_map (fields_behind heads) (fields_by inner tail)) (map-append tree_of made (ty ∷ []))
    ∙ more-behind (map tree_of made) (tree_of ty) (fields_by inner tail)
    ∙ ap (λ field. option_map (fields_behind (map tree_of made)) (more_of field (fields_by inner tail))) is
    ∙ so_far

fields-list : (list : TyList) → fields_behind (map tree_of (types_in list)) end ≡ trees_of list
fields-list End = refl
fields-list (More' p head q tail) = ap (more (tree_of head)) (fields-list tail)

-- a list of all types that are made
pub all_made : (list : TyList) (made : List Ty) → types_in list ≡ made → trees_of list ≡ fields_behind (map tree_of made) end
all_made list made is = sym (fields-list list) ∙ ap (λ types. fields_behind (map tree_of types) end) is

-- one level more than those of the parts
pub one_above : (defs : List TypeDef) (levels below : ℕ) (ty : TextTree) → levels ≡ suc below → type_by defs (replaced defs below) ty ≡ replaced defs levels ty
unfolding replaced
one_above defs levels below ty is = ap (λ n. replaced defs n ty) (sym is)
