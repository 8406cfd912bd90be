-- Types without names stand for the same trees, whatever is defined.
use Rattle.std.proofs.Common.{◌≡◌, ◌∙◌, ℕ, zero, suc, Bool, true, false, Option, None, Some, option_map, List, [], ◌∷◌, map, if◌then◌else◌, refl, sym, ap}
use Rattle.std.specs.Prelude.{IfSome}
use Rattle.std.specs.List.{cons_option}
use Rattle.ir_plan.specs.Planned.{planned}
use Rattle.ir_sizes.specs.Sized.{body_of, fields_by, is_small, level_limit, more_of, named_by, replaced, scalar, sized_tree, small_tree, type_by}
use Rattle.ir_syntax.specs.Types as text
use Rattle.ir_syntax.specs.Types.{TextTree, TextTrees}
use Rattle.ir_syntax.specs.declared.type_def.TypeDef.{TypeDef}
use Rattle.ir_unname.specs.Plain.{text_of, texts_of}
use Rattle.ir_unname.specs.Unnamed.{text_or, without_names}
use Rattle.ty_core.specs.Tree.{Tree, array, struct, Trees}

-- a tree, where there is one, is that of its own text
abbrev IsWritten : (TextTree → Option Tree) → Option Tree → Type 0
IsWritten again tree = IfSome tree (λ t. again (text_of t) ≡ Some t)

abbrev AreWritten : (TextTree → Option Tree) → Option Trees → Type 0
AreWritten again fields = IfSome fields (λ ts. fields_by again (texts_of ts) ≡ Some ts)

written-more : (again : TextTree → Option Tree) (head : Option Tree) (tail : Option Trees) → IsWritten again head → AreWritten again tail →
    AreWritten again (more_of head tail)
written-more again None tail is are = tt
written-more again (Some head) None is are = tt
written-more again (Some head) (Some tail) is are = λ k. more_of (is k) (are k)

written-fields : (inner again : TextTree → Option Tree) → ((ty : TextTree) → IsWritten again (inner ty)) → (fields : TextTrees) → AreWritten again (fields_by inner fields)
written-fields inner again is text.end = refl
written-fields inner again is (text.more head tail) = written-more again (inner head) (fields_by inner tail) (is head) (written-fields inner again is tail)

written-array : (again : TextTree → Option Tree) (len : ℕ) (elem : Option Tree) → IsWritten again elem → IsWritten (type_by [] again) (option_map (array len) elem)
written-array again len None is = tt
written-array again len (Some elem) is = ap (option_map (array len)) is

written-struct : (again : TextTree → Option Tree) (packed : Bool) (fields : Option Trees) → AreWritten again fields →
    IsWritten (type_by [] again) (option_map (struct packed) fields)
written-struct again packed None are = tt
written-struct again packed (Some fields) are = ap (option_map (struct packed)) are

written-named : (inner again : TextTree → Option Tree) → ((ty : TextTree) → IsWritten again (inner ty)) → (body : Option TextTree) →
    IsWritten (type_by [] again) (named_by inner body)
written-named inner again is None = tt
written-named inner again is (Some (text.int bits)) = tt
written-named inner again is (Some text.ptr) = tt
written-named inner again is (Some (text.array len elem)) = tt
written-named inner again is (Some (text.struct packed fields)) = written-struct again packed (fields_by inner fields) (written-fields inner again is fields)
written-named inner again is (Some (text.named place)) = tt

written-type : (defs : List TypeDef) (inner again : TextTree → Option Tree) → ((ty : TextTree) → IsWritten again (inner ty)) → (ty : TextTree) →
    IsWritten (type_by [] again) (type_by defs inner ty)
written-type defs inner again is (text.int bits) = refl
written-type defs inner again is text.ptr = refl
written-type defs inner again is (text.array len elem) = written-array again len (inner elem) (is elem)
written-type defs inner again is (text.struct packed fields) = written-struct again packed (fields_by inner fields) (written-fields inner again is fields)
written-type defs inner again is (text.named place) = written-named inner again is (body_of defs place.name)

written-scalar : (ty : TextTree) → IsWritten scalar (scalar ty)
written-scalar (text.int bits) = refl
written-scalar text.ptr = refl
written-scalar (text.array len elem) = tt
written-scalar (text.struct packed fields) = tt
written-scalar (text.named place) = tt

-- the text of a tree that a type stands for stands for it where nothing is defined
written-replaced : (defs : List TypeDef) (levels : ℕ) (ty : TextTree) → IsWritten (replaced [] levels) (replaced defs levels ty)
unfolding replaced
written-replaced defs zero ty = written-scalar ty
written-replaced defs (suc levels) ty = written-type defs (replaced defs levels) (replaced [] levels) (written-replaced defs levels) ty

-- what stands for something where nothing is defined stands for it whatever is defined
abbrev IsSame : {A : Type 0} → Option A → Option A → Type 0
IsSame x y = IfSome x (λ t. y ≡ Some t)

same-map : {A B : Type 0} (f : A → B) (x y : Option A) → IsSame x y → IsSame (option_map f x) (option_map f y)
same-map f None y is = tt
same-map f (Some x) y is = ap (option_map f) is

same-more : (head head' : Option Tree) (tail tail' : Option Trees) → IsSame head head' → IsSame tail tail' → IsSame (more_of head tail) (more_of head' tail')
same-more None head' tail tail' is are = tt
same-more (Some head) head' None tail' is are = tt
same-more (Some head) head' (Some tail) tail' is are = λ k. more_of (is k) (are k)

same-fields : (inner again : TextTree → Option Tree) → ((ty : TextTree) → IsSame (again ty) (inner ty)) → (fields : TextTrees) →
    IsSame (fields_by again fields) (fields_by inner fields)
same-fields inner again is text.end = refl
same-fields inner again is (text.more head tail) =
    same-more (again head) (inner head) (fields_by again tail) (fields_by inner tail) (is head) (same-fields inner again is tail)

same-type : (defs : List TypeDef) (inner again : TextTree → Option Tree) → ((ty : TextTree) → IsSame (again ty) (inner ty)) → (ty : TextTree) →
    IsSame (type_by [] again ty) (type_by defs inner ty)
same-type defs inner again is (text.int bits) = refl
same-type defs inner again is text.ptr = refl
same-type defs inner again is (text.array len elem) = same-map (array len) (again elem) (inner elem) (is elem)
same-type defs inner again is (text.struct packed fields) = same-map (struct packed) (fields_by again fields) (fields_by inner fields) (same-fields inner again is fields)
same-type defs inner again is (text.named place) = tt

same-scalar : (ty : TextTree) → IsSame (scalar ty) (scalar ty)
same-scalar (text.int bits) = refl
same-scalar text.ptr = refl
same-scalar (text.array len elem) = tt
same-scalar (text.struct packed fields) = tt
same-scalar (text.named place) = tt

same-replaced : (defs : List TypeDef) (levels : ℕ) (ty : TextTree) → IsSame (replaced [] levels ty) (replaced defs levels ty)
unfolding replaced
same-replaced defs zero ty = same-scalar ty
same-replaced defs (suc levels) ty = same-type defs (replaced defs levels) (replaced [] levels) (same-replaced defs levels) ty

-- so it has no size where nothing is defined if it has none
none_sized : (x y : Option Tree) → IsSame x y → small_tree y ≡ None → small_tree x ≡ None
none_sized None y is none = refl
none_sized (Some x) y is none = ap small_tree (sym is) ∙ none

-- a type without names has the same size
same-sized : (ty : TextTree) (tree : Option Tree) → IsWritten (replaced [] level_limit) tree → IsSame (replaced [] level_limit ty) tree →
    sized_tree [] (text_or ty (small_tree tree)) ≡ small_tree tree
same-sized ty None written same = none_sized (replaced [] level_limit ty) None same refl
same-sized ty (Some tree) written same = by (is_small (Some tree)) refl
  where
    by : (small : Bool) → is_small (Some tree) ≡ small →
        sized_tree [] (text_or ty (if small then Some tree else None)) ≡ (if small then Some tree else None)
    by true small = ap small_tree written ∙ ap (λ s. if s then Some tree else None) small
    by false small = none_sized (replaced [] level_limit ty) (Some tree) same (ap (λ s. if s then Some tree else None) small)

pub sized_tree-without_names : (defs : List TypeDef) (ty : TextTree) → sized_tree [] (without_names defs ty) ≡ sized_tree defs ty
sized_tree-without_names defs ty = same-sized ty (replaced defs level_limit ty) (written-replaced defs level_limit ty) (same-replaced defs level_limit ty)

pub planned-without_names : (defs : List TypeDef) (types : List TextTree) → planned [] (map (without_names defs) types) ≡ planned defs types
planned-without_names defs [] = refl
planned-without_names defs (ty ∷ types) = λ k. cons_option (sized_tree-without_names defs ty k) (planned-without_names defs types k)
