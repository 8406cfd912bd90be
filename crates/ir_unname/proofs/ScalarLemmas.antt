-- In an integer or a pointer there is no name to replace.
use Rattle.std.proofs.Common.{◌≡◌, Bool, true, false, None, Some, List, if◌then◌else◌, refl}
use Rattle.std.proofs.lemmas.Bool.{false≢true}
use Rattle.ir_sizes.specs.Sized.{is_small, replaced}
use Rattle.ir_syntax.specs.Types.{TextTree, int, ptr, array, struct, named}
use Rattle.ir_syntax.specs.declared.type_def.TypeDef.{TypeDef}
use Rattle.ir_unname.specs.Plain.{is_scalar, text_of}
use Rattle.ir_unname.specs.Unnamed.{text_or, without_names}
use Rattle.ty_core.specs.Tree as plain
use Rattle.ty_core.specs.Tree.{Tree}

kept : (ty : TextTree) (tree : Tree) (small : Bool) → ty ≡ text_of tree → ty ≡ text_or ty (if small then Some tree else None)
kept ty tree true same = same
kept ty tree false same = refl

pub scalar_stays : (defs : List TypeDef) (ty : TextTree) → is_scalar ty ≡ true → ty ≡ without_names defs ty
unfolding replaced
scalar_stays defs (int bits) scalar = kept (int bits) (plain.int bits) (is_small (Some (plain.int bits))) refl
scalar_stays defs ptr scalar = kept ptr plain.ptr (is_small (Some plain.ptr)) refl
scalar_stays defs (array len elem) scalar = absurd (false≢true scalar)
scalar_stays defs (struct packed fields) scalar = absurd (false≢true scalar)
scalar_stays defs (named name) scalar = absurd (false≢true scalar)
