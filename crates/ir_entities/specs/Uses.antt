-- The names that types use.
use Rattle.std.specs.Prelude.{List, [], ◌∷◌, ◌++◌, Option, None, Some}
use Rattle.ir_entities.specs.declared.site.NameKind.TheVariants.{NamedType}
use Rattle.ir_entities.specs.Sites.{Site}
use Rattle.ir_syntax.specs.Types.{TextTree, int, ptr, array, struct, named, TextTrees, end, more}

abbrev mutual
  pub type_uses : TextTree → List Site
  type_uses (int bits) = []
  type_uses ptr = []
  type_uses (array len elem) = type_uses elem
  type_uses (struct packed fields) = field_uses fields
  type_uses (named name) = (NamedType, name) ∷ []

  pub field_uses : TextTrees → List Site
  field_uses end = []
  field_uses (more head tail) = type_uses head ++ field_uses tail

-- those of a part that may be left out
abbrev pub maybe_uses : {A : Type 0} → (A → List Site) → Option A → List Site
maybe_uses uses None = []
maybe_uses uses (Some x) = uses x
