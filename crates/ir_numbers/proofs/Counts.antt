-- How many unnamed items there are.
use Rattle.std.proofs.Common.{◌≡◌, ◌∙◌, ℕ, ◌+◌, List, [], ◌∷◌, ◌++◌, length, filter, refl, ap, if◌then◌else◌}
use Rattle.std.proofs.lemmas.List.{length-append}
use Rattle.std.proofs.lemmas.List.Elements.{filter-append}
use Rattle.ir_entities.specs.declared.site.NameKind.TheVariants.{Block}
use Rattle.ir_numbers.specs.Unnamed.{is_number, is_unnamed, unnamed_in}
use Rattle.ir_entities.specs.Items.{value_at}
use Rattle.ir_entities.specs.Sites.{Site}
use Rattle.ir_ident.specs.declared.name.Name.{Name}
use Rattle.ir_ident.specs.declared.name.Name.TheVariants.{Named, Unnamed, Implicit}

pub unnamed_append : (xs ys : List Site) → unnamed_in (xs ++ ys) ≡ unnamed_in xs + unnamed_in ys
unnamed_append xs ys = ap (λ sites. length sites) (filter-append is_unnamed xs ys) ∙ length-append (filter is_unnamed xs) (filter is_unnamed ys)

pub one_value : (line : ℕ) (name : Name) → unnamed_in (value_at line name ∷ []) ≡ (if is_number name then 1 else 0)
one_value line (Named bytes) = refl
one_value line (Unnamed n) = refl
one_value line Implicit = refl

pub one_label : (line : ℕ) (name : Name) → unnamed_in ((Block, record { line = line; name = name }) ∷ []) ≡ (if is_number name then 1 else 0)
one_label line (Named bytes) = refl
one_label line (Unnamed n) = refl
one_label line Implicit = refl
