-- Sets of names after one more.
use Rattle.std.proofs.Common.{◌≡◌, ◌∙◌, ◌+◌, ℕ, false, ◌||◌, ◌<◌, ◌≤◌, zero, suc, length, take, get_or, List, [], ◌∷◌, refl, sym, ap, arith}
use Rattle.std.proofs.lemmas.List.Folds.{list_any_more}
use Rattle.ir_names.specs.Faults.{is_defined, same_site}
use Rattle.ir_names.specs.Sets.{names_of}
use Rattle.ir_entities.specs.declared.site.NameKind.{NameKind}
use Rattle.ir_entities.specs.declared.site.NameKind.TheVariants.{NamedType, Global, Value, Block}
use Rattle.ir_ident.specs.NameMaps.{has_name}
use Rattle.ir_ident.specs.declared.name.Name.{Name}
use Rattle.ir_ident.specs.declared.names.NameSet.{NameSet}
use Rattle.ir_entities.specs.Sites.{Site}

pub take_whole : {A : Type 0} (xs : List A) (i : ℕ) → length xs ≤ i → take i xs ≡ xs
take_whole [] zero h = refl
take_whole [] (suc i) h = refl
take_whole (x ∷ xs) zero h = absurd (omega (arith, h))
take_whole (x ∷ xs) (suc i) h = ap (λ ys. x ∷ ys) (take_whole xs i (omega (arith, h)))

-- one more site
pub defined_more : (sites : List Site) (i : ℕ) (x s : Site) → i < length sites → x ≡ get_or sites i x →
    (is_defined (take i sites) s || same_site s x) ≡ is_defined (take (i + 1) sites) s
defined_more sites i x s inside is =
    ap (λ y. is_defined (take i sites) s || same_site s y) is ∙ sym (list_any_more (same_site s) sites i x inside)

-- empty sets of each kind have no name
pub knows_none : (types globals values blocks : NameSet) → ((name : Name) → has_name types name ≡ false) → ((name : Name) → has_name globals name ≡ false) →
    ((name : Name) → has_name values name ≡ false) → ((name : Name) → has_name blocks name ≡ false) →
    (kind : NameKind) (name : Name) → has_name (names_of (record { types = types; globals = globals; values = values; blocks = blocks }) kind) name ≡ false
knows_none types globals values blocks a b c d NamedType name = a name
knows_none types globals values blocks a b c d Global name = b name
knows_none types globals values blocks a b c d Value name = c name
knows_none types globals values blocks a b c d Block name = d name
