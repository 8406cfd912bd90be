-- Places where names stand.
use Rattle.std.proofs.Common.{◌≡◌, ◌∙◌, ℕ, zero, suc, refl, sym, ap}
use base.Stored.{Gv, gnum, gcons, Coded}
use Rattle.ir_entities.specs.declared.site.NameKind.{NameKind}
use Rattle.ir_entities.specs.declared.site.NameKind.TheVariants.{NamedType, Global, Value, Block}
use Rattle.ir_ident.specs.declared.name.NameUse.{NameUse}
use Rattle.ir_ident.specs.Codes.{first, second, number_back, use_code, use_back, use_back_code}

-- a name at a line, of a kind
abbrev pub Site : Type 0
Site = NameKind × NameUse

-- sites as trees of numbers, and back
abbrev pub kind_code : NameKind → ℕ
kind_code NamedType = 0
kind_code Global = 1
kind_code Value = 2
kind_code Block = 3

abbrev pub kind_back : ℕ → NameKind
kind_back zero = NamedType
kind_back (suc zero) = Global
kind_back (suc (suc zero)) = Value
kind_back (suc (suc (suc n))) = Block

abbrev pub kind_back_code : (kind : NameKind) → kind_back (kind_code kind) ≡ kind
kind_back_code NamedType = refl
kind_back_code Global = refl
kind_back_code Value = refl
kind_back_code Block = refl

abbrev pub to_code : Site → Gv
to_code s = gcons (gnum (kind_code s.0)) (use_code s.1)

abbrev pub from_code : Gv → Site
from_code g = (kind_back (number_back (first g)), use_back (second g))

abbrev pub site_back_code : (s : Site) → from_code (to_code s) ≡ s
site_back_code s = λ i. (kind_back_code s.0 i, use_back_code s.1 i)

abbrev pub site_code : Coded Site
site_code = record { code = to_code; inj = λ x y p. sym (site_back_code x) ∙ ap from_code p ∙ site_back_code y }
