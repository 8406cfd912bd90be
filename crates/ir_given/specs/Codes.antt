-- Names as trees of numbers.
use Rattle.std.proofs.Common.{◌∙◌, sym, ap}
use base.Stored.{Coded}
use Rattle.ir_ident.specs.Codes.{name_back, name_back_code, name_code}
use Rattle.ir_ident.specs.declared.name.Name.{Name}

abbrev pub coded_name : Coded Name
coded_name = record { code = name_code; inj = λ x y p. sym (name_back_code x) ∙ ap name_back p ∙ name_back_code y }
