-- Operands as trees of numbers: so two of them can be told apart.
use Rattle.std.proofs.Common.{◌∙◌, sym, ap}
use base.Stored.{Coded}
use Rattle.ir_syntax.specs.InitCodes.{operand_back, operand_back_code, operand_code}
use Rattle.ir_syntax.specs.declared.operand.Operand.{Operand}

abbrev pub coded_operand : Coded Operand
coded_operand = record { code = operand_code; inj = λ x y p. sym (operand_back_code x) ∙ ap operand_back p ∙ operand_back_code y }
