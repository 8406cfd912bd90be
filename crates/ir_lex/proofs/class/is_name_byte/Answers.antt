use Rattle.std.proofs.Common.{arith, get_or, not, refl, ◌==◌}
use Rattle.std.proofs.lemmas.Bool.{agree_below_at}
use Rattle.ir_lex.specs.Characters.{is_name_byte}
use Rattle.ir_lex.specs.declared.class.TheConstants.{NAME_BYTES}
use Rattle.ir_lex.proofs.class.is_name_byte.Goals as goal

pub returns : goal.returns
returns c = agree_below_at (λ b. not (get_or NAME_BYTES b 0 == 44)) is_name_byte 256 c.args.byte refl (omega arith)
