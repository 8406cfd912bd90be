-- The line of a terminator.
use Rattle.std.specs.Prelude.{ℕ}
use Rattle.ir_syntax.specs.declared.term.Term.{Term}
use Rattle.ir_syntax.specs.declared.term.Term.TheVariants.{ReturnVoid, Ret, Br, CondBr, Switch, Unreachable}

abbrev pub term_line : Term → ℕ
term_line (ReturnVoid line) = line
term_line (Ret line ty value) = line
term_line (Br line target) = line
term_line (CondBr line ty condition then_target else_target) = line
term_line (Switch line ty value default cases) = line
term_line (Unreachable line) = line
