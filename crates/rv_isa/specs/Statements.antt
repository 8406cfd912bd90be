-- How the statements of assembly are spelled.
use Rattle.std.specs.Prelude.{ℕ, List, [], ◌∷◌, ◌++◌, codes}
use Rattle.rv_isa.specs.Symbol.{spelled}
use Rattle.rv_isa.specs.Text.{instruction_line, line_to, spelled_line}
use Rattle.rv_isa.specs.declared.statement.Statement.{Statement}
use Rattle.rv_isa.specs.declared.statement.Statement.TheVariants.{Text, Global, Align, Define, Code, Unimp, Label, ToLabel}

-- the line of a statement, without its line feed
abbrev pub statement_line : Statement → List ℕ
statement_line Text = spelled_line (codes ".text") []
statement_line (Global name) = spelled_line (codes ".globl") (spelled name ∷ [])
statement_line Align = spelled_line (codes ".p2align") (codes "2" ∷ [])
statement_line (Define name) = spelled name ++ 58 ∷ []
statement_line (Code inst) = instruction_line inst
statement_line Unimp = spelled_line (codes "unimp") []
statement_line (Label name) = name ++ 58 ∷ []
statement_line (ToLabel inst name) = line_to inst name
