-- Which statements are read, and what each of them does.
use Rattle.std.specs.Prelude.{◌≡◌, ℕ, Bool, true, false, Option, Some, None, List, [], ◌∷◌}
use Rattle.rv_isa.specs.Statements.{statement_line}
use Rattle.rv_isa.specs.Symbol.{IsLabel, IsSymbol}
use Rattle.rv_isa.specs.declared.inst.Line.{Line}
use Rattle.rv_isa.specs.declared.inst.Line.TheVariants.{Plain, Unimp as UnimpLine}
use Rattle.rv_isa.specs.declared.statement.Statement.{Statement}
use Rattle.rv_isa.specs.declared.statement.Statement.TheVariants.{Text, Global, Align, Define, Code, Unimp, Label, ToLabel}
use Rattle.asm_inst.specs.Grammar.{IsRead}
use Rattle.asm_inst.specs.Targets.{IsOpen, target}
use Rattle.asm_inst.specs.declared.target.Target as targets

-- the grammar of statements
abbrev pub IsStatement : Statement → Type 0
IsStatement Text = Unit {0}
IsStatement (Global name) = IsSymbol name
IsStatement Align = Unit {0}
IsStatement (Define name) = IsSymbol name
IsStatement (Code inst) = IsRead inst
IsStatement Unimp = Unit {0}
IsStatement (Label name) = IsLabel name
IsStatement (ToLabel inst name) = IsOpen inst × (target inst.op ≡ Some targets.TheVariants.Label) × IsLabel name

-- the line is of the grammar, and says the statement
abbrev pub Says : List ℕ → Statement → Type 0
Says line statement = IsStatement statement × (line ≡ statement_line statement)

-- What a statement does.

-- the name that it defines
abbrev pub defined : Statement → Option (List ℕ)
defined (Define name) = Some name
defined other = None

-- the name that it exports, so that other objects see the symbol
abbrev pub exported : Statement → Option (List ℕ)
exported (Global name) = Some name
exported other = None

-- whether it begins a section
abbrev pub opens : Statement → Bool
opens Text = true
opens other = false

-- the label that it puts at its place
abbrev pub labelled : Statement → Option (List ℕ)
labelled (Label name) = Some name
labelled other = None

-- the symbol or the label that it names
abbrev pub named : Statement → Option (List ℕ)
named (Define name) = Some name
named (Label name) = Some name
named other = None

-- the symbol or the label that some line of its text must name
abbrev pub wanted : Statement → Option (List ℕ)
wanted (Global name) = Some name
wanted (ToLabel inst name) = Some name
wanted other = None

-- the code that it puts into its section, branches and jumps to labels without their distance
abbrev pub code : Statement → List Line
code (Code inst) = Plain inst ∷ []
code Unimp = UnimpLine ∷ []
code (ToLabel inst name) = Plain inst ∷ []
code other = []
