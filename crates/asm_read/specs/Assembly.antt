-- The texts that are assembled, their objects, and the line at which another text is refused.
use Rattle.std.specs.Prelude.{◌≡◌, ◌≢◌, ◌+◌, ◌*◌, ◌<◌, ◌||◌, ◌⊎◌, ℕ, pos, Bool, true, false, not, Option, Some, None, is_some, List, [], ◌∷◌, ◌++◌, length, take, map, slice_index_or}
use Rattle.std.specs.List.{All, Contains, list_any}
use Rattle.std.specs.Str.{bytes_eq}
use Rattle.rv_isa.specs.Lines.{pieces_of, text_of_lines}
use Rattle.rv_isa.specs.Statements.{statement_line}
use Rattle.rv_isa.specs.declared.inst.Inst.{Inst}
use Rattle.rv_isa.specs.declared.statement.Statement.{Statement}
use Rattle.rv_isa.specs.declared.statement.Statement.TheVariants.{Text, Global, Define, Label, ToLabel}
use Rattle.asm_line.specs.Statements.{IsStatement, Says, code, defined, exported, opens}
use Rattle.asm_read.specs.Labels.{is_far, is_some_and, words}
use Rattle.asm_read.specs.declared.object.Object.{Object}
use Rattle.asm_read.specs.declared.object.ObjectSymbol.{ObjectSymbol}
use Rattle.asm_read.specs.declared.object.Section as section
use Rattle.asm_read.specs.declared.refusal.AsmRefusal.{AsmRefusal}
use Rattle.asm_read.specs.declared.refusal.AsmRefusal.TheVariants.{Line as RefusedLine, NoMemory}

-- the text has these lines, and `last` after its last line feed
abbrev pub HasLines : List ℕ → List (List ℕ) → List ℕ → Type 0
HasLines text lines last = pieces_of text ≡ lines ++ last ∷ []

-- what must not stand before the first section line: all but that line, and those that export a name
abbrev pub needs_section : Statement → Bool
needs_section statement = not (opens statement || is_some (exported statement))

-- why a line is refused by itself, by all lines of its text and those before it
pub data IsBad (lines before : List (List ℕ)) (line : List ℕ) : Type 0 where
  -- it is outside the grammar
  outside : ((statement : Statement) → Says line statement → ⊥) → IsBad lines before line
  -- no section line is before it
  early : (statement : Statement) → Says line statement → needs_section statement ≡ true → ¬ (Contains before (statement_line Text)) → IsBad lines before line
  -- it defines a name for the second time
  again : (name : List ℕ) → Says line (Define name) → Contains before line → IsBad lines before line
  -- it is a label for the second time
  twice : (name : List ℕ) → Says line (Label name) → Contains before line → IsBad lines before line
  -- it exports a name that no line defines
  unknown : (name : List ℕ) → Says line (Global name) → ¬ (Contains lines (statement_line (Define name))) → IsBad lines before line
  -- it goes to a label that no line is
  nowhere : (inst : Inst) (name : List ℕ) → Says line (ToLabel inst name) → ¬ (Contains lines (statement_line (Label name))) → IsBad lines before line

-- Line k, counted from 0, is refused by itself. What stands after the last line feed is refused as a line.
abbrev pub IsBadLine : List (List ℕ) → List ℕ → ℕ → Type 0
IsBadLine lines last k =
    ((k < length lines) × IsBad lines (take k lines) (slice_index_or lines k [])) ⊎ ((k ≡ length lines) × (last ≢ []))

-- Line k is out of the reach of its label. This is judged within the statements before the first line that is refused by
-- itself, or within all.
pub record IsFarLine (lines : List (List ℕ)) (last : List ℕ) (k : ℕ) : Type 0 where
  pub statements : List Statement
  pub rest : List (List ℕ)
  pub are : lines ≡ map statement_line statements ++ rest
  pub allowed : All IsStatement statements
  pub fine : (j : ℕ) → j < length statements → IsBadLine lines last j → ⊥
  pub ends : (rest ≡ []) ⊎ IsBadLine lines last (length statements)
  pub far : is_far statements k ≡ true

abbrev pub IsRefusedLine : List (List ℕ) → List ℕ → ℕ → Type 0
IsRefusedLine lines last k = IsBadLine lines last k ⊎ IsFarLine lines last k

abbrev pub IsFirstBad : List (List ℕ) → List ℕ → ℕ → Type 0
IsFirstBad lines last k = IsRefusedLine lines last k × ((j : ℕ) → j < k → IsRefusedLine lines last j → ⊥)

-- the text says the statements, and no line is refused
pub record IsAssembly (text : List ℕ) (statements : List Statement) : Type 0 where
  pub spelled : text ≡ text_of_lines (map statement_line statements)
  pub allowed : All IsStatement statements
  pub no_bad_line : (k : ℕ) → IsRefusedLine (map statement_line statements) [] k → ⊥

-- the statement exports the name
abbrev pub exports : List ℕ → Statement → Bool
exports name statement = is_some_and (bytes_eq name) (exported statement)

-- The symbol of a name after so many instructions, each of which has four bytes; `global` says which names are
-- exported.
abbrev pub symbol_at : (List ℕ → Bool) → ℕ → Option (List ℕ) → List ObjectSymbol
symbol_at global before None = []
symbol_at global before (Some name) =
    record { name = name; global = global name; section = section.TheVariants.Text; offset = pos (4 * before) } ∷ []

-- the symbols that statements define after so many instructions, in their order
abbrev pub symbols_after : (List ℕ → Bool) → ℕ → List Statement → List ObjectSymbol
symbols_after global before [] = []
symbols_after global before (statement ∷ statements) =
    symbol_at global before (defined statement) ++ symbols_after global (before + length (code statement)) statements

-- what the statements assemble to
pub record IsObjectOf (statements : List Statement) (object : Object) : Type 0 where
  pub has_words : object.words ≡ words statements
  pub has_symbols : object.symbols ≡ symbols_after (λ name. list_any (exports name) statements) 0 statements
  pub has_no_needs : object.needs ≡ []

-- the text assembles to the object
abbrev pub Assembles : List ℕ → Object → Type 0
Assembles text object = (statements : List Statement) × IsAssembly text statements × IsObjectOf statements object

-- a refusal names the first line that is refused, counted from 1
abbrev pub IsRefusal : List ℕ → AsmRefusal → Type 0
IsRefusal text (RefusedLine line) =
    (lines : List (List ℕ)) × (last : List ℕ) × (k : ℕ) × HasLines text lines last × IsFirstBad lines last k × (line ≡ k + 1)
IsRefusal text NoMemory = Unit {0}

-- The statements are of the grammar, the section comes first, no name is defined twice, each name that is exported is
-- defined; no label stands twice, each that a branch or a jump goes to stands, and is in its reach.
pub record AreOrdered (statements : List Statement) : Type 0 where
  pub allowed : All IsStatement statements
  pub begins : (statements ≡ []) ⊎ ((rest : List Statement) × (statements ≡ Text ∷ rest))
  pub once : (before after : List Statement) (name : List ℕ) → statements ≡ before ++ Define name ∷ after → Contains before (Define name) → ⊥
  pub known : (name : List ℕ) → Contains statements (Global name) → Contains statements (Define name)
  pub alone : (before after : List Statement) (name : List ℕ) → statements ≡ before ++ Label name ∷ after → Contains before (Label name) → ⊥
  pub placed : (inst : Inst) (name : List ℕ) → Contains statements (ToLabel inst name) → Contains statements (Label name)
  pub near : (k : ℕ) → is_far statements k ≡ false
