-- The items of a text, what the lines of the text say, and the object that it assembles to.
use Rattle.std.specs.Prelude.{◌+◌, ◌*◌, ℕ, pos, Bool, true, false, List, [], ◌∷◌, ◌++◌, All, length, map}
use Rattle.std.specs.List.{IsDistinct, flat_map}
use Rattle.std.specs.Str.{bytes_eq}
use Rattle.rv_isa.specs.Lines.{text_of_lines}
use Rattle.rv_isa.specs.Statements.{statement_line}
use Rattle.rv_isa.specs.Symbol.{IsSymbol}
use Rattle.rv_isa.specs.declared.inst.Inst.{Inst}
use Rattle.rv_isa.specs.declared.inst.Line.TheVariants.{Plain}
use Rattle.rv_isa.specs.declared.statement.Statement.{Statement}
use Rattle.rv_isa.specs.declared.statement.Statement.TheVariants.{Text, Global, Align, Define, Code}
use Rattle.asm_inst.specs.Grammar.{IsRead}
use Rattle.asm_read.specs.declared.object.Object.{Object}
use Rattle.asm_read.specs.declared.object.ObjectSymbol.{ObjectSymbol}
use Rattle.asm_read.specs.declared.object.Section as section

-- a symbol of the text section, whether other objects see it, and its code
pub record Item : Type 0 where
  pub name : List ℕ
  pub exported : Bool
  pub code : List Inst

-- the statement that exports a name, where it is exported
abbrev pub export_of : Bool → List ℕ → List Statement
export_of true name = Global name ∷ []
export_of false name = []

-- what the lines of an item say
abbrev pub item_statements : Item → List Statement
item_statements item =
    Text ∷ (export_of item.exported item.name ++ Align ∷ Define item.name ∷ map (λ inst. Code inst) item.code)

abbrev pub statements_of : List Item → List Statement
statements_of items = flat_map item_statements items

-- the text of statements, and that of items
abbrev pub statements_text : List Statement → List ℕ
statements_text statements = text_of_lines (map statement_line statements)

abbrev pub items_text : List Item → List ℕ
items_text items = statements_text (statements_of items)

-- the code of items, one after the other
abbrev pub items_code : List Item → List Inst
items_code items = flat_map (λ item. item.code) items

-- the symbols of items, the first of which begins after so many instructions
abbrev pub symbols_from : ℕ → List Item → List ObjectSymbol
symbols_from before [] = []
symbols_from before (item ∷ items) =
    record { name = item.name; global = item.exported; section = section.TheVariants.Text; offset = pos (4 * before) }
    ∷ symbols_from (before + length item.code) items

-- the object of items: their code, a symbol for each, and nothing needed from elsewhere
abbrev pub object_of : List Item → Object
object_of items = record {
  words = map (λ inst. Plain inst) (items_code items);
  symbols = symbols_from 0 items;
  needs = [];
}

-- an item whose name is a symbol's, and whose code the assembler reads
pub record IsItem (item : Item) : Type 0 where
  pub symbol : IsSymbol item.name
  pub read : All IsRead item.code

-- items of names that differ
pub record AreItems (items : List Item) : Type 0 where
  pub formed : All IsItem items
  pub differ : IsDistinct bytes_eq (map (λ item. item.name) items)
