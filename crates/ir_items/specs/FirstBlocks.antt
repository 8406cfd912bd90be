-- The first block of a function, the one that may allocate (LangRef, "alloca Instruction").
use Rattle.std.specs.Prelude.{◌≡◌, ℕ, ◌-◌, Bool, true, false, Option, List, ◌++◌, drop, length, take, Ok, Err}
use Rattle.ir_syntax.specs.declared.block.Block.{Block}
use Rattle.ir_words.specs.Classes.{first}
use Rattle.ir_words.specs.Lexemes.{Lexeme}
use Rattle.ir_words.specs.declared.class.Class.TheVariants.{Alloca}
use Rattle.ir_rules.specs.Reading.{Begins, read_all}
use Rattle.ir_rules.specs.Rules.{Answer, each}
use Rattle.ir_body.specs.Blocks.{blocks}
use Rattle.ir_items.specs.Entities.{entities, modules}
use Rattle.ir_functions.specs.Functions.{OpeningParts, openings}
use Rattle.ir_entities.specs.declared.entity.Entity.{Entity}

-- The tokens end inside a first block: behind whole items and the header of a definition up to its `{`
-- they go on as a first block begins, and are no whole one yet.
pub record IsInFirstBlock (ts : List Lexeme) : Type 0 where
  pub items : List Lexeme
  pub header : List Lexeme
  pub block : List Lexeme
  pub parts : ts ≡ items ++ (header ++ block)
  pub whole : (found : List (Option Entity)) × (each entities).text items found
  pub opened : (z : OpeningParts) × openings.text header z
  pub begun : Begins (blocks true) block
  pub unended : (b : Block) → (blocks true).text block b → ⊥

abbrev pub is_bad : {A : Type 0} → Answer A → Bool
is_bad (Ok p) = false
is_bad (Err left) = true

-- whether behind the header of a definition, if that is read, no first block is
abbrev pub stops_behind : Answer OpeningParts → Bool
stops_behind (Ok p) = is_bad ((blocks true).read p.1)
stops_behind (Err left) = false

-- the same, of the tokens from that header on
abbrev pub stops_in_block : List Lexeme → Bool
stops_in_block ts = stops_behind (openings.read ts)

-- whether something holds
abbrev pub Tells : Bool → Type 0 → Type 0
Tells true P = P
Tells false P = P → ⊥

-- whether the first bad token, if it is `alloca`, stands in a first block
abbrev pub TellsFirstBlock : List Lexeme → Bool → Type 0
TellsFirstBlock ts inside =
    (left : ℕ) → read_all modules ts ≡ Err left → first (drop (length ts - left) ts) ≡ Alloca → Tells inside (IsInFirstBlock (take (length ts - left) ts))
