-- What is answered for a text: its items, or why it is refused.
use Rattle.std.specs.Prelude.{◌≡◌, ℕ, ◌-◌, ◌==◌, ◌⊎◌, Bool, true, false, List, drop, fold, length, take, Ok, Err, if◌then◌else◌}
use Rattle.std.specs.declared.result.Result.{Result}
use Rattle.ir_lex.specs.Splitting.{tokens_of}
use Rattle.ir_lex.specs.declared.kind.Token.{Token}
use Rattle.ir_syntax.specs.declared.refusal.Refusal.{Refusal}
use Rattle.ir_syntax.specs.declared.refusal.Refusal.TheVariants.{Form, Lex, NoMemory, Unsupported}
use Rattle.ir_words.specs.Classes.{first, head_line, head_text, is_unsupported}
use Rattle.ir_words.specs.Lexemes.{Lexeme, lexemes}
use Rattle.ir_words.specs.declared.class.Class.{Class}
use Rattle.ir_words.specs.declared.class.Class.TheVariants.{Alloca}
use Rattle.ir_rules.specs.Reading.{IsFirstBad}
use Rattle.ir_items.specs.Entities.{modules}
use Rattle.ir_items.specs.FirstBlocks.{IsInFirstBlock}
use Rattle.ir_entities.specs.declared.entity.Entity.{Entity}

-- the line of the last token, or 1 where there is none
abbrev pub last_line : List Lexeme → ℕ
last_line ts = fold (λ (line : ℕ) (t : Lexeme). t.line) 1 ts

-- The refusal for the first of these tokens, a word that is left out or another one; where none is
-- left, for the end of the text, on a last line.
abbrev pub refused : ℕ → List Lexeme → Refusal
refused line ts =
    if is_unsupported (first ts) then Unsupported (head_line ts) (head_text ts)
    else Form (if length ts == 0 then line else head_line ts)

-- the refusal for `alloca` as the first of these tokens: in a first block, where it may stand at other
-- places, or anywhere else, where it is left out
abbrev pub refused_alloca : Bool → List Lexeme → Refusal
refused_alloca true ts = Form (head_line ts)
refused_alloca false ts = Unsupported (head_line ts) (head_text ts)

-- the refusal for `alloca` as the first bad token, behind these tokens
abbrev pub IsAllocaRefusal : List Lexeme → List Lexeme → Refusal → Type 0
IsAllocaRefusal before bad e =
    (IsInFirstBlock before × (e ≡ refused_alloca true bad)) ⊎ ((IsInFirstBlock before → ⊥) × (e ≡ refused_alloca false bad))

-- the refusal for a first bad token of this class, the first of those behind others; on a last line
abbrev pub Refuses : Class → ℕ → List Lexeme → List Lexeme → Refusal → Type 0
Refuses Alloca line before bad e = IsAllocaRefusal before bad e
Refuses class line before bad e = e ≡ refused line bad

-- the refusal for the first bad token, at a place among all tokens
abbrev pub IsRefusedAt : List Lexeme → ℕ → Refusal → Type 0
IsRefusedAt ts at e = Refuses (first (drop at ts)) (last_line ts) (take at ts) (drop at ts) e

-- what is answered is what is read, unless memory ran out; how many tokens are left tells the first bad one
abbrev pub Settles : List Lexeme → Result (List Entity) ℕ → Result (List Entity) Refusal → Type 0
Settles ts read (Ok found) = read ≡ Ok found
Settles ts read (Err e) = (e ≡ NoMemory) ⊎ ((left : ℕ) × (read ≡ Err left) × IsRefusedAt ts (length ts - left) e)

-- a text that is a module of these items
abbrev pub IsModule : List ℕ → List Entity → Type 0
IsModule bytes found = (tokens : List Token) × (tokens_of bytes ≡ Ok tokens) × modules.text (lexemes bytes tokens) found

-- a text of which some place begins no token, on this line
abbrev pub IsLexRefusal : List ℕ → Refusal → Type 0
IsLexRefusal bytes e = (line : ℕ) × (tokens_of bytes ≡ Err line) × (e ≡ Lex line)

-- a text of tokens that are no module, up to the first bad one
abbrev pub IsTokenRefusal : List ℕ → Refusal → Type 0
IsTokenRefusal bytes e =
    (tokens : List Token) × (at : ℕ) × (tokens_of bytes ≡ Ok tokens) × IsFirstBad modules (lexemes bytes tokens) at × IsRefusedAt (lexemes bytes tokens) at e

-- why a text is no module of the grammar
abbrev pub IsRefusal : List ℕ → Refusal → Type 0
IsRefusal bytes e = IsLexRefusal bytes e ⊎ IsTokenRefusal bytes e

-- a refusal for this reason, or memory ran out
abbrev pub OrNoMemory : (Refusal → Type 0) → Refusal → Type 0
OrNoMemory Reason e = (e ≡ NoMemory) ⊎ Reason e
