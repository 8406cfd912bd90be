-- A text has an answer: its items are read again, up to a first block or behind all of them, where that decides it.
use Rattle.std.proofs.Common.{◌≡◌, ◌∙◌, ℕ, zero, suc, ◌-◌, ◌<◌, min, Bool, true, false, List, [], ◌∷◌, Option, Ok, Err, Some, None, length, drop, take, inl, inr, ap, refl, arith}
use Rattle.std.specs.declared.result.Result.{Result}
use Rattle.ir_lex.specs.Splitting.{tokens_of}
use Rattle.ir_lex.specs.declared.kind.Token.{Token}
use Rattle.ir_names.specs.Faults.{fault_lines}
use Rattle.ir_names.specs.Least.{earlier_of, least}
use Rattle.ir_numbers.specs.Modules.{module_of}
use Rattle.ir_numbers.specs.Numbered.{numbered_entities}
use Rattle.ir_entities.specs.declared.entity.Entity.{Entity}
use Rattle.ir_items.proofs.EntityLaws.{entities_law, modules_law}
use Rattle.ir_read.proofs.OneAnswer.{answer_once}
use Rattle.ir_items.proofs.Placing.{placed, placed_outside}
use Rattle.ir_items.proofs.Walks.{after_items, one_more}
use Rattle.ir_items.specs.Entities.{entities, entity_firsts, modules}
use Rattle.ir_items.specs.FirstBlocks.{IsInFirstBlock, Tells, TellsFirstBlock, stops_in_block}
use Rattle.ir_read.specs.Modules.{HasOneAnswer, IsAnswer}
use Rattle.ir_read.specs.Refusals.{IsAllocaRefusal, IsModule, IsRefusedAt, Refuses, last_line, refused, refused_alloca}
use Rattle.ir_rules.proofs.Whole.{read_all_reads, read_shorter}
use Rattle.ir_rules.specs.Reading.{Reads, read_all}
use Rattle.ir_rules.specs.Rules.{Answer, begins}
use Rattle.ir_syntax.specs.declared.module.Module.{Module}
use Rattle.ir_syntax.specs.declared.refusal.Refusal.{Refusal}
use Rattle.ir_syntax.specs.declared.refusal.Refusal.TheVariants.{Lex, Name}
use Rattle.ir_words.specs.Classes.{first}
use Rattle.ir_words.specs.Lexemes.{Lexeme, lexemes}
use Rattle.ir_words.specs.declared.class.Class.{Class}
use Rattle.ir_words.specs.declared.class.Class.TheVariants.{Alloca}

-- whether the first bad token, if it is `alloca`, stands in a first block
abbrev Decided : List Lexeme → Type 0
Decided all = (b : Bool) × TellsFirstBlock all b

-- the same, behind so many items
decide_from : (fuel : ℕ) (all rest : List Lexeme) (n : ℕ) → after_items entities n all ≡ Ok rest → length rest < fuel → Decided all
decide_from zero all rest n walk few = absurd (omega (arith, few))
decide_from (suc fuel) all rest n walk few =
    start (begins entity_firsts rest) refl
    (λ p is. decide_from fuel all p.1 (suc n) (one_more entities n all rest p walk is) (omega (arith, few, read_shorter entities entities_law refl rest p is)))
  where
    item : (o : Answer (Option Entity)) → entities.read rest ≡ o → ((p : Option Entity × List Lexeme) → entities.read rest ≡ Ok p → Decided all) → Decided all
    item (Ok p) is more = more p is
    item (Err left) is more = (stops_in_block rest, placed all rest n walk left is (stops_in_block rest) refl)

    start : (begun : Bool) → begins entity_firsts rest ≡ begun → ((p : Option Entity × List Lexeme) → entities.read rest ≡ Ok p → Decided all) → Decided all
    start true is more = item (entities.read rest) refl more
    start false is more = (false, placed_outside all rest n walk is)

decide : (all : List Lexeme) → Decided all
decide all = decide_from (suc (length all)) all all 0 refl (omega arith)

-- ---- the refusal for a bad token

alloca_refusal : (before bad : List Lexeme) (inside : Bool) → Tells inside (IsInFirstBlock before) → (e : Refusal) × IsAllocaRefusal before bad e
alloca_refusal before bad true tells = (refused_alloca true bad, inl (tells, refl))
alloca_refusal before bad false tells = (refused_alloca false bad, inr (tells, refl))

refusal_by : (class : Class) (line : ℕ) (before bad : List Lexeme) → (class ≡ Alloca → (e : Refusal) × IsAllocaRefusal before bad e) →
    (e : Refusal) × Refuses class line before bad e
refusal_by Alloca line before bad alloca = alloca refl
refusal_by class line before bad alloca = (refused line bad, refl)

refusal_at : (ts : List Lexeme) (left : ℕ) → read_all modules ts ≡ Err left → (e : Refusal) × IsRefusedAt ts (length ts - left) e
refusal_at ts left is =
    let decided : Decided ts = decide ts in
    refusal_by (first (drop (length ts - left) ts)) (last_line ts) (take (length ts - left) ts) (drop (length ts - left) ts)
    (λ alloca. alloca_refusal (take (length ts - left) ts) (drop (length ts - left) ts) decided.0 (decided.1 left is alloca))

-- ---- the module or the refusal for names

some_earlier : (line : ℕ) (later : Option ℕ) → (l : ℕ) × (earlier_of (Some line) later ≡ Some l)
some_earlier line None = (line, refl)
some_earlier line (Some other) = (min line other, refl)

named : (bytes : List ℕ) (found : List Entity) → IsModule bytes found → (answer : Result Module Refusal) × IsAnswer bytes answer
named bytes found whole = by_lines (fault_lines (numbered_entities found)) refl
  where
    by_lines : (lines : List ℕ) → fault_lines (numbered_entities found) ≡ lines → (answer : Result Module Refusal) × IsAnswer bytes answer
    by_lines [] is = (Ok (module_of (numbered_entities found)), (found, whole, record { faultless = is; is = refl }))
    by_lines (line ∷ lines) is =
        let first_line : (l : ℕ) × (least (line ∷ lines) ≡ Some l) = some_earlier line (least lines) in
        (Err (Name first_line.0), inr (found, whole, (first_line.0, ap least is ∙ first_line.1, refl)))

-- ---- the answer of a text

lexed : (bytes : List ℕ) (tokens : List Token) → tokens_of bytes ≡ Ok tokens → (read : Result (List Entity) ℕ) →
    read_all modules (lexemes bytes tokens) ≡ read → Reads modules (lexemes bytes tokens) read → (answer : Result Module Refusal) × IsAnswer bytes answer
lexed bytes tokens is (Ok found) read text = named bytes found (tokens, is, text)
lexed bytes tokens is (Err left) read bad =
    let ts : List Lexeme = lexemes bytes tokens in
    let refusal : (e : Refusal) × IsRefusedAt ts (length ts - left) e = refusal_at ts left read in
    (Err refusal.0, inl (inr (tokens, length ts - left, is, bad.1, refusal.1)))

some_answer : (bytes : List ℕ) → (answer : Result Module Refusal) × IsAnswer bytes answer
some_answer bytes = by_tokens (tokens_of bytes) refl
  where
    by_tokens : (read : Result (List Token) ℕ) → tokens_of bytes ≡ read → (answer : Result Module Refusal) × IsAnswer bytes answer
    by_tokens (Ok tokens) is = lexed bytes tokens is (read_all modules (lexemes bytes tokens)) refl (read_all_reads modules modules_law (lexemes bytes tokens))
    by_tokens (Err line) is = (Err (Lex line), inl (inl (line, is, refl)))

pub one_answer : (bytes : List ℕ) → HasOneAnswer bytes
one_answer bytes =
    let answer : (answer : Result Module Refusal) × IsAnswer bytes answer = some_answer bytes in
    record { answer = answer.0; is = answer.1; only = λ other is. answer_once bytes other answer.0 is answer.1 }
