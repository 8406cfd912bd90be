-- A text has one answer at most: one module, or one first refusal.
use Rattle.std.proofs.Common.{◌≡◌, ◌∙◌, ◌==◌, ℕ, suc, ◌<◌, Bool, true, false, if◌then◌else◌, List, [], ◌++◌, Option, Ok, Err, Some, length, drop, take, append_assoc, inl, inr, ap, sym, subst, arith}
use Rattle.std.proofs.lemmas.Bool.{cases_lt}
use Rattle.std.proofs.lemmas.List.{take-append-drop, take-take}
use Rattle.std.specs.declared.result.Result.{Result}
use Rattle.ir_lex.specs.Splitting.{tokens_of}
use Rattle.ir_lex.specs.declared.kind.Token.{Token}
use Rattle.ir_names.specs.Faults.{fault_lines}
use Rattle.ir_names.specs.Least.{least}
use Rattle.ir_numbers.specs.Modules.{module_of}
use Rattle.ir_numbers.specs.Numbered.{numbered_entities}
use Rattle.ir_entities.specs.declared.entity.Entity.{Entity}
use Rattle.ir_items.proofs.EntityLaws.{modules_law}
use Rattle.ir_read.proofs.Settled.{no_tokens, same_found, same_tokens}
use Rattle.ir_items.specs.Entities.{modules}
use Rattle.ir_read.specs.Modules.{IsAnswer, IsFirstRefusal, IsNamed, IsNameFault, Reads}
use Rattle.ir_read.specs.Refusals.{IsAllocaRefusal, IsModule, IsRefusedAt, IsTokenRefusal, Refuses}
use Rattle.ir_rules.proofs.Whole.{accepts}
use Rattle.ir_rules.specs.Reading.{Begins, IsFirstBad, read_all}
use Rattle.ir_syntax.specs.declared.module.Module.{Module}
use Rattle.ir_syntax.specs.declared.refusal.Refusal.{Refusal}
use Rattle.ir_syntax.specs.declared.refusal.Refusal.TheVariants.{Form, Lex, Name, NoMemory, Unsupported}
use Rattle.ir_words.specs.Classes.{first, head_line, head_text, is_unsupported}
use Rattle.ir_words.specs.Lexemes.{Lexeme, lexemes}
use Rattle.ir_words.specs.declared.class.Class.{Class}
use Rattle.ir_words.specs.declared.class.Class.TheVariants.{Alloca}

-- ---- one module

-- the text of a module has no first bad token
whole_not_bad : (ts : List Lexeme) (found : List Entity) (at : ℕ) → modules.text ts found → IsFirstBad modules ts at → ⊥
whole_not_bad ts found at text bad =
    elim (cases_lt at (length ts)) [
      | inl lt ↦ bad.bad lt (drop (suc at) ts, found, subst (λ us. modules.text us found) (sym (take-append-drop (suc at) ts)) text)
      | inr le ↦ bad.end (omega (arith, bad.within, le)) found text
    ]

-- the items of a text
found_once : (bytes : List ℕ) (a b : List Entity) → IsModule bytes a → IsModule bytes b → a ≡ b
found_once bytes a b one other =
    let same : one.0 ≡ other.0 = same_tokens (tokens_of bytes) one.0 other.0 one.1 other.1 in
    same_found (read_all modules (lexemes bytes other.0)) a b
    (subst (λ ts. read_all modules (lexemes bytes ts) ≡ Ok a) same (accepts modules modules_law (lexemes bytes one.0) a one.2))
    (accepts modules modules_law (lexemes bytes other.0) b other.2)

-- a text is that of one module
pub reads_unique : (bytes : List ℕ) (m k : Module) → Reads bytes m → Reads bytes k → m ≡ k
reads_unique bytes m k (a, one, named) (b, other, known) =
    named.is ∙ ap (λ found. module_of (numbered_entities found)) (found_once bytes a b one other) ∙ sym known.is

-- ---- a module or a refusal

-- the text of a module has no first bad token
not_bad : (bytes : List ℕ) (found : List Entity) (e : Refusal) → IsModule bytes found → IsTokenRefusal bytes e → ⊥
not_bad bytes found e (all, is, text) (tokens, at, lexed, bad, refused) =
    let same : all ≡ tokens = same_tokens (tokens_of bytes) all tokens is lexed in
    whole_not_bad (lexemes bytes tokens) found at (subst (λ ts. modules.text (lexemes bytes ts) found) same text) bad

-- no line is the least of none
none_least : (line : ℕ) (lines : List ℕ) → lines ≡ [] → least lines ≡ Some line → ⊥
none_least line lines none is = clash (ap least (sym none) ∙ is)
  where
    clash : least [] ≡ Some line → ⊥
    clash e = cc

-- the items of a module have no fault of names
not_faulty : (bytes : List ℕ) (a b : List Entity) (m : Module) (e : Refusal) → IsModule bytes a → IsModule bytes b → IsNamed a m → IsNameFault b e → ⊥
not_faulty bytes a b m e one other named (line, is, refused) =
    none_least line (fault_lines (numbered_entities a)) named.faultless
    (ap (λ found. least (fault_lines (numbered_entities found))) (found_once bytes a b one other) ∙ is)

-- the text of a module is not refused
pub reads_excludes : (bytes : List ℕ) (m : Module) (e : Refusal) → Reads bytes m → IsFirstRefusal bytes e → ⊥
reads_excludes bytes m e (found, one, named) (inl (inl (line, lexed, refused))) = no_tokens (tokens_of bytes) one.0 line one.1 lexed
reads_excludes bytes m e (found, one, named) (inl (inr bad)) = not_bad bytes found e one bad
reads_excludes bytes m e (found, one, named) (inr (other, whole, fault)) = not_faulty bytes found other m e one whole named fault

-- ---- one refusal

-- tokens that begin a text with more of them begin one
begins_earlier : (ts : List Lexeme) (a b : ℕ) → a < b → Begins modules (take b ts) → Begins modules (take (suc a) ts)
begins_earlier ts a b less (more, found, text) =
    let prefix : take (suc a) (take b ts) ≡ take (suc a) ts = take-take (suc a) b ts (omega (arith, less)) in
    let parts : take b ts ≡ take (suc a) ts ++ drop (suc a) (take b ts) =
    sym (take-append-drop (suc a) (take b ts)) ∙ ap (λ us. us ++ drop (suc a) (take b ts)) prefix in (
      drop (suc a) (take b ts) ++ more,
      found,
      subst (λ us. modules.text us found) (ap (λ us. us ++ more) parts ∙ append_assoc (take (suc a) ts) (drop (suc a) (take b ts)) more) text,
    )

-- no bad token stands before the first one
none_before : (ts : List Lexeme) (a b : ℕ) → a < b → IsFirstBad modules ts a → IsFirstBad modules ts b → ⊥
none_before ts a b less one other = one.bad (omega (arith, less, other.within)) (begins_earlier ts a b less other.before)

bad_once : (ts : List Lexeme) (a b : ℕ) → IsFirstBad modules ts a → IsFirstBad modules ts b → a ≡ b
bad_once ts a b one other =
    elim (cases_lt a b) [
      | inl less ↦ absurd (none_before ts a b less one other)
      | inr le ↦ elim (cases_lt b a) [
        | inl less ↦ absurd (none_before ts b a less other one)
        | inr ge ↦ omega (arith, le, ge)
      ]
    ]

alloca_once : (before bad : List Lexeme) (e f : Refusal) → IsAllocaRefusal before bad e → IsAllocaRefusal before bad f → e ≡ f
alloca_once before bad e f (inl (inside, is)) (inl (also, other)) = is ∙ sym other
alloca_once before bad e f (inl (inside, is)) (inr (outside, other)) = absurd (outside inside)
alloca_once before bad e f (inr (outside, is)) (inl (inside, other)) = absurd (outside inside)
alloca_once before bad e f (inr (outside, is)) (inr (also, other)) = is ∙ sym other

refuses_once : (class : Class) (line : ℕ) (before bad : List Lexeme) (e f : Refusal) → Refuses class line before bad e → Refuses class line before bad f → e ≡ f
refuses_once Alloca line before bad e f one other = alloca_once before bad e f one other
refuses_once class line before bad e f one other = one ∙ sym other

token_once : (bytes : List ℕ) (e f : Refusal) → IsTokenRefusal bytes e → IsTokenRefusal bytes f → e ≡ f
token_once bytes e f (tokens, at, lexed, bad, refused) (others, place, read, first_bad, also) =
    let same : tokens ≡ others = same_tokens (tokens_of bytes) tokens others lexed read in
    let ts : List Lexeme = lexemes bytes others in
    let here : at ≡ place = bad_once ts at place (subst (λ l. IsFirstBad modules (lexemes bytes l) at) same bad) first_bad in
    let there : IsRefusedAt ts place e =
    subst (λ n. IsRefusedAt ts n e) here (subst (λ l. IsRefusedAt (lexemes bytes l) at e) same refused) in
    refuses_once (first (drop place ts)) _ _ _ e f there also

lex_once : (read : Result (List Token) ℕ) (a b : ℕ) → read ≡ Err a → read ≡ Err b → a ≡ b
lex_once read a b e f = cc

least_once : (found : Option ℕ) (a b : ℕ) → found ≡ Some a → found ≡ Some b → a ≡ b
least_once found a b e f = cc

first_once : (bytes : List ℕ) (e f : Refusal) → IsFirstRefusal bytes e → IsFirstRefusal bytes f → e ≡ f
first_once bytes e f (inl (inl (line, lexed, is))) (inl (inl (other, read, also))) =
    is ∙ ap Lex (lex_once (tokens_of bytes) line other lexed read) ∙ sym also
first_once bytes e f (inl (inl (line, lexed, is))) (inl (inr bad)) = absurd (no_tokens (tokens_of bytes) bad.0 line bad.2 lexed)
first_once bytes e f (inl (inl (line, lexed, is))) (inr (found, whole, fault)) = absurd (no_tokens (tokens_of bytes) whole.0 line whole.1 lexed)
first_once bytes e f (inl (inr bad)) (inl (inl (line, lexed, is))) = absurd (no_tokens (tokens_of bytes) bad.0 line bad.2 lexed)
first_once bytes e f (inl (inr bad)) (inl (inr other)) = token_once bytes e f bad other
first_once bytes e f (inl (inr bad)) (inr (found, whole, fault)) = absurd (not_bad bytes found e whole bad)
first_once bytes e f (inr (found, whole, fault)) (inl (inl (line, lexed, is))) = absurd (no_tokens (tokens_of bytes) whole.0 line whole.1 lexed)
first_once bytes e f (inr (found, whole, fault)) (inl (inr bad)) = absurd (not_bad bytes found f whole bad)
first_once bytes e f (inr (found, whole, (line, least_is, is))) (inr (others, text, (other, also_least, also))) =
    is
    ∙ ap Name (least_once (least (fault_lines (numbered_entities others))) line other
    (ap (λ es. least (fault_lines (numbered_entities es))) (sym (found_once bytes found others whole text)) ∙ least_is) also_least)
    ∙ sym also

-- ---- one answer

pub answer_once : (bytes : List ℕ) (a b : Result Module Refusal) → IsAnswer bytes a → IsAnswer bytes b → a ≡ b
answer_once bytes (Ok m) (Ok k) one other = ap Ok (reads_unique bytes m k one other)
answer_once bytes (Ok m) (Err e) one other = absurd (reads_excludes bytes m e one other)
answer_once bytes (Err e) (Ok m) one other = absurd (reads_excludes bytes m e other one)
answer_once bytes (Err e) (Err f) one other = ap Err (first_once bytes e f one other)

-- ---- that memory ran out is no refusal of a text

token_not_memory : (table : Bool) (ts : List Lexeme) (line : ℕ) →
    NoMemory ≡ (if table then Unsupported (head_line ts) (head_text ts) else Form (if length ts == 0 then line else head_line ts)) → ⊥
token_not_memory true ts line is = cc
token_not_memory false ts line is = cc

refuses_not_memory : (class : Class) (line : ℕ) (before bad : List Lexeme) → Refuses class line before bad NoMemory → ⊥
refuses_not_memory Alloca line before bad (inl (inside, is)) = absurd (cc)
refuses_not_memory Alloca line before bad (inr (outside, is)) = absurd (cc)
refuses_not_memory class line before bad is = token_not_memory (is_unsupported (first bad)) bad line is

pub first_not_memory : (bytes : List ℕ) → IsFirstRefusal bytes NoMemory → ⊥
first_not_memory bytes (inl (inl (line, lexed, is))) = absurd (cc)
first_not_memory bytes (inl (inr (tokens, at, lexed, bad, refused))) = refuses_not_memory (first (drop at (lexemes bytes tokens))) _ _ _ refused
first_not_memory bytes (inr (found, whole, (line, least_is, is))) = absurd (cc)
