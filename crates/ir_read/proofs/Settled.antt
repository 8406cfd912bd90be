-- What is read of all tokens decides what is answered for a text.
use Rattle.std.proofs.Common.{◌≡◌, ℕ, ◌-◌, List, Ok, Err, inl, inr, length, subst}
use Rattle.std.specs.Prelude.{IfErr, IfOk}
use Rattle.std.specs.declared.result.Result.{Result}
use Rattle.ir_lex.specs.Splitting.{tokens_of}
use Rattle.ir_lex.specs.declared.kind.Token.{Token}
use Rattle.ir_syntax.specs.declared.refusal.Refusal.{Refusal}
use Rattle.ir_words.specs.Lexemes.{Lexeme, lexemes}
use Rattle.ir_rules.specs.Reading.{Reads, read_all}
use Rattle.ir_rules.proofs.Whole.{read_all_reads}
use Rattle.ir_items.specs.Entities.{modules}
use Rattle.ir_read.specs.Refusals.{IsModule, IsRefusal, OrNoMemory, Settles}
use Rattle.ir_entities.specs.declared.entity.Entity.{Entity}
use Rattle.ir_items.proofs.EntityLaws.{modules_law}

pub same_tokens : (read : Result (List Token) ℕ) (a b : List Token) → read ≡ Ok a → read ≡ Ok b → a ≡ b
same_tokens read a b e f = cc

pub no_tokens : (read : Result (List Token) ℕ) (a : List Token) (line : ℕ) → read ≡ Ok a → read ≡ Err line → ⊥
no_tokens read a line e f = absurd (cc)

pub same_found : (read : Result (List Entity) ℕ) (a b : List Entity) → read ≡ Ok a → read ≡ Ok b → a ≡ b
same_found read a b e f = cc

module _ (bytes : List ℕ) (tokens : List Token) (is : tokens_of bytes ≡ Ok tokens) where
  reads : (read : Result (List Entity) ℕ) → read_all modules (lexemes bytes tokens) ≡ read → Reads modules (lexemes bytes tokens) read
  reads read e = subst (Reads modules (lexemes bytes tokens)) e (read_all_reads modules modules_law (lexemes bytes tokens))

  ok_by : (result : Result (List Entity) Refusal) → Settles (lexemes bytes tokens) (read_all modules (lexemes bytes tokens)) result → IfOk result (IsModule bytes)
  ok_by (Ok found) s = (tokens, is, reads (Ok found) s)
  ok_by (Err e) s = tt

  refused_by : (result : Result (List Entity) Refusal) → Settles (lexemes bytes tokens) (read_all modules (lexemes bytes tokens)) result → IfErr result (OrNoMemory (IsRefusal bytes))
  refused_by (Ok es) s = tt
  refused_by (Err e) (inl n) = inl n
  refused_by (Err e) (inr w) = inr (inr (tokens, length (lexemes bytes tokens) - w.0, is, (reads (Err w.0) w.1).1, w.2))

-- the tokens of a text that are read are all of its tokens
module _ (bytes : List ℕ) (tokens : List Token) (ts : List Lexeme) (result : Result (List Entity) Refusal) where
  at : ts ≡ lexemes bytes tokens → Settles ts (read_all modules ts) result → Settles (lexemes bytes tokens) (read_all modules (lexemes bytes tokens)) result
  at same s = subst (λ l. Settles l (read_all modules l) result) same s

  pub settled_ok : tokens_of bytes ≡ Ok tokens → ts ≡ lexemes bytes tokens → Settles ts (read_all modules ts) result → IfOk result (IsModule bytes)
  settled_ok is same s = ok_by bytes tokens is result (at same s)

  pub settled_refused : tokens_of bytes ≡ Ok tokens → ts ≡ lexemes bytes tokens → Settles ts (read_all modules ts) result → IfErr result (OrNoMemory (IsRefusal bytes))
  settled_refused is same s = refused_by bytes tokens is result (at same s)
