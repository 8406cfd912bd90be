-- A token with its bytes.
use Rattle.std.specs.Prelude.{ℕ, List, [], ◌∷◌, drop, take}
use Rattle.ir_lex.specs.declared.kind.Kind.{Kind}
use Rattle.ir_lex.specs.declared.kind.Token.{Token}

pub record Lexeme : Type 0 where
  pub kind : Kind
  -- its bytes in the source
  pub text : List ℕ
  -- counted from 1
  pub line : ℕ

abbrev pub lexeme_of : List ℕ → Token → Lexeme
lexeme_of source token = record { kind = token.kind; text = take token.len (drop token.start source); line = token.line }

abbrev pub lexemes : List ℕ → List Token → List Lexeme
lexemes source [] = []
lexemes source (token ∷ tokens) = lexeme_of source token ∷ lexemes source tokens
