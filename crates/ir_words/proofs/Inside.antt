-- Tokens that come one after another up to the end of a text lie in it.
use Rattle.std.proofs.Common.{◌≡◌, refl, ap, ℕ, suc, ◌+◌, ◌≤◌, List, [], ◌∷◌, arith, length}
use Rattle.ir_lex.specs.Splitting.{AreSpans}
use Rattle.ir_lex.specs.declared.kind.Token.{Token}
use Rattle.ir_words.specs.Lexemes.{lexemes}
use Rattle.ir_words.specs.Spans.{LieIn}

spans_end : (from end : ℕ) (tokens : List Token) → AreSpans from end tokens → from ≤ end
spans_end from end [] spans = spans
spans_end from end (token ∷ tokens) spans =
    let later = spans_end (token.start + token.len) end tokens spans.2 in omega (arith, spans.0, spans.1)

pub spans_lie : (from : ℕ) (text : List ℕ) (tokens : List Token) → AreSpans from (length text) tokens → LieIn text tokens
spans_lie from text [] spans = tt
spans_lie from text (token ∷ tokens) spans =
    (spans_end (token.start + token.len) (length text) tokens spans.2, spans_lie (token.start + token.len) text tokens spans.2)

pub length_lexemes : (text : List ℕ) (tokens : List Token) → length (lexemes text tokens) ≡ length tokens
length_lexemes text [] = refl
length_lexemes text (token ∷ tokens) = ap suc (length_lexemes text tokens)
