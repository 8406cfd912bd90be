-- Tokens of a text.
use Rattle.std.specs.Prelude.{ℕ, ◌+◌, ◌≤◌, List, [], ◌∷◌, length}
use Rattle.ir_lex.specs.declared.kind.Token.{Token}

-- each token's bytes are bytes of the text
abbrev pub LieIn : List ℕ → List Token → Type 0
LieIn text [] = Unit {0}
LieIn text (token ∷ tokens) = (token.start + token.len ≤ length text) × LieIn text tokens
