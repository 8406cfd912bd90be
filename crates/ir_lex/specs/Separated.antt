-- What stands between tokens: blanks, tabs, carriage returns, line feeds and comments.
use Rattle.std.specs.Prelude.{◌≡◌, ℕ, ◌+◌, Bool, true, false, ◌||◌, ◌==◌, not, List, [], ◌∷◌, drop, if◌then◌else◌}
use Rattle.ir_lex.specs.Characters.{is_blank}
use Rattle.ir_lex.specs.declared.kind.Token.{Token}

-- What is left of a text behind the blanks, tabs, carriage returns, line feeds and comments that it begins with. A
-- comment goes from `;` to the line feed that ends it, or to the end of the text; one may be under way.
unfoldable pub past_gap : Bool → List ℕ → List ℕ
past_gap comment [] = []
past_gap true (b ∷ bytes) = past_gap (not (b == 10)) bytes
past_gap false (b ∷ bytes) = if b == 59 || is_blank b then past_gap (b == 59) bytes else b ∷ bytes

-- From a place up to another, only such a gap stands before the first token, between two tokens and behind the last.
abbrev pub AreSeparated : List ℕ → ℕ → ℕ → List Token → Type 0
AreSeparated text from end [] = past_gap false (drop from text) ≡ drop end text
AreSeparated text from end (token ∷ tokens) =
    (past_gap false (drop from text) ≡ drop token.start text) × AreSeparated text (token.start + token.len) end tokens
