-- A text as its tokens.
use Rattle.std.specs.Prelude.{◌≡◌, ℕ, zero, suc, ◌+◌, ◌-◌, ◌<◌, ◌≤◌, Bool, false, ◌||◌, ◌==◌, not, nat_lt, List, [], ◌∷◌, ◌++◌, drop, length, slice_index, take, Ok, Err, if◌then◌else◌}
use Rattle.std.specs.List.{count_by}
use Rattle.std.specs.declared.result.Result.{Result}
use Rattle.ir_lex.specs.Characters.{run}
use Rattle.ir_lex.specs.Escapes.{holds_zero}
use Rattle.ir_lex.specs.Lengths.{len_of}
use Rattle.ir_lex.specs.Literals.{is_in_range}
use Rattle.ir_lex.specs.Spelling.{Spells}
use Rattle.ir_lex.specs.declared.class.Class.TheVariants.{Comment}
use Rattle.ir_lex.specs.declared.longest_match.LongestMatch.{LongestMatch}
use Rattle.ir_lex.specs.declared.kind.Kind.{Kind}
use Rattle.ir_lex.specs.declared.kind.Kind.TheVariants.{Label, Int, Real, Word, Str, CStr, Global, Local, Meta, Attr, Equal, Comma, Star, OpenRound, CloseRound, OpenSquare, CloseSquare, OpenCurly, CloseCurly, OpenPacked, ClosePacked, Less, Greater, Bar, Bang, Ellipsis}
use Rattle.ir_lex.specs.declared.kind.Token.{Token}
use Rattle.ir_lex.specs.declared.list.LexEnd.{LexEnd}
use Rattle.ir_lex.specs.declared.list.LexEnd.TheVariants.{Lex, NoMemory}
use Rattle.ir_lex.specs.declared.piece.Piece.{Piece}
use Rattle.ir_lex.specs.declared.piece.Piece.TheVariants.{Gap, Begins, Bad}

abbrev pub kinds : List Kind
kinds = Label ∷ Int ∷ Real ∷ Word ∷ Str ∷ CStr ∷ Global ∷ Local ∷ Meta ∷ Attr ∷ Equal ∷ Comma ∷ Star ∷ OpenRound ∷ CloseRound ∷ OpenSquare ∷ CloseSquare ∷ OpenCurly ∷ CloseCurly ∷ OpenPacked ∷ ClosePacked ∷ Less ∷ Greater ∷ Bar ∷ Bang ∷ Ellipsis ∷ []

-- the best so far, or the token of this kind where it is longer
unfoldable pub longer : LongestMatch → Kind → List ℕ → LongestMatch
longer best kind bytes = if nat_lt best.len (len_of kind bytes) then record { kind = kind; len = len_of kind bytes } else best

unfoldable pub longest_of : List Kind → LongestMatch → List ℕ → LongestMatch
longest_of [] best bytes = best
longest_of (kind ∷ rest) best bytes = longest_of rest (longer best kind bytes) bytes

-- the longest token at the start, of length 0 where none begins
unfoldable pub longest_match : List ℕ → LongestMatch
longest_match bytes = longest_of kinds (record { kind = Label; len = 0 }) bytes

-- what parts tokens: a blank, a tab, a carriage return, a line feed, or `;` to the end of its line
unfoldable pub gap_len : List ℕ → ℕ
gap_len bytes =
    let b = slice_index bytes 0 in
    if b == 32 || b == 9 || b == 13 || b == 10 then 1 else if b == 59 then run Comment bytes else 0

-- whether a text of this kind is refused: an integer out of range, or a name that holds byte 0
unfoldable pub is_refused : Kind → List ℕ → Bool
is_refused Int text = not (is_in_range text)
is_refused Global text = holds_zero text
is_refused Local text = holds_zero text
is_refused Label text = holds_zero text
is_refused kind text = false

-- a token, unless there is none or it is refused
unfoldable pub begun : LongestMatch → List ℕ → Piece
begun found bytes = if found.len == 0 || is_refused found.kind (take found.len bytes) then Bad else Begins found

-- what stands at the start
unfoldable pub piece_of : List ℕ → Piece
piece_of bytes = if gap_len bytes == 0 then begun (longest_match bytes) bytes else Gap (gap_len bytes)

abbrev pub piece_len : Piece → ℕ
piece_len (Gap n) = n
piece_len (Begins found) = found.len
piece_len Bad = 0

-- a gap and a token have bytes
abbrev pub HasBytes : Piece → Type 0
HasBytes (Gap n) = 0 < n
HasBytes (Begins found) = 0 < found.len
HasBytes Bad = Unit {0}

abbrev pub line_feeds : List ℕ → ℕ
line_feeds bytes = count_by (λ b. b == 10) bytes

-- the line of a place: the line feeds before it, plus 1
unfoldable pub line_of : List ℕ → ℕ → ℕ
line_of text at = line_feeds (take at text) + 1

unfoldable pub token_at : List ℕ → ℕ → LongestMatch → Token
token_at text at found = record { kind = found.kind; start = at; len = found.len; line = line_of text at }

abbrev pub after_token : Token → Result (List Token) ℕ → Result (List Token) ℕ
after_token token (Ok tokens) = Ok (token ∷ tokens)
after_token token (Err line) = Err line

abbrev pub after : List ℕ → ℕ → Piece → (ℕ → Result (List Token) ℕ) → Result (List Token) ℕ
after text at (Gap n) more = more n
after text at (Begins found) more = after_token (token_at text at found) (more found.len)
after text at Bad more = Err (line_of text at)

-- the tokens of what stands from a place on, after the first skip bytes, or the line of the first
-- place where no token begins or one is refused
unfoldable pub tokens_from : List ℕ → ℕ → ℕ → List ℕ → Result (List Token) ℕ
tokens_from text skip at [] = Ok []
tokens_from text (suc skip) at (b ∷ rest) = tokens_from text skip (at + 1) rest
tokens_from text zero at (b ∷ rest) = after text at (piece_of (b ∷ rest)) (λ n. tokens_from text (n - 1) (at + 1) rest)

unfoldable pub tokens_of : List ℕ → Result (List Token) ℕ
tokens_of text = tokens_from text 0 0 text

-- what is answered is what is read, unless memory ran out
abbrev pub Answers : Result (List Token) LexEnd → Result (List Token) ℕ → Type 0
Answers (Ok tokens) read = read ≡ Ok tokens
Answers (Err (Lex line)) read = read ≡ Err line
Answers (Err NoMemory) read = Unit {0}

-- a token of a text: spelled as its kind says, the longest that begins at its place, on its line
pub record IsTokenOf (text : List ℕ) (token : Token) : Type 0 where
  pub spelled : Spells token.kind (take token.len (drop token.start text))
  pub longest : (kind : Kind) (prefix rest : List ℕ) → drop token.start text ≡ prefix ++ rest → Spells kind prefix → length prefix ≤ token.len
  pub line : token.line ≡ line_of text token.start

-- tokens that have bytes, each after the one before, from a place on and up to another
abbrev pub AreSpans : ℕ → ℕ → List Token → Type 0
AreSpans from end [] = from ≤ end
AreSpans from end (token ∷ tokens) = (from ≤ token.start) × (0 < token.len) × AreSpans (token.start + token.len) end tokens

-- the token of a piece is the longest
abbrev pub IsLongest : Piece → List ℕ → Type 0
IsLongest (Gap n) bytes = Unit {0}
IsLongest (Begins found) bytes = found ≡ longest_match bytes
IsLongest Bad bytes = Unit {0}
