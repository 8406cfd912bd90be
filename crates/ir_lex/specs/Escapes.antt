-- What the bytes between quotes stand for: `\\` for a backslash, `\` and two hexadecimal digits for
-- the byte of that number, and every other byte, also another backslash, for itself.
use Rattle.std.specs.Prelude.{ℕ, zero, suc, ◌+◌, ◌-◌, ◌*◌, Bool, ◌&&◌, ◌==◌, nat_le, List, [], ◌∷◌, slice_index, if◌then◌else◌}
use Rattle.std.specs.List.{list_any}
use Rattle.ir_lex.specs.Characters.{is_digit, is_hexadecimal}

-- the number of a hexadecimal digit
abbrev pub digit_of : ℕ → ℕ
digit_of b = if is_digit b then b - 48 else if nat_le 97 b then b - 87 else b - 55

-- whether `\` and two hexadecimal digits stand at the start
unfoldable pub is_numbered : List ℕ → Bool
is_numbered bytes = slice_index bytes 0 == 92 && is_hexadecimal (slice_index bytes 1) && is_hexadecimal (slice_index bytes 2)

-- how many bytes at the start stand for one
unfoldable pub escape_len : List ℕ → ℕ
escape_len bytes =
    if is_numbered bytes then 3
    else if slice_index bytes 0 == 92 && slice_index bytes 1 == 92 then 2 else 1

-- the byte that these stand for
unfoldable pub escape_byte : List ℕ → ℕ
escape_byte bytes =
    if is_numbered bytes then 16 * digit_of (slice_index bytes 1) + digit_of (slice_index bytes 2)
    else slice_index bytes 0

-- the bytes that all after the first skip stand for
unfoldable pub unescaped_after : ℕ → List ℕ → List ℕ
unescaped_after skip [] = []
unescaped_after (suc skip) (b ∷ bytes) = unescaped_after skip bytes
unescaped_after zero (b ∷ bytes) = escape_byte (b ∷ bytes) ∷ unescaped_after (escape_len (b ∷ bytes) - 1) bytes

unfoldable pub unescaped : List ℕ → List ℕ
unescaped bytes = unescaped_after 0 bytes

-- Whether a name holds byte 0. No mark, quote or colon of its token stands for byte 0, and none is
-- part of an escape, so the whole token may be asked.
unfoldable pub holds_zero : List ℕ → Bool
holds_zero text = list_any (λ b. b == 0) (unescaped text)
