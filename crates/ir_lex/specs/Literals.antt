-- Which integer literals are read.
use Rattle.std.specs.Prelude.{ℕ, ◌+◌, ◌-◌, ◌*◌, ◌^◌, Bool, ◌==◌, nat_le, List, [], ◌∷◌, drop, slice_index, if◌then◌else◌}
use Rattle.ir_lex.specs.Lengths.{minus_len}

-- the number of these decimal digits after a number
unfoldable pub decimal_after : ℕ → List ℕ → ℕ
decimal_after value [] = value
decimal_after value (digit ∷ digits) = decimal_after (10 * value + (digit - 48)) digits

-- from -2^127 to 2^128 - 1
unfoldable pub is_in_range : List ℕ → Bool
is_in_range text = nat_le (decimal_after 0 (drop (minus_len text) text)) (if slice_index text 0 == 45 then 2 ^ 127 else 2 ^ 128 - 1)
