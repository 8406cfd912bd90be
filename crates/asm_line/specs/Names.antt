-- Parts of a name's spelling.
use Rattle.std.specs.Prelude.{◌+◌, ◌/◌, ◌%◌, ◌&&◌, ℕ, Bool, nat_le, List, [], ◌∷◌}

abbrev pub is_printable : ℕ → Bool
is_printable b = nat_le 32 b && nat_le b 126

-- three octal digits
abbrev pub octal : ℕ → List ℕ
octal b = (48 + b / 64) ∷ (48 + b / 8 % 8) ∷ (48 + b % 8) ∷ []
