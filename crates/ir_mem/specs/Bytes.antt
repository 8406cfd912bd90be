-- Numbers as bytes, the lowest byte first.
use Rattle.std.specs.Prelude.{ℕ, zero, suc, ◌+◌, ◌*◌, ◌/◌, ◌%◌, List, [], ◌∷◌}

-- the number that these bytes are
abbrev pub from_little : List ℕ → ℕ
from_little [] = 0
from_little (byte ∷ bytes) = byte + 256 * from_little bytes

-- so many of a number's bytes, from the lowest on
abbrev pub to_little : ℕ → ℕ → List ℕ
to_little zero number = []
to_little (suc size) number = (number % 256) ∷ to_little size (number / 256)
