-- The number that a literal writes (LangRef, "Simple Constants").
use Rattle.std.specs.Prelude.{ℕ, ◌-◌, ◌%◌, ◌^◌, ℤ, pos, neg_ℤ, nat_le, Option, None, Some, if◌then◌else◌}
use Rattle.ir_syntax.specs.Types.{TextTree, int}
use Rattle.ir_syntax.specs.declared.literal.Literal.{Literal}

-- its magnitude, below zero after a minus
abbrev pub literal_value : Literal → ℤ
literal_value l = if l.negative then neg_ℤ (pos l.magnitude) else pos l.magnitude

-- this number modulo 2 to a number of bits
abbrev pub wrapped : ℕ → Literal → ℕ
wrapped bits l = if l.negative then (2 ^ bits - l.magnitude % 2 ^ bits) % 2 ^ bits else l.magnitude % 2 ^ bits

-- the widest integers that the grammar has
abbrev pub widest : ℕ
widest = 64

-- the number of bits of an integer type
abbrev pub width_of : TextTree → Option ℕ
width_of (int bits) = if nat_le bits widest then Some bits else None
width_of other = None
