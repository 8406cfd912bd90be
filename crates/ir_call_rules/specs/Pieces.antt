-- The pieces in which memory is accessed.
use Rattle.std.specs.Prelude.{ℕ, zero, suc, ◌+◌, ◌%◌, Bool, ◌&&◌, ◌==◌, nat_le, nat_lt, if◌then◌else◌}

-- a piece of this size may stand at an offset in `size` bytes at an alignment: it is at most the alignment, divides the offset,
-- and fits
abbrev pub may_stand : ℕ → ℕ → ℕ → ℕ → Bool
may_stand align size offset piece = nat_le piece align && (offset % piece == 0 && nat_le (offset + piece) size)

-- the largest power of two that may stand there and is at most 8
abbrev pub piece_at : ℕ → ℕ → ℕ → ℕ
piece_at align size offset =
    if may_stand align size offset 8 then 8
    else if may_stand align size offset 4 then 4
    else if may_stand align size offset 2 then 2
    else 1

-- how many pieces there are from an offset on, at most this many
abbrev pub pieces_from : ℕ → ℕ → ℕ → ℕ → ℕ
pieces_from zero align size offset = 0
pieces_from (suc most) align size offset =
    if nat_lt offset size then suc (pieces_from most align size (offset + piece_at align size offset)) else 0

-- how many pieces `size` bytes at an alignment are; there are no more pieces than bytes
abbrev pub piece_count : ℕ → ℕ → ℕ
piece_count align size = pieces_from size align size 0
