-- Widths of integers, in bits.
use Rattle.std.specs.Prelude.{ℕ, ◌<◌, ◌≤◌}
use Rattle.cg_num.specs.declared.op.BinOp.{BinOp}
use Rattle.cg_num.specs.declared.op.BinOp.TheVariants.{Mul, Udiv, Sdiv, Urem, Srem}

-- there are integers of 1 to 128 bits
abbrev pub IsWidth : ℕ → Type 0
IsWidth bits = (0 < bits) × (bits ≤ 128)

-- the widest integers that have an operation: those of more than 64 bits are neither multiplied nor divided
abbrev pub widest : BinOp → ℕ
widest Mul = 64
widest Udiv = 64
widest Sdiv = 64
widest Urem = 64
widest Srem = 64
widest other = 128
