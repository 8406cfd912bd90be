-- What an operation on two integers gives (LangRef, "Binary Operations" and "Bitwise Binary Operations"): the integer that it
-- makes, without regard to a width, and then whether so many bits hold it.
use Rattle.std.specs.Prelude.{ℕ, ◌/◌, ◌%◌, ◌^◌, ℤ, pos, ◌+ℤ◌, ◌-ℤ◌, ◌*ℤ◌, int_div, int_rem, unsigned_abs, bit_and, bit_or, bit_xor, Bool, ◌&&◌, ◌||◌, not, nat_eq, nat_lt, if◌then◌else◌}
use Rattle.cg_num.specs.Signed.{fits_signed, fits_unsigned, floored, modulo, signed}
use Rattle.cg_num.specs.declared.end.BinEnd.{BinEnd}
use Rattle.cg_num.specs.declared.end.BinEnd.TheVariants.{Value, Poison, Undefined}
use Rattle.cg_num.specs.declared.flags.Flags.{Flags}
use Rattle.cg_num.specs.declared.op.BinOp.{BinOp}
use Rattle.cg_num.specs.declared.op.BinOp.TheVariants.{Add, Sub, Mul, Udiv, Sdiv, Urem, Srem, Shl, Lshr, Ashr, And, Or, Xor}

-- a number, or poison where a promise is broken
abbrev pub unless_broken : Bool → ℕ → BinEnd
unless_broken broken value = if broken then Poison else Value value

-- a result modulo 2 to so many bits, where these are the results of the operands without and with their signs
abbrev pub wrapping : Flags → ℕ → ℤ → ℤ → BinEnd
wrapping flags bits plain with_signs =
    unless_broken (flags.nuw && not (fits_unsigned bits plain) || flags.nsw && not (fits_signed bits with_signs)) (modulo bits plain)

-- a result of which this remainder is lost
abbrev pub exact : Flags → ℕ → ℕ → BinEnd
exact flags lost value = unless_broken (flags.exact && not (nat_eq lost 0)) value

-- a shift is by less than the width
abbrev pub shifting : ℕ → ℕ → BinEnd → BinEnd
shifting bits by end = if nat_lt by bits then end else Poison

-- no number is divided by zero
abbrev pub dividing : ℕ → BinEnd → BinEnd
dividing by end = if nat_eq by 0 then Undefined else end

-- nor is a quotient taken that the width does not hold
abbrev pub dividing_signed : ℕ → ℕ → ℕ → BinEnd → BinEnd
dividing_signed bits a b end = dividing b (if fits_signed bits (int_div (signed bits a) (signed bits b)) then end else Undefined)

-- what an operation gives on two numbers of so many bits
abbrev pub result_of : BinOp → Flags → ℕ → ℕ → ℕ → BinEnd
result_of Add flags bits a b = wrapping flags bits (pos a +ℤ pos b) (signed bits a +ℤ signed bits b)
result_of Sub flags bits a b = wrapping flags bits (pos a -ℤ pos b) (signed bits a -ℤ signed bits b)
result_of Mul flags bits a b = wrapping flags bits (pos a *ℤ pos b) (signed bits a *ℤ signed bits b)
result_of Udiv flags bits a b = dividing b (exact flags (a % b) (a / b))
result_of Sdiv flags bits a b =
    dividing_signed bits a b (exact flags (unsigned_abs (int_rem (signed bits a) (signed bits b))) (modulo bits (int_div (signed bits a) (signed bits b))))
result_of Urem flags bits a b = dividing b (Value (a % b))
result_of Srem flags bits a b = dividing_signed bits a b (Value (modulo bits (int_rem (signed bits a) (signed bits b))))
result_of Shl flags bits a b = shifting bits b (wrapping flags bits (pos a *ℤ pos (2 ^ b)) (signed bits a *ℤ pos (2 ^ b)))
result_of Lshr flags bits a b = shifting bits b (exact flags (a % 2 ^ b) (a / 2 ^ b))
result_of Ashr flags bits a b = shifting bits b (exact flags (a % 2 ^ b) (modulo bits (floored (signed bits a) (2 ^ b))))
result_of And flags bits a b = Value (bit_and a b)
result_of Or flags bits a b = Value (bit_or a b)
result_of Xor flags bits a b = Value (bit_xor a b)
