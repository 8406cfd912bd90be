-- Numbers of some bits as integers, and integers as numbers of some bits (LangRef, "Integer Type").
use Rattle.std.specs.Prelude.{ℕ, suc, ◌-◌, ◌/◌, ◌%◌, ◌^◌, ℤ, pos, negsuc, Bool, false, nat_lt, if◌then◌else◌}

-- the integer that so many bits write in two's complement: from half of the modulus on, the number less the modulus
abbrev pub signed : ℕ → ℕ → ℤ
signed bits a = if nat_lt a (2 ^ (bits - 1)) then pos a else negsuc (2 ^ bits - suc a)

-- an integer modulo 2 to so many bits; `negsuc n` is the integer -1 - n
abbrev pub modulo : ℕ → ℤ → ℕ
modulo bits (pos n) = n % 2 ^ bits
modulo bits (negsuc n) = 2 ^ bits - suc (n % 2 ^ bits)

-- so many bits write the integer without a sign
abbrev pub fits_unsigned : ℕ → ℤ → Bool
fits_unsigned bits (pos n) = nat_lt n (2 ^ bits)
fits_unsigned bits (negsuc n) = false

-- so many bits write the integer in two's complement
abbrev pub fits_signed : ℕ → ℤ → Bool
fits_signed bits (pos n) = nat_lt n (2 ^ (bits - 1))
fits_signed bits (negsuc n) = nat_lt n (2 ^ (bits - 1))

-- the quotient rounded down
abbrev pub floored : ℤ → ℕ → ℤ
floored (pos n) d = pos (n / d)
floored (negsuc n) d = negsuc (n / d)
