-- What operations on registers give (chapters "RV64I Base Integer Instruction Set" and "'M' Extension for Integer
-- Multiplication and Division"). Numbers have 64 bits; a W form takes the low 32 bits and extends its result by its sign.
use Rattle.std.specs.Prelude.{◌+◌, ◌-◌, ◌*◌, ◌/◌, ◌%◌, ◌^◌, ◌*ℤ◌, ◌==◌, ℕ, pos, Bool, nat_lt, int_lt, int_div, int_rem, if◌then◌else◌}
use Rattle.cg_num.specs.Signed.{signed, modulo, floored}
use Rattle.rv_mach.specs.State.{wrapped}

-- the number whose low bits these are, extended by their highest
abbrev pub extended : ℕ → ℕ → ℕ
extended bits n = if nat_lt n (2 ^ (bits - 1)) then n else n + (2 ^ 64 - 2 ^ bits)

abbrev pub low_word : ℕ → ℕ
low_word a = a % 2 ^ 32

abbrev pub extended_word : ℕ → ℕ
extended_word n = extended 32 (low_word n)

abbrev pub sum : ℕ → ℕ → ℕ
sum a b = wrapped (a + b)

abbrev pub difference : ℕ → ℕ → ℕ
difference a b = wrapped (a + (2 ^ 64 - b))

abbrev pub sum_w : ℕ → ℕ → ℕ
sum_w a b = extended_word (a + b)

abbrev pub difference_w : ℕ → ℕ → ℕ
difference_w a b = extended_word (a + (2 ^ 64 - b))

-- 1 where a test holds, else 0
abbrev pub bit_of : Bool → ℕ
bit_of b = if b then 1 else 0

abbrev pub is_below : ℕ → ℕ → Bool
is_below a b = int_lt (signed 64 a) (signed 64 b)

-- Shifts are by the low six bits of the second number, those of W forms by the low five.

abbrev pub left : ℕ → ℕ → ℕ
left a by = wrapped (a * 2 ^ (by % 64))

abbrev pub right : ℕ → ℕ → ℕ
right a by = a / 2 ^ (by % 64)

-- zeros are filled into a number without a sign, and into the complement of one with a sign
abbrev pub shifted : ℕ → ℕ → ℕ
shifted a by = if nat_lt a (2 ^ 63) then a / 2 ^ by else 2 ^ 64 - 1 - (2 ^ 64 - 1 - a) / 2 ^ by

abbrev pub right_signed : ℕ → ℕ → ℕ
right_signed a by = shifted a (by % 64)

abbrev pub left_w : ℕ → ℕ → ℕ
left_w a by = extended_word (a * 2 ^ (by % 32))

abbrev pub right_w : ℕ → ℕ → ℕ
right_w a by = extended 32 (low_word a / 2 ^ (by % 32))

abbrev pub right_signed_w : ℕ → ℕ → ℕ
right_signed_w a by = shifted (extended_word a) (by % 32)

-- the low 64 bits of a product, and the high ones, with signs, with the first one's sign, and without
abbrev pub product : ℕ → ℕ → ℕ
product a b = wrapped (a * b)

abbrev pub high_signed : ℕ → ℕ → ℕ
high_signed a b = modulo 64 (floored (signed 64 a *ℤ signed 64 b) (2 ^ 64))

abbrev pub high_mixed : ℕ → ℕ → ℕ
high_mixed a b = modulo 64 (floored (signed 64 a *ℤ pos b) (2 ^ 64))

abbrev pub high_unsigned : ℕ → ℕ → ℕ
high_unsigned a b = a * b / 2 ^ 64

abbrev pub product_w : ℕ → ℕ → ℕ
product_w a b = extended_word (a * b)

-- Division by zero gives all ones, and its remainder is the dividend. The one quotient that does not fit, that of the least
-- number by -1, wraps to the dividend.

abbrev pub quotient : ℕ → ℕ → ℕ
quotient a b = if b == 0 then 2 ^ 64 - 1 else a / b

abbrev pub remainder : ℕ → ℕ → ℕ
remainder a b = if b == 0 then a else a % b

abbrev pub quotient_signed : ℕ → ℕ → ℕ
quotient_signed a b = if b == 0 then 2 ^ 64 - 1 else modulo 64 (int_div (signed 64 a) (signed 64 b))

abbrev pub remainder_signed : ℕ → ℕ → ℕ
remainder_signed a b = if b == 0 then a else modulo 64 (int_rem (signed 64 a) (signed 64 b))

abbrev pub quotient_w : ℕ → ℕ → ℕ
quotient_w a b = if low_word b == 0 then 2 ^ 64 - 1 else extended 32 (low_word a / low_word b)

abbrev pub remainder_w : ℕ → ℕ → ℕ
remainder_w a b = if low_word b == 0 then extended_word a else extended 32 (low_word a % low_word b)

abbrev pub quotient_signed_w : ℕ → ℕ → ℕ
quotient_signed_w a b =
    if low_word b == 0 then 2 ^ 64 - 1
    else extended 32 (modulo 32 (int_div (signed 32 (low_word a)) (signed 32 (low_word b))))

abbrev pub remainder_signed_w : ℕ → ℕ → ℕ
remainder_signed_w a b =
    if low_word b == 0 then extended_word a
    else extended 32 (modulo 32 (int_rem (signed 32 (low_word a)) (signed 32 (low_word b))))

-- what `lui` loads: the 20 bits of its immediate above twelve that are 0, extended by their sign
abbrev pub upper : ℕ → ℕ
upper imm = extended_word (0x1000 * imm)
