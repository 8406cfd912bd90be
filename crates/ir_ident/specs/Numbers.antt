-- Numbers of unnamed items, and how they are stored.
use Rattle.std.specs.Prelude.{◌≡◌, ◌<◌, ◌≤◌, ℕ, ◌^◌, nat_lt, Option, None, Some, List, if◌then◌else◌}
use Rattle.std.specs.Int.Digits.{digits_of, number_from_digits}
use Rattle.ir_ident.specs.declared.number.Stored.{Stored}
use Rattle.ir_ident.specs.declared.number.Stored.TheVariants.{Small, Large}
use Rattle.ir_ident.specs.declared.number.Written.{Written}
use Rattle.ir_ident.specs.declared.number.Written.TheVariants as written

-- the number of these digits, the highest first
abbrev pub number_in : List ℕ → ℕ
number_in digits = number_from_digits 10 digits

-- the number that is stored
abbrev pub stored_number : Stored → ℕ
stored_number (Small n) = n
stored_number (Large digits) = number_in digits.value.items

-- the digits of a number that is not below 2^64, with no 0 before them
abbrev pub AreLarge : List ℕ → Type 0
AreLarge digits = (2 ^ 64 ≤ number_in digits) × (digits ≡ digits_of 10 (number_in digits))

-- a small number is below 2^64, and a large one is not
abbrev pub IsStored : Stored → Type 0
IsStored (Small n) = n < 2 ^ 64
IsStored (Large digits) = AreLarge digits.value.items

-- what is written of a number
abbrev pub IsWritten : Written → ℕ → Type 0
IsWritten (written.Small k) n = (k ≡ n) × (n < 2 ^ 64)
IsWritten (written.Large digits) n = (2 ^ 64 ≤ n) × (digits.now ≡ digits_of 10 n)

-- a number itself, where it is below 2^64
abbrev pub below_limit : ℕ → Option ℕ
below_limit n = if nat_lt n (2 ^ 64) then Some n else None
