-- Numbers of 32 bits, written and read back.
use Rattle.std.proofs.Common.{◌≡◌, ◌∙◌, ap, to_z, of_z, ℕ, ◌<◌, ◌≤ℤ◌, ◌^◌, List, ℤ, pos, negsuc, Result, Ok, subst, sym, arith}
use Rattle.std.proofs.lemmas.Int.{ints, to_z-of_z}
use Rattle.std.proofs.lemmas.Fmt.{IsAscii-signed, parse-signed_decimal, signed_decimal_injective}
use Rattle.std.proofs.lemmas.Str.{IsUtf8-from_ascii}
use Rattle.std.specs.Fmt.{signed_decimal}
use Rattle.std.specs.Int.RustNames.{FitsSigned}
use Rattle.std.specs.Str.{IsUtf8}
use Rattle.std.specs.Str.Parse.{ParsesSigned}
use lib.Signed.{mag}
use mir.Syntax.{w64}
use Rattle.asm_inst.specs.Grammar.{IsBetween}

abbrev pub IsSmall : ℤ → Type 0
IsSmall z = (negsuc 2147483647 ≤ℤ z) × (z ≤ℤ pos 2147483647)

pub small_between : (low high z : ℤ) → IsSmall low → IsSmall high → IsBetween low high z → IsSmall z
small_between low high z l h b = (omega (arith, ints), omega (arith, ints))

pub mag_small : (z : ℤ) → IsSmall z → mag z < 2 ^ 63
mag_small (pos n) h = omega (arith, ints)
mag_small (negsuc n) h = omega (arith, ints)

pub fits_small : (z : ℤ) → IsSmall z → FitsSigned w64 z
fits_small (pos n) h = omega (arith, ints)
fits_small (negsuc n) h = omega (arith, ints)

-- a number's text is text
pub spelled_is_text : (bs : List ℕ) (z : ℤ) → IsSmall z → bs ≡ signed_decimal z → IsUtf8 bs
spelled_is_text bs z h e = subst IsUtf8 (sym e) (IsUtf8-from_ascii _ (IsAscii-signed z (mag_small z h)))

-- and is parsed as the number
pub spelled_parses : {E : Type 0} (bs : List ℕ) (z : ℤ) (r : Result ℤ E) → IsSmall z → bs ≡ signed_decimal z → ParsesSigned w64 10 bs r → r ≡ Ok z
spelled_parses bs z r h e p = parse-signed_decimal w64 z bs r (fits_small z h) (mag_small z h) e p

pub number_once : (y z : ℤ) → IsSmall y → IsSmall z → signed_decimal y ≡ signed_decimal z → y ≡ z
number_once y z hy hz e = signed_decimal_injective y z (mag_small y hy) (mag_small z hz) e

-- a number of 64 bits is written as it is
pub written : (y z : ℤ) → y ≡ z → IsSmall z → signed_decimal (to_z w64 (of_z w64 y)) ≡ signed_decimal z
written y z e h = ap (λ x. signed_decimal (to_z w64 (of_z w64 x))) e ∙ ap signed_decimal (to_z-of_z w64 z (fits_small z h))
