-- The numbers in registers while a program that returns a constant runs.
use Rattle.std.proofs.Common.{◌≡◌, ◌+◌, ◌-◌, ◌%◌, ◌^◌, ◌<◌, ℕ, zero, suc, ℤ, pos, negsuc, Bool, true, false, cond, refl, arith}
use Rattle.std.specs.Prelude.{neg_ℤ}
use Rattle.std.proofs.lemmas.Int.{ints}
use Rattle.std.proofs.lemmas.Bool.Decides.{nat_tests}
use Rattle.rv_isa.specs.Encoding.{IsSigned12}
use Rattle.rv_isa.specs.Format.{low_bits}
use Rattle.rv_isa.specs.Text.{is_zero}
use Rattle.obj_link.specs.Words.{high_part, low_part}
use Rattle.rv_mach.specs.State.{wrapped}
use Rattle.rv_mach.specs.Step.{upper_immediate}
use Rattle.ir_syntax.specs.Literals.{literal_value, wrapped as wrapped_literal}
use Rattle.ir_syntax.specs.declared.literal.Literal.{Literal}

-- the two parts of an address give it back
pub call_target : (address : ℕ) → address < 2 ^ 30 → wrapped (upper_immediate (pos (high_part address)) + low_bits 64 (low_part address)) ≡ address
call_target address small = grind (arith, ints, nat_tests)

-- the bits of a constant fit a register, and are what adding it to 0 gives
pub loaded : (value : ℤ) → IsSigned12 value → wrapped (0 + low_bits 64 value) ≡ low_bits 64 value
loaded (pos n) signed = grind (arith, ints)
loaded (negsuc n) signed = omega arith

pub moved : (value : ℤ) → IsSigned12 value → wrapped (low_bits 64 value + 0) ≡ low_bits 64 value
moved (pos n) signed = grind (arith, ints)
moved (negsuc n) signed = omega arith

pub zero_bits : (value : ℤ) → is_zero value ≡ true → low_bits 64 value ≡ 0
zero_bits value is = grind (arith, nat_tests)

-- the code that a program exits with is the value that its constant has in 32 bits
value_same : (negative : Bool) (n : ℕ) → IsSigned12 (cond negative (neg_ℤ (pos n)) (pos n)) →
    cond negative ((2 ^ 32 - n % 2 ^ 32) % 2 ^ 32) (n % 2 ^ 32) % 2 ^ 32 % 2 ^ 32 ≡ low_bits 64 (cond negative (neg_ℤ (pos n)) (pos n)) % 2 ^ 32
value_same true zero signed = refl
value_same true (suc n) signed = grind (arith, ints)
value_same false n signed = grind (arith, ints)

pub constant_value : (l : Literal) → IsSigned12 (literal_value l) → wrapped_literal 32 l % 2 ^ 32 % 2 ^ 32 ≡ low_bits 64 (literal_value l) % 2 ^ 32
constant_value l signed = value_same l.negative l.magnitude signed
