-- Intrinsics of integers by their names have widths that values have.
use Rattle.std.proofs.Common.{◌≡◌, ℕ, ◌+◌, ◌*◌, ◌-◌, ◌≤◌, Bool, true, false, ◌&&◌, nat_eq, nat_le, if◌then◌else◌, Option, None, Some, option_map, List, [], ◌∷◌, drop, length, bytes_eq, codes, refl, subst, arith}
use Rattle.std.proofs.lemmas.Bool.{and_parts, leb-true}
use Rattle.std.specs.List.{starts_with}
use Rattle.cg_num.specs.declared.function.IntegerFunction.{IntegerFunction}
use Rattle.ir_call_rules.specs.Intrinsics.{Entry, integer_functions, integer_in, intrinsic_of, is_between, named_or, up_to_widest, width_after, width_in}
use Rattle.ir_call_rules.specs.declared.intrinsic.Intrinsic.{Intrinsic}
use Rattle.ir_call_rules.specs.declared.intrinsic.Intrinsic.TheVariants.{Integer, Trap, Memcpy, Memmove, Memset}
use Rattle.ir_code.specs.Widths.{HasWidth}
use Rattle.ir_eval.specs.Within.{IsValueWidth}
use Rattle.ir_ident.specs.NameMaps.{or_else}

some_is : {A : Type 0} {a b : A} → Some a ≡ Some b → a ≡ b
some_is same = cc

-- what is given under a test
if_some : {A : Type 0} (test : Bool) (o : Option A) (a : A) → (if test then o else None) ≡ Some a → (test ≡ true) × (o ≡ Some a)
if_some true o a is = (refl, is)
if_some false o a is = absurd (cc)

between : (low high n : ℕ) → is_between low high n ≡ true → (low ≤ n) × (n ≤ high)
between low high n is =
    let parts = and_parts (nat_le low n) (nat_le n high) is in
    (leb-true low n parts.0, leb-true n high parts.1)

width : (digits : List ℕ) (n : ℕ) → width_in digits ≡ Some n → IsValueWidth n
width [] n is = absurd (cc)
width (ones ∷ []) n is =
    let parts = if_some (is_between 49 57 ones) (Some (ones - 48)) n is in
    let same : ones - 48 ≡ n = some_is parts.1 in
    let range = between 49 57 ones parts.0 in
    (omega (arith, same, range.0, range.1), omega (arith, same, range.0, range.1))
width (tens ∷ ones ∷ []) n is =
    let number = 10 * (tens - 48) + (ones - 48) in
    let parts = and_if tens ones number n is in
    let range = between 49 57 tens parts.0 in
    let small = if_some (nat_le number 64) (Some number) n parts.1 in
    let same : number ≡ n = some_is small.1 in
    let most : number ≤ 64 = leb-true number 64 small.0 in
    (omega (arith, same, range.0), omega (arith, same, most))
  where
    and_if : (tens ones number n : ℕ) → (if is_between 49 57 tens && is_between 48 57 ones then up_to_widest number else None) ≡ Some n
        → (is_between 49 57 tens ≡ true) × (up_to_widest number ≡ Some n)
    and_if tens ones number n is =
        let parts = if_some (is_between 49 57 tens && is_between 48 57 ones) (up_to_widest number) n is in
        ((and_parts (is_between 49 57 tens) (is_between 48 57 ones) parts.0).0, parts.1)
width (a ∷ b ∷ c ∷ more) n is = absurd (cc)

-- an intrinsic, if there is one, has such a width
abbrev Has : Option Intrinsic → Type 0
Has None = Unit {0}
Has (Some intrinsic) = HasWidth intrinsic

has_width : (function : IntegerFunction) (o : Option ℕ) → ((n : ℕ) → o ≡ Some n → IsValueWidth n) → Has (option_map (Integer function) o)
has_width function None each = tt
has_width function (Some n) each = each n refl

has_else : (a b : Option Intrinsic) → Has a → Has b → Has (or_else a b)
has_else None b first second = second
has_else (Some a) b first second = first

has_if : (test : Bool) (a b : Option Intrinsic) → Has a → Has b → Has (if test then a else b)
has_if true a b first second = first
has_if false a b first second = second

has_integer : (entries : List Entry) (name : List ℕ) → Has (integer_in entries name)
has_integer [] name = tt
has_integer (entry ∷ entries) name =
    has_else (option_map (Integer entry.1) (width_after entry.0 name)) (integer_in entries name)
    (has_width entry.1 (width_after entry.0 name) (λ n is.
    width (drop (length entry.0) name) n (if_some (starts_with nat_eq name entry.0) (width_in (drop (length entry.0) name)) n is).1))
    (has_integer entries name)

has_named : (other : Option Intrinsic) (name : List ℕ) → Has other → Has (named_or other name)
has_named other name has =
    has_if (bytes_eq name (codes "llvm.trap")) (Some Trap) _ tt
    (has_if (bytes_eq name (codes "llvm.memcpy.p0.p0.i64")) (Some Memcpy) _ tt
    (has_if (bytes_eq name (codes "llvm.memmove.p0.p0.i64")) (Some Memmove) _ tt
    (has_if (bytes_eq name (codes "llvm.memset.p0.i64")) (Some Memset) other tt has)))

-- the intrinsic of a name has such a width
pub known_width : (name : List ℕ) (intrinsic : Intrinsic) → intrinsic_of name ≡ Some intrinsic → HasWidth intrinsic
known_width name intrinsic is = subst Has is (has_named (integer_in integer_functions name) name (has_integer integer_functions name))
