-- Intrinsics by their names (LangRef, "Intrinsic Functions").
use Rattle.std.specs.Prelude.{ℕ, ◌+◌, ◌*◌, ◌-◌, Bool, ◌&&◌, nat_eq, nat_le, Option, None, Some, option_map, List, [], ◌∷◌, codes, drop, length, if◌then◌else◌}
use Rattle.std.specs.List.{starts_with}
use Rattle.std.specs.Str.{bytes_eq}
use Rattle.cg_num.specs.declared.function.IntegerFunction.{IntegerFunction}
use Rattle.cg_num.specs.declared.function.IntegerFunction.TheVariants.{Ctpop, Bswap, Ctlz, Cttz, Abs, Fshl, Fshr, Smax, Smin, Umax, Umin}
use Rattle.ir_call_rules.specs.declared.intrinsic.Intrinsic.{Intrinsic}
use Rattle.ir_call_rules.specs.declared.intrinsic.Intrinsic.TheVariants.{Integer, Trap, Memcpy, Memmove, Memset}
use Rattle.ir_ident.specs.NameMaps.{or_else}

-- a name without its width, and the function that it is of
abbrev pub Entry : Type 0
Entry = List ℕ × IntegerFunction

-- the functions of integers of each width
abbrev pub integer_functions : List Entry
integer_functions =
    (codes "llvm.ctpop.i", Ctpop) ∷
    (codes "llvm.bswap.i", Bswap) ∷
    (codes "llvm.ctlz.i", Ctlz) ∷
    (codes "llvm.cttz.i", Cttz) ∷
    (codes "llvm.abs.i", Abs) ∷
    (codes "llvm.fshl.i", Fshl) ∷
    (codes "llvm.fshr.i", Fshr) ∷
    (codes "llvm.smax.i", Smax) ∷
    (codes "llvm.smin.i", Smin) ∷
    (codes "llvm.umax.i", Umax) ∷
    (codes "llvm.umin.i", Umin) ∷
    []

abbrev pub is_between : ℕ → ℕ → ℕ → Bool
is_between low high n = nat_le low n && nat_le n high

-- the greatest width is 64
abbrev pub up_to_widest : ℕ → Option ℕ
up_to_widest n = if nat_le n 64 then Some n else None

-- the number from 1 to 64 that is written by these digits, without a leading zero
abbrev pub width_in : List ℕ → Option ℕ
width_in (ones ∷ []) = if is_between 49 57 ones then Some (ones - 48) else None
width_in (tens ∷ ones ∷ []) =
    if is_between 49 57 tens && is_between 48 57 ones then up_to_widest (10 * (tens - 48) + (ones - 48)) else None
width_in other = None

-- the width that stands behind a prefix
abbrev pub width_after : List ℕ → List ℕ → Option ℕ
width_after prefix name = if starts_with nat_eq name prefix then width_in (drop (length prefix) name) else None

-- one of these functions of integers
abbrev pub integer_in : List Entry → List ℕ → Option Intrinsic
integer_in [] name = None
integer_in (entry ∷ entries) name = or_else (option_map (Integer entry.1) (width_after entry.0 name)) (integer_in entries name)

-- one that is of one type only, or another
abbrev pub named_or : Option Intrinsic → List ℕ → Option Intrinsic
named_or other name =
    if bytes_eq name (codes "llvm.trap") then Some Trap
    else if bytes_eq name (codes "llvm.memcpy.p0.p0.i64") then Some Memcpy
    else if bytes_eq name (codes "llvm.memmove.p0.p0.i64") then Some Memmove
    else if bytes_eq name (codes "llvm.memset.p0.i64") then Some Memset
    else other

-- the intrinsic of a name
abbrev pub intrinsic_of : List ℕ → Option Intrinsic
intrinsic_of name = named_or (integer_in integer_functions name) name
