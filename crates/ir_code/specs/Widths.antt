-- The widths of intrinsics.
use Rattle.ir_call_rules.specs.declared.intrinsic.Intrinsic.{Intrinsic}
use Rattle.ir_call_rules.specs.declared.intrinsic.Intrinsic.TheVariants.{Integer}
use Rattle.ir_eval.specs.Within.{IsValueWidth}

-- a function of integers is one of a width that values have
abbrev pub HasWidth : Intrinsic → Type 0
HasWidth (Integer function bits) = IsValueWidth bits
HasWidth other = Unit {0}
