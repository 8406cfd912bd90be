-- When a condition on two integers holds (LangRef, "'icmp' Instruction").
use Rattle.std.specs.Prelude.{ℕ, Bool, not, nat_eq, nat_le, nat_lt, int_le, int_lt}
use Rattle.cg_num.specs.Signed.{signed}
use Rattle.cg_num.specs.declared.pred.Pred.{Pred}
use Rattle.cg_num.specs.declared.pred.Pred.TheVariants.{Eq, Ne, Ugt, Uge, Ult, Ule, Sgt, Sge, Slt, Sle}

abbrev pub holds : Pred → ℕ → ℕ → ℕ → Bool
holds Eq bits a b = nat_eq a b
holds Ne bits a b = not (nat_eq a b)
holds Ugt bits a b = nat_lt b a
holds Uge bits a b = nat_le b a
holds Ult bits a b = nat_lt a b
holds Ule bits a b = nat_le a b
holds Sgt bits a b = int_lt (signed bits b) (signed bits a)
holds Sge bits a b = int_le (signed bits b) (signed bits a)
holds Slt bits a b = int_lt (signed bits a) (signed bits b)
holds Sle bits a b = int_le (signed bits a) (signed bits b)
