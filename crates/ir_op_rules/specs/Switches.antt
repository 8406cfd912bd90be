-- The values of a `switch` (LangRef, "'switch' Instruction").
use Rattle.std.specs.Prelude.{ℕ, Bool, true, false, ◌&&◌, not, nat_eq, Option, None, Some, List, [], ◌∷◌, ◌++◌, map}
use Rattle.std.specs.List.{list_any}
use Rattle.ir_syntax.specs.Literals.{width_of, wrapped}
use Rattle.ir_syntax.specs.declared.term.Case.{Case}
use Rattle.ir_syntax.specs.declared.term.Term.{Term}
use Rattle.ir_syntax.specs.declared.term.Term.TheVariants.{ReturnVoid, Ret, Br, CondBr, Switch, Unreachable}

-- none of these is equal to one before it, or among those of `before`
abbrev pub differ_after : List ℕ → List ℕ → Bool
differ_after before [] = true
differ_after before (x ∷ xs) = not (list_any (nat_eq x) before) && differ_after (before ++ x ∷ []) xs

-- no two of these are equal
abbrev pub all_differ : List ℕ → Bool
all_differ xs = differ_after [] xs

-- the values of cases at a width
abbrev pub case_values : ℕ → List Case → List ℕ
case_values bits cases = map (λ c. wrapped bits c.value) cases

abbrev pub differ_at : Option ℕ → List Case → Bool
differ_at None cases = false
differ_at (Some bits) cases = all_differ (case_values bits cases)

-- the values of a `switch` differ as numbers of its type
abbrev pub cases_differ : Term → Bool
cases_differ (ReturnVoid line) = true
cases_differ (Ret line ty value) = true
cases_differ (Br line target) = true
cases_differ (CondBr line ty condition then_target else_target) = true
cases_differ (Switch line ty value default cases) = differ_at (width_of ty) cases
cases_differ (Unreachable line) = true
