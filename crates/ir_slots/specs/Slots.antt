-- The slots of a function's values: one for each name that it gives to a value, in the order of the text.
use Rattle.std.specs.Prelude.{ℕ, Option, None, Some, List, [], ◌∷◌, get_or}
use Rattle.ir_ident.specs.Places.{place_by}
use Rattle.ir_ident.specs.declared.name.Name.{Name}
use Rattle.ir_sem.specs.Locals.{Locals}
use Rattle.ir_sem.specs.declared.value.Value.{Value}
use Rattle.ir_sem.specs.declared.value.Value.TheVariants.{Poison}
use Rattle.ir_syntax.specs.declared.function.Function.{Function}
use Rattle.ir_walk.specs.Locals.{Local, value_local, label_local, in_function}

-- a label has no value
abbrev pub value_names : Local → List Name
value_names (value_local line name_line name) = name ∷ []
value_names (label_local line name) = []

-- the names of the parameters and results of a function
abbrev pub slot_names : Function → List Name
slot_names f = in_function value_names f

-- where several names are one, it has the slot of the first
abbrev pub slot_of : List Name → Name → Option ℕ
slot_of names name = place_by (λ own. own) names name

abbrev pub slot_value : List Value → Option ℕ → Value
slot_value values None = Poison
slot_value values (Some slot) = get_or values slot Poison

-- the values of names, where those of the slots are these
abbrev pub locals_in : List Name → List Value → Locals
locals_in names values name = slot_value values (slot_of names name)
