-- The effect that the code's value and a changed machine stand for.
use Rattle.rv_mach.specs.declared.effect.Effect.{Effect}
use Rattle.rv_mach.specs.declared.effect.Effect.TheVariants.{Next, Jump, Put, Stop}
use Rattle.rv_mach.specs.State.{State}
use Rattle.rv_mach.specs.Step.{Effect as StepEffect, falls, jumps, puts, stops}

abbrev pub effect_of : Effect → State → StepEffect
effect_of Next m = falls m
effect_of (Jump address) m = jumps address m
effect_of (Put byte) m = puts byte m
effect_of (Stop stop) m = stops stop m

-- a byte is put
abbrev pub IsPut : Effect → Type 0
IsPut Next = ⊥
IsPut (Jump address) = ⊥
IsPut (Put byte) = Unit {0}
IsPut (Stop stop) = ⊥
