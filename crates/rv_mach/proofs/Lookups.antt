-- Registers by look-up, where one of them was set.
use Rattle.std.proofs.Common.{◌≡◌, ◌<◌, ℕ, suc, zero, length, arith, refl}
use Rattle.std.specs.Prelude.{◌≢◌}
use Rattle.std.proofs.lemmas.List.{get_or-set_same, get_or-set_other}
use Rattle.rv_mach.specs.State.{State, register, with_register}

pub register-same : (r value : ℕ) (m : State) → 0 < r → r < length m.registers → register r (with_register r value m) ≡ value
register-same zero value m above within = absurd (omega arith)
register-same (suc r) value m above within = get_or-set_same m.registers (suc r) value 0 within

pub register-other : (r s value : ℕ) (m : State) → s ≢ r → register s (with_register r value m) ≡ register s m
register-other zero s value m other = refl
register-other (suc r) s value m other = get_or-set_other m.registers (suc r) s value 0 other
