use Rattle.std.proofs.Common.{◌≡◌, ℕ, ◌<◌}
use Rattle.rv_isa.specs.Text.{register}
use Rattle.asm_inst.proofs.register.read_register.Given as goal

abbrev pub invariant-loop-number : goal.invariant-loop-number
invariant-loop-number l = (r : ℕ) → r < l.number → l.name ≡ register r → ⊥
