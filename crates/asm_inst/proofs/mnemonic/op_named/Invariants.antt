use Rattle.std.proofs.Common.{◌≡◌, ℕ, ◌<◌}
use Rattle.rv_isa.specs.Table.{mnemonic}
use Rattle.asm_inst.specs.Mnemonics.{op_at}
use Rattle.asm_inst.proofs.mnemonic.op_named.Given as goal

abbrev pub invariant-loop-place : goal.invariant-loop-place
invariant-loop-place l = (n : ℕ) → n < l.place → l.word ≡ mnemonic (op_at n) → ⊥
