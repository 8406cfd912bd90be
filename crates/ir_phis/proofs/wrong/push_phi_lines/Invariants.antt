use Rattle.std.proofs.Common.{◌≡◌, ◌++◌, flat_map, take}
use Rattle.ir_phis.specs.Wrong.{wrong_in_body}
use Rattle.ir_phis.proofs.wrong.push_phi_lines.Given as goal

abbrev pub invariant-loop-function : goal.invariant-loop-function
invariant-loop-function l = l.lines.items ≡ l.initial.lines.items ++ flat_map (λ f. wrong_in_body f.blocks) (take l.function-index l.function-items)
