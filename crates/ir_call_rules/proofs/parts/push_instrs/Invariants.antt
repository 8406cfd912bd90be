use Rattle.std.proofs.Common.{◌≡◌, ◌++◌, flat_map, take}
use Rattle.ir_call_rules.specs.CallLines.{instr_lines}
use Rattle.ir_call_rules.specs.Ops.{callee_of}
use Rattle.ir_ident.specs.NameMaps.{value_of}
use Rattle.ir_call_rules.proofs.parts.push_instrs.Given as goal

abbrev pub invariant-loop-instr : goal.invariant-loop-instr
invariant-loop-instr l = l.lines.items ≡ l.initial.lines.items ++ flat_map (instr_lines (value_of l.scope.locals.now) (callee_of l.scope.ends.now)) (take l.instr-index l.instrs)
