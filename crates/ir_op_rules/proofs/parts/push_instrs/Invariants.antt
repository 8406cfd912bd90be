use Rattle.std.proofs.Common.{◌≡◌, ◌++◌, flat_map, take}
use Rattle.ir_ident.specs.NameMaps.{value_of}
use Rattle.ir_op_rules.specs.OpLines.{instr_lines}
use Rattle.ir_sizes.specs.Sized.{layout_in}
use Rattle.ir_op_rules.proofs.parts.push_instrs.Given as goal

abbrev pub invariant-loop-instr : goal.invariant-loop-instr
invariant-loop-instr l = l.lines.items ≡ l.initial.lines.items ++ flat_map (instr_lines (value_of l.scope.locals.now) (layout_in l.scope.types.now)) (take l.instr-index l.instrs)
