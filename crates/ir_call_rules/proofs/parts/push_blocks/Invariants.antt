use Rattle.std.proofs.Common.{◌≡◌, ◌++◌, flat_map, take}
use Rattle.ir_call_rules.specs.CallLines.{block_lines}
use Rattle.ir_call_rules.specs.Ops.{callee_of}
use Rattle.ir_ident.specs.NameMaps.{value_of}
use Rattle.ir_call_rules.proofs.parts.push_blocks.Given as goal

abbrev pub invariant-loop-block : goal.invariant-loop-block
invariant-loop-block l = l.lines.items ≡ l.initial.lines.items ++ flat_map (block_lines (value_of l.scope.locals.now) (callee_of l.scope.ends.now)) (take l.block-index l.blocks)
