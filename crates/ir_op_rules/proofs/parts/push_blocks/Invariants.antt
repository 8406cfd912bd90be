use Rattle.std.proofs.Common.{◌≡◌, ◌++◌, flat_map, take}
use Rattle.ir_ident.specs.NameMaps.{value_of}
use Rattle.ir_op_rules.specs.OpLines.{block_lines}
use Rattle.ir_sizes.specs.Sized.{layout_in}
use Rattle.ir_op_rules.proofs.parts.push_blocks.Given as goal

abbrev pub invariant-loop-block : goal.invariant-loop-block
invariant-loop-block l = l.lines.items ≡ l.initial.lines.items ++ flat_map (block_lines (value_of l.scope.locals.now) (layout_in l.scope.types.now) l.scope.returned.now) (take l.block-index l.blocks)
