use Rattle.std.proofs.Common.{◌≡◌, ◌++◌, length}
use Rattle.std.specs.List.{filter_map}
use Rattle.ir_rules.specs.Rules.{chain}
use Rattle.ir_rules.specs.Repeats.{into}
use Rattle.ir_body.specs.Blocks.{after_statement, block_parts, instr_in, phi_in, statement_firsts, statements}
use Rattle.ir_ops.specs.Operations.{op_flast}
use Rattle.ir_body.proofs.statements.read_block_parts.Given as goal

abbrev pub invariant-loop-alloc : goal.invariant-loop-alloc
invariant-loop-alloc l =
    into (λ found. (l.phis.items ++ filter_map phi_in found, l.instrs.items ++ filter_map instr_in found))
    ((chain statement_firsts op_flast statements after_statement l.place).read l.rest)
    ≡ (block_parts l.fn.place).read l.fn.rest

abbrev pub decreases-loop-alloc : goal.decreases-loop-alloc
decreases-loop-alloc l = length l.rest
