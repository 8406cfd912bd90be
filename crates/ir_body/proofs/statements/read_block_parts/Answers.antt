use Rattle.std.proofs.Common.{rules, ◌++◌, Ok, ap, refl, sym, ◌∙◌}
use Rattle.std.proofs.lemmas.List.{append-nil}
use Rattle.std.specs.List.{filter_map}
use Rattle.ir_rules.proofs.Repeats.{both, chain_ended, chain_fails, chain_steps, sifted}
use Rattle.ir_rules.proofs.Whole.{read_shorter}
use Rattle.ir_body.specs.Blocks.{after_statement, instr_in, phi_in, statement_firsts, statements}
use Rattle.ir_ops.specs.Operations.{op_flast}
use Rattle.ir_body.proofs.BlockLaws.{statements_law}
use Rattle.ir_body.proofs.statements.read_block_parts.Goals as goal

pub loop-alloc-preserved : goal.loop-alloc-preserved
loop-alloc-preserved c =
    chain_steps statement_firsts op_flast statements after_statement statements_law (λ at. refl)
    (λ found. (c.loop-alloc.phis.items ++ filter_map phi_in found, c.loop-alloc.instrs.items ++ filter_map instr_in found))
    (λ found. (c.keep_statement.new.phis.items ++ filter_map phi_in found, c.keep_statement.new.instrs.items ++ filter_map instr_in found))
    c.loop-alloc.place c.after_statement-place.result c.in_ok-statement.statement c.loop-alloc.rest c.in_ok-statement.after _
    c.after_statement-place.ensures
    (λ found. both
    (sifted phi_in c.loop-alloc.phis.items c.keep_statement.new.phis.items c.in_ok-statement.statement (search rules) found)
    (sifted instr_in c.loop-alloc.instrs.items c.keep_statement.new.instrs.items c.in_ok-statement.statement (search rules) found))
    (search rules) (search rules) c.loop-alloc.invariant

pub returns-in_err-statement : goal.returns-in_err-statement
returns-in_err-statement c =
    chain_fails statement_firsts op_flast statements after_statement statements_law (λ at. refl)
    (λ found. (c.loop-alloc.phis.items ++ filter_map phi_in found, c.loop-alloc.instrs.items ++ filter_map instr_in found))
    c.loop-alloc.place c.loop-alloc.rest _ _ _ (λ m. m) (λ x. x) (λ x. x) c.in_err-statement.field-0.0 c.from_residual.result (search rules) c.loop-alloc.invariant
    (search rules) (search rules)

pub loop-alloc-smaller : goal.loop-alloc-smaller
loop-alloc-smaller c =
    read_shorter (statements c.loop-alloc.place) (statements_law c.loop-alloc.place) refl c.loop-alloc.rest
    (c.in_ok-statement.statement, c.in_ok-statement.after) (search rules)

pub returns : goal.returns
returns c =
    chain_ended statement_firsts op_flast statements after_statement statements_law (λ at. refl)
    (λ found. (c.loop-alloc.phis.items ++ filter_map phi_in found, c.loop-alloc.instrs.items ++ filter_map instr_in found))
    c.loop-alloc.place c.loop-alloc.rest _ c.loop-alloc.invariant (search rules)
    ∙ ap (λ p. Ok (p, c.loop-alloc.rest)) (both (append-nil c.loop-alloc.phis.items ∙ sym c.from_vec.ensures) (append-nil c.loop-alloc.instrs.items ∙ sym c.from_vec-2.ensures))
