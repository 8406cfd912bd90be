use Rattle.std.specs.List.{flat_map}
use Rattle.ir_scope.specs.Locals.{instr_values, phi_values}
use Rattle.ir_scope.proofs.Adding.{adds_after, adds_same}
use Rattle.ir_scope.proofs.locals.add_block.Goals as goal

pub returns : goal.returns
returns c =
    adds_after c.args.scalars.now c.add_all.new.scalars c.add_all-2.new.scalars (flat_map phi_values c.args.block.now.phis) (flat_map instr_values c.args.block.now.instrs)
    (adds_same phi_values c.args.scalars.now c.add_all.new.scalars c.as_slice.result.now c.args.block.now.phis c.as_slice.ensures c.in_ok-add_all.ensures)
    (adds_same instr_values c.add_all.new.scalars c.add_all-2.new.scalars c.as_slice-2.result.now c.args.block.now.instrs c.as_slice-2.ensures c.in_ok-add_all-2.ensures)
