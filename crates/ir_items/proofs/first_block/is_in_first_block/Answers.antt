use Rattle.std.proofs.Common.{refl, rules, suc}
use Rattle.ir_rules.proofs.Whole.{read_shorter}
use Rattle.ir_items.specs.Entities.{entities}
use Rattle.ir_items.proofs.EntityLaws.{entities_law}
use Rattle.ir_items.proofs.Placing.{placed_by, placed_outside}
use Rattle.ir_items.proofs.Walks.{one_more}
use Rattle.ir_items.proofs.first_block.is_in_first_block.Goals as goal

pub returns-in-Err-Bad : goal.returns-in-Err-Bad
returns-in-Err-Bad c =
    placed_by c.args.rest c.loop-rest.rest c.loop-rest.invariant.0 c.loop-rest.invariant.1 c.in-Err-Bad.field-0-0 (search rules) c.stops_in_block.result c.stops_in_block.ensures

pub loop-rest-smaller : goal.loop-rest-smaller
loop-rest-smaller c = read_shorter entities entities_law refl c.loop-rest.rest (c.in-Ok.found, c.in-Ok.after) (search rules)

pub loop-rest-preserved : goal.loop-rest-preserved
loop-rest-preserved c =
    (suc c.loop-rest.invariant.0, one_more entities c.loop-rest.invariant.0 c.args.rest c.loop-rest.rest (c.in-Ok.found, c.in-Ok.after) c.loop-rest.invariant.1 (search rules))

pub returns : goal.returns
returns c = placed_outside c.args.rest c.loop-rest.rest c.loop-rest.invariant.0 c.loop-rest.invariant.1 (search rules)
