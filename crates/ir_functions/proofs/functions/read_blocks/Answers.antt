use Rattle.std.proofs.Common.{false, rules, subst, true}
use Rattle.ir_rules.specs.Reading.{Gives}
use Rattle.ir_rules.proofs.Repeats.{first_and_each}
use Rattle.ir_body.specs.Blocks.{blocks}
use Rattle.ir_body.proofs.BlockLaws.{blocks_law}
use Rattle.ir_functions.proofs.functions.read_blocks.Goals as goal

pub append_each-requires-clause-law : goal.append_each-requires-clause-law
append_each-requires-clause-law c = blocks_law false

pub returns : goal.returns
returns c =
    subst (Gives (λ x. (x.0.items, x.1)) c.append_each.result)
    (first_and_each (blocks true) (blocks false) c.in_ok-first.first c.args.rest c.in_ok-first.rest (search rules) c.push.new.self.items (search rules))
    c.append_each.ensures
