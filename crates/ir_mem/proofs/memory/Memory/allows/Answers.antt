use Rattle.std.proofs.Common.{◌∙◌, ap}
use Rattle.ir_mem.proofs.ChangeLemmas.{found, found_allows}
use Rattle.ir_mem.specs.Memory.{can_access}
use Rattle.ir_mem.proofs.memory.Memory.allows.Goals as goal

pub returns-in-Some : goal.returns-in-Some
returns-in-Some c =
    let blocks = c.self.inside.blocks.items in
    let place = c.in-Some.place in
    let block = c.index.result.now in
    let is =
    found c.as_slice.result.now blocks c.as_slice.ensures.value c.self.invariant c.args.at c.args.size place block c.requires c.in-Some.ensures.bound
    c.in-Some.ensures.held c.index.ensures in
    found_allows blocks c.args.at c.args.size place block c.args.write is
    ∙ ap (λ bs. can_access bs c.args.at c.args.size c.args.write) c.self.view_is
