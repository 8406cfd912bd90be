use Rattle.std.proofs.Common.{◌∙◌, ap, option_map}
use Rattle.ir_mem.proofs.ChangeLemmas.{bytes_found, found}
use Rattle.ir_mem.specs.Memory.{block_at, bytes_from}
use Rattle.ir_mem.proofs.memory.Memory.bytes.Goals as goal

pub returns : goal.returns
returns c =
    let blocks = c.self.inside.blocks.items in
    let place = c.in_ok-place.place in
    let block = c.index-block.result.now in
    let is =
    found c.as_slice.result.now blocks c.as_slice.ensures.value c.self.invariant c.args.at c.args.size place block c.requires c.in_ok-place.ensures.bound
    c.in_ok-place.ensures.held c.index-block.ensures in
    bytes_found blocks c.args.at c.args.size place block c.as_slice-2.result.now is c.as_slice-2.ensures
    ∙ ap (λ bs. option_map (bytes_from c.args.at c.args.size) (block_at bs c.args.at c.args.size)) c.self.view_is
