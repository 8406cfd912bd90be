use Rattle.std.proofs.Common.{◌≡◌, ◌∙◌, None, Some, List, ap, is_some, set, subst, sym}
use Rattle.ir_mem.proofs.LastLemmas.{begins_nowhere, none_sealed, sealed_at}
use Rattle.ir_mem.proofs.StayLemmas.{sealed_stays}
use Rattle.ir_mem.specs.Memory.{IsMemory}
use Rattle.ir_mem.specs.Placing.{read_only, sealed}
use Rattle.ir_mem.specs.Searching.{IsLastAt}
use Rattle.ir_mem.specs.declared.block.Block.{Block}
use Rattle.ir_mem.proofs.memory.Memory.seal.Goals as goal

pub returns-in_err-place-clause-found : goal.returns-in_err-place-clause-found
returns-in_err-place-clause-found c =
    let last = subst (λ (blocks : List Block). IsLastAt blocks c.args.at None) (c.as_slice.ensures.value ∙ c.self.view_is) c.in_err-place.ensures in
    ap is_some c.from_residual.ensures ∙ sym (begins_nowhere c.args.at c.args.self.now last)

pub returns-in_err-place-clause-sealed : goal.returns-in_err-place-clause-sealed
returns-in_err-place-clause-sealed c =
    let last = subst (λ (blocks : List Block). IsLastAt blocks c.args.at None) (c.as_slice.ensures.value ∙ c.self.view_is) c.in_err-place.ensures in
    sym (none_sealed c.args.at c.args.self.now (begins_nowhere c.args.at c.args.self.now last))

pub returns-clause-sealed : goal.returns-clause-sealed
returns-clause-sealed c =
    let last = subst (λ (blocks : List Block). IsLastAt blocks c.args.at (Some c.in_ok-place.place)) c.as_slice.ensures.value c.in_ok-place.ensures in
    ap (λ block. set c.self.inside.blocks.items c.in_ok-place.place (read_only block)) c.index_mut.ensures.value
    ∙ sym (sealed_at c.args.at c.self.inside.blocks.items c.in_ok-place.place c.index_mut.result.now last)
    ∙ ap (sealed c.args.at) c.self.view_is

pub invariant_of-self : goal.invariant_of-self
invariant_of-self c =
    let last = subst (λ (blocks : List Block). IsLastAt blocks c.args.at (Some c.in_ok-place.place)) c.as_slice.ensures.value c.in_ok-place.ensures in
    let now : set c.self.inside.blocks.items c.in_ok-place.place (read_only c.index_mut.result.now) ≡ sealed c.args.at c.self.inside.blocks.items =
    ap (λ block. set c.self.inside.blocks.items c.in_ok-place.place (read_only block)) c.index_mut.ensures.value
    ∙ sym (sealed_at c.args.at c.self.inside.blocks.items c.in_ok-place.place c.index_mut.result.now last) in
    subst IsMemory (sym now) (sealed_stays c.args.at c.self.inside.blocks.items c.self.invariant)
