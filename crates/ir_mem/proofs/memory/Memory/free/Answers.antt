use Rattle.std.proofs.Common.{◌≡◌, ◌∙◌, None, Some, List, ap, is_some, remove, subst, sym}
use Rattle.ir_mem.proofs.LastLemmas.{begins_nowhere, freed_at, none_freed}
use Rattle.ir_mem.proofs.StayLemmas.{freed_stays}
use Rattle.ir_mem.specs.Memory.{IsMemory}
use Rattle.ir_mem.specs.Placing.{freed}
use Rattle.ir_mem.specs.Searching.{IsLastAt}
use Rattle.ir_mem.specs.declared.block.Block.{Block}
use Rattle.ir_mem.proofs.memory.Memory.free.Goals as goal

pub returns-in_err-place-clause-found : goal.returns-in_err-place-clause-found
returns-in_err-place-clause-found c =
    let last = subst (λ (blocks : List Block). IsLastAt blocks c.args.at None) (c.as_slice.ensures.value ∙ c.self.view_is) c.in_err-place.ensures in
    ap is_some c.from_residual.ensures ∙ sym (begins_nowhere c.args.at c.args.self.now last)

pub returns-in_err-place-clause-freed : goal.returns-in_err-place-clause-freed
returns-in_err-place-clause-freed c =
    let last = subst (λ (blocks : List Block). IsLastAt blocks c.args.at None) (c.as_slice.ensures.value ∙ c.self.view_is) c.in_err-place.ensures in
    sym (none_freed c.args.at c.args.self.now (begins_nowhere c.args.at c.args.self.now last))

pub returns-clause-freed : goal.returns-clause-freed
returns-clause-freed c =
    let last = subst (λ (blocks : List Block). IsLastAt blocks c.args.at (Some c.in_ok-place.place)) (c.as_slice.ensures.value ∙ c.self.view_is) c.in_ok-place.ensures in
    c.remove-block.ensures.items
    ∙ ap (λ blocks. remove blocks c.in_ok-place.place) c.self.view_is
    ∙ sym (freed_at c.args.at c.args.self.now c.in_ok-place.place c.remove-block.result last)

pub invariant_of-self : goal.invariant_of-self
invariant_of-self c =
    let last = subst (λ (blocks : List Block). IsLastAt blocks c.args.at (Some c.in_ok-place.place)) c.as_slice.ensures.value c.in_ok-place.ensures in
    let now : c.remove-block.new.self.items ≡ freed c.args.at c.self.inside.blocks.items =
    c.remove-block.ensures.items ∙ sym (freed_at c.args.at c.self.inside.blocks.items c.in_ok-place.place c.remove-block.result last) in
    subst IsMemory (sym now) (freed_stays c.args.at c.self.inside.blocks.items c.self.invariant)
