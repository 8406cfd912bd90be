use Rattle.std.proofs.Common.{◌∙◌, ap, sym}
use Rattle.std.proofs.lemmas.List.Sorted.{IsNonDecreasingBy-from_sort}
use Rattle.ir_phis.proofs.SortedLemmas.{same_order}
use Rattle.ir_phis.specs.Entries.{same_items}
use Rattle.ir_phis.proofs.entries.name_blocks.Goals as goal

pub returns : goal.returns
returns c =
    same_order c.in_ok-named.named.items c.sort.new.self.items c.args.predecessors.now c.are_equal.result
    (λ h. sym c.as_slice.ensures.value ∙ c.are_equal.ensures.equal h)
    (λ h. c.are_equal.ensures.other (c.as_slice.ensures.value ∙ h))
    c.sort.ensures.permutation
    (IsNonDecreasingBy-from_sort (λ x. x) c.sort.new.self.items c.in_ok-sort.ensures.sorted)
    c.requires
    ∙ ap (λ named. same_items named c.args.predecessors.now) c.in_ok-named.ensures
