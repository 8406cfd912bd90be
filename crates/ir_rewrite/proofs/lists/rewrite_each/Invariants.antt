use Rattle.std.proofs.Common.{◌≡◌, ◌++◌, drop, map, take}
use Rattle.ir_rewrite.proofs.lists.rewrite_each.Given as goal

abbrev pub invariant-loop-item : goal.invariant-loop-item
invariant-loop-item g l =
    let rewritten = g.T.Rewritten.rewritten (g.R.Rewrite.ty_of l.by) (g.R.Rewrite.gep_of l.by) in
    take l.item-index l.items ++ map rewritten (drop l.item-index l.items) ≡ map rewritten l.initial.items
