use Rattle.std.proofs.Common.{take}
use Rattle.ir_cfg.specs.Searches.{Sees}
use Rattle.ir_cfg.proofs.reached.see_all.Given as goal

abbrev pub invariant-loop-place : goal.invariant-loop-place
invariant-loop-place l = Sees l.initial.marks.items l.initial.todo.items (take l.place-index l.places) l.marks.items l.todo.items
