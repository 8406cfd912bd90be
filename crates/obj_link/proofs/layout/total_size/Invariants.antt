use Rattle.std.proofs.Common.{◌≡◌, ◌-◌, ◌^◌, min, take}
use Rattle.obj_link.specs.Layout.{image_size}
use Rattle.obj_link.proofs.layout.total_size.Given as goal

abbrev pub invariant-loop-index : goal.invariant-loop-index
invariant-loop-index l = l.size ≡ min (image_size (take l.index l.inputs)) (2 ^ 64 - 1)
