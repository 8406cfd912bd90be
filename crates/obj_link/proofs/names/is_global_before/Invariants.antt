use Rattle.std.proofs.Common.{◌≡◌, false, take}
use Rattle.obj_link.specs.Names.{is_global}
use Rattle.obj_link.proofs.names.is_global_before.Given as goal

abbrev pub invariant-loop-index : goal.invariant-loop-index
invariant-loop-index l = is_global (take l.index l.inputs) l.name ≡ false
