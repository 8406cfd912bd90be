use Rattle.std.proofs.Common.{◌≡◌, take, flat_map}
use Rattle.ir_ident.specs.NameMaps.{value_of}
use Rattle.ir_cfg.specs.Reached.{label_successors}
use Rattle.ir_cfg.proofs.successors.places_of.Given as goal

abbrev pub invariant-loop-target : goal.invariant-loop-target
invariant-loop-target l = l.successors.items ≡ flat_map (label_successors (value_of l.places)) (take l.target-index l.targets)
