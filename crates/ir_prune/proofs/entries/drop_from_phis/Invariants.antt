use Rattle.std.proofs.Common.{◌≡◌, ◌++◌, drop, map, take}
use Rattle.ir_ident.specs.NameMaps.{has_name}
use Rattle.ir_prune.specs.Pruned.{without_labels}
use Rattle.ir_prune.proofs.entries.drop_from_phis.Given as goal

abbrev pub invariant-loop-phi : goal.invariant-loop-phi
invariant-loop-phi l = take l.phi-index l.phis ++ map (without_labels (has_name l.labels)) (drop l.phi-index l.phis) ≡ map (without_labels (has_name l.labels)) l.initial.phis
