use Rattle.std.proofs.Common.{◌≡◌, ◌++◌, flat_map, take}
use Rattle.ir_ident.specs.NameMaps.{value_of}
use Rattle.ir_uses.specs.Uses.{phi_uses}
use Rattle.ir_uses.proofs.uses.push_phis.Given as goal

abbrev pub invariant-loop-phi : goal.invariant-loop-phi
invariant-loop-phi l = l.uses.items ≡ l.initial.uses.items ++ flat_map (phi_uses (value_of l.places) l.blocks) (take l.phi-index l.phis)
