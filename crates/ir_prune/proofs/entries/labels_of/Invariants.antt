use Rattle.std.proofs.Common.{◌≡◌, take}
use Rattle.ir_ident.specs.NameMaps.{has_name}
use Rattle.ir_ident.specs.declared.name.Name.{Name}
use Rattle.ir_prune.specs.Pruned.{is_label}
use Rattle.ir_prune.proofs.entries.labels_of.Given as goal

abbrev pub invariant-loop-block : goal.invariant-loop-block
invariant-loop-block l = (name : Name) → has_name l.labels name ≡ is_label (take l.block-index l.blocks) name
