use Rattle.std.proofs.Common.{◌≡◌, take}
use Rattle.ir_ident.specs.NameMaps.{value_of}
use Rattle.ir_uses.specs.Numbered.{flat_numbered}
use Rattle.ir_uses.specs.Uses.{block_uses}
use Rattle.ir_uses.proofs.uses.uses_of.Given as goal

abbrev pub invariant-loop-place : goal.invariant-loop-place
invariant-loop-place l = l.uses.items ≡ flat_numbered (block_uses (value_of l.places) l.blocks) 0 (take l.place l.blocks)
