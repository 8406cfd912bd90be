use Rattle.std.proofs.Common.{◌≡◌, drop, map}
use Rattle.ir_geps.specs.Ranges.{go_down}
use Rattle.ir_syntax.specs.Types.{tree_of}
use Rattle.ir_geps.proofs.range.go_down.Given as goal

abbrev pub invariant-loop-index : goal.invariant-loop-index
invariant-loop-index g l =
    go_down l.types (tree_of l.part) (map g.I.GepIndex.index (drop l.index-index l.indices)) ≡ go_down l.types (tree_of l.initial.part) (map g.I.GepIndex.index l.indices)
