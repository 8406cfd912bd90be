use Rattle.std.proofs.Common.{◌≡◌, drop, Some}
use Rattle.ir_geps.specs.Offsets.{offset_within, sum_of, in_64_bits}
use Rattle.ir_syntax.specs.Types.{tree_of}
use Rattle.ir_geps.proofs.offset.offset_within.Given as goal

abbrev pub invariant-loop-literal : goal.invariant-loop-literal
invariant-loop-literal l =
    in_64_bits (sum_of (Some l.offset) (offset_within l.types (tree_of l.part) (drop l.literal-index l.literals))) ≡ in_64_bits (offset_within l.types (tree_of l.ty) l.literals)
