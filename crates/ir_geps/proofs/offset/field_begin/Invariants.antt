use Rattle.std.proofs.Common.{◌≡◌, ◌≤◌}
use Rattle.ir_geps.specs.Offsets.{field_begin}
use Rattle.ir_syntax.specs.Types.{trees_in}
use Rattle.ty_core.specs.Size.{size_limit}
use Rattle.ir_geps.proofs.offset.field_begin.Given as goal

abbrev pub invariant-loop-rest : goal.invariant-loop-rest
invariant-loop-rest l = record {
  all : field_begin l.types l.packed l.at (trees_in l.rest) l.left ≡ field_begin l.types l.packed 0 (trees_in l.fields) l.place;
  within : l.at ≤ size_limit;
}
