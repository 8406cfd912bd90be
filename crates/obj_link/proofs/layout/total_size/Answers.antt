use Rattle.std.proofs.Common.{arith}
use Rattle.obj_link.specs.Layout.{size_of}
use Rattle.obj_link.proofs.Placing.{sum_at}
use Rattle.obj_link.proofs.layout.total_size.Goals as goal

pub loop-index-preserved : goal.loop-index-preserved
loop-index-preserved c =
    let step = sum_at size_of c.args.inputs.now c.loop-index.index c.get.result.now c.get.ensures in
    omega arith
