use Rattle.std.proofs.Common.{◌<◌, arith}
use Rattle.rv_isa.proofs.Names.{text_at}
use Rattle.rv_isa.proofs.register.register_name.Goals as goal

pub returns : goal.returns
returns c = let inside : c.args.number < 32 = omega arith in rw text_at
