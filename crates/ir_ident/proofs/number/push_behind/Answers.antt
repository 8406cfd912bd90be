use Rattle.std.proofs.Common.{arith, rules}
use Rattle.ir_ident.specs.Numbers.{number_in}
use Rattle.ir_ident.proofs.NumberLemmas.{one_behind}
use Rattle.ir_ident.proofs.number.push_behind.Goals as goal

pub returns : goal.returns
returns c =
    let all = one_behind (number_in c.args.digits.now.items) c.args.digit _ _ c.requires.digit (omega (arith, c.requires.digits.0)) c.requires.digits.1 c.in_ok-push.ensures.items in
    record { ok = all.0; digits = all.1; err = search rules }
