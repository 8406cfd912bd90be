use Rattle.ir_ident.proofs.NumberLemmas.{one_behind}
use Rattle.ir_ident.proofs.number.large.Goals as goal

pub returns : goal.returns
returns c =
    let all = one_behind c.args.number c.args.digit _ _ c.requires.digit c.requires.large c.in_ok-digits.ensures c.in_ok-push.ensures.items in
    record { value = all.0; digits = all.1 }
