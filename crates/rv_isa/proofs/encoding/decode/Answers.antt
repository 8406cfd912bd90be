use Rattle.std.proofs.Common.{◌≡◌, ◌^◌, ◌<◌, Some, rules, arith, subst}
use Rattle.rv_isa.specs.Encoding.{HasWord, op_of}
use Rattle.rv_isa.proofs.Table.{found-has, none-has}
use Rattle.rv_isa.proofs.encoding.decode.Goals as goal

pub returns-in_err-op-clause-off_table : goal.returns-in_err-op-clause-off_table
returns-in_err-op-clause-off_table c = search (rules, none-has)

pub returns-clause-on_table : goal.returns-clause-on_table
returns-clause-on_table c =
    let found : op_of c.args.word ≡ Some c.in_ok-op.op = search rules in
    let fits : c.args.word < 2 ^ 32 = omega arith in
    subst (λ i. HasWord i c.args.word) (search rules) (found-has c.args.word c.in_ok-op.op fits found)
