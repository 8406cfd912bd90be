use Rattle.std.proofs.Common.{◌≡◌, rules, true}
use Rattle.ir_mem.proofs.ChangeLemmas.{number_put}
use Rattle.ir_mem.proofs.memory.put_number.Goals as goal

pub returns-clause-put : goal.returns-clause-put
returns-clause-put c =
    let writable : c.args.block.now.writable ≡ true = search rules in
    number_put c.args.at c.args.size c.args.value c.args.block.now c.put.new.self writable (search rules)
