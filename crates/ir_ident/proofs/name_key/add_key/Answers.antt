use Rattle.ir_ident.proofs.NameLemmas.{key_added}
use Rattle.ir_ident.proofs.name_key.add_key.Goals as goal

pub returns-clause-ok : goal.returns-clause-ok
returns-clause-ok g c = λ bytes.
    key_added c.args.names.now c.add_first.new.map (record { bytes = c.args.name }) c.args.value bytes c.in_ok-add_first.ensures.added c.in_ok-add_first.ensures.kept
