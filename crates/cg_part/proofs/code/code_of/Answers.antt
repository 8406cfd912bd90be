use Rattle.std.proofs.Common.{◌≡◌, rules}
use Rattle.std.proofs.lemmas.List.Elements.{All-same}
use Rattle.rv_isa.specs.Encoding.{IsInst}
use Rattle.cg_part.specs.Code.{function_code}
use Rattle.cg_part.proofs.InstructionLemmas.{code_formed}
use Rattle.cg_part.proofs.code.code_of.Goals as goal

pub returns-clause-formed : goal.returns-clause-formed
returns-clause-formed c =
    let is : c.push_body.new.code.items ≡ function_code c.args.function.now = search rules in
    All-same IsInst _ _ is (code_formed c.args.function.now c.requires)
