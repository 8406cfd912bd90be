use Rattle.std.proofs.Common.{rules, ◌≡◌, ◌∙◌, ap}
use Rattle.ir_syntax.proofs.Fields.{is_from_its_list}
use Rattle.ir_syntax.specs.Types.{list_of, trees_from}
use Rattle.ir_unname.specs.Plain.{texts_of}
use Rattle.ty_core.specs.Tree.{trees_of}
use Rattle.ir_unname.proofs.plain.+writing.Goals as goal

pub texts_of-returns : goal.texts_of-returns
texts_of-returns t c =
    let all : c.from_vec.result ≡ list_of (texts_of (trees_of c.args.fields.now)) = search rules in
    ap trees_from all ∙ is_from_its_list _
