use Rattle.std.proofs.Common.{rules, tests}
use Rattle.std.proofs.lemmas.Iterator.{YieldsList-from_slice}
use Rattle.std.proofs.lemmas.Iterator.Consumers.{YieldsList-from_filter, count_from_yields_List}
use Rattle.ir_syntax.specs.Definitions.{has_body}
use Rattle.ir_check.proofs.limits.count_defined.Goals as goal

pub returns : goal.returns
returns c =
    count_from_yields_List c.filter.result c.count.result c.count.ensures.ran
    (YieldsList-from_filter _ has_body (YieldsList-from_slice c.args.functions.now cc) c.filter.ensures.closure (λ x b q k. search (rules, tests)))
