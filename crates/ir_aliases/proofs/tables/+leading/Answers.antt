use Rattle.std.proofs.Common.{refl, subst, sym, ◌/◌}
use Rattle.std.proofs.lemmas.Result.{IfOk-weaker}
use Rattle.ir_aliases.proofs.TableLemmas.{leads_doubled}
use Rattle.ir_aliases.specs.Tables.{Leads}
use Rattle.ir_aliases.proofs.tables.+leading.Goals as goal

pub returns : goal.returns
returns t c = IfOk-weaker c.doubled.result _ _
    (λ table is m one.
    subst (Leads m c.args.steps) (sym is)
    (leads_doubled m c.args.steps c.args.bases.now _ _ refl one (subst (Leads m (c.args.steps / 2)) (sym c.as_slice.ensures.value) (c.in_ok-half.ensures m one))))
    c.doubled.ensures
