use Rattle.std.proofs.Common.{rules, ap, subst, sym, ◌∙◌, ◌≡◌, length}
use Rattle.std.proofs.lemmas.List.{length-map}
use Rattle.std.proofs.lemmas.Result.{IfOk-weaker}
use Rattle.ir_aliases.proofs.TableLemmas.{bases_lead, finds_none, finds_some}
use Rattle.ir_aliases.specs.Tables.{Leads, base_positions}
use Rattle.ir_aliases.proofs.tables.ends_table.Goals as goal

pub returns-then-is_empty : goal.returns-then-is_empty
returns-then-is_empty c =
    let is : c.in_ok-bases.bases.items ≡ base_positions c.args.m.now = search rules in
    let none : length c.in_ok-bases.bases.items ≡ 0 = search rules in
    finds_none c.args.m.now c.in_ok-bases.bases.items is none

pub returns : goal.returns
returns c = IfOk-weaker c.leading.result _ _
    (λ table leads.
    let bases : c.as_slice-2.result.now ≡ base_positions c.args.m.now = search rules in
    let one : Leads c.args.m.now 1 c.as_slice-2.result.now = subst (Leads c.args.m.now 1) (sym bases) (bases_lead c.args.m.now) in
    let as_many : c.len.result ≡ length c.args.m.now.aliases =
    c.len.ensures ∙ sym c.as_slice-2.ensures.len ∙ ap length bases ∙ length-map c.args.m.now.aliases _ in
    finds_some c.args.m.now table.items (subst (λ n. Leads c.args.m.now n table.items) as_many (leads c.args.m.now one)))
    c.leading.ensures
