use Rattle.std.proofs.Common.{◌≡◌, ◌++◌, [], ◌∷◌, List, Option, subst, sym, ap, ◌∙◌}
use Rattle.rv_isa.specs.declared.statement.Statement.{Statement}
use Rattle.asm_read.proofs.TextLemmas.{AreReadUpTo, is_nothing, last_piece, one_line_more}
use Rattle.asm_read.proofs.lines.read_lines.Goals as goal

pub loop-line-preserved : goal.loop-line-preserved
loop-line-preserved c =
    let readings : List (Option Statement) = c.loop-line.readings.items in
    let items : readings ++ c.in_ok-read_line.field-0 ∷ [] ≡ c.push.new.self.items = sym {A = List (Option Statement)} c.in_ok-push.ensures.items in
    let cut = c.in-Some.ensures in
    subst (λ rs. AreReadUpTo c.args.text.now rs c.in-Some.after.now) items
    (one_line_more c.args.text.now c.loop-line.rest.now c.in-Some.line.now c.in-Some.after.now readings c.in_ok-read_line.field-0 cut.0 cut.1 c.in_ok-read_line.ensures c.loop-line.invariant)

pub returns : goal.returns
returns c =
    let upto = c.loop-line.invariant in
    (upto.0, c.loop-line.rest.now, upto.2 ∙ ap (λ ps. upto.0 ++ ps) (last_piece c.loop-line.rest.now c.in_default.ensures), upto.1, is_nothing c.loop-line.rest.now c.is_empty.result c.is_empty.ensures)
