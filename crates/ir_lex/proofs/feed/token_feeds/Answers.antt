use Rattle.std.proofs.Common.{sym, take, ◌∙◌}
use Rattle.ir_lex.proofs.Plain.{no_feeds}
use Rattle.ir_lex.proofs.Spans.{longest_spelled}
use Rattle.ir_lex.proofs.feed.token_feeds.Goals as goal

pub returns-else-is_quoted-clause-value : goal.returns-else-is_quoted-clause-value
returns-else-is_quoted-clause-value c =
    sym (no_feeds c.args.found.kind (take c.args.found.len c.args.bytes.now)
    (longest_spelled c.args.bytes.now c.args.found c.requires.some c.requires.longest)
    (sym c.is_quoted.ensures ∙ c.if-is_quoted.false))
