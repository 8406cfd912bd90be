use Rattle.std.proofs.Common.{ap, arith, rules, ◌∙◌}
use Rattle.ir_lex.specs.Escapes.{escape_byte, escape_len, unescaped}
use Rattle.ir_lex.proofs.Unescaping.{left_first}
use Rattle.ir_words.proofs.Unescaping.{at_end, full, one_more}
use Rattle.ir_words.proofs.quoted.unescape.Goals as goal

pub loop-at-init : goal.loop-at-init
loop-at-init c = record { size = search rules; room = omega arith; kept = left_first c.args.quoted.now }

pub loop-at-preserved : goal.loop-at-preserved
loop-at-preserved c = record {
  size = search rules;
  room = omega (arith, c.if-len-lt-TELLING.true);
  kept = one_more c.args.quoted.now c.loop-at.name (unescaped c.args.quoted.now) c.loop-at.at c.loop-at.len c.escape_byte.result c.escape_len-at.result
      c.loop-at-test.true (omega (arith, c.if-len-lt-TELLING.true, c.loop-at.invariant.size))
      (c.escape_byte.ensures ∙ ap escape_byte c.rest_of-rest.ensures)
      (c.escape_len-at.ensures.value ∙ ap escape_len c.rest_of-rest.ensures)
      c.escape_len-at.ensures.some c.loop-at.invariant.kept;
}

pub returns-else-len-lt-TELLING-clause-value : goal.returns-else-len-lt-TELLING-clause-value
returns-else-len-lt-TELLING-clause-value c =
    full c.args.quoted.now c.loop-at.name (unescaped c.args.quoted.now) c.loop-at.at c.loop-at.len
    (omega (arith, c.if-len-lt-TELLING.false)) c.loop-at.invariant.room c.loop-at.invariant.size c.loop-at.invariant.kept

pub returns-after-loop-at-clause-value : goal.returns-after-loop-at-clause-value
returns-after-loop-at-clause-value c =
    at_end c.args.quoted.now c.loop-at.name (unescaped c.args.quoted.now) c.loop-at.at c.loop-at.len
    (omega (arith, c.loop-at-test.false)) c.loop-at.invariant.room c.loop-at.invariant.kept
