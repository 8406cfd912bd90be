use Rattle.std.proofs.Common.{ap, arith, rules, ◌++◌, ◌∙◌}
use Rattle.ir_lex.specs.Escapes.{escape_byte, escape_len, unescaped}
use Rattle.ir_lex.proofs.Unescaping.{left_first, left_of}
use Rattle.ir_types.proofs.Unescaping.{all_bytes, one_byte_more}
use Rattle.ir_types.proofs.quoted.unescaped.Goals as goal

pub loop-at-init : goal.loop-at-init
loop-at-init c = ap (λ xs. xs ++ left_of c.args.quoted.now 0) c.new-bytes.ensures.items ∙ left_first c.args.quoted.now

pub loop-at-preserved : goal.loop-at-preserved
loop-at-preserved c =
    one_byte_more c.args.quoted.now c.loop-at.bytes.items c.push.new.self.items (unescaped c.args.quoted.now) c.loop-at.at c.escape_byte.result c.escape_len-at.result
    c.loop-at-test.true (search rules)
    (c.escape_byte.ensures ∙ ap escape_byte c.rest_of-rest.ensures)
    (c.escape_len-at.ensures.value ∙ ap escape_len c.rest_of-rest.ensures)
    c.escape_len-at.ensures.some c.loop-at.invariant

pub returns : goal.returns
returns c = all_bytes c.args.quoted.now c.loop-at.bytes.items (unescaped c.args.quoted.now) c.loop-at.at (omega (arith, c.loop-at-test.false)) c.loop-at.invariant
