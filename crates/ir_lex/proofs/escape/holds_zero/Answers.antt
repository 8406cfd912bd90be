use Rattle.std.proofs.Common.{ap, arith, drop, length, sym, subst, ◌+◌, ◌<◌, ◌≡◌, ◌∙◌, ◌==◌}
use Rattle.std.proofs.lemmas.List.{length-drop}
use Rattle.std.specs.List.{list_any}
use Rattle.ir_lex.specs.Escapes.{escape_byte, escape_len, unescaped_after}
use Rattle.ir_lex.proofs.Scans.{zero_later, zero_never, zero_now}
use Rattle.ir_lex.proofs.escape.holds_zero.Goals as goal

pub returns-then-escape_byte-eq0 : goal.returns-then-escape_byte-eq0
returns-then-escape_byte-eq0 c =
    let byte : c.escape_byte.result ≡ escape_byte (drop c.loop-at.at c.args.text.now) = c.escape_byte.ensures ∙ ap escape_byte c.rest_of-rest.ensures in
    sym (zero_now (drop c.loop-at.at c.args.text.now) (omega (arith, c.loop-at-test.true, length-drop c.loop-at.at c.args.text.now))
    (sym byte ∙ c.if-escape_byte-eq0.true))
    ∙ c.loop-at.invariant.left

pub loop-at-preserved : goal.loop-at-preserved
loop-at-preserved c =
    let rest = c.rest_of-rest.ensures in
    let byte : c.escape_byte.result ≡ escape_byte (drop c.loop-at.at c.args.text.now) = c.escape_byte.ensures ∙ ap escape_byte rest in
    let len : c.escape_len-at.result ≡ escape_len (drop c.loop-at.at c.args.text.now) = c.escape_len-at.ensures.value ∙ ap escape_len rest in
    record {
      within = grind (arith, c.escape_len-at.ensures.within, ap length rest, length-drop c.loop-at.at c.args.text.now, c.loop-at-test.true);
      left = ap (λ n. list_any (λ b. b == 0) (unescaped_after 0 (drop (c.loop-at.at + n) c.args.text.now))) len
          ∙ sym (zero_later c.args.text.now c.loop-at.at c.loop-at-test.true (subst (λ n. 0 < n) len c.escape_len-at.ensures.some)
          (λ zero. c.if-escape_byte-eq0.false (byte ∙ zero)))
          ∙ c.loop-at.invariant.left;
    }

pub returns : goal.returns
returns c = sym (zero_never c.args.text.now c.loop-at.at c.loop-at-test.false) ∙ c.loop-at.invariant.left
