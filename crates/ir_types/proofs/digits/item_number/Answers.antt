use Rattle.std.proofs.Common.{◌∙◌, ap, sym, drop, ◌+◌, rules}
use Rattle.ir_lex.proofs.Decimals.{decimal_done, decimal_step}
use Rattle.ir_lex.specs.Literals.{decimal_after}
use Rattle.ir_types.proofs.digits.item_number.Goals as goal

pub loop-digit-preserved : goal.loop-digit-preserved
loop-digit-preserved c = record {
  kept =
      ap (λ n. decimal_after n (drop (c.loop-digit.digit-index + 1) c.args.digits.now)) c.in_ok-push_digit.ensures.ok
      ∙ sym (decimal_step c.loop-digit.number c.args.digits.now c.loop-digit.digit-index c.loop-digit-test.true)
      ∙ c.loop-digit.invariant.kept;
}

pub returns : goal.returns
returns c = sym (decimal_done c.loop-digit.number c.args.digits.now c.loop-digit.digit-index (search rules)) ∙ c.loop-digit.invariant.kept
