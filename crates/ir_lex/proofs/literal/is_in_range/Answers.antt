use Rattle.std.proofs.Common.{arith, sym}
use Rattle.ir_lex.proofs.Decimals.{short_in_range}
use Rattle.ir_lex.proofs.literal.is_in_range.Goals as goal

pub returns-then-text-le-SHORT : goal.returns-then-text-le-SHORT
returns-then-text-le-SHORT c =
    sym (short_in_range c.args.text.now (λ k. omega (arith, c.type_inv.text k)) c.if-text-le-SHORT.true)
