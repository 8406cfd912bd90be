use Rattle.std.proofs.Common.{rules, sym, arith}
use Rattle.llc_words.proofs.Numerals.{too_large}
use Rattle.llc_words.proofs.number.number_in.Goals as goal

pub returns-in_default-2 : goal.returns-in_default-2
returns-in_default-2 c =
    sym (too_large c.args.most c.args.text.now c.in_default.field-0 (omega (arith, c.ranges.most.fits)) (search rules) c.in_default.ensures.value.0)
