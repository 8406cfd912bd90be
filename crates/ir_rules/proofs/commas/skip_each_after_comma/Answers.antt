use Rattle.std.proofs.Common.{refl}
use Rattle.ir_words.specs.declared.class.Class.TheVariants as class
use Rattle.ir_rules.proofs.Words.{before_law}
use Rattle.ir_rules.proofs.commas.skip_each_after_comma.Goals as goal

pub skip_each-requires-clause-law : goal.skip_each-requires-clause-law
skip_each-requires-clause-law g c = before_law class.Comma _ refl refl c.requires.law
