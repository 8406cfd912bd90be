use Rattle.std.proofs.Common.{◌∙◌, ◌%◌, ◌++◌, ◌∷◌, [], ap, rules}
use Rattle.ir_ident.proofs.NumberLemmas.{last_digit}
use Rattle.ir_ident.proofs.number.+digits_of.Goals as goal

pub returns : goal.returns
returns n c =
    c.in_ok-push.ensures.items ∙ ap (λ ds. ds ++ (c.args.number % 10) ∷ []) c.in_ok-digits.ensures ∙ last_digit c.args.number (search rules)
