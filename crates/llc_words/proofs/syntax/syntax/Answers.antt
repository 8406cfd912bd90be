use Rattle.std.proofs.Common.{◌≡◌, ◌∙◌, rules, ap, ap₂, true, codes}
use Rattle.std.proofs.lemmas.Result.{IfOk-weaker}
use Rattle.clap.specs.Simple.{App, app_of, app_of_fields, on_top, with_rule}
use Rattle.clap.specs.Walk.{rule_of}
use Rattle.llc_words.specs.Syntax.{mode_rule, option_rule, plain_app}
use Rattle.llc_words.proofs.syntax.syntax.Goals as goal

pub returns : goal.returns
returns c =
    let plain_is : app_of c.disable_version_flag.result ≡ plain_app =
    ap app_of_fields c.disable_version_flag.ensures
    ∙ ap (λ f. app_of_fields (record f { disable_version_flag = true })) c.disable_help_flag.ensures
    ∙ ap (λ (a : App). on_top (λ s. record s { disable_help_flag = true; disable_version_flag = true }) a) c.new-4.ensures.app in
    let mode_is : rule_of c.required-mode.result ≡ mode_rule = search rules in
    let steps_is : rule_of c.long-steps.result ≡ option_rule (codes "steps") = search rules in
    let input_is : rule_of c.long-input.result ≡ option_rule (codes "input") = search rules in
    let one = c.in_ok-arg.ensures.shape (search rules) ∙ ap₂ with_rule plain_is mode_is in
    let two = c.in_ok-arg-2.ensures.shape (search rules) ∙ ap₂ with_rule one steps_is in
    IfOk-weaker c.arg-3.result _ _ (λ command adds. adds.shape (search rules) ∙ ap₂ with_rule two input_is) c.arg-3.ensures
