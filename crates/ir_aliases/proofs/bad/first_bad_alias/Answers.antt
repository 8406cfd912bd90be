use Rattle.std.proofs.Common.{rules, ◌∙◌, ap, ◌≡◌}
use Rattle.std.specs.List.{position}
use Rattle.ir_aliases.specs.Ends.{is_bad_alias}
use Rattle.ir_syntax.specs.declared.alias.Alias.{Alias}
use Rattle.ir_syntax.specs.declared.module.Module.{Module}
use Rattle.ir_aliases.proofs.bad.first_bad_alias.Goals as goal

pub returns : goal.returns
returns c =
    let same : c.in_ok-ends.ends ≡ c.args.m.now = search rules in
    let list : c.as_slice.result.now ≡ c.args.m.now.aliases = search rules in
    c.first_bad.ensures
    ∙ ap (λ (m : Module). position (λ (a : Alias). is_bad_alias m a.name) c.as_slice.result.now) same
    ∙ ap (λ aliases. position (λ (a : Alias). is_bad_alias c.args.m.now a.name) aliases) list
