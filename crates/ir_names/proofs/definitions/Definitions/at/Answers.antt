use Rattle.std.proofs.Common.{◌∙◌, ◌<◌, ◌≤◌, ◌||◌, arith, length, ap}
use Rattle.ir_names.proofs.SetLemmas.{defined_more, take_whole}
use Rattle.ir_names.specs.Faults.{is_defined, same_site}
use Rattle.ir_names.proofs.definitions.Definitions.at.Goals as goal

pub loop-site-preserved : goal.loop-site-preserved
loop-site-preserved c = λ s.
    let inside : c.loop-site.site-index < length c.args.sites.now = omega arith in
    c.in_ok-insert.ensures s ∙ ap (λ b. b || same_site s c.site-item.result) (c.loop-site.invariant s)
    ∙ defined_more c.args.sites.now c.loop-site.site-index c.site-item.result s inside c.site-item.is

pub returns : goal.returns
returns c = λ s.
    let all : length c.args.sites.now ≤ c.loop-site.site-index = omega arith in
    c.loop-site.invariant s ∙ ap (λ sites. is_defined sites s) (take_whole c.args.sites.now c.loop-site.site-index all)
