use Rattle.std.proofs.Common.{◌≡◌, take}
use Rattle.ir_names.specs.Faults.{is_defined}
use Rattle.ir_names.specs.Sets.{knows}
use Rattle.ir_entities.specs.Sites.{Site}
use Rattle.ir_names.proofs.definitions.Definitions.at.Given as goal

abbrev pub invariant-loop-site : goal.invariant-loop-site
invariant-loop-site l = (site : Site) → knows l.all site ≡ is_defined (take l.site-index l.sites) site
