use Rattle.std.proofs.Common.{◌≡◌, if◌then◌else◌, rules}
use Rattle.std.specs.List.{list_any, sum_by}
use Rattle.ir_mentions.proofs.MentionLemmas.{mentioned-is}
use Rattle.ir_cfg.specs.Capped.{capped}
use Rattle.ir_syntax.specs.Definitions.{has_body}
use Rattle.ir_mentions.specs.Mentions.{type_places, written_types}
use Rattle.ir_mentions.proofs.places.places_by.Goals as goal

pub returns : goal.returns
returns c =
    let needed : c.needed_places-needed.result ≡ (if list_any has_body c.args.m.now.functions then 3 else 0) = search rules in
    let total : c.total_places.result ≡ capped (sum_by (type_places c.args.m.now.types) (written_types c.args.which c.args.m.now)) = search rules in
    mentioned-is c.args.which c.args.m.now c.needed_places-needed.result c.total_places.result c.saturating_add.result needed total c.saturating_add.ensures
