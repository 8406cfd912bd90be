use Rattle.std.proofs.Common.{◌≡◌, List, take}
use Rattle.std.specs.List.{sum_by}
use Rattle.ir_cfg.specs.Capped.{capped}
use Rattle.ir_sizes.specs.Measured.{IsTable}
use Rattle.ir_mentions.specs.Mentions.{type_places}
use Rattle.ir_sizes.specs.Sized.{level_limit}
use Rattle.ir_syntax.specs.declared.type_def.TypeDef.{TypeDef}
use Rattle.ir_mentions.proofs.places.total_places.Given as goal

abbrev pub invariant-loop-mention : goal.invariant-loop-mention
invariant-loop-mention l = (defs : List TypeDef) → IsTable defs level_limit l.table → l.total ≡ capped (sum_by (type_places defs) (take l.mention-index l.types))
