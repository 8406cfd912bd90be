-- The types that a module is about, as often as it writes them, and their places.
use Rattle.std.specs.Prelude.{ℕ, Option, None, Some, List, [], ◌∷◌, ◌++◌, if◌then◌else◌, is_some}
use Rattle.std.specs.List.{flat_map, list_any, sum_by}
use Rattle.ir_syntax.specs.Definitions.{has_body}
use Rattle.ir_mentions.specs.PartTypes.{block_types, part_types}
use Rattle.ir_cfg.specs.Reached.{reachable_body}
use Rattle.ir_mentions.specs.declared.which.Which.{Which}
use Rattle.ir_mentions.specs.declared.which.Which.TheVariants.{Reachable, Every}
use Rattle.ir_sizes.specs.Sized.{is_small, level_limit, replaced}
use Rattle.ir_syntax.specs.Types.{TextTree, int, ptr}
use Rattle.ir_syntax.specs.declared.block.Block.{Block}
use Rattle.ir_syntax.specs.declared.function.Function.{Function}
use Rattle.ir_syntax.specs.declared.global.Global.{Global}
use Rattle.ir_syntax.specs.declared.module.Module.{Module}
use Rattle.ir_syntax.specs.declared.type_def.TypeDef.{TypeDef}
use Rattle.ty_core.specs.Places.{places_of}
use Rattle.ty_core.specs.Tree.{Tree}
use Rattle.ir_walk.specs.Parts.{signature_parts}

-- where a function is defined, the types of numbers of bytes and of conditions, and the pointer
abbrev pub needed_types : Module → List TextTree
needed_types m = if list_any has_body m.functions then int 64 ∷ int 1 ∷ ptr ∷ [] else []

-- the type of a defined global
abbrev pub global_types : Global → List TextTree
global_types g = if is_some g.init then g.ty ∷ [] else []

-- the blocks of a function, those that some path reaches or all; a declared one has none
abbrev pub body_by : Which → Option (List Block) → List Block
body_by Reachable blocks = reachable_body blocks
body_by Every None = []
body_by Every (Some blocks) = blocks

-- of a defined function the types of the result and the parameters, and those that its blocks write
abbrev pub function_types : Which → Function → List TextTree
function_types which f =
    if has_body f then flat_map part_types (signature_parts f) ++ flat_map block_types (body_by which f.blocks) else []

abbrev pub written_types : Which → Module → List TextTree
written_types which m = flat_map global_types m.globals ++ flat_map (function_types which) m.functions

abbrev pub mentions_by : Which → Module → List TextTree
mentions_by which m = needed_types m ++ written_types which m

-- without those of blocks that no path reaches
abbrev pub mentions : Module → List TextTree
mentions m = mentions_by Reachable m

-- with those of all blocks
abbrev pub all_mentions : Module → List TextTree
all_mentions m = mentions_by Every m

-- the places of a type that has a size; no other type counts
abbrev pub sized_places : Option Tree → ℕ
sized_places None = 0
sized_places (Some tree) = if is_small (Some tree) then places_of tree else 0

-- the places of a type with the names in it replaced
abbrev pub type_places : List TypeDef → TextTree → ℕ
type_places defs ty = sized_places (replaced defs level_limit ty)

abbrev pub places_by : Which → Module → ℕ
places_by which m = sum_by (type_places m.types) (mentions_by which m)

-- the places of all mentions
abbrev pub mentioned_places : Module → ℕ
mentioned_places m = places_by Reachable m
