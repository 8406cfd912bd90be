-- The names that the items of a module use.
use Rattle.std.specs.Prelude.{List, [], ◌∷◌, ◌++◌}
use Rattle.std.specs.List.{flat_map}
use Rattle.ir_entities.specs.declared.entity.Entity.{Entity}
use Rattle.ir_entities.specs.declared.entity.Entity.TheVariants as entity
use Rattle.ir_entities.specs.declared.site.NameKind.TheVariants as kind
use Rattle.ir_entities.specs.OperandUses.{gep_uses, init_uses, operand_uses}
use Rattle.ir_entities.specs.Sites.{Site}
use Rattle.ir_entities.specs.Uses.{type_uses, maybe_uses}
use Rattle.ir_syntax.specs.declared.alias.AliasBase.{AliasBase}
use Rattle.ir_syntax.specs.declared.alias.AliasBase.TheVariants.{Global, Gep}
use Rattle.ir_syntax.specs.declared.alias.Alias.{Alias}
use Rattle.ir_syntax.specs.declared.function.Function.{Function}
use Rattle.ir_walk.specs.Parts.{Part, type_part, operand_part, callee_part, label_part, function_parts, maybe_parts, type_parts}

abbrev pub part_uses : Part → List Site
part_uses (type_part ty) = type_uses ty
part_uses (operand_part operand) = operand_uses operand
part_uses (callee_part callee) = (kind.Global, callee) ∷ []
part_uses (label_part label) = (kind.Block, label) ∷ []

abbrev pub base_uses : AliasBase → List Site
base_uses (Global name) = (kind.Global, name) ∷ []
base_uses (Gep gep) = gep_uses gep

abbrev pub alias_uses : Alias → List Site
alias_uses a =
    flat_map part_uses (maybe_parts type_parts a.result)
    ++ (flat_map part_uses (maybe_parts (flat_map type_parts) a.params) ++ base_uses a.base)

abbrev pub function_uses : Function → List Site
function_uses f = flat_map part_uses (function_parts f)

abbrev pub entity_uses : Entity → List Site
entity_uses (entity.«Type» t) = type_uses t.body
entity_uses (entity.Global g) = type_uses g.ty ++ maybe_uses init_uses g.init
entity_uses (entity.Function f) = function_uses f
entity_uses (entity.Alias a) = alias_uses a
