-- Where the names of a module are defined.
use Rattle.std.specs.Prelude.{ℕ, List, [], ◌∷◌, Option}
use Rattle.ir_entities.specs.declared.entity.Entity.{Entity}
use Rattle.ir_entities.specs.declared.entity.Entity.TheVariants as entity
use Rattle.ir_entities.specs.declared.site.NameKind.TheVariants as kind
use Rattle.ir_entities.specs.Sites.{Site}
use Rattle.ir_syntax.specs.declared.block.Block.{Block}
use Rattle.ir_syntax.specs.declared.function.Function.{Function}
use Rattle.ir_syntax.specs.declared.function.Param.{Param}
use Rattle.ir_syntax.specs.declared.instr.Instr.{Instr}
use Rattle.ir_ident.specs.declared.name.Name.{Name}
use Rattle.ir_syntax.specs.declared.phi.Phi.{Phi}
use Rattle.ir_walk.specs.Locals.{Local, value_local, label_local, in_param, in_phi, in_result, in_instr, in_block, in_function}

-- a value at a line
abbrev pub value_at : ℕ → Name → Site
value_at line name = (kind.Value, record { line = line; name = name })

-- the place where a local name is defined
abbrev pub local_sites : Local → List Site
local_sites (value_local line name_line name) = value_at name_line name ∷ []
local_sites (label_local line name) = (kind.Block, record { line = line; name = name }) ∷ []

abbrev pub param_sites : Param → List Site
param_sites p = in_param local_sites p

abbrev pub phi_sites : Phi → List Site
phi_sites p = in_phi local_sites p

abbrev pub result_sites : ℕ → Option Name → List Site
result_sites line name = in_result local_sites line name

abbrev pub instr_sites : Instr → List Site
instr_sites i = in_instr local_sites i

abbrev pub label_sites : Block → List Site
label_sites b = local_sites (label_local b.line b.label)

abbrev pub block_sites : Block → List Site
block_sites b = in_block local_sites b

-- the items of a function in the order of the text
abbrev pub items_of : Function → List Site
items_of f = in_function local_sites f

abbrev pub entity_items : Entity → List Site
entity_items (entity.«Type» t) = []
entity_items (entity.Global g) = []
entity_items (entity.Function f) = items_of f
entity_items (entity.Alias a) = []

-- an item at the top of a module
abbrev pub entity_sites : Entity → List Site
entity_sites (entity.«Type» t) = (kind.NamedType, record { line = t.line; name = t.name }) ∷ []
entity_sites (entity.Global g) = (kind.Global, record { line = g.line; name = g.name }) ∷ []
entity_sites (entity.Function f) = (kind.Global, record { line = f.name_line; name = f.name }) ∷ []
entity_sites (entity.Alias a) = (kind.Global, record { line = a.line; name = a.name }) ∷ []
