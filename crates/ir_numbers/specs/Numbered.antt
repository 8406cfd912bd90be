-- The items of a module with their places and their numbers.
use Rattle.std.specs.Prelude.{ℕ, ◌+◌, List, [], ◌∷◌, Option, None, Some}
use Rattle.std.specs.List.{flat_map}
use Rattle.ir_entities.specs.declared.entity.Entity.{Entity}
use Rattle.ir_entities.specs.declared.entity.Entity.TheVariants as entity
use Rattle.ir_numbers.specs.Unnamed.{unnamed_in}
use Rattle.ir_entities.specs.Items.{param_sites, phi_sites, instr_sites, label_sites, block_sites}
use Rattle.ir_entities.specs.Sites.{Site}
use Rattle.ir_syntax.specs.declared.block.Block.{Block}
use Rattle.ir_syntax.specs.declared.function.Function.{Function}
use Rattle.ir_syntax.specs.declared.function.Param.{Param}
use Rattle.ir_syntax.specs.declared.instr.Instr.{Instr}
use Rattle.ir_ident.specs.declared.name.Name.{Name}
use Rattle.ir_ident.specs.declared.name.Name.TheVariants.{Named, Unnamed, Implicit}
use Rattle.ir_syntax.specs.declared.phi.Phi.{Phi}

-- the name of an item behind n unnamed ones
abbrev pub numbered : ℕ → Name → Name
numbered n (Named bytes) = Named bytes
numbered n (Unnamed k) = Unnamed k
numbered n Implicit = Unnamed n

-- parts behind n unnamed items, each by what stands before it
abbrev pub each_numbered : {A : Type 0} → (ℕ → A → A) → (A → List Site) → ℕ → List A → List A
each_numbered one sites n [] = []
each_numbered one sites n (x ∷ xs) = one n x ∷ each_numbered one sites (n + unnamed_in (sites x)) xs

abbrev pub numbered_param : ℕ → Param → Param
numbered_param n p = record { line = p.line; ty = p.ty; name = numbered n p.name; name_line = p.name_line }

abbrev pub numbered_phi : ℕ → Phi → Phi
numbered_phi n p = record { line = p.line; result = numbered n p.result; ty = p.ty; entries = p.entries }

abbrev pub numbered_result : ℕ → Option Name → Option Name
numbered_result n None = None
numbered_result n (Some name) = Some (numbered n name)

abbrev pub numbered_instr : ℕ → Instr → Instr
numbered_instr n i = record { line = i.line; result = numbered_result n i.result; op = i.op }

abbrev pub numbered_block : ℕ → Block → Block
numbered_block n b =
    let phis : ℕ = n + unnamed_in (label_sites b) in
    record {
      line = b.line;
      label = numbered n b.label;
      phis = each_numbered numbered_phi phi_sites phis b.phis;
      instrs = each_numbered numbered_instr instr_sites (phis + unnamed_in (flat_map phi_sites b.phis)) b.instrs;
      term = b.term;
    }

abbrev pub numbered_blocks : ℕ → Option (List Block) → Option (List Block)
numbered_blocks n None = None
numbered_blocks n (Some blocks) = Some (each_numbered numbered_block block_sites n blocks)

abbrev pub numbered_function : ℕ → Function → Function
numbered_function place f = record {
  line = f.line;
  place = place;
  name = f.name;
  name_line = f.name_line;
  linkage = f.linkage;
  visibility = f.visibility;
  result = f.result;
  params = each_numbered numbered_param param_sites 0 f.params;
  blocks = numbered_blocks (unnamed_in (flat_map param_sites f.params)) f.blocks;
}

-- an item at its place among all items of a module
abbrev pub numbered_entity : ℕ → Entity → Entity
numbered_entity place (entity.«Type» t) = entity.«Type» (record t { place = place })
numbered_entity place (entity.Global g) = entity.Global (record g { place = place })
numbered_entity place (entity.Function f) = entity.Function (numbered_function place f)
numbered_entity place (entity.Alias a) = entity.Alias (record a { place = place })

abbrev pub numbered_after : ℕ → List Entity → List Entity
numbered_after place [] = []
numbered_after place (e ∷ entities) = numbered_entity place e ∷ numbered_after (place + 1) entities

abbrev pub numbered_entities : List Entity → List Entity
numbered_entities entities = numbered_after 0 entities
