-- Edges to blocks, and what phis take on them.
use Rattle.std.proofs.Common.{◌≡◌, ◌∙◌, ℕ, suc, Bool, true, false, Option, None, Some, option_map, ◌+◌, ◌<◌, ◌++◌, length, take, get_or, List, [], ◌∷◌, map, if◌then◌else◌, refl, sym, ap}
use Rattle.std.proofs.lemmas.List.{map-append, take_more}
use Rattle.std.specs.Prelude.{find, slice_get}
use Rattle.std.specs.Option.{option_and_then, option_map_or}
use Rattle.ir_cfg.specs.Reached.{label_place}
use Rattle.ir_flow.specs.Edges.{AreTaken, IsEdge, IsEdgeTo, IsTaken}
use Rattle.ir_flow.specs.declared.edge.Edge.{Edge}
use Rattle.ir_ident.specs.Names.{same_name}
use Rattle.ir_ident.specs.declared.name.Name.{Name}
use Rattle.ir_sem.specs.Addresses.{Loaded}
use Rattle.ir_sem.specs.Configs.{blocks_of}
use Rattle.ir_sem.specs.Operands.{operand_value}
use Rattle.ir_sem.specs.Terminators.{entry_from, phi_value}
use Rattle.ir_sem.specs.declared.value.Value.TheVariants.{Poison}
use Rattle.ir_slots.specs.Slots.{locals_in}
use Rattle.ir_slots.specs.Sources.{IsInput, input_value, source_at}
use Rattle.ir_slots.specs.declared.input.Input.{Input}
use Rattle.ir_slots.specs.declared.source.Source.TheVariants.{Constant}
use Rattle.ir_syntax.specs.declared.block.Block.{Block}
use Rattle.ir_syntax.specs.declared.function.Function.{Function}
use Rattle.ir_syntax.specs.declared.phi.Phi.{Phi}
use Rattle.ir_syntax.specs.declared.phi.PhiEntry.{PhiEntry}

-- the block of a label is that at the place of the label
labelled : (blocks : List Block) (label : Name) → find (λ (block : Block). same_name block.label label) blocks ≡ option_and_then (slice_get blocks) (label_place blocks label)
labelled [] label = refl
labelled (block ∷ blocks) label = by (same_name block.label label) (labelled blocks label)
  where
    moved : (place : Option ℕ) → option_and_then (slice_get (block ∷ blocks)) (option_map (λ place. suc place) place) ≡ option_and_then (slice_get blocks) place
    moved None = refl
    moved (Some place) = refl

    by : (here : Bool) → find (λ (block : Block). same_name block.label label) blocks ≡ option_and_then (slice_get blocks) (label_place blocks label)
        → (if here then Some block else find (λ (block : Block). same_name block.label label) blocks)
        ≡ option_and_then (slice_get (block ∷ blocks)) (if here then Some 0 else option_map (λ place. suc place) (label_place blocks label))
    by true rest = refl
    by false rest = rest ∙ sym (moved (label_place blocks label))

pub no_edge : (l : Loaded) (f : Function) (from label : Name) → label_place (blocks_of f) label ≡ None → IsEdge l f from label None
no_edge l f from label none = labelled (blocks_of f) label ∙ ap (option_and_then (slice_get (blocks_of f))) none

pub edge_leads : (l : Loaded) (f : Function) (from label : Name) (to : ℕ) (edge : Option Edge) → label_place (blocks_of f) label ≡ Some to
    → IsEdgeTo l f from to edge → IsEdge l f from label edge
edge_leads l f from label to None place none = labelled (blocks_of f) label ∙ ap (option_and_then (slice_get (blocks_of f))) place ∙ none
edge_leads l f from label to (Some edge) place (block, at, leads) =
    (block, labelled (blocks_of f) label ∙ ap (option_and_then (slice_get (blocks_of f))) place ∙ at, leads)

-- a phi takes the value of its entry
pub taken_from : (l : Loaded) (names : List Name) (from : Name) (phi : Phi) (entry : PhiEntry) (input : Input) → entry_from from phi.entries ≡ Some entry
    → IsInput l names phi.ty entry.value input → IsTaken l names from phi input
taken_from l names from phi entry input found is values =
    is values ∙ ap (λ found. option_map_or (λ (entry : PhiEntry). operand_value l (locals_in names values) phi.ty entry.value) found Poison) (sym found)

pub taken_nowhere : (l : Loaded) (names : List Name) (from : Name) (phi : Phi) (input : Input) → entry_from from phi.entries ≡ None
    → input.source ≡ Constant Poison → IsTaken l names from phi input
taken_nowhere l names from phi input none is values =
    ap (source_at values input.width) is
    ∙ ap (λ found. option_map_or (λ (entry : PhiEntry). operand_value l (locals_in names values) phi.ty entry.value) found Poison) (sym none)

-- what one more phi takes
pub taken_more : (l : Loaded) (names : List Name) (from : Name) (phis : List Phi) (i : ℕ) (phi : Phi) (inputs : List Input) (input : Input) → i < length phis
    → phi ≡ get_or phis i phi → AreTaken l names from (take i phis) inputs → IsTaken l names from phi input → AreTaken l names from (take (i + 1) phis) (inputs ++ input ∷ [])
taken_more l names from phis i phi inputs input inside is before one values =
    map-append (input_value values) inputs (input ∷ [])
    ∙ (λ k. before values k ++ one values k ∷ [])
    ∙ sym (map-append (phi_value l (locals_in names values) from) (take i phis) (phi ∷ []))
    ∙ ap (map (phi_value l (locals_in names values) from)) (ap (λ x. take i phis ++ x ∷ []) is ∙ sym (take_more phis i phi inside))
