-- A module without its unreachable blocks writes, in all its blocks, the types that the module writes in those that some path reaches.
use Rattle.std.proofs.Common.{◌≡◌, ◌∙◌, Bool, Option, None, Some, List, [], ◌∷◌, ◌++◌, filter, flat_map, map, not, ◌||◌, if◌then◌else◌, is_some, refl, sym, ap}
use Rattle.std.specs.List.{list_any}
use Rattle.std.proofs.lemmas.List.{append_assoc}
use Rattle.ir_cfg.specs.Reached.{reachable_blocks}
use Rattle.ir_ident.specs.declared.name.Name.{Name}
use Rattle.ir_mentions.specs.Mentions.{all_mentions, body_by, function_types, global_types, mentions}
use Rattle.ir_mentions.specs.PartTypes.{block_types, part_types}
use Rattle.ir_mentions.specs.declared.which.Which.TheVariants.{Reachable, Every}
use Rattle.ir_prune.specs.Pruned.{block_without, is_label, pruned, pruned_body, pruned_function, unreachable_blocks, without_labels}
use Rattle.ir_syntax.specs.Definitions.{has_body}
use Rattle.ir_syntax.specs.Types.{TextTree, int, ptr}
use Rattle.ir_syntax.specs.declared.block.Block.{Block}
use Rattle.ir_syntax.specs.declared.function.Function.{Function}
use Rattle.ir_syntax.specs.declared.module.Module.{Module}
use Rattle.ir_syntax.specs.declared.phi.Phi.{Phi}
use Rattle.ir_syntax.specs.declared.phi.PhiEntry.{PhiEntry}
use Rattle.ir_walk.specs.Parts.{Part, entry_parts, instr_parts, phi_parts, signature_parts, term_parts}

-- the entries of a phi write no types
no_types : (entries : List PhiEntry) (rest : List Part) → flat_map part_types (flat_map entry_parts entries ++ rest) ≡ flat_map part_types rest
no_types [] rest = refl
no_types (e ∷ entries) rest = no_types entries rest

abbrev types_of : List PhiEntry → List Phi → List Part → List TextTree
types_of entries phis rest = flat_map part_types ((flat_map entry_parts entries ++ flat_map phi_parts phis) ++ rest)

behind_entries : (entries : List PhiEntry) (phis : List Phi) (rest : List Part) → types_of entries phis rest ≡ flat_map part_types (flat_map phi_parts phis ++ rest)
behind_entries entries phis rest =
    ap (flat_map part_types) (append_assoc (flat_map entry_parts entries) (flat_map phi_parts phis) rest) ∙ no_types entries (flat_map phi_parts phis ++ rest)

-- so phis write the same types without some of their entries
same_phis : (labels : Name → Bool) (phis : List Phi) (rest : List Part) →
    flat_map part_types (flat_map phi_parts (map (without_labels labels) phis) ++ rest) ≡ flat_map part_types (flat_map phi_parts phis ++ rest)
same_phis labels [] rest = refl
same_phis labels (p ∷ phis) rest = ap (λ types. p.ty ∷ types)
    (behind_entries (filter (λ e. not (labels e.block.name)) p.entries) (map (without_labels labels) phis) rest
    ∙ same_phis labels phis rest
    ∙ sym (behind_entries p.entries phis rest))

same_blocks : (labels : Name → Bool) (blocks : List Block) → flat_map block_types (map (block_without labels) blocks) ≡ flat_map block_types blocks
same_blocks labels [] = refl
same_blocks labels (b ∷ blocks) = λ k.
    same_phis labels b.phis (flat_map instr_parts b.instrs ++ term_parts b.term) k ++ same_blocks labels blocks k

same_body : (signature : List TextTree) (body : Option (List Block)) →
    (if is_some (pruned_body body) then signature ++ flat_map block_types (body_by Every (pruned_body body)) else [])
    ≡ (if is_some body then signature ++ flat_map block_types (body_by Reachable body) else [])
same_body signature None = refl
same_body signature (Some blocks) = ap (λ types. signature ++ types) (same_blocks (is_label (unreachable_blocks blocks)) (reachable_blocks blocks))

same_functions : (functions : List Function) → flat_map (function_types Every) (map pruned_function functions) ≡ flat_map (function_types Reachable) functions
same_functions [] = refl
same_functions (f ∷ functions) = λ k. same_body (flat_map part_types (signature_parts f)) f.blocks k ++ same_functions functions k

is_some-pruned_body : (body : Option (List Block)) → is_some (pruned_body body) ≡ is_some body
is_some-pruned_body None = refl
is_some-pruned_body (Some blocks) = refl

same_defined : (functions : List Function) → list_any has_body (map pruned_function functions) ≡ list_any has_body functions
same_defined [] = refl
same_defined (f ∷ functions) = λ k. is_some-pruned_body f.blocks k || same_defined functions k

pub all_mentions-pruned : (m : Module) → all_mentions (pruned m) ≡ mentions m
all_mentions-pruned m = λ k.
    (if same_defined m.functions k then int 64 ∷ int 1 ∷ ptr ∷ [] else [])
    ++ (flat_map global_types m.globals ++ same_functions m.functions k)
