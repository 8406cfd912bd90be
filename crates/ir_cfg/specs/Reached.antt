-- The blocks of a function that some path from its first block reaches (LangRef, "Functions").
use Rattle.std.specs.Prelude.{ℕ, zero, suc, Bool, true, false, nat_eq, Option, None, Some, List, [], ◌∷◌, ◌++◌, length, map, slice_get}
use Rattle.std.specs.List.{flat_map, list_any, range_with_len}
use Rattle.ir_ident.specs.Places.{place_by}
use Rattle.ir_syntax.specs.declared.block.Block.{Block}
use Rattle.ir_ident.specs.declared.name.Name.{Name}
use Rattle.ir_ident.specs.declared.name.NameUse.{NameUse}
use Rattle.ir_syntax.specs.declared.term.Term.{Term}
use Rattle.ir_walk.specs.Parts.{Part, type_part, operand_part, callee_part, label_part, term_parts}

-- the place of the first block that has a label
abbrev pub label_place : List Block → Name → Option ℕ
label_place blocks name = place_by (λ b. b.label) blocks name

abbrev pub maybe_place : Option ℕ → List ℕ
maybe_place None = []
maybe_place (Some place) = place ∷ []

-- the place of a label, where `known` has the places of labels
abbrev pub label_successors : (Name → Option ℕ) → NameUse → List ℕ
label_successors known target = maybe_place (known target.name)

-- the label that a part of a terminator is
abbrev pub label_in : Part → List NameUse
label_in (type_part ty) = []
label_in (operand_part operand) = []
label_in (callee_part callee) = []
label_in (label_part label) = label ∷ []

-- the places of the blocks that a terminator names
abbrev pub term_successors : (Name → Option ℕ) → Term → List ℕ
term_successors known t = flat_map (label_successors known) (flat_map label_in (term_parts t))

abbrev pub block_successors : (Name → Option ℕ) → Option Block → List ℕ
block_successors known None = []
block_successors known (Some b) = term_successors known b.term

-- the places that the block at a place leads to
abbrev pub successors_at : List Block → ℕ → List ℕ
successors_at blocks place = block_successors (label_place blocks) (slice_get blocks place)

-- the places that a path of at most so many steps from the first block reaches
unfoldable pub reached_within : List Block → ℕ → List ℕ
reached_within blocks zero = 0 ∷ []
reached_within blocks (suc steps) = reached_within blocks steps ++ flat_map (successors_at blocks) (reached_within blocks steps)

abbrev pub has_place : List ℕ → ℕ → Bool
has_place places place = list_any (nat_eq place) places

-- whether some path reaches a place: none has to be longer than there are blocks
abbrev pub is_reached : List Block → ℕ → Bool
is_reached blocks place = has_place (reached_within blocks (length blocks)) place

-- of each block in order, whether some path reaches it
abbrev pub reachable_marks : List Block → List Bool
reachable_marks blocks = map (is_reached blocks) (range_with_len 0 (length blocks))

-- the items whose marks are true
abbrev pub marked : {A : Type 0} → List Bool → List A → List A
marked (true ∷ marks) (x ∷ xs) = x ∷ marked marks xs
marked (false ∷ marks) (x ∷ xs) = marked marks xs
marked [] xs = []
marked (mark ∷ marks) [] = []

-- the blocks that some path reaches
abbrev pub reachable_blocks : List Block → List Block
reachable_blocks blocks = marked (reachable_marks blocks) blocks

-- those of a function; a declared one has none
abbrev pub reachable_body : Option (List Block) → List Block
reachable_body None = []
reachable_body (Some blocks) = reachable_blocks blocks
