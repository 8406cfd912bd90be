-- The entries of a phi (LangRef, "phi Instruction").
use Rattle.std.specs.Prelude.{ℕ, Bool, true, nat_eq, Option, None, Some, List, ◌++◌, slice_get}
use Rattle.std.specs.List.{count_by, flat_map, list_all}
use Rattle.ir_cfg.specs.Reached.{label_successors}
use Rattle.ir_ident.specs.Places.{place_by}
use Rattle.ir_ident.specs.declared.name.Name.{Name}
use Rattle.ir_phis.specs.Values.{same_value}
use Rattle.ir_syntax.specs.Types.{TextTree}
use Rattle.ir_syntax.specs.declared.phi.PhiEntry.{PhiEntry}

-- the places of the blocks that entries name, where `known` has the places of labels
abbrev pub entry_places : (Name → Option ℕ) → List PhiEntry → List ℕ
entry_places known entries = flat_map (λ e. label_successors known e.block) entries

abbrev pub count : ℕ → List ℕ → ℕ
count x xs = count_by (nat_eq x) xs

-- whether two lists have the same items, each as often
abbrev pub same_items : List ℕ → List ℕ → Bool
same_items xs ys = list_all (λ x. nat_eq (count x xs) (count x ys)) (xs ++ ys)

-- the place of the first entry that names a block
abbrev pub first_entry : List PhiEntry → Name → Option ℕ
first_entry entries name = place_by (λ e. e.block.name) entries name

abbrev pub is_value_of : TextTree → PhiEntry → Option PhiEntry → Bool
is_value_of ty e None = true
is_value_of ty e (Some other) = same_value ty other.value e.value

abbrev pub entry_at : List PhiEntry → Option ℕ → Option PhiEntry
entry_at entries None = None
entry_at entries (Some place) = slice_get entries place

-- whether each entry has the value of the one that `first` tells for its block
abbrev pub have_values_of : (Name → Option ℕ) → TextTree → List PhiEntry → List PhiEntry → Bool
have_values_of first ty all entries = list_all (λ e. is_value_of ty e (entry_at all (first e.block.name))) entries

-- whether the entries of each block have one value: that of the first of them
abbrev pub have_one_value : TextTree → List PhiEntry → Bool
have_one_value ty entries = have_values_of (first_entry entries) ty entries entries
