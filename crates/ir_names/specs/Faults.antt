-- The lines of the faults of names (LangRef, "Identifiers").
use Rattle.std.specs.Prelude.{ℕ, Bool, false, not, ◌&&◌, ◌||◌, nat_eq, List, [], ◌∷◌, ◌++◌, if◌then◌else◌}
use Rattle.std.specs.List.{flat_map, list_any}
use Rattle.ir_entities.specs.declared.entity.Entity.{Entity}
use Rattle.ir_entities.specs.EntityUses.{entity_uses}
use Rattle.ir_entities.specs.Items.{entity_items, entity_sites}
use Rattle.ir_entities.specs.Sites.{Site, kind_code}
use Rattle.ir_ident.specs.declared.name.Name.{Name}
use Rattle.ir_ident.specs.declared.name.Name.TheVariants.{Named, Unnamed, Implicit}
use Rattle.ir_ident.specs.Names.{same_name}
use Rattle.ir_numbers.specs.Unnamed.{is_counted, unnamed_in}

-- whether a number is written that is another one than this
abbrev pub is_other : ℕ → Name → Bool
is_other n (Named bytes) = false
is_other n (Unnamed k) = not (nat_eq k n)
is_other n Implicit = false

-- the line of a site, if it is a fault
abbrev pub line_if : Bool → Site → List ℕ
line_if fault s = if fault then s.1.line ∷ [] else []

-- the line of a site behind these, where its number isn't how many unnamed ones stand before it
abbrev pub number_fault : List Site → Site → List ℕ
number_fault before s = line_if (is_counted s.0 && is_other (unnamed_in before) s.1.name) s

abbrev pub number_faults_after : List Site → List Site → List ℕ
number_faults_after before [] = []
number_faults_after before (s ∷ sites) = number_fault before s ++ number_faults_after (before ++ s ∷ []) sites

-- the lines of all sites whose number isn't the next one
abbrev pub number_faults : List Site → List ℕ
number_faults sites = number_faults_after [] sites

-- whether two sites have one kind and one name
abbrev pub same_site : Site → Site → Bool
same_site a b = nat_eq (kind_code a.0) (kind_code b.0) && same_name a.1.name b.1.name

-- whether a name that is used is defined at one of these
abbrev pub is_defined : List Site → Site → Bool
is_defined sites s = list_any (same_site s) sites

-- the line of a use, where its name isn't known
abbrev pub use_faults : (Site → Bool) → Site → List ℕ
use_faults known s = line_if (not (known s)) s

-- what is known in an item of a module: what the module defines, and the items of a function
abbrev pub known_in : (Site → Bool) → Entity → Site → Bool
known_in known e s = known s || is_defined (entity_items e) s

abbrev pub entity_faults : (Site → Bool) → Entity → List ℕ
entity_faults known e = number_faults (entity_items e) ++ flat_map (use_faults (known_in known e)) (entity_uses e)

-- the lines of all faults
abbrev pub fault_lines : List Entity → List ℕ
fault_lines entities =
    number_faults (flat_map entity_sites entities)
    ++ flat_map (entity_faults (is_defined (flat_map entity_sites entities))) entities
