-- Which text is which module, and why another one is refused.
use Rattle.std.specs.Prelude.{◌≡◌, ℕ, ◌⊎◌, List, [], Some, Ok, Err}
use Rattle.std.specs.declared.result.Result.{Result}
use Rattle.ir_names.specs.Faults.{fault_lines}
use Rattle.ir_names.specs.Least.{least}
use Rattle.ir_numbers.specs.Modules.{module_of}
use Rattle.ir_numbers.specs.Numbered.{numbered_entities}
use Rattle.ir_entities.specs.declared.entity.Entity.{Entity}
use Rattle.ir_syntax.specs.declared.module.Module.{Module}
use Rattle.ir_syntax.specs.declared.refusal.Refusal.{Refusal}
use Rattle.ir_syntax.specs.declared.refusal.Refusal.TheVariants.{Name, NoMemory}
use Rattle.ir_read.specs.Refusals.{IsModule, IsRefusal}

-- items without a fault of names, each unnamed one with its number, as a module
pub record IsNamed (found : List Entity) (m : Module) : Type 0 where
  pub faultless : fault_lines (numbered_entities found) ≡ []
  pub is : m ≡ module_of (numbered_entities found)

-- The text is that of the module.
abbrev pub Reads : List ℕ → Module → Type 0
Reads bytes m = (found : List Entity) × IsModule bytes found × IsNamed found m

-- the least line of a fault of names among items
abbrev pub IsNameFault : List Entity → Refusal → Type 0
IsNameFault found e = (line : ℕ) × (least (fault_lines (numbered_entities found)) ≡ Some line) × (e ≡ Name line)

-- The first reason why a text is refused: as tokens, as a text of the grammar, or for its names.
abbrev pub IsFirstRefusal : List ℕ → Refusal → Type 0
IsFirstRefusal bytes e = IsRefusal bytes e ⊎ ((found : List Entity) × IsModule bytes found × IsNameFault found e)

-- items are this module, or refused for their names, unless memory ran out
abbrev pub Names : List Entity → Result Module Refusal → Type 0
Names found (Ok m) = IsNamed found m
Names found (Err e) = (e ≡ NoMemory) ⊎ IsNameFault found e

-- the module of a text, or its first refusal
abbrev pub IsAnswer : List ℕ → Result Module Refusal → Type 0
IsAnswer bytes (Ok m) = Reads bytes m
IsAnswer bytes (Err e) = IsFirstRefusal bytes e

-- a text has a module or a first refusal, and never both or two of them
pub record HasOneAnswer (bytes : List ℕ) : Type 0 where
  pub answer : Result Module Refusal
  pub is : IsAnswer bytes answer
  pub only : (other : Result Module Refusal) → IsAnswer bytes other → other ≡ answer
