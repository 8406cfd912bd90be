-- Which texts are accepted, and the first refusal of any other: one predicate for each layer.
use Rattle.std.specs.Prelude.{◌≡◌, ◌≢◌, ◌<◌, ◌≤◌, ◌+◌, ◌⊎◌, ℕ, true, false, Some, List, [], ◌∷◌, length}
use Rattle.cg_built.specs.Unbuilt.{IsBuilt, first_unbuilt}
use Rattle.cg_part.specs.Linking.{AreUnlinked}
use Rattle.cg_part.specs.Text.{part_text}
use Rattle.ir_check.specs.Checks.{IsCheckRefusal, IsCheckedFrom}
use Rattle.ir_read.specs.Modules as reading
use Rattle.ir_read.specs.Modules.{Reads}
use Rattle.ir_syntax.specs.declared.module.Module.{Module}
use Rattle.ir_syntax.specs.declared.refusal.Refusal.{Refusal}
use Rattle.ir_syntax.specs.declared.refusal.Refusal.TheVariants as refusals
use Rattle.llc_words.specs.declared.types.Mode.{Mode}
use Rattle.llc_words.specs.declared.types.Mode.TheVariants as modes
use Rattle.obj_link.specs.declared.refusal.Unlinked.{Unlinked}
use Rattle.obj_link.specs.declared.refusal.Unlinked.TheVariants.{Undefined, TooLarge, NoMemory}
use Rattle.cg_built.specs.Main.{defines_main, has_main}

-- the most bytes that a module may have
abbrev pub text_limit : ℕ
text_limit = 16777216

-- a text that is not too long and reads as a module that keeps the rules: this is what the checks make of it, and all is built
pub record IsAccepted (bytes : List ℕ) (m : Module) : Type 0 where
  pub short : length bytes ≤ text_limit
  pub read : Module
  pub reads : Reads bytes read
  pub checks : IsCheckedFrom read m
  pub built : IsBuilt m

-- it is too long, and one byte more than the limit was read
abbrev pub IsTooLong : List ℕ → Refusal → Type 0
IsTooLong bytes e = (text_limit < length bytes) × (e ≡ refusals.TooLong (text_limit + 1))

-- something of it is not built yet
abbrev pub IsNotBuilt : Module → Refusal → Type 0
IsNotBuilt m e = (line : ℕ) × (first_unbuilt m ≡ Some line) × (e ≡ refusals.NotYet line)

-- it has no `main`, or one of another type
abbrev pub IsMainRefusal : Module → Refusal → Type 0
IsMainRefusal m e =
    ((defines_main m ≡ false) × (e ≡ refusals.NoMain))
    ⊎ ((defines_main m ≡ true) × (has_main m ≡ false) × (e ≡ refusals.BadMain))

-- why texts are not linked, as a refusal
abbrev pub refusal_of : Unlinked → Refusal
refusal_of (Undefined name) = refusals.Unresolved name
refusal_of (TooLarge bytes) = refusals.Image bytes
refusal_of NoMemory = refusals.NoMemory

-- its text is not linked
abbrev pub IsLinkRefusal : Module → Refusal → Type 0
IsLinkRefusal m e = (why : Unlinked) × AreUnlinked (part_text m ∷ []) why × (why ≢ NoMemory) × (e ≡ refusal_of why)

-- it is not one to run: for its `main`, or else for its image
abbrev pub IsRunRefusal : Module → Refusal → Type 0
IsRunRefusal m e = IsMainRefusal m e ⊎ ((has_main m ≡ true) × IsLinkRefusal m e)

-- a module that passed the checks is refused in a mode: something is not built, or else it is to be run and can't be
abbrev pub IsCheckedRefusal : Mode → Module → Refusal → Type 0
IsCheckedRefusal mode m e = IsNotBuilt m e ⊎ (IsBuilt m × (mode ≡ modes.Run) × IsRunRefusal m e)

-- a module is refused in a mode: it breaks a rule, or else what the checks make of it is refused
abbrev pub IsModuleRefusal : Mode → Module → Refusal → Type 0
IsModuleRefusal mode m e = IsCheckRefusal m e ⊎ ((checked : Module) × IsCheckedFrom m checked × IsCheckedRefusal mode checked e)

-- a text that is not too long is refused: it is not read, or else for its module
abbrev pub IsTextRefusal : Mode → List ℕ → Refusal → Type 0
IsTextRefusal mode bytes e = reading.IsFirstRefusal bytes e ⊎ ((m : Module) × Reads bytes m × IsModuleRefusal mode m e)

-- the first refusal of a text in a mode
abbrev pub IsFirstRefusal : Mode → List ℕ → Refusal → Type 0
IsFirstRefusal mode bytes e = IsTooLong bytes e ⊎ ((length bytes ≤ text_limit) × IsTextRefusal mode bytes e)
