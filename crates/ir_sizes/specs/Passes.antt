-- What passes over the definitions of types find, one definition after the other.
use Rattle.std.specs.Prelude.{◌≡◌, ℕ, Bool, false, Option, None, Some, List, length}
use Rattle.ir_sizes.specs.Measured.{extent_at, extents_after, extents_by, next_extents}
use Rattle.ir_sizes.specs.Sized.{level_limit}
use Rattle.ir_sizes.specs.declared.extent.Extent.{Extent}
use Rattle.ir_syntax.specs.declared.type_def.TypeDef.{TypeDef}

-- each extent of the first is one of the second
abbrev pub Below : List (Option Extent) → List (Option Extent) → Type 0
Below some all = (place : ℕ) (e : Extent) → extent_at some place ≡ Some e → extent_at all place ≡ Some e

-- the extents of definitions that have one
abbrev pub whole_extents : List TypeDef → List (Option Extent)
whole_extents defs = extents_after defs level_limit

-- an extent that is known, or else a new one
abbrev pub known_or : Option Extent → Option Extent → Option Extent
known_or None new = new
known_or (Some e) new = Some e

-- some of the extents of definitions
pub record IsPart (defs : List TypeDef) (extents : List (Option Extent)) : Type 0 where
  pub each : length extents ≡ length defs
  pub true_ : Below extents (whole_extents defs)

-- a pass keeps what was known, adds what is measured from that, and says whether it added any
pub record IsPass (defs : List TypeDef) (old new : List (Option Extent)) (found : Bool) : Type 0 where
  pub kept : Below old new
  pub all : Below (next_extents defs (extents_by defs old)) new
  pub same : found ≡ false → new ≡ old
