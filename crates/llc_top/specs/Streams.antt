-- What a call did to a source and to a sink: what each told of its bytes before the call and after it, and how
-- often it had failed by then.
use Rattle.std.specs.Prelude.{◌≡◌, ℕ, Option, List}
use Rattle.std.specs.Io.KnownBytes.{Appends}
use Rattle.cg_io.specs.Faults.{Rose}
use Rattle.cg_io.specs.Told.{AppendsProperPrefix}

pub record SourceChange : Type 0 where
  pub old_left : Option (List ℕ)
  pub left : Option (List ℕ)
  pub old_faults : ℕ
  pub faults : ℕ

pub record SinkChange : Type 0 where
  pub old_written : Option (List ℕ)
  pub written : Option (List ℕ)
  pub old_faults : ℕ
  pub faults : ℕ

-- by what a source tells, from one of its states to another
abbrev pub source_change : {S : Type 0} → (S → Option (List ℕ)) → (S → ℕ) → S → S → SourceChange
source_change left faults old new = record { old_left = left old; left = left new; old_faults = faults old; faults = faults new }

-- by what a sink tells, from one of its states to another
abbrev pub sink_change : {S : Type 0} → (S → Option (List ℕ)) → (S → ℕ) → S → S → SinkChange
sink_change written faults old new = record { old_written = written old; written = written new; old_faults = faults old; faults = faults new }

-- no read failed
abbrev pub IsReadable : SourceChange → Type 0
IsReadable src = src.faults ≡ src.old_faults

-- a sink got all that was due, and no write to it failed
pub record TellsAll (due : List ℕ) (sink : SinkChange) : Type 0 where
  pub appended : Appends sink.old_written sink.written due
  pub no_fault : sink.faults ≡ sink.old_faults

-- a write to a sink failed, and it got a prefix of what was due, but not all
pub record CutOff (due : List ℕ) (sink : SinkChange) : Type 0 where
  pub part : AppendsProperPrefix sink.old_written sink.written due
  pub fault : Rose sink.old_faults sink.faults
