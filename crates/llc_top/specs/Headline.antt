-- The headline: what holds of every run of the program, whatever its words, its streams and the memory.
use Rattle.std.specs.Prelude.{◌≡◌, ℕ, Some, List}
use Rattle.llc_words.specs.Commands.{Command, command_of}
use Rattle.llc_words.specs.declared.types.Mode.{Mode}
use Rattle.llc_words.specs.declared.types.Mode.TheVariants as modes
use Rattle.llc_top.specs.Exact.{IsExact, Compiled, Ran}
use Rattle.llc_top.specs.Outcome.{Answers, HasReason}
use Rattle.llc_top.specs.Streams.{SourceChange, SinkChange}
use Rattle.llc_top.specs.declared.status.Status.{Status}
use Rattle.llc_top.specs.declared.status.Status.TheVariants as statuses

-- the words ask for this, in this mode, and it was done
abbrev pub Does : List (List ℕ) → Status → Mode → Command → Type 0
Does words status mode command = (status ≡ statuses.Done) × (command_of words ≡ Some command) × (command.mode ≡ mode)

-- By the words, the answer, and what the call did to the source and to the sinks for results and for errors.
pub record Headline (words : List (List ℕ)) (status : Status) (src : SourceChange) (out err : SinkChange) : Type 0 where
  -- What came of the run has its reason in the words and in what was read, and the sinks got exactly what is due. After
  -- a write fault that is a proper prefix of it, and the sink whose write failed is the last that was written to.
  pub answer : Answers (HasReason words src) status out err
  -- An accepted text is never refused, and one with a first refusal is never done.
  pub exact : IsExact words src.old_left status
  -- The text written is the defined text of the module: each defined symbol stands in it once, every reference
  -- resolves, and its linked image, on any input and for any number of steps, shows what the module's meaning allows.
  pub compiled : (command : Command) → Does words status modes.Compile command →
      Compiled src.old_left src.left out.old_written out.written
  -- What the machine put out for the module's image was written, how it ended was told, and the meaning allows both.
  pub ran : (command : Command) → Does words status modes.Run command →
      Ran command src.old_left src.left out.old_written out.written err.old_written err.written
