-- What the parts of a run tell.
use Rattle.std.specs.Prelude.{◌≡◌, ◌≢◌, ◌⊎◌, ℕ, true, List, [], ◌∷◌}
use Rattle.cg_part.specs.Linking.{IsImageOf}
use Rattle.cg_part.specs.Text.{output_of, part_text}
use Rattle.ir_check.specs.Checks.{IsCheckedFrom}
use Rattle.ir_syntax.specs.declared.module.Module.{Module}
use Rattle.ir_syntax.specs.declared.refusal.Refusal.{Refusal}
use Rattle.ir_syntax.specs.declared.refusal.Refusal.TheVariants as refusals
use Rattle.llc_words.specs.Commands.{Command}
use Rattle.llc_words.specs.declared.types.Mode.TheVariants as modes
use Rattle.obj_link.specs.declared.image.Image.{Image}
use Rattle.obj_link.specs.declared.refusal.Unlinked.{Unlinked}
use Rattle.obj_link.specs.declared.refusal.Unlinked.TheVariants.{NoMemory}
use Rattle.rv_isa.specs.Lines.{ended}
use Rattle.cg_built.specs.Main.{has_main}
use Rattle.cg_built.specs.Unbuilt.{IsBuilt}
use Rattle.llc_top.specs.Outcome.{Outcome, words_refused, read_failed, refuses, compiles, runs, Tells, TellsPart, refusal_text}
use Rattle.llc_top.specs.Refusals.{IsAccepted, IsCheckedRefusal, IsModuleRefusal, IsRunRefusal, IsTextRefusal, refusal_of}
use Rattle.llc_top.specs.Streams.{SinkChange, TellsAll, CutOff}
use Rattle.llc_top.specs.declared.status.Status.{Status}
use Rattle.llc_top.specs.declared.status.Status.TheVariants as statuses

-- a text was written, or a write failed, or memory ran out before
abbrev pub WrittenText : List ℕ → Status → SinkChange → Type 0
WrittenText text statuses.Done out = TellsAll text out
WrittenText text statuses.WriteFault out = CutOff text out
WrittenText text statuses.NoMemory out = TellsAll [] out
WrittenText text statuses.Refused out = ⊥
WrittenText text statuses.Words out = ⊥
WrittenText text statuses.ReadFault out = ⊥

-- that of a module
abbrev pub Written : Module → Status → SinkChange → Type 0
Written m status out = WrittenText (output_of m) status out

-- an image was run and all was told, or a write failed, or memory ran out before
abbrev pub Executed : Command → Image → Status → SinkChange → SinkChange → Type 0
Executed command image statuses.Done out err = Tells (runs command image) out err
Executed command image statuses.WriteFault out err = TellsPart (runs command image) out err
Executed command image statuses.NoMemory out err = TellsAll [] out × TellsAll [] err
Executed command image statuses.Refused out err = ⊥
Executed command image statuses.Words out err = ⊥
Executed command image statuses.ReadFault out err = ⊥

-- a line was told and the status due is answered, or the write failed
abbrev pub Told : Status → Status → List ℕ → SinkChange → Type 0
Told status due line err = ((status ≡ due) × TellsAll line err) ⊎ ((status ≡ statuses.WriteFault) × CutOff line err)

-- a refusal was told, or the write of its line failed
abbrev pub ToldRefusal : Refusal → Status → SinkChange → Type 0
ToldRefusal refusal statuses.Refused err = TellsAll (ended (refusal_text refusal)) err
ToldRefusal refusal statuses.WriteFault err = CutOff (ended (refusal_text refusal)) err
ToldRefusal refusal statuses.NoMemory err = ⊥
ToldRefusal refusal statuses.Done err = ⊥
ToldRefusal refusal statuses.Words err = ⊥
ToldRefusal refusal statuses.ReadFault err = ⊥

-- a refusal was told, or the write of its line failed; nothing is told where memory ran out
abbrev pub ToldUnread : Refusal → Status → SinkChange → Type 0
ToldUnread e status err =
    ((e ≡ refusals.NoMemory) × (status ≡ statuses.NoMemory) × TellsAll [] err) ⊎ ((e ≢ refusals.NoMemory) × ToldRefusal e status err)

-- Why a module is not linked was told as a refusal, or the write of its line failed. Nothing is told where memory
-- ran out, in the linker or for the symbol's name.
abbrev pub ToldUnlinked : Unlinked → Status → SinkChange → Type 0
ToldUnlinked why status err =
    ((status ≡ statuses.NoMemory) × TellsAll [] err) ⊎ ((why ≢ NoMemory) × ToldRefusal (refusal_of why) status err)

-- why a module that is built comes to this where it is to be run
abbrev pub HasRunReason : Command → Module → Outcome → Type 0
HasRunReason command m words_refused = ⊥
HasRunReason command m read_failed = ⊥
HasRunReason command m (refuses e) = IsRunRefusal m e
HasRunReason command m (compiles other) = ⊥
HasRunReason command m (runs asked image) = (asked ≡ command) × (has_main m ≡ true) × IsImageOf (part_text m ∷ []) image

-- why a module that is built comes to this
abbrev pub HasModuleReason : Command → Module → Outcome → Type 0
HasModuleReason command m words_refused = ⊥
HasModuleReason command m read_failed = ⊥
HasModuleReason command m (refuses e) = (command.mode ≡ modes.Run) × IsRunRefusal m e
HasModuleReason command m (compiles other) = (command.mode ≡ modes.Compile) × (other ≡ m)
HasModuleReason command m (runs asked image) = (command.mode ≡ modes.Run) × HasRunReason command m (runs asked image)

-- why a module that passed the checks comes to this
abbrev pub HasCheckedReason : Command → Module → Outcome → Type 0
HasCheckedReason command m words_refused = ⊥
HasCheckedReason command m read_failed = ⊥
HasCheckedReason command m (refuses e) = IsCheckedRefusal command.mode m e
HasCheckedReason command m (compiles other) = (command.mode ≡ modes.Compile) × (other ≡ m) × IsBuilt m
HasCheckedReason command m (runs asked image) = (command.mode ≡ modes.Run) × IsBuilt m × HasRunReason command m (runs asked image)

-- why a module that was read comes to this
abbrev pub HasReadReason : Command → Module → Outcome → Type 0
HasReadReason command m words_refused = ⊥
HasReadReason command m read_failed = ⊥
HasReadReason command m (refuses e) = IsModuleRefusal command.mode m e
HasReadReason command m (compiles checked) = (command.mode ≡ modes.Compile) × IsCheckedFrom m checked × IsBuilt checked
HasReadReason command m (runs asked image) =
    (command.mode ≡ modes.Run) × (checked : Module) × IsCheckedFrom m checked × IsBuilt checked × HasRunReason command checked (runs asked image)

-- why a text that is not too long comes to this
abbrev pub HasTextReason : Command → List ℕ → Outcome → Type 0
HasTextReason command bytes words_refused = ⊥
HasTextReason command bytes read_failed = ⊥
HasTextReason command bytes (refuses e) = IsTextRefusal command.mode bytes e
HasTextReason command bytes (compiles m) = (command.mode ≡ modes.Compile) × IsAccepted bytes m
HasTextReason command bytes (runs asked image) =
    (command.mode ≡ modes.Run) × (m : Module) × IsAccepted bytes m × HasRunReason command m (runs asked image)
