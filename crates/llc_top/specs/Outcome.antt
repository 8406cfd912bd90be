-- What a run of the program comes to, why, and what is due on its two sinks.
use Rattle.std.specs.Prelude.{◌≡◌, ◌≢◌, ◌≤◌, ◌+◌, ◌⊎◌, ℕ, true, Option, Some, None, List, [], ◌∷◌, ◌++◌, length, codes}
use Rattle.std.specs.Fmt.{decimal}
use Rattle.cg_io.specs.Faults.{Rose}
use Rattle.cg_io.specs.Told.{GivesAll, TakesExactly}
use Rattle.cg_part.specs.Linking.{IsImageOf}
use Rattle.cg_part.specs.Text.{output_of, part_text}
use Rattle.ir_syntax.specs.declared.module.Module.{Module}
use Rattle.ir_syntax.specs.declared.refusal.Count.{Count}
use Rattle.ir_syntax.specs.declared.refusal.Count.TheVariants as counts
use Rattle.ir_syntax.specs.declared.refusal.Refusal.{Refusal}
use Rattle.ir_syntax.specs.declared.refusal.Refusal.TheVariants as refusals
use Rattle.ir_syntax.specs.declared.refusal.Refusal.TheVariants.{TooLong}
use Rattle.llc_words.specs.Commands.{Command, command_of}
use Rattle.llc_words.specs.declared.types.Mode.{Mode}
use Rattle.llc_words.specs.declared.types.Mode.TheVariants as modes
use Rattle.obj_link.specs.declared.image.Image.{Image}
use Rattle.rv_isa.specs.Lines.{ended}
use Rattle.rv_isa.specs.Symbol.{spelled}
use Rattle.rv_mach.specs.Run.{Behaviour, machine_run}
use Rattle.cg_built.specs.Main.{has_main}
use Rattle.llc_top.specs.Refusals.{IsAccepted, IsTextRefusal, text_limit}
use Rattle.llc_top.specs.Stops.{stop_text}
use Rattle.llc_top.specs.Streams.{SourceChange, SinkChange, IsReadable, TellsAll, CutOff}
use Rattle.llc_top.specs.declared.status.Status.{Status}
use Rattle.llc_top.specs.declared.status.Status.TheVariants as statuses

-- what the machine shows of an image, with the input and the steps that the words ask for
abbrev pub image_run : Command → Image → Behaviour
image_run command image = machine_run image.bytes command.input command.steps

-- what a run comes to where memory lasts and no write fails
pub data Outcome : Type 0 where
  words_refused : Outcome
  read_failed : Outcome
  refuses : Refusal → Outcome
  compiles : Module → Outcome
  runs : Command → Image → Outcome

abbrev pub status_of : Outcome → Status
status_of words_refused = statuses.Words
status_of read_failed = statuses.ReadFault
status_of (refuses refusal) = statuses.Refused
status_of (compiles m) = statuses.Done
status_of (runs command image) = statuses.Done

-- what a module has too much of
abbrev pub count_text : Count → List ℕ
count_text counts.Functions = codes "llc: refused 11 Count Functions"
count_text counts.OneFunction = codes "llc: refused 11 Count OneFunction"
count_text counts.Instructions = codes "llc: refused 11 Count Instructions"
count_text counts.Arguments = codes "llc: refused 11 Count Arguments"
count_text counts.TypePlaces = codes "llc: refused 11 Count TypePlaces"

-- a refusal as it is printed: its number, its name and its fields, a symbol as the assembly spells it
abbrev pub refusal_text : Refusal → List ℕ
refusal_text (refusals.TooLong taken) = codes "llc: refused 1 TooLong " ++ decimal taken
refusal_text (refusals.Lex line) = codes "llc: refused 2 Lex " ++ decimal line
refusal_text (refusals.Unsupported line word) = codes "llc: refused 3 Unsupported " ++ decimal line ++ codes " " ++ word
refusal_text (refusals.Form line) = codes "llc: refused 4 Form " ++ decimal line
refusal_text (refusals.Name line) = codes "llc: refused 5 Name " ++ decimal line
refusal_text (refusals.Repeated line) = codes "llc: refused 6 Repeated " ++ decimal line
refusal_text (refusals.Reserved name) = codes "llc: refused 7 Reserved " ++ spelled name
refusal_text (refusals.TypeRule line) = codes "llc: refused 8 TypeRule " ++ decimal line
refusal_text (refusals.FlowRule line) = codes "llc: refused 9 FlowRule " ++ decimal line
refusal_text (refusals.AliasRule name) = codes "llc: refused 10 AliasRule " ++ spelled name
refusal_text (refusals.Count which) = count_text which
refusal_text refusals.NoMain = codes "llc: refused 14 NoMain"
refusal_text refusals.BadMain = codes "llc: refused 15 BadMain"
refusal_text (refusals.Unresolved name) = codes "llc: refused 16 Unresolved " ++ spelled name
refusal_text (refusals.Image bytes) = codes "llc: refused 17 Image " ++ decimal bytes
refusal_text (refusals.NotYet line) = codes "llc: refused 18 NotYet " ++ decimal line
refusal_text refusals.NoMemory = []

-- what is due on the sink for results
abbrev pub out_due : Outcome → List ℕ
out_due words_refused = []
out_due read_failed = []
out_due (refuses refusal) = []
out_due (compiles m) = output_of m
out_due (runs command image) = (image_run command image).output

-- what is due on the sink for errors
abbrev pub err_due : Outcome → List ℕ
err_due words_refused = ended (codes "llc: words")
err_due read_failed = ended (codes "llc: read fault")
err_due (refuses refusal) = ended (refusal_text refusal)
err_due (compiles m) = []
err_due (runs command image) = ended (stop_text (image_run command image).stop)

-- the whole text of the source is this module's
pub record TakesModule (left left' : Option (List ℕ)) (m : Module) : Type 0 where
  pub bytes : List ℕ
  pub gave : GivesAll left left' bytes
  pub accepted : IsAccepted bytes m

-- What the source gave is refused. Of a text that is too long it gave one byte more than the limit, and
-- any other text it gave whole.
abbrev pub TakesRefused : Mode → Option (List ℕ) → Option (List ℕ) → Refusal → Type 0
TakesRefused mode left left' e =
    ((e ≡ TooLong (text_limit + 1)) × TakesExactly (text_limit + 1) left left')
    ⊎ ((bytes : List ℕ) × GivesAll left left' bytes × (length bytes ≤ text_limit) × IsTextRefusal mode bytes e)

-- the source's module has a `main`, and its text links to this image
pub record TakesProgram (left left' : Option (List ℕ)) (image : Image) : Type 0 where
  pub m : Module
  pub takes : TakesModule left left' m
  pub has_a_main : has_main m ≡ true
  pub linked : IsImageOf (part_text m ∷ []) image

-- why a run comes to this, by its words and what was read of its source: only where a read fails does the
-- source's count of faults rise
abbrev pub HasReason : List (List ℕ) → SourceChange → Outcome → Type 0
HasReason words src words_refused = IsReadable src × (command_of words ≡ None)
HasReason words src read_failed = Rose src.old_faults src.faults × (command_of words ≢ None)
HasReason words src (refuses refusal) =
    IsReadable src × (command : Command) × (command_of words ≡ Some command) × TakesRefused command.mode src.old_left src.left refusal
HasReason words src (compiles m) =
    IsReadable src × (command : Command) × (command_of words ≡ Some command) × (command.mode ≡ modes.Compile) × TakesModule src.old_left src.left m
HasReason words src (runs command image) =
    IsReadable src × (command_of words ≡ Some command) × (command.mode ≡ modes.Run) × TakesProgram src.old_left src.left image

-- the sinks got what is due
pub record Tells (outcome : Outcome) (out err : SinkChange) : Type 0 where
  pub results : TellsAll (out_due outcome) out
  pub errors : TellsAll (err_due outcome) err

-- A write failed, and nothing was written after it. The results come first: where they were cut off, no error is
-- told and no write of one was tried.
abbrev pub TellsPart : Outcome → SinkChange → SinkChange → Type 0
TellsPart outcome out err =
    (CutOff (out_due outcome) out × TellsAll [] err) ⊎ (TellsAll (out_due outcome) out × CutOff (err_due outcome) err)

-- a run answers with the status of some outcome that has its reason, and tells it
abbrev pub Finishes : (Outcome → Type 0) → Status → SinkChange → SinkChange → Type 0
Finishes Reason status out err = (outcome : Outcome) × Reason outcome × (status_of outcome ≡ status) × Tells outcome out err

-- What an answer means. After a write fault a proper prefix of what was due was told; out of memory, nothing.
abbrev pub Answers : (Outcome → Type 0) → Status → SinkChange → SinkChange → Type 0
Answers Reason statuses.WriteFault out err = (outcome : Outcome) × Reason outcome × TellsPart outcome out err
Answers Reason statuses.NoMemory out err = TellsAll [] out × TellsAll [] err
Answers Reason statuses.Done out err = Finishes Reason statuses.Done out err
Answers Reason statuses.Refused out err = Finishes Reason statuses.Refused out err
Answers Reason statuses.Words out err = Finishes Reason statuses.Words out err
Answers Reason statuses.ReadFault out err = Finishes Reason statuses.ReadFault out err
