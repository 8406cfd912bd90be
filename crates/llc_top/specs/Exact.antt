-- What an answer says of a text that the source tells, and of what was written.
use Rattle.std.specs.Prelude.{◌≡◌, ◌≢◌, ℕ, true, Option, Some, List, [], ◌∷◌}
use Rattle.std.specs.Io.KnownBytes.{Appends}
use Rattle.asm_print.specs.Resolving.{Resolves}
use Rattle.cg_part.specs.Allowed.{RunsAllowed, Allowed}
use Rattle.cg_part.specs.Linking.{IsImageOf}
use Rattle.cg_part.specs.Text.{declared_symbols, defined_symbols, output_of, part_text}
use Rattle.ir_syntax.specs.declared.module.Module.{Module}
use Rattle.ir_syntax.specs.declared.refusal.Refusal.{Refusal}
use Rattle.llc_words.specs.Commands.{Command, command_of}
use Rattle.llc_words.specs.declared.types.Mode.{Mode}
use Rattle.llc_words.specs.declared.types.Mode.TheVariants as modes
use Rattle.obj_link.specs.declared.image.Image.{Image}
use Rattle.rv_isa.specs.Lines.{ended}
use Rattle.cg_built.specs.Main.{has_main}
use Rattle.llc_top.specs.Outcome.{TakesModule, image_run}
use Rattle.llc_top.specs.Refusals.{IsAccepted, IsFirstRefusal}
use Rattle.llc_top.specs.Stops.{stop_text}
use Rattle.llc_top.specs.declared.status.Status.{Status}
use Rattle.llc_top.specs.declared.status.Status.TheVariants as statuses

-- a module that a mode takes: one to run has a `main`, and its text links to an image
abbrev pub Serves : Mode → Module → Type 0
Serves modes.Compile m = Unit {0}
Serves modes.Run m = (has_main m ≡ true) × (image : Image) × IsImageOf (part_text m ∷ []) image

-- an accepted text is never refused, and one with a first refusal never done
pub record IsExact (words : List (List ℕ)) (left : Option (List ℕ)) (status : Status) : Type 0 where
  pub accepted : (command : Command) (bytes : List ℕ) (m : Module) → command_of words ≡ Some command → left ≡ Some bytes →
      IsAccepted bytes m → Serves command.mode m → status ≢ statuses.Refused
  pub refusable : (command : Command) (bytes : List ℕ) (refusal : Refusal) → command_of words ≡ Some command → left ≡ Some bytes →
      IsFirstRefusal command.mode bytes refusal → status ≢ statuses.Done

-- The text of the source's module was written, and it resolves as the one part. It assembles, and where `run` does not
-- refuse the module, then, whatever the input and the steps, the image of the text shows what the module allows.
pub record Compiled (left left' out out' : Option (List ℕ)) : Type 0 where
  pub compiled : Module
  pub takes : TakesModule left left' compiled
  pub wrote : Appends out out' (output_of compiled)
  pub resolves : Resolves (defined_symbols compiled) (declared_symbols compiled) (part_text compiled ∷ [])
  pub allowed : RunsAllowed compiled (part_text compiled ∷ [])

-- The source's module was run with the input and the steps of the command: its text links to an image, what the
-- machine put out for this image was written, how it ended was told, and the module allows both.
pub record Ran (command : Command) (left left' out out' err err' : Option (List ℕ)) : Type 0 where
  pub compiled : Module
  pub image : Image
  pub takes : TakesModule left left' compiled
  pub linked : IsImageOf (part_text compiled ∷ []) image
  pub wrote : Appends out out' (image_run command image).output
  pub told : Appends err err' (ended (stop_text (image_run command image).stop))
  pub allowed : Allowed compiled image command.input command.steps
