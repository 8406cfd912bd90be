-- What the words of a command line ask for.
use Rattle.std.specs.Prelude.{ℕ, List, [], ◌∷◌, Option, Some, None, bytes_eq, codes, option_and_then, unwrap_or, if◌then◌else◌}
use Rattle.clap.specs.Words.{Row, fault_of, first_of, matches_of}
use Rattle.clap.specs.Kinds.{Kinds}
use Rattle.llc_words.specs.Numbers.{number_up_to}
use Rattle.llc_words.specs.Syntax.{llc_app}
use Rattle.llc_words.specs.declared.types.Mode.{Mode}
use Rattle.llc_words.specs.declared.types.Mode.TheVariants.{Compile, Run}

-- what to do, how many steps a run takes at most, and the bytes that it gets as its input
pub record Command : Type 0 where
  pub mode : Mode
  pub steps : ℕ
  pub input : List ℕ

-- the mode of a name
abbrev pub mode_named : List ℕ → Option Mode
mode_named word =
    if bytes_eq word (codes "compile") then Some Compile
    else if bytes_eq word (codes "run") then Some Run
    else None

-- the value of `--steps`, at most 1,000,000,000, or else 100,000,000
abbrev pub steps_in : Option (List ℕ) → Option ℕ
steps_in (Some text) = number_up_to 1000000000 text
steps_in None = Some 100000000

abbrev pub command_with : Option Mode → Option ℕ → List ℕ → Option Command
command_with (Some mode) (Some steps) input = Some (record { mode = mode; steps = steps; input = input })
command_with (Some mode) None input = None
command_with None steps input = None

-- what the values of a command ask for, where its mode is one and its number keeps its rule
abbrev pub command_in : List Row → Option Command
command_in rows = command_with
    (option_and_then mode_named (first_of (codes "mode") rows))
    (steps_in (first_of (codes "steps") rows))
    (unwrap_or (first_of (codes "input") rows) [])

-- what the values of words ask for, unless the words are refused
abbrev pub command_unless : Kinds → List Row → Option Command
command_unless [] rows = command_in rows
command_unless (kind ∷ kinds) rows = None

-- What words ask for, the program's name first. No words ask for nothing, and nor do those that `clap` refuses
-- as words of the program's command.
unfoldable pub command_of : List (List ℕ) → Option Command
command_of [] = None
command_of (program ∷ words) =
    command_unless (fault_of llc_app (program ∷ words)) (matches_of llc_app (program ∷ words))
