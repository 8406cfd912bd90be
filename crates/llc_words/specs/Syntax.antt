-- The syntax of the command line.
use Rattle.std.specs.Prelude.{ℕ, List, Some, true, codes}
use Rattle.clap.specs.Simple.{App, new_app, new_rule, on_top, with_rule}
use Rattle.clap.specs.Walk.{Rule}

-- the word that stands alone, and is required
abbrev pub mode_rule : Rule
mode_rule = record (new_rule (codes "mode")) { required = true }

-- an option with one value
abbrev pub option_rule : List ℕ → Rule
option_rule name = record (new_rule name) { long = Some name }

-- the command, without flags for help and for the version
abbrev pub plain_app : App
plain_app = on_top (λ s. record s { disable_help_flag = true; disable_version_flag = true }) (new_app (codes "llc"))

abbrev pub llc_app : App
llc_app = with_rule (with_rule (with_rule plain_app mode_rule) (option_rule (codes "steps"))) (option_rule (codes "input"))
