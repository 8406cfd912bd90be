-- Lines that tell something.
use Rattle.std.specs.Prelude.{ℕ, List, ◌++◌}
use Rattle.std.specs.Fmt.{decimal}
use Rattle.ir_syntax.specs.declared.refusal.Refusal.TheVariants as refusals
use Rattle.rv_isa.specs.Lines.{ended}
use Rattle.rv_isa.specs.Symbol.{spelled}
use Rattle.llc_top.specs.Outcome.{refusal_text}
use Rattle.llc_top.specs.declared.tell.Message.{Message}
use Rattle.llc_top.specs.declared.tell.Message.TheVariants.{Line, Number, Symbol, Unsupported}

-- the text of a message
abbrev pub message_text : Message → List ℕ
message_text (Line line) = line.now
message_text (Number text number) = ended (text.now ++ decimal number)
message_text (Symbol text name) = ended (text.now ++ spelled name.now)
message_text (Unsupported line word) = ended (refusal_text (refusals.Unsupported line word.now))
