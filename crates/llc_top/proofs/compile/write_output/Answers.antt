use Rattle.std.proofs.Common.{◌∙◌, ℕ, List, subst}
use Rattle.llc_top.specs.Partial.{WrittenText}
use Rattle.llc_top.specs.Streams.{sink_change}
use Rattle.llc_top.proofs.compile.write_output.Goals as goal

pub returns : goal.returns
returns g c =
    subst (λ (text : List ℕ). WrittenText text c.write_text.result (sink_change g.O.Sink.written g.O.Sink.faults c.args.out.now c.write_text.new.out))
    (c.as_slice.ensures.value ∙ c.in-Ok.ensures) c.write_text.ensures
