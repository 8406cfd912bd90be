use Rattle.std.proofs.Common.{take}
use Rattle.std.specs.List.{flat_map}
use Rattle.rv_isa.specs.Symbol.{escaped}
use Rattle.llc_top.specs.Streams.{sink_change, TellsAll}
use Rattle.llc_top.proofs.symbol.write_escaped.Given as goal

abbrev pub invariant-loop-byte : goal.invariant-loop-byte
invariant-loop-byte g l = TellsAll (flat_map escaped (take l.byte-index l.name)) (sink_change g.E.Sink.written g.E.Sink.faults l.initial.err l.err)
