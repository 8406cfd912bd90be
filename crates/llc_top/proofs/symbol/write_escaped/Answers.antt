use Rattle.std.proofs.Common.{◌<◌, ◌+◌, ◌++◌, List, ℕ, arith, drop, get_or, length, subst, sym, take}
use Rattle.std.specs.List.{flat_map}
use Rattle.rv_isa.specs.Symbol.{escaped}
use Rattle.llc_top.specs.Streams.{sink_change, CutOff}
use Rattle.llc_top.proofs.Escapes.{all-escaped}
use Rattle.llc_top.proofs.Telling.{cut-after, cut-longer, on-err}
use Rattle.llc_top.proofs.symbol.write_escaped.Goals as goal

pub returns-in_err-write_escape-clause-cut_off : goal.returns-in_err-write_escape-clause-cut_off
returns-in_err-write_escape-clause-cut_off g c =
    let name : List ℕ = c.args.name.now in
    let at : ℕ = c.loop-byte.byte-index in
    let inside : at < length name = omega arith in
    on-err _ (subst (λ (due : List ℕ). CutOff due (sink_change g.E.Sink.written g.E.Sink.faults c.args.err.now c.write_escape.new.err))
    (sym (all-escaped escaped name at 0 inside))
    (cut-longer g.E.Sink.written g.E.Sink.faults _ _ (flat_map escaped (take at name) ++ escaped (get_or name at 0)) (flat_map escaped (drop (at + 1) name))
    (cut-after g.E.Sink.written g.E.Sink.faults _ _ _ (flat_map escaped (take at name)) (escaped (get_or name at 0)) c.loop-byte.invariant c.in_err-write_escape.ensures.cut_off)))
