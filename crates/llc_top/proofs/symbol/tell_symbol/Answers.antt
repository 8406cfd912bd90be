use Rattle.std.proofs.Common.{◌++◌, ◌∷◌, []}
use Rattle.rv_isa.specs.Symbol.{spelled}
use Rattle.llc_top.proofs.Telling.{cut-after, cut-longer, on-err, tells-after}
use Rattle.llc_top.proofs.symbol.tell_symbol.Goals as goal

pub returns-in_err-write_piece-clause-cut_off : goal.returns-in_err-write_piece-clause-cut_off
returns-in_err-write_piece-clause-cut_off g c =
    on-err _ (cut-longer g.E.Sink.written g.E.Sink.faults _ _ (c.args.text.now ++ spelled c.args.name.now) (10 ∷ [])
    (cut-longer g.E.Sink.written g.E.Sink.faults _ _ c.args.text.now (spelled c.args.name.now) c.in_err-write_piece.ensures.cut_off))

pub returns-in_err-write_symbol-clause-cut_off : goal.returns-in_err-write_symbol-clause-cut_off
returns-in_err-write_symbol-clause-cut_off g c =
    on-err _ (cut-longer g.E.Sink.written g.E.Sink.faults _ _ (c.args.text.now ++ spelled c.args.name.now) (10 ∷ [])
    (cut-after g.E.Sink.written g.E.Sink.faults _ _ _ c.args.text.now (spelled c.args.name.now) c.in_ok-write_piece.ensures.all c.in_err-write_symbol.ensures.cut_off))

pub returns-in_err-write_piece-2-clause-cut_off : goal.returns-in_err-write_piece-2-clause-cut_off
returns-in_err-write_piece-2-clause-cut_off g c =
    on-err _ (cut-after g.E.Sink.written g.E.Sink.faults _ _ _ (c.args.text.now ++ spelled c.args.name.now) (10 ∷ [])
    (tells-after g.E.Sink.written g.E.Sink.faults _ _ _ c.args.text.now (spelled c.args.name.now) c.in_ok-write_piece.ensures.all c.in_ok-write_symbol.ensures.all)
    c.in_err-write_piece-2.ensures.cut_off)

pub returns-clause-all : goal.returns-clause-all
returns-clause-all g c =
    tells-after g.E.Sink.written g.E.Sink.faults _ _ _ (c.args.text.now ++ spelled c.args.name.now) (10 ∷ [])
    (tells-after g.E.Sink.written g.E.Sink.faults _ _ _ c.args.text.now (spelled c.args.name.now) c.in_ok-write_piece.ensures.all c.in_ok-write_symbol.ensures.all)
    c.in_ok-write_piece-2.ensures.all
