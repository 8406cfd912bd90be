use Rattle.std.proofs.Common.{◌++◌, ◌∷◌, [], sym}
use Rattle.std.specs.List.{flat_map}
use Rattle.rv_isa.specs.Symbol.{escaped}
use Rattle.llc_top.proofs.Escapes.{cut-quoted}
use Rattle.llc_top.proofs.Telling.{cut-after, cut-longer, on-err}
use Rattle.llc_top.proofs.symbol.write_symbol.Goals as goal

pub returns-in_err-write_piece-clause-cut_off : goal.returns-in_err-write_piece-clause-cut_off
returns-in_err-write_piece-clause-cut_off g c =
    on-err _ (cut-quoted _ c.args.name.now (sym c.if-is_bare.ensures)
    (cut-longer g.E.Sink.written g.E.Sink.faults _ _ (34 ∷ []) (flat_map escaped c.args.name.now ++ 34 ∷ []) c.in_err-write_piece.ensures.cut_off))

pub returns-in_err-write_escaped-clause-cut_off : goal.returns-in_err-write_escaped-clause-cut_off
returns-in_err-write_escaped-clause-cut_off g c =
    on-err _ (cut-quoted _ c.args.name.now (sym c.if-is_bare.ensures)
    (cut-after g.E.Sink.written g.E.Sink.faults _ _ _ (34 ∷ []) (flat_map escaped c.args.name.now ++ 34 ∷ []) c.in_ok-write_piece.ensures.all
    (cut-longer g.E.Sink.written g.E.Sink.faults _ _ (flat_map escaped c.args.name.now) (34 ∷ []) c.in_err-write_escaped.ensures.cut_off)))

pub returns-in_err-write_piece-2-clause-cut_off : goal.returns-in_err-write_piece-2-clause-cut_off
returns-in_err-write_piece-2-clause-cut_off g c =
    on-err _ (cut-quoted _ c.args.name.now (sym c.if-is_bare.ensures)
    (cut-after g.E.Sink.written g.E.Sink.faults _ _ _ (34 ∷ []) (flat_map escaped c.args.name.now ++ 34 ∷ []) c.in_ok-write_piece.ensures.all
    (cut-after g.E.Sink.written g.E.Sink.faults _ _ _ (flat_map escaped c.args.name.now) (34 ∷ []) c.in_ok-write_escaped.ensures.all c.in_err-write_piece-2.ensures.cut_off)))
