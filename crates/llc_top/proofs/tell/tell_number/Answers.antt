use Rattle.std.proofs.Common.{◌≡◌, ◌++◌, ◌∷◌, [], ◌∙◌, Option, List, ℕ, decimal, subst}
use Rattle.llc_top.specs.Streams.{sink_change, TellsAll, CutOff}
use Rattle.llc_top.proofs.Telling.{cut-after, cut-longer, on-err, tells-after}
use Rattle.llc_top.proofs.tell.tell_number.Goals as goal

pub returns-in_err-write_piece-clause-cut_off : goal.returns-in_err-write_piece-clause-cut_off
returns-in_err-write_piece-clause-cut_off g c =
    on-err _ (cut-longer g.E.Sink.written g.E.Sink.faults _ _ (c.args.text.now ++ decimal c.args.number) (10 ∷ [])
    (cut-longer g.E.Sink.written g.E.Sink.faults _ _ c.args.text.now (decimal c.args.number) c.in_err-write_piece.ensures.cut_off))

pub returns-in_err-write_piece-2-clause-cut_off : goal.returns-in_err-write_piece-2-clause-cut_off
returns-in_err-write_piece-2-clause-cut_off g c =
    let digits : c.as_bytes.result.now ≡ decimal c.args.number = c.as_bytes.ensures.value ∙ c.format.ensures.text in
    on-err _ (cut-longer g.E.Sink.written g.E.Sink.faults _ _ (c.args.text.now ++ decimal c.args.number) (10 ∷ [])
    (cut-after g.E.Sink.written g.E.Sink.faults _ _ _ c.args.text.now (decimal c.args.number) c.in_ok-write_piece.ensures.all
    (subst (λ (due : List ℕ). CutOff due (sink_change g.E.Sink.written g.E.Sink.faults c.write_piece.new.err c.write_piece-2.new.err)) digits
    c.in_err-write_piece-2.ensures.cut_off)))

-- what is told once the digits are
number_told : {S : Type 0} (written : S → Option (List ℕ)) (faults : S → ℕ) (a b c : S) (text digits bytes : List ℕ) →
    TellsAll text (sink_change written faults a b) → bytes ≡ digits → TellsAll bytes (sink_change written faults b c) →
    TellsAll (text ++ digits) (sink_change written faults a c)
number_told written faults a b c text digits bytes first is rest =
    tells-after written faults a b c text digits first (subst (λ (l : List ℕ). TellsAll l (sink_change written faults b c)) is rest)

pub returns-in_err-write_piece-3-clause-cut_off : goal.returns-in_err-write_piece-3-clause-cut_off
returns-in_err-write_piece-3-clause-cut_off g c =
    on-err _ (cut-after g.E.Sink.written g.E.Sink.faults _ _ _ (c.args.text.now ++ decimal c.args.number) (10 ∷ [])
    (number_told g.E.Sink.written g.E.Sink.faults _ _ _ c.args.text.now (decimal c.args.number) c.as_bytes.result.now c.in_ok-write_piece.ensures.all (c.as_bytes.ensures.value ∙ c.format.ensures.text) c.in_ok-write_piece-2.ensures.all)
    c.in_err-write_piece-3.ensures.cut_off)

pub returns-clause-all : goal.returns-clause-all
returns-clause-all g c =
    tells-after g.E.Sink.written g.E.Sink.faults _ _ _ (c.args.text.now ++ decimal c.args.number) (10 ∷ [])
    (number_told g.E.Sink.written g.E.Sink.faults _ _ _ c.args.text.now (decimal c.args.number) c.as_bytes.result.now c.in_ok-write_piece.ensures.all (c.as_bytes.ensures.value ∙ c.format.ensures.text) c.in_ok-write_piece-2.ensures.all)
    c.in_ok-write_piece-3.ensures.all
