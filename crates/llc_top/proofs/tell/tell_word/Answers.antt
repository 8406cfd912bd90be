use Rattle.std.proofs.Common.{◌≡◌, ◌++◌, ◌∷◌, [], ◌∙◌, List, ℕ, decimal, codes, subst, sym, ap, append_assoc}
use Rattle.llc_top.specs.Streams.{SinkChange, TellsAll, CutOff}
use Rattle.llc_top.proofs.Telling.{cut-after, cut-longer, on-err, tells-after}
use Rattle.llc_top.proofs.tell.tell_word.Goals as goal

abbrev with_number : List ℕ → List ℕ
with_number number = codes "llc: refused 3 Unsupported " ++ number

abbrev with_word : List ℕ → List ℕ
with_word word = codes " " ++ word

-- the line in two parts: up to the number, and behind it
parts : (number digits word : List ℕ) → number ≡ digits →
    with_number number ++ with_word word ≡ (with_number digits ++ codes " ") ++ word
parts number digits word is =
    sym (append_assoc (with_number number) (codes " ") word) ∙ ap (λ (d : List ℕ). (with_number d ++ codes " ") ++ word) is

module _ (sink : SinkChange) (number digits word : List ℕ) (is : number ≡ digits) where
  abbrev due : List ℕ
  due = ((with_number digits ++ codes " ") ++ word) ++ 10 ∷ []

  cut_due : CutOff ((with_number number ++ with_word word) ++ 10 ∷ []) sink → CutOff due sink
  cut_due cut = subst (λ (text : List ℕ). CutOff (text ++ 10 ∷ []) sink) (parts number digits word is) cut

  all_due : TellsAll ((with_number number ++ with_word word) ++ 10 ∷ []) sink → TellsAll due sink
  all_due all = subst (λ (text : List ℕ). TellsAll (text ++ 10 ∷ []) sink) (parts number digits word is) all

pub returns-in_err-write_both-clause-cut_off : goal.returns-in_err-write_both-clause-cut_off
returns-in_err-write_both-clause-cut_off g c =
    on-err _ (cut_due _ c.as_bytes-number.result.now (decimal c.args.line) c.args.word.now (c.as_bytes-number.ensures.value ∙ c.format.ensures.text ∙ ap decimal c.from.ensures)
    (cut-longer g.E.Sink.written g.E.Sink.faults _ _ (with_number c.as_bytes-number.result.now ++ with_word c.args.word.now) (10 ∷ [])
    (cut-longer g.E.Sink.written g.E.Sink.faults _ _ (with_number c.as_bytes-number.result.now) (with_word c.args.word.now) c.in_err-write_both.ensures.cut_off)))

pub returns-in_err-write_both-2-clause-cut_off : goal.returns-in_err-write_both-2-clause-cut_off
returns-in_err-write_both-2-clause-cut_off g c =
    on-err _ (cut_due _ c.as_bytes-number.result.now (decimal c.args.line) c.args.word.now (c.as_bytes-number.ensures.value ∙ c.format.ensures.text ∙ ap decimal c.from.ensures)
    (cut-longer g.E.Sink.written g.E.Sink.faults _ _ (with_number c.as_bytes-number.result.now ++ with_word c.args.word.now) (10 ∷ [])
    (cut-after g.E.Sink.written g.E.Sink.faults _ _ _ (with_number c.as_bytes-number.result.now) (with_word c.args.word.now) c.in_ok-write_both.ensures.all c.in_err-write_both-2.ensures.cut_off)))

pub returns-in_err-write_piece-clause-cut_off : goal.returns-in_err-write_piece-clause-cut_off
returns-in_err-write_piece-clause-cut_off g c =
    on-err _ (cut_due _ c.as_bytes-number.result.now (decimal c.args.line) c.args.word.now (c.as_bytes-number.ensures.value ∙ c.format.ensures.text ∙ ap decimal c.from.ensures)
    (cut-after g.E.Sink.written g.E.Sink.faults _ _ _ (with_number c.as_bytes-number.result.now ++ with_word c.args.word.now) (10 ∷ [])
    (tells-after g.E.Sink.written g.E.Sink.faults _ _ _ (with_number c.as_bytes-number.result.now) (with_word c.args.word.now) c.in_ok-write_both.ensures.all c.in_ok-write_both-2.ensures.all)
    c.in_err-write_piece.ensures.cut_off))

pub returns-clause-all : goal.returns-clause-all
returns-clause-all g c =
    all_due _ c.as_bytes-number.result.now (decimal c.args.line) c.args.word.now (c.as_bytes-number.ensures.value ∙ c.format.ensures.text ∙ ap decimal c.from.ensures)
    (tells-after g.E.Sink.written g.E.Sink.faults _ _ _ (with_number c.as_bytes-number.result.now ++ with_word c.args.word.now) (10 ∷ [])
    (tells-after g.E.Sink.written g.E.Sink.faults _ _ _ (with_number c.as_bytes-number.result.now) (with_word c.args.word.now) c.in_ok-write_both.ensures.all c.in_ok-write_both-2.ensures.all)
    c.in_ok-write_piece.ensures.all)
