-- What follows from an answer, for one call of the program.
use Rattle.std.proofs.Common.{◌≡◌, ◌⊎◌, ◌∙◌, sym, ℕ, List, Some, None, inl, inr, refl}
use Rattle.cg_io.specs.Faults.{Rose}
use Rattle.llc_top.specs.Outcome.{Outcome, words_refused, read_failed, refuses, compiles, runs, status_of, Answers, HasReason}
use Rattle.llc_top.specs.Streams.{SourceChange, SinkChange}
use Rattle.llc_top.specs.declared.status.Status.{Status}
use Rattle.llc_top.specs.declared.status.Status.TheVariants as statuses
use Rattle.llc_words.specs.Commands.{Command, command_of}

module _ (words : List (List ℕ)) (src : SourceChange) (out err : SinkChange) where
  failed_by : (outcome : Outcome) → HasReason words src outcome → status_of outcome ≡ statuses.ReadFault → Rose src.old_faults src.faults
  failed_by words_refused reason is = absurd (cc)
  failed_by read_failed reason is = reason.0
  failed_by (refuses refusal) reason is = absurd (cc)
  failed_by (compiles m) reason is = absurd (cc)
  failed_by (runs command image) reason is = absurd (cc)

  -- a read fault is answered only where a read failed
  pub answer-read_fault : (status : Status) → Answers (HasReason words src) status out err → status ≡ statuses.ReadFault → Rose src.old_faults src.faults
  answer-read_fault statuses.ReadFault answer is = failed_by answer.0 answer.1 answer.2
  answer-read_fault statuses.WriteFault answer is = absurd (cc)
  answer-read_fault statuses.NoMemory answer is = absurd (cc)
  answer-read_fault statuses.Done answer is = absurd (cc)
  answer-read_fault statuses.Refused answer is = absurd (cc)
  answer-read_fault statuses.Words answer is = absurd (cc)

  -- a write fault is answered only where a write failed
  pub answer-write_fault : (status : Status) → Answers (HasReason words src) status out err → status ≡ statuses.WriteFault →
      Rose out.old_faults out.faults ⊎ Rose err.old_faults err.faults
  answer-write_fault statuses.WriteFault (outcome, reason, inl (cut, none)) is = inl cut.fault
  answer-write_fault statuses.WriteFault (outcome, reason, inr (all, cut)) is = inr cut.fault
  answer-write_fault statuses.ReadFault answer is = absurd (cc)
  answer-write_fault statuses.NoMemory answer is = absurd (cc)
  answer-write_fault statuses.Done answer is = absurd (cc)
  answer-write_fault statuses.Refused answer is = absurd (cc)
  answer-write_fault statuses.Words answer is = absurd (cc)

  pub answer-no_out_fault : (status : Status) → Answers (HasReason words src) status out err → (status ≡ statuses.WriteFault) ⊎ (out.faults ≡ out.old_faults)
  answer-no_out_fault statuses.WriteFault answer = inl refl
  answer-no_out_fault statuses.NoMemory answer = inr answer.0.no_fault
  answer-no_out_fault statuses.ReadFault answer = inr answer.3.results.no_fault
  answer-no_out_fault statuses.Done answer = inr answer.3.results.no_fault
  answer-no_out_fault statuses.Refused answer = inr answer.3.results.no_fault
  answer-no_out_fault statuses.Words answer = inr answer.3.results.no_fault

  pub answer-no_err_fault : (status : Status) → Answers (HasReason words src) status out err → (status ≡ statuses.WriteFault) ⊎ (err.faults ≡ err.old_faults)
  answer-no_err_fault statuses.WriteFault answer = inl refl
  answer-no_err_fault statuses.NoMemory answer = inr answer.1.no_fault
  answer-no_err_fault statuses.ReadFault answer = inr answer.3.errors.no_fault
  answer-no_err_fault statuses.Done answer = inr answer.3.errors.no_fault
  answer-no_err_fault statuses.Refused answer = inr answer.3.errors.no_fault
  answer-no_err_fault statuses.Words answer = inr answer.3.errors.no_fault

  asked_none : (command : Command) → command_of words ≡ Some command → command_of words ≡ None → ⊥
  asked_none command asked none = let both : Some command ≡ None = sym asked ∙ none in cc

  words_by : (outcome : Outcome) → HasReason words src outcome → command_of words ≡ None → status_of outcome ≡ statuses.Words
  words_by words_refused reason none = refl
  words_by read_failed reason none = absurd (reason.1 none)
  words_by (refuses refusal) (calm, command, asked, takes) none = absurd (asked_none command asked none)
  words_by (compiles m) (calm, command, asked, mode, takes) none = absurd (asked_none command asked none)
  words_by (runs command image) (calm, asked, mode, takes) none = absurd (asked_none command asked none)

  -- words that are no command are answered so, unless memory runs out or that can't be told
  pub answer-words : (status : Status) → Answers (HasReason words src) status out err → command_of words ≡ None →
      (status ≡ statuses.Words) ⊎ (status ≡ statuses.NoMemory) ⊎ (status ≡ statuses.WriteFault)
  answer-words statuses.WriteFault answer none = inr (inr refl)
  answer-words statuses.NoMemory answer none = inr (inl refl)
  answer-words statuses.Words answer none = inl refl
  answer-words statuses.ReadFault answer none = inl (sym answer.2 ∙ words_by answer.0 answer.1 none)
  answer-words statuses.Done answer none = inl (sym answer.2 ∙ words_by answer.0 answer.1 none)
  answer-words statuses.Refused answer none = inl (sym answer.2 ∙ words_by answer.0 answer.1 none)
