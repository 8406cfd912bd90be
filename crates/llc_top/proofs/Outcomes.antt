-- From what a part of the run tells to what the run answers.
use Rattle.std.proofs.Common.{◌≡◌, ◌≢◌, ◌+◌, ◌≤◌, ℕ, Option, Some, List, [], length, inl, inr, sym, refl, ap, ◌∙◌, subst}
use Rattle.cg_io.specs.Told.{GivesAll, TakesExactly}
use Rattle.cg_built.specs.Unbuilt.{IsBuilt}
use Rattle.ir_check.specs.Checks.{IsCheckedFrom}
use Rattle.ir_read.specs.Modules.{Reads}
use Rattle.ir_syntax.specs.declared.module.Module.{Module}
use Rattle.ir_syntax.specs.declared.refusal.Refusal.{Refusal}
use Rattle.ir_syntax.specs.declared.refusal.Refusal.TheVariants as refusals
use Rattle.obj_link.specs.declared.image.Image.{Image}
use Rattle.obj_link.specs.declared.refusal.Unlinked.{Unlinked}
use Rattle.obj_link.specs.declared.refusal.Unlinked.TheVariants.{NoMemory}
use Rattle.llc_top.specs.Outcome.{Outcome, words_refused, read_failed, refuses, compiles, runs, err_due, Answers, HasReason, TakesRefused}
use Rattle.llc_top.specs.Partial.{Told, ToldRefusal, ToldUnlinked, Written, Executed, HasRunReason, HasModuleReason, HasCheckedReason, HasReadReason, HasTextReason}
use Rattle.llc_top.specs.Refusals.{IsAccepted, refusal_of, text_limit}
use Rattle.llc_top.specs.Streams.{SourceChange, SinkChange, IsReadable, TellsAll}
use Rattle.llc_words.specs.Commands.{Command, command_of}
use Rattle.llc_words.specs.declared.types.Mode.{Mode}
use Rattle.llc_words.specs.declared.types.Mode.TheVariants as modes
use Rattle.llc_top.specs.declared.status.Status.{Status}
use Rattle.llc_top.specs.declared.status.Status.TheVariants as statuses

-- outcomes that write no result
module _ (Reason : Outcome → Type 0) (out err : SinkChange) (quiet : TellsAll [] out) where
  -- words that are refused
  pub words_answer : (status : Status) → Reason words_refused → Told status statuses.Words (err_due words_refused) err → Answers Reason status out err
  words_answer status reason (inl (is, told)) =
      subst (λ s. Answers Reason s out err) (sym is) (words_refused, reason, refl, record { results = quiet; errors = told })
  words_answer status reason (inr (is, cut)) = subst (λ s. Answers Reason s out err) (sym is) (words_refused, reason, inr (quiet, cut))

  -- a read that failed
  pub fault_answer : (status : Status) → Reason read_failed → Told status statuses.ReadFault (err_due read_failed) err → Answers Reason status out err
  fault_answer status reason (inl (is, told)) =
      subst (λ s. Answers Reason s out err) (sym is) (read_failed, reason, refl, record { results = quiet; errors = told })
  fault_answer status reason (inr (is, cut)) = subst (λ s. Answers Reason s out err) (sym is) (read_failed, reason, inr (quiet, cut))

  -- a refusal
  pub refusal_answer : (refusal : Refusal) (status : Status) → Reason (refuses refusal) → ToldRefusal refusal status err → Answers Reason status out err
  refusal_answer refusal statuses.Refused reason told = (refuses refusal, reason, refl, record { results = quiet; errors = told })
  refusal_answer refusal statuses.WriteFault reason cut = (refuses refusal, reason, inr (quiet, cut))
  refusal_answer refusal statuses.NoMemory reason never = absurd never
  refusal_answer refusal statuses.Done reason never = absurd never
  refusal_answer refusal statuses.Words reason never = absurd never
  refusal_answer refusal statuses.ReadFault reason never = absurd never

-- why a module is not linked
pub unlinked_answer : (Reason : Outcome → Type 0) (out err : SinkChange) → TellsAll [] out → (why : Unlinked) (status : Status) →
    (why ≢ NoMemory → Reason (refuses (refusal_of why))) → ToldUnlinked why status err → Answers Reason status out err
unlinked_answer Reason out err quiet why status reason (inl (is, none)) = subst (λ s. Answers Reason s out err) (sym is) (quiet, none)
unlinked_answer Reason out err quiet why status reason (inr (some, told)) =
    refusal_answer Reason out err quiet (refusal_of why) status (reason some) told

-- a module's text
pub written_answer : (Reason : Outcome → Type 0) (m : Module) (status : Status) (out err : SinkChange) → TellsAll [] err →
    Reason (compiles m) → Written m status out → Answers Reason status out err
written_answer Reason m statuses.Done out err quiet reason told = (compiles m, reason, refl, record { results = told; errors = quiet })
written_answer Reason m statuses.WriteFault out err quiet reason cut = (compiles m, reason, inl (cut, quiet))
written_answer Reason m statuses.NoMemory out err quiet reason none = (none, quiet)
written_answer Reason m statuses.Refused out err quiet reason never = absurd never
written_answer Reason m statuses.Words out err quiet reason never = absurd never
written_answer Reason m statuses.ReadFault out err quiet reason never = absurd never

-- a run on the machine
pub executed_answer : (Reason : Outcome → Type 0) (command : Command) (image : Image) (status : Status) (out err : SinkChange) →
    Reason (runs command image) → Executed command image status out err → Answers Reason status out err
executed_answer Reason command image statuses.Done out err reason told = (runs command image, reason, refl, told)
executed_answer Reason command image statuses.WriteFault out err reason part = (runs command image, reason, part)
executed_answer Reason command image statuses.NoMemory out err reason none = none
executed_answer Reason command image statuses.Refused out err reason never = absurd never
executed_answer Reason command image statuses.Words out err reason never = absurd never
executed_answer Reason command image statuses.ReadFault out err reason never = absurd never

-- an answer for some reason is one for any reason that follows from it
pub answer-weaker : (Reason Weaker : Outcome → Type 0) (status : Status) (out err : SinkChange) →
    ((outcome : Outcome) → Reason outcome → Weaker outcome) → Answers Reason status out err → Answers Weaker status out err
answer-weaker Reason Weaker statuses.WriteFault out err follows answer = (answer.0, follows answer.0 answer.1, answer.2)
answer-weaker Reason Weaker statuses.NoMemory out err follows answer = answer
answer-weaker Reason Weaker statuses.Done out err follows answer = (answer.0, follows answer.0 answer.1, answer.2, answer.3)
answer-weaker Reason Weaker statuses.Refused out err follows answer = (answer.0, follows answer.0 answer.1, answer.2, answer.3)
answer-weaker Reason Weaker statuses.Words out err follows answer = (answer.0, follows answer.0 answer.1, answer.2, answer.3)
answer-weaker Reason Weaker statuses.ReadFault out err follows answer = (answer.0, follows answer.0 answer.1, answer.2, answer.3)

-- what a module that is run comes to, it comes to where it is to be run
pub run_reason : (command : Command) (m : Module) → command.mode ≡ modes.Run → (outcome : Outcome) → HasRunReason command m outcome → HasModuleReason command m outcome
run_reason command m mode words_refused never = never
run_reason command m mode read_failed never = never
run_reason command m mode (refuses e) reason = (mode, reason)
run_reason command m mode (compiles other) never = absurd never
run_reason command m mode (runs asked image) reason = (mode, reason)

-- what a module of which all is built comes to, it comes to after the checks
pub built_reason : (command : Command) (m : Module) → IsBuilt m → (outcome : Outcome) → HasModuleReason command m outcome → HasCheckedReason command m outcome
built_reason command m built words_refused never = never
built_reason command m built read_failed never = never
built_reason command m built (refuses e) reason = inr (built, reason.0, reason.1)
built_reason command m built (compiles other) reason = (reason.0, reason.1, built)
built_reason command m built (runs asked image) reason = (reason.0, built, reason.1)

-- what a module that passed the checks comes to, the module that was read comes to
pub checked_reason : (command : Command) (m checked : Module) → IsCheckedFrom m checked → (outcome : Outcome) →
    HasCheckedReason command checked outcome → HasReadReason command m outcome
checked_reason command m checked from words_refused never = never
checked_reason command m checked from read_failed never = never
checked_reason command m checked from (refuses e) reason = inr (checked, from, reason)
checked_reason command m checked from (compiles other) (compiling, is, built) =
    (compiling, subst (IsCheckedFrom m) (sym is) from, subst IsBuilt (sym is) built)
checked_reason command m checked from (runs asked image) (running, built, reason) = (running, checked, from, built, reason)

-- what a module that was read comes to, its text comes to
pub text_reason : (command : Command) (bytes : List ℕ) (m : Module) → length bytes ≤ text_limit → Reads bytes m → (outcome : Outcome) →
    HasReadReason command m outcome → HasTextReason command bytes outcome
text_reason command bytes m short reads words_refused never = never
text_reason command bytes m short reads read_failed never = never
text_reason command bytes m short reads (refuses e) reason = inr (m, reads, reason)
text_reason command bytes m short reads (compiles checked) (compiling, from, built) =
    (compiling, record { short = short; read = m; reads = reads; checks = from; built = built })
text_reason command bytes m short reads (runs asked image) (running, checked, from, built, reason) =
    (running, checked, record { short = short; read = m; reads = reads; checks = from; built = built }, reason)

-- a text of which more was read than a module may have
pub long_reason : (mode : Mode) (left left' : Option (List ℕ)) (taken : ℕ) → (taken ≡ text_limit + 1) × TakesExactly taken left left' →
    TakesRefused mode left left' (refusals.TooLong taken)
long_reason mode left left' taken (is, takes) = inl (ap refusals.TooLong is, subst (λ (n : ℕ). TakesExactly n left left') is takes)

-- what the whole text of the source comes to, the run comes to
pub whole_reason : (words : List (List ℕ)) (command : Command) (src : SourceChange) (bytes : List ℕ) → command_of words ≡ Some command →
    IsReadable src → GivesAll src.old_left src.left bytes → length bytes ≤ text_limit → (outcome : Outcome) →
    HasTextReason command bytes outcome → HasReason words src outcome
whole_reason words command src bytes is calm gave short words_refused never = absurd never
whole_reason words command src bytes is calm gave short read_failed never = absurd never
whole_reason words command src bytes is calm gave short (refuses e) reason = (calm, command, is, inr (bytes, gave, short, reason))
whole_reason words command src bytes is calm gave short (compiles m) reason =
    (calm, command, is, reason.0, record { bytes = bytes; gave = gave; accepted = reason.1 })
whole_reason words command src bytes is calm gave short (runs asked image) (mode, m, accepted, (same, has, linked)) = (
  calm,
  is ∙ ap Some (sym same),
  ap (λ (c : Command). c.mode) same ∙ mode,
  record { m = m; takes = record { bytes = bytes; gave = gave; accepted = accepted }; has_a_main = has; linked = linked },
)
