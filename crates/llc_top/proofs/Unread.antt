-- What is refused, unless memory ran out, is answered with its refusal.
use Rattle.std.proofs.Common.{◌≢◌, List, [], sym, subst, inl, inr}
use Rattle.ir_read.specs.Refusals.{OrNoMemory}
use Rattle.ir_syntax.specs.declared.refusal.Refusal.{Refusal}
use Rattle.ir_syntax.specs.declared.refusal.Refusal.TheVariants.{NoMemory}
use Rattle.llc_top.proofs.Outcomes.{refusal_answer}
use Rattle.llc_top.specs.Outcome.{Answers, Outcome, refuses}
use Rattle.llc_top.specs.Partial.{ToldRefusal, ToldUnread}
use Rattle.llc_top.specs.Streams.{SinkChange, TellsAll}
use Rattle.llc_top.specs.declared.status.Status.{Status}

module _ (Reason : Outcome → Type 0) (IsRefused : Refusal → Type 0) (why : (e : Refusal) → IsRefused e → Reason (refuses e)) (out err : SinkChange) (quiet : TellsAll [] out) where
  refused_answer : (e : Refusal) (status : Status) → e ≢ NoMemory → OrNoMemory IsRefused e → ToldRefusal e status err → Answers Reason status out err
  refused_answer e status some (inl memory) told = absurd (some memory)
  refused_answer e status some (inr refused) told = refusal_answer Reason out err quiet e status (why e refused) told

  pub unread_answer : (e : Refusal) (status : Status) → OrNoMemory IsRefused e → ToldUnread e status err → Answers Reason status out err
  unread_answer e status refused (inl (memory, is, none)) = subst (λ s. Answers Reason s out err) (sym is) (quiet, none)
  unread_answer e status refused (inr (some, told)) = refused_answer e status some refused told
