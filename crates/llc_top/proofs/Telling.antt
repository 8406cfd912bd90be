-- What a sink was told in calls that follow each other.
use Rattle.std.proofs.Common.{◌∙◌, ℕ, Option, List, [], ◌++◌, Ok, Err, OnErr, refl, subst}
use Rattle.std.specs.declared.result.Result.{Result}
use Rattle.std.proofs.KnownBytes.{Appends-nil, Appends-trans}
use Rattle.cg_io.specs.Faults.{Rose}
use Rattle.cg_io.proofs.ToldLemmas.{AppendsProperPrefix-after, AppendsProperPrefix-longer}
use Rattle.llc_top.specs.Streams.{sink_change, TellsAll, CutOff}

-- a sink that nothing was written to
pub tells-nothing : {S : Type 0} (written : S → Option (List ℕ)) (faults : S → ℕ) (a : S) → TellsAll [] (sink_change written faults a a)
tells-nothing written faults a = record { appended = Appends-nil (written a); no_fault = refl }

pub tells-after : {S : Type 0} (written : S → Option (List ℕ)) (faults : S → ℕ) (a b c : S) (first second : List ℕ) →
    TellsAll first (sink_change written faults a b) → TellsAll second (sink_change written faults b c) → TellsAll (first ++ second) (sink_change written faults a c)
tells-after written faults a b c first second one two =
    record {
      appended = Appends-trans (written a) (written b) (written c) first second one.appended two.appended;
      no_fault = two.no_fault ∙ one.no_fault;
    }

-- what is cut off of a text is cut off of a longer one
pub cut-longer : {S : Type 0} (written : S → Option (List ℕ)) (faults : S → ℕ) (a b : S) (due more : List ℕ) →
    CutOff due (sink_change written faults a b) → CutOff (due ++ more) (sink_change written faults a b)
cut-longer written faults a b due more cut =
    record { part = AppendsProperPrefix-longer (written a) (written b) due more cut.part; fault = cut.fault }

-- a text was told, and the one behind it cut off
pub cut-after : {S : Type 0} (written : S → Option (List ℕ)) (faults : S → ℕ) (a b c : S) (first due : List ℕ) →
    TellsAll first (sink_change written faults a b) → CutOff due (sink_change written faults b c) → CutOff (first ++ due) (sink_change written faults a c)
cut-after written faults a b c first due one cut =
    record {
      part = AppendsProperPrefix-after (written a) (written b) (written c) first due one.appended cut.part;
      fault = subst (λ (n : ℕ). Rose n (faults c)) one.no_fault cut.fault;
    }

-- what holds of each answer holds of one that is an error
pub on-err : {A E P : Type 0} (result : Result A E) → P → OnErr result P
on-err (Ok a) holds = tt
on-err (Err e) holds = holds
