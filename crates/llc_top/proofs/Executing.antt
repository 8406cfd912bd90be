-- A run on the machine that was cut off has put a proper prefix of what more steps put.
use Rattle.std.proofs.Common.{◌≡◌, ◌+◌, ◌-◌, ◌<◌, ℕ, List, Option, sym, ap, ◌∙◌, arith}
use Rattle.cg_io.specs.Told.{AppendsProperPrefix}
use Rattle.rv_mach.specs.Run.{IsCutOff, run_of}
use Rattle.rv_mach.specs.State.{State}
use Rattle.rv_mach.proofs.Puts.{put-shows}
use Rattle.rv_mach.proofs.Runs.{run_of-add}

pub cut_off_part : (input : List ℕ) (steps : ℕ) (old new first : State) (out out' : Option (List ℕ)) → old ≡ first →
    IsCutOff input steps old new out out' → AppendsProperPrefix out out' (run_of input steps first).output
cut_off_part input steps old new first out out' is cut =
    let rest : ℕ = steps - cut.done in
    let whole : steps ≡ cut.done + rest = omega (arith, cut.fewer) in
    let more : 0 < rest = omega (arith, cut.fewer) in
    record {
      prefix = (run_of input cut.done old).output;
      rest = (run_of input rest (run_of input cut.done old).machine).output;
      split =
          ap (λ m. (run_of input steps m).output) (sym is)
          ∙ ap (λ n. (run_of input n old).output) whole
          ∙ ap (λ r. r.output) (run_of-add input cut.done rest old);
      proper = rw (← cut.machine) (put-shows input rest new cut.going cut.at_put more);
      appended = cut.output;
    }
