-- What a run shows on its way, by where it ends.
use Rattle.std.proofs.Common.{◌≡◌, ◌∙◌, ap, sym, refl, ℕ, ◌+◌, ◌-◌, ◌≤◌, List, [], ◌∷◌, ◌++◌, arith}
use Rattle.rv_mach.specs.declared.stop.Stop.{Stop}
use Rattle.rv_mach.specs.declared.stop.Stop.TheVariants.{Exited, Trapped, StackOut, Running}
use Rattle.rv_mach.specs.State.{State, Run, prefixed}
use Rattle.rv_mach.specs.Run.{run_of}
use Rattle.rv_mach.proofs.Runs.{run_of-add, run_of-ended}

-- a run from where another one ended
pub run-then : (input : List ℕ) (k j : ℕ) (m : State) (r s : Run) → run_of input k m ≡ r → run_of input j r.machine ≡ s
    → run_of input (k + j) m ≡ prefixed r.output s
run-then input k j m r s first second =
    run_of-add input k j m ∙ ap (λ t. prefixed t.output (run_of input j t.machine)) first ∙ ap (prefixed r.output) second

-- fewer steps put what is put first
pub output-before : (input : List ℕ) (n k : ℕ) (m : State) → n ≤ k
    → (run_of input k m).output ≡ (run_of input n m).output ++ (run_of input (k - n) (run_of input n m).machine).output
output-before input n k m within =
    let whole : k ≡ n + (k - n) = omega arith in
    ap (λ s. (run_of input s m).output) whole ∙ ap (λ r. r.output) (run_of-add input n (k - n) m)

none_before : (prefix back : List ℕ) → prefix ++ back ≡ [] → prefix ≡ []
none_before [] back none = refl
none_before (x ∷ prefix) back none = absurd (cc)

pub quiet-before : (input : List ℕ) (n k : ℕ) (m : State) → n ≤ k → (run_of input k m).output ≡ [] → (run_of input n m).output ≡ []
quiet-before input n k m within quiet = none_before (run_of input n m).output _ (sym (output-before input n k m within) ∙ quiet)

-- a run that goes on went on after fewer steps

by_stop : (stop : Stop) (input : List ℕ) (n k : ℕ) (m : State) → n ≤ k → (run_of input k m).machine.stop ≡ Running
    → (run_of input n m).machine.stop ≡ stop → stop ≡ Running
by_stop Running input n k m within going is = refl
by_stop (Exited code) input n k m within going is =
    let same = run_of-ended input n k m (run_of input n m).machine refl (λ e. cc) within in
    sym is ∙ ap (λ r. r.machine.stop) same ∙ going
by_stop (Trapped kind) input n k m within going is =
    let same = run_of-ended input n k m (run_of input n m).machine refl (λ e. cc) within in
    sym is ∙ ap (λ r. r.machine.stop) same ∙ going
by_stop StackOut input n k m within going is =
    let same = run_of-ended input n k m (run_of input n m).machine refl (λ e. cc) within in
    sym is ∙ ap (λ r. r.machine.stop) same ∙ going

pub going-before : (input : List ℕ) (n k : ℕ) (m : State) → n ≤ k → (run_of input k m).machine.stop ≡ Running
    → (run_of input n m).machine.stop ≡ Running
going-before input n k m within going = let is = by_stop (run_of input n m).machine.stop input n k m within going refl in is
