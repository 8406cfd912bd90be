-- Steps and runs.
use Rattle.std.proofs.Common.{◌≡◌, ◌∙◌, sym, ap, add-one, add-zero, add-suc, ℕ, suc, zero, ◌+◌, ◌-◌, ◌≤◌, List, [], ◌∷◌, ◌++◌, append_assoc, refl, arith, subst}
use Rattle.std.proofs.lemmas.List.{append-nil}
use Rattle.std.proofs.KnownBytes.{Appends-trans}
use Rattle.std.specs.Io.KnownBytes.{Appends}
use Rattle.std.specs.declared.option.Option.{Option}
use Rattle.rv_mach.specs.declared.stop.Stop.{Stop}
use Rattle.rv_mach.specs.declared.stop.Stop.TheVariants.{Exited, Trapped, StackOut, Running}
use Rattle.rv_mach.specs.State.{State, Run, fresh, prefixed}
use Rattle.rv_mach.specs.Step.{Effect, falls, jumps, puts, stops, settled, step, step_by, executed, instruction}
use Rattle.rv_mach.specs.Run.{run_of}

pub run_of-zero : (input : List ℕ) (m : State) → run_of input 0 m ≡ fresh m
unfolding run_of
run_of-zero input m = refl

pub run_of-suc : (input : List ℕ) (n : ℕ) (m : State) → run_of input (suc n) m ≡ step input (run_of input n m)
unfolding run_of
run_of-suc input n m = refl

-- ---- what was put before changes nothing

pub settled-prefixed : (e : Effect) (prefix output : List ℕ) → settled e (prefix ++ output) ≡ prefixed prefix (settled e output)
settled-prefixed (falls m) prefix output = refl
settled-prefixed (jumps address m) prefix output = refl
settled-prefixed (puts byte m) prefix output =
    ap (λ bytes. (settled (falls m) bytes)) (append_assoc prefix output (byte ∷ []))
settled-prefixed (stops stop m) prefix output = refl

step_by-prefixed : (stop : Stop) (input prefix : List ℕ) (r : Run)
    → step_by stop input (prefixed prefix r) ≡ prefixed prefix (step_by stop input r)
step_by-prefixed Running input prefix r =
    settled-prefixed (executed (instruction r.machine) input r.machine) prefix r.output
step_by-prefixed (Exited code) input prefix r = refl
step_by-prefixed (Trapped kind) input prefix r = refl
step_by-prefixed StackOut input prefix r = refl

pub step-prefixed : (input prefix : List ℕ) (r : Run) → step input (prefixed prefix r) ≡ prefixed prefix (step input r)
step-prefixed input prefix r = step_by-prefixed r.machine.stop input prefix r

pub prefixed-fresh : (r : Run) → r ≡ prefixed r.output (fresh r.machine)
prefixed-fresh r =
    let with_output : List ℕ → Run = λ bytes. record { machine = r.machine; output = bytes } in
    ap with_output (sym (append-nil r.output))

-- a step from where a run stands
pub step-fresh : (input : List ℕ) (r : Run) → step input r ≡ prefixed r.output (step input (fresh r.machine))
step-fresh input r =
    ap (step input) (prefixed-fresh r) ∙ step-prefixed input r.output (fresh r.machine)

-- ---- a machine that stopped stays as it is

step_by-stopped : (stop : Stop) (input : List ℕ) (r : Run) → (stop ≡ Running → ⊥) → step_by stop input r ≡ r
step_by-stopped Running input r stopped = absurd (stopped refl)
step_by-stopped (Exited code) input r stopped = refl
step_by-stopped (Trapped kind) input r stopped = refl
step_by-stopped StackOut input r stopped = refl

pub step-stopped : (input : List ℕ) (r : Run) → (r.machine.stop ≡ Running → ⊥) → step input r ≡ r
step-stopped input r stopped = step_by-stopped r.machine.stop input r stopped

pub run_of-stopped : (input : List ℕ) (n : ℕ) (m : State) → (m.stop ≡ Running → ⊥) → run_of input n m ≡ fresh m
unfolding run_of
run_of-stopped input zero m stopped = refl
run_of-stopped input (suc n) m stopped =
    ap (step input) (run_of-stopped input n m stopped) ∙ step-stopped input (fresh m) stopped

-- ---- runs after runs

pub run_of-add : (input : List ℕ) (a b : ℕ) (m : State)
    → run_of input (a + b) m ≡ prefixed (run_of input a m).output (run_of input b (run_of input a m).machine)
unfolding run_of
run_of-add input a zero m = rw add-zero (prefixed-fresh (run_of input a m))
run_of-add input a (suc b) m =
    rw add-suc (ap (step input) (run_of-add input a b m)
    ∙ step-prefixed input (run_of input a m).output (run_of input b (run_of input a m).machine))

-- a run of one step more begins with that step
pub run_of-suc_first : (input : List ℕ) (n : ℕ) (m : State)
    → run_of input (suc n) m
    ≡ prefixed (step input (fresh m)).output (run_of input n (step input (fresh m)).machine)
unfolding run_of
run_of-suc_first input n m =
    let one_more : suc n ≡ 1 + n = omega arith in
    ap (λ k. run_of input k m) one_more ∙ run_of-add input 1 n m

-- ---- one step of a loop over the steps

pub machine-next : (input : List ℕ) (n : ℕ) (m now next : State) → now ≡ (run_of input n m).machine
    → next ≡ (step input (fresh now)).machine → next ≡ (run_of input (n + 1) m).machine
machine-next input n m now next ran stepped =
    rw (add-one, run_of-suc)
    (stepped ∙ ap (λ s. (step input (fresh s)).machine) ran
    ∙ sym (ap (λ r. r.machine) (step-fresh input (run_of input n m))))

pub output-next : (input : List ℕ) (n : ℕ) (m now : State) (a b c : Option (List ℕ))
    → now ≡ (run_of input n m).machine → Appends a b (run_of input n m).output
    → Appends b c (step input (fresh now)).output → Appends a c (run_of input (n + 1) m).output
output-next input n m now a b c ran before after =
    let same : (run_of input n m).output ++ (step input (fresh now)).output ≡ (run_of input (n + 1) m).output =
    rw (add-one, run_of-suc)
    (ap (λ s. (run_of input n m).output ++ (step input (fresh s)).output) ran
    ∙ sym (ap (λ r. r.output) (step-fresh input (run_of input n m)))) in
    subst (λ bytes. Appends a c bytes) same (Appends-trans a b c _ _ before after)

-- a run that stopped early is the run of all steps
pub run_of-ended : (input : List ℕ) (done steps : ℕ) (m now : State) → now ≡ (run_of input done m).machine
    → (now.stop ≡ Running → ⊥) → done ≤ steps → run_of input done m ≡ run_of input steps m
run_of-ended input done steps m now ran stopped within =
    let rest : done + (steps - done) ≡ steps = omega arith in
    let m' = (run_of input done m).machine in
    let stopped' : m'.stop ≡ Running → ⊥ = λ e. stopped (ap (λ s. s.stop) ran ∙ e) in
    prefixed-fresh (run_of input done m)
    ∙ ap (prefixed (run_of input done m).output) (sym (run_of-stopped input (steps - done) m' stopped'))
    ∙ sym (run_of-add input done (steps - done) m)
    ∙ ap (λ n. run_of input n m) rest
