-- The parts of code that an image has.
use Rattle.std.proofs.Common.{◌≡◌, ℕ, ◌+◌, ◌*◌, List, [], ◌∷◌, ◌++◌, length, subst, arith}
use Rattle.rv_isa.specs.declared.inst.Inst.{Inst}
use Rattle.rv_mach.specs.Code.{HasCode}

pub has-prefix : (image : List ℕ) (address : ℕ) (prefix back : List Inst) → HasCode image address (prefix ++ back) → HasCode image address prefix
has-prefix image address [] back has = tt
has-prefix image address (i ∷ prefix) back has = (has.0, has-prefix image (address + 4) prefix back has.1)

pub has-back : (image : List ℕ) (address : ℕ) (prefix back : List Inst) → HasCode image address (prefix ++ back) → HasCode image (address + 4 * length prefix) back
has-back image address [] back has =
    let here : address ≡ address + 4 * length {A = Inst} [] = omega arith in
    subst (λ a. HasCode image a back) here has
has-back image address (i ∷ prefix) back has =
    let there : address + 4 + 4 * length prefix ≡ address + 4 * length (i ∷ prefix) = omega arith in
    subst (λ a. HasCode image a back) there (has-back image (address + 4) prefix back has.1)
