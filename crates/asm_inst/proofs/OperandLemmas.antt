-- The operands of a line, from the first one on.
use Rattle.std.proofs.Common.{◌≡◌, ◌<◌, ℕ, List, [], ◌∷◌, ◌++◌, refl, sym, ◌∙◌, append_assoc}
use Rattle.rv_isa.specs.Text.{register, operands}
use Rattle.asm_inst.specs.Bytes.{IsAbsent}
use Rattle.asm_inst.proofs.BytesLemmas.{cut_once, last_cut_once, tail_same, last_same}
use Rattle.asm_inst.proofs.RegisterLemmas.{register_absent, register_closed, register_once}

-- two operands have a comma and then a blank between them
pub comma_between : (bytes a b : List ℕ) → bytes ≡ operands (a ∷ b ∷ []) → bytes ≡ a ++ 44 ∷ 32 ∷ b
comma_between bytes a b e = e ∙ append_assoc a (44 ∷ 32 ∷ []) b

pub after_comma : (bytes prefix back a b : List ℕ) → bytes ≡ prefix ++ 44 ∷ back → IsAbsent 44 prefix → IsAbsent 44 a → bytes ≡ operands (a ∷ b ∷ []) → back ≡ 32 ∷ b
after_comma bytes prefix back a b cut h k e =
    (cut_once 44 prefix back a (32 ∷ b) (sym cut ∙ comma_between bytes a b e) h k).1

pub operands_once : (bytes a b x y : List ℕ) → IsAbsent 44 a → IsAbsent 44 x → bytes ≡ operands (a ∷ b ∷ []) → bytes ≡ operands (x ∷ y ∷ []) → (a ≡ x) × (b ≡ y)
operands_once bytes a b x y ha hx e f =
    let once = cut_once 44 a (32 ∷ b) x (32 ∷ y) (sym (comma_between bytes a b e) ∙ comma_between bytes x y f) ha hx in
    (once.0, tail_same 32 32 b y once.1)

-- a register, and what comes after it
pub first_once : (bytes : List ℕ) (r s : ℕ) (a b : List ℕ) → r < 32 → s < 32 → bytes ≡ operands (register r ∷ a ∷ []) → bytes ≡ operands (register s ∷ b ∷ []) → (r ≡ s) × (a ≡ b)
first_once bytes r s a b hr hs e f =
    let once = operands_once bytes (register r) a (register s) b (register_absent r hr) (register_absent s hs) e f in
    (register_once r s hr hs once.0, once.1)

-- two registers, and what comes after them
pub second_once : (bytes : List ℕ) (r s t u : ℕ) (a b : List ℕ) → r < 32 → s < 32 → t < 32 → u < 32 → bytes ≡ operands (register r ∷ register s ∷ a ∷ []) → bytes ≡ operands (register t ∷ register u ∷ b ∷ []) → (r ≡ t) × (s ≡ u) × (a ≡ b)
second_once bytes r s t u a b hr hs ht hu e f =
    let one = first_once bytes r t (operands (register s ∷ a ∷ [])) (operands (register u ∷ b ∷ [])) hr ht e f in
    let two = first_once (operands (register s ∷ a ∷ [])) s u a b hs hu refl one.1 in
    (one.0, two.0, two.1)

-- an offset and a base
pub based_once : (offset other : List ℕ) (r s : ℕ) → r < 32 → s < 32 → offset ++ 40 ∷ (register r ++ 41 ∷ []) ≡ other ++ 40 ∷ (register s ++ 41 ∷ []) → (offset ≡ other) × (r ≡ s)
based_once offset other r s hr hs e =
    let once = last_cut_once 40 offset (register r ++ 41 ∷ []) other (register s ++ 41 ∷ []) e (register_closed r hr) (register_closed s hs) in
    (once.0, register_once r s hr hs (last_same (register r) (register s) 41 41 once.1))

-- a register, an offset and a base
pub address_once : (bytes : List ℕ) (r s b d : ℕ) (offset other : List ℕ) → r < 32 → s < 32 → b < 32 → d < 32 →
    bytes ≡ operands (register r ∷ (offset ++ 40 ∷ (register b ++ 41 ∷ [])) ∷ []) →
    bytes ≡ operands (register s ∷ (other ++ 40 ∷ (register d ++ 41 ∷ [])) ∷ []) → (r ≡ s) × (offset ≡ other) × (b ≡ d)
address_once bytes r s b d offset other hr hs hb hd e f =
    let one = first_once bytes r s _ _ hr hs e f in
    let two = based_once offset other b d hb hd one.1 in
    (one.0, two.0, two.1)
