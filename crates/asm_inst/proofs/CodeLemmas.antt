-- No line of code has a line feed in it, a percent sign, with which the part of an address begins, or a point, with which a
-- label does.
use Rattle.std.proofs.Common.{◌≡◌, ◌<◌, ◌≤◌, ◌^◌, ◌%◌, ◌+◌, ◌++◌, ◌∷◌, [], ℕ, ℤ, pos, negsuc, zero, suc, List, Bool, true, not, ◌&&◌, refl, ap, ◌∙◌, arith, codes, get_or}
use Rattle.std.specs.Prelude.{◌==◌}
use Rattle.std.specs.Fmt.{decimal, signed_decimal}
use Rattle.std.specs.List.{list_all}
use Rattle.std.proofs.lemmas.Bool.{and_from, and_parts}
use Rattle.std.proofs.lemmas.Bool.Decides.{nat_tests}
use Rattle.std.proofs.lemmas.Fmt.{decimal_by_steps}
use Rattle.std.proofs.lemmas.Int.{ints}
use Rattle.std.proofs.lemmas.List.Folds.{list_all-append}
use Rattle.rv_isa.specs.Table.{mnemonic, row, shape}
use Rattle.rv_isa.specs.Text.{based, instruction_line, operands, register, register_names, spelled_line}
use Rattle.rv_isa.specs.declared.inst.Inst.{Inst}
use Rattle.asm_inst.specs.Bytes.{IsAbsent}
use Rattle.rv_isa.specs.declared.op.Op.{Op}
use Rattle.rv_isa.specs.declared.shape.Shape.{Shape}
use Rattle.rv_isa.specs.declared.shape.Shape.TheVariants.{Registers, AddImmediate, Immediate, Load, Store, Branch, Upper, Jump, JumpRegister, Nothing}
use Rattle.asm_inst.specs.Forms.{Form, as_j, as_li, as_mv, as_ret, form, in_full, line_operands, line_word, operands_by, operands_in, word_in}
use Rattle.asm_inst.specs.Grammar.{IsRead}
use Rattle.asm_inst.specs.Mnemonics.{op_at}
use Rattle.asm_inst.proofs.FieldLemmas.{ranged_small}
use Rattle.asm_inst.proofs.FormLemmas.{line_parts}
use Rattle.asm_inst.proofs.MnemonicLemmas.{each}
use Rattle.asm_inst.proofs.NumberLemmas.{IsSmall}
use Rattle.asm_inst.proofs.RegisterLemmas.{below_holds}

abbrev pub is_calm : ℕ → Bool
is_calm b = not (b == 10) && not (b == 37) && not (b == 46)

abbrev pub are_calm : List ℕ → Bool
are_calm bytes = list_all is_calm bytes

calm-append : (bytes more : List ℕ) → are_calm bytes ≡ true → are_calm more ≡ true → are_calm (bytes ++ more) ≡ true
calm-append bytes more prefix back = list_all-append is_calm bytes more ∙ and_from (are_calm bytes) (are_calm more) prefix back

calm_in : (names : List (List ℕ)) → list_all are_calm names ≡ true → (n : ℕ) → are_calm (get_or names n []) ≡ true
calm_in [] all n = refl
calm_in (name ∷ names) all zero = (and_parts (are_calm name) (list_all are_calm names) all).0
calm_in (name ∷ names) all (suc n) = calm_in names (and_parts (are_calm name) (list_all are_calm names) all).1 n

calm_register : (r : ℕ) → are_calm (register r) ≡ true
calm_register r = calm_in register_names refl r

calm_byte : (b : ℕ) → 48 ≤ b → is_calm b ≡ true
calm_byte b high = grind (arith, nat_tests)

calm_decimal : (n : ℕ) → n < 2 ^ 64 → are_calm (decimal n) ≡ true
calm_decimal n small =
    decimal_by_steps (λ m digits. are_calm digits ≡ true)
    (λ m low. and_from (is_calm (48 + m)) true (calm_byte (48 + m) (omega arith)) refl)
    (λ m digits high calm. calm-append digits ((48 + m % 10) ∷ []) calm (and_from (is_calm (48 + m % 10)) true (calm_byte (48 + m % 10) (omega arith)) refl))
    n small

calm_number : (imm : ℤ) → IsSmall imm → are_calm (signed_decimal imm) ≡ true
calm_number (pos n) held = calm_decimal n (omega (arith, ints, held.1))
calm_number (negsuc n) held = calm_decimal (suc n) (omega (arith, ints, held.0))

calm_based : (imm : ℤ) (base : ℕ) → IsSmall imm → are_calm (based imm base) ≡ true
calm_based imm base held =
    calm-append (signed_decimal imm) (40 ∷ (register base ++ 41 ∷ [])) (calm_number imm held)
    (calm-append (register base) (41 ∷ []) (calm_register base) refl)

abbrev AreCalm : List (List ℕ) → Type 0
AreCalm [] = Unit {0}
AreCalm (first ∷ more) = (are_calm first ≡ true) × AreCalm more

calm_operands : (texts : List (List ℕ)) → AreCalm texts → are_calm (operands texts) ≡ true
calm_operands [] calm = refl
calm_operands (first ∷ []) calm = calm.0
calm_operands (first ∷ second ∷ more) calm =
    calm-append (first ++ codes ", ") (operands (second ∷ more)) (calm-append first (codes ", ") calm.0 refl) (calm_operands (second ∷ more) calm.1)

calm_line : (word : List ℕ) (texts : List (List ℕ)) → are_calm word ≡ true → AreCalm texts → are_calm (spelled_line word texts) ≡ true
calm_line word [] calm all = calm
calm_line word (first ∷ more) calm all =
    calm-append word (9 ∷ operands (first ∷ more)) calm (calm_operands (first ∷ more) all)

calm_mnemonic : (op : Op) → are_calm (mnemonic op) ≡ true
calm_mnemonic op = each (λ o. are_calm (mnemonic o)) (below_holds 65 (λ n. are_calm (mnemonic (op_at n))) refl) op

calm_word : (f : Form) (op : Op) → are_calm (word_in f (mnemonic op)) ≡ true
calm_word in_full op = calm_mnemonic op
calm_word as_li op = refl
calm_word as_mv op = refl
calm_word as_j op = refl
calm_word as_ret op = refl

calm_by : (s : Shape) (i : Inst) → IsSmall i.imm → AreCalm (operands_by s i)
calm_by Registers i held = (calm_register i.rd, (calm_register i.rs1, (calm_register i.rs2, tt)))
calm_by AddImmediate i held = (calm_register i.rd, (calm_register i.rs1, (calm_number i.imm held, tt)))
calm_by Immediate i held = (calm_register i.rd, (calm_register i.rs1, (calm_number i.imm held, tt)))
calm_by Load i held = (calm_register i.rd, (calm_based i.imm i.rs1 held, tt))
calm_by Store i held = (calm_register i.rs2, (calm_based i.imm i.rs1 held, tt))
calm_by Branch i held = (calm_register i.rs1, (calm_register i.rs2, (calm_number i.imm held, tt)))
calm_by Upper i held = (calm_register i.rd, (calm_number i.imm held, tt))
calm_by Jump i held = (calm_register i.rd, (calm_number i.imm held, tt))
calm_by JumpRegister i held = (calm_register i.rd, (calm_based i.imm i.rs1 held, tt))
calm_by Nothing i held = tt

calm_in_form : (f : Form) (s : Shape) (i : Inst) → IsSmall i.imm → AreCalm (operands_in f s i)
calm_in_form in_full s i held = calm_by s i held
calm_in_form as_li s i held = (calm_register i.rd, (calm_number i.imm held, tt))
calm_in_form as_mv s i held = (calm_register i.rd, (calm_register i.rs1, tt))
calm_in_form as_j s i held = (calm_number i.imm held, tt)
calm_in_form as_ret s i held = tt

pub code_calm : (inst : Inst) → IsRead inst → are_calm (instruction_line inst) ≡ true
code_calm inst read =
    ap are_calm (line_parts inst)
    ∙ calm_line (line_word inst) (line_operands inst) (calm_word (form inst) inst.op)
    (calm_in_form (form inst) (shape inst.op) inst (ranged_small (row inst.op) inst.imm read.ranged))

no_feed : (b : ℕ) → is_calm b ≡ true → b ≡ 10 → ⊥
no_feed b calm is = grind (arith, nat_tests)

pub calm_unfed : (bytes : List ℕ) → are_calm bytes ≡ true → IsAbsent 10 bytes
calm_unfed [] calm = tt
calm_unfed (b ∷ bytes) calm =
    let parts = and_parts (is_calm b) (are_calm bytes) calm in
    (no_feed b parts.0, calm_unfed bytes parts.1)
