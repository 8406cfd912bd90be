-- What the parts of a line tell of its instruction.
use Rattle.std.proofs.Common.{◌≡◌, ◌∷◌, ◌++◌, [], ℕ, List, Option, Some, None, codes, refl, sym, ap, subst, ◌∙◌}
use Rattle.std.specs.Fmt.{signed_decimal}
use Rattle.rv_isa.specs.Table.{mnemonic, shape}
use Rattle.rv_isa.specs.Text.{instruction_line, operands, register, spelled_line}
use Rattle.rv_isa.specs.declared.inst.Inst.{Inst}
use Rattle.rv_isa.specs.declared.op.Op.{Op}
use Rattle.asm_inst.specs.Bytes.{IsAbsent}
use Rattle.asm_inst.specs.Forms.{Form, IsGiven, as_j, as_li, as_mv, as_ret, form, in_full, line_operands, line_word, operands_by, operands_in, word_in}
use Rattle.asm_inst.specs.Grammar.{IsAlone, IsRead, IsWith}
use Rattle.asm_inst.specs.Readings.{Reads}
use Rattle.asm_inst.proofs.BytesLemmas.{cut_once, not_absent, tail_same}
use Rattle.asm_inst.proofs.FormLemmas.{j_form, li_word, line_parts, mv_word}
use Rattle.asm_inst.proofs.FieldLemmas.{no_jump}
use Rattle.asm_inst.proofs.MnemonicLemmas.{mnemonic_differs, mnemonic_no_tab, mnemonic_once}
use Rattle.asm_inst.proofs.RegisterLemmas.{absent_from_test}

pub reads_map : {A : Type 0} (P Q : A → Type 0) (r : Option A) → ((x : A) → P x → Q x) → ((x : A) → Q x → P x) → Reads P r → Reads Q r
reads_map P Q (Some x) to from h = to x h
reads_map P Q None to from h = λ x q. h x (from x q)

-- A word of a short form.

abbrev IsLiOf : List ℕ → Inst → Type 0
IsLiOf ops i = IsRead i × (form i ≡ as_li) × (ops ≡ operands (register i.rd ∷ signed_decimal i.imm ∷ []))

abbrev IsMvOf : List ℕ → Inst → Type 0
IsMvOf ops i = IsRead i × (form i ≡ as_mv) × (ops ≡ operands (register i.rd ∷ register i.rs1 ∷ []))

pub li_with : (word ops : List ℕ) (r : Option Inst) → word ≡ codes "li" → Reads (IsLiOf ops) r → Reads (IsWith word ops) r
li_with word ops r e h = reads_map (IsLiOf ops) (IsWith word ops) r to from h
  where
    to : (i : Inst) → IsLiOf ops i → IsWith word ops i
    to i h =
        let same : line_operands i ≡ register i.rd ∷ signed_decimal i.imm ∷ [] = ap (λ f. operands_in f (shape i.op) i) h.1 in
        (h.0, subst IsGiven (sym same) tt, e ∙ ap (λ f. word_in f (mnemonic i.op)) (sym h.1), h.2 ∙ ap operands (sym same))

    from : (i : Inst) → IsWith word ops i → IsLiOf ops i
    from i h =
        let is : form i ≡ as_li = li_word (form i) i.op (sym e ∙ h.2) in
        (h.0, is, h.3 ∙ ap (λ f. operands (operands_in f (shape i.op) i)) is)

pub mv_with : (word ops : List ℕ) (r : Option Inst) → word ≡ codes "mv" → Reads (IsMvOf ops) r → Reads (IsWith word ops) r
mv_with word ops r e h = reads_map (IsMvOf ops) (IsWith word ops) r to from h
  where
    to : (i : Inst) → IsMvOf ops i → IsWith word ops i
    to i h =
        let same : line_operands i ≡ register i.rd ∷ register i.rs1 ∷ [] = ap (λ f. operands_in f (shape i.op) i) h.1 in
        (h.0, subst IsGiven (sym same) tt, e ∙ ap (λ f. word_in f (mnemonic i.op)) (sym h.1), h.2 ∙ ap operands (sym same))

    from : (i : Inst) → IsWith word ops i → IsMvOf ops i
    from i h =
        let is : form i ≡ as_mv = mv_word (form i) i.op (sym e ∙ h.2) in
        (h.0, is, h.3 ∙ ap (λ f. operands (operands_in f (shape i.op) i)) is)

-- A mnemonic.

pub full_word : (f : Form) (op other : Op) → mnemonic op ≡ word_in f (mnemonic other) → (f ≡ in_full) × (other ≡ op)
full_word in_full op other e = (refl, mnemonic_once other op (sym e))
full_word as_li op other e = absurd (mnemonic_differs (codes "li") refl op e)
full_word as_mv op other e = absurd (mnemonic_differs (codes "mv") refl op e)
full_word as_j op other e = absurd (mnemonic_differs (codes "j") refl op e)
full_word as_ret op other e = absurd (mnemonic_differs (codes "ret") refl op e)

abbrev IsFullOf : Op → List ℕ → Inst → Type 0
IsFullOf op ops i = IsRead i × (i.op ≡ op) × (form i ≡ in_full) × IsGiven (operands_by (shape op) i) × (ops ≡ operands (operands_by (shape op) i))

pub full_with : (word ops : List ℕ) (op : Op) (r : Option Inst) → word ≡ mnemonic op → Reads (IsFullOf op ops) r → Reads (IsWith word ops) r
full_with word ops op r e h = reads_map (IsFullOf op ops) (IsWith word ops) r to from h
  where
    to : (i : Inst) → IsFullOf op ops i → IsWith word ops i
    to i h =
        let same : line_operands i ≡ operands_by (shape op) i =
        ap (λ f. operands_in f (shape i.op) i) h.2 ∙ ap (λ o. operands_by (shape o) i) h.1 in
        (h.0, subst IsGiven (sym same) h.3, e ∙ sym (ap (λ f. word_in f (mnemonic i.op)) h.2 ∙ ap mnemonic h.1), h.4 ∙ ap operands (sym same))

    from : (i : Inst) → IsWith word ops i → IsFullOf op ops i
    from i h =
        let is = full_word (form i) op i.op (sym e ∙ h.2) in
        let same : line_operands i ≡ operands_by (shape op) i =
        ap (λ f. operands_in f (shape i.op) i) is.0 ∙ ap (λ o. operands_by (shape o) i) is.1 in
        (h.0, is.1, is.0, subst IsGiven same h.1, h.3 ∙ ap operands same)

-- a jump with a number is not read
pub no_j_read : (i : Inst) → IsRead i → form i ≡ as_j → ⊥
no_j_read i read is = j_form (shape i.op) i (no_jump i.op read.in_text) is

-- no other word has operands
pub none_with : (word ops : List ℕ) → (word ≡ codes "li" → ⊥) → (word ≡ codes "mv" → ⊥) → ((op : Op) → word ≡ mnemonic op → ⊥) → (i : Inst) → IsWith word ops i → ⊥
none_with word ops no_li no_mv no_op i h = by_form (form i) refl
  where
    by_form : (f : Form) → form i ≡ f → ⊥
    by_form in_full is = no_op i.op (h.2 ∙ ap (λ f. word_in f (mnemonic i.op)) is)
    by_form as_li is = no_li (h.2 ∙ ap (λ f. word_in f (mnemonic i.op)) is)
    by_form as_mv is = no_mv (h.2 ∙ ap (λ f. word_in f (mnemonic i.op)) is)
    by_form as_j is = no_j_read i h.0 is
    by_form as_ret is = absurd (subst IsGiven (ap (λ f. operands_in f (shape i.op) i) is) h.1)

-- The tabs of a line.

pub word_no_tab : (f : Form) (op : Op) → IsAbsent 9 (word_in f (mnemonic op))
word_no_tab in_full op = mnemonic_no_tab op
word_no_tab as_li op = absent_from_test 9 (codes "li") refl
word_no_tab as_mv op = absent_from_test 9 (codes "mv") refl
word_no_tab as_j op = absent_from_test 9 (codes "j") refl
word_no_tab as_ret op = absent_from_test 9 (codes "ret") refl

pub spelled_given : (word : List ℕ) (texts : List (List ℕ)) → IsGiven texts → spelled_line word texts ≡ 9 ∷ (word ++ 9 ∷ operands texts)
spelled_given word [] h = absurd (h)
spelled_given word (first ∷ more) h = refl

abbrev IsOf : List ℕ → Inst → Type 0
IsOf line i = IsRead i × (line ≡ instruction_line i)

-- a line with two tabs
pub with_line : (line rest word ops : List ℕ) (r : Option Inst) → line ≡ 9 ∷ rest → rest ≡ word ++ 9 ∷ ops → IsAbsent 9 word →
    Reads (IsWith word ops) r → Reads (IsOf line) r
with_line line rest word ops r e cut absent h = reads_map (IsWith word ops) (IsOf line) r to from h
  where
    to : (i : Inst) → IsWith word ops i → IsOf line i
    to i h =
        let whole : 9 ∷ (line_word i ++ 9 ∷ operands (line_operands i)) ≡ instruction_line i =
        sym (line_parts i ∙ spelled_given (line_word i) (line_operands i) h.1) in
        let same : line ≡ 9 ∷ (line_word i ++ 9 ∷ operands (line_operands i)) =
        e ∙ ap (λ xs. 9 ∷ xs) (cut ∙ ap (λ w. w ++ 9 ∷ ops) h.2 ∙ ap (λ o. line_word i ++ 9 ∷ o) h.3) in
        (h.0, same ∙ whole)

    by_operands : (i : Inst) (texts : List (List ℕ)) → IsRead i → line_operands i ≡ texts → line ≡ spelled_line (line_word i) texts → IsWith word ops i
    by_operands i [] read is told =
        let same : line_word i ≡ word ++ 9 ∷ ops = sym (tail_same 9 9 rest (line_word i) (sym e ∙ told)) ∙ cut in
        absurd (not_absent 9 word ops (subst (IsAbsent 9) same (word_no_tab (form i) i.op)))
    by_operands i (first ∷ more) read is told =
        let same : word ++ 9 ∷ ops ≡ line_word i ++ 9 ∷ operands (first ∷ more) =
        sym cut ∙ tail_same 9 9 rest (line_word i ++ 9 ∷ operands (first ∷ more)) (sym e ∙ told) in
        let parts = cut_once 9 word ops (line_word i) (operands (first ∷ more)) same absent (word_no_tab (form i) i.op) in
        (read, subst IsGiven (sym is) tt, parts.0, parts.1 ∙ ap operands (sym is))

    from : (i : Inst) → IsOf line i → IsWith word ops i
    from i h = by_operands i (line_operands i) h.0 refl (h.1 ∙ line_parts i)

-- a line with one
pub alone_line : (line word : List ℕ) (r : Option Inst) → line ≡ 9 ∷ word → ((prefix back : List ℕ) → word ≡ prefix ++ 9 ∷ back → ⊥) →
    Reads (IsAlone word) r → Reads (IsOf line) r
alone_line line word r e uncut h = reads_map (IsAlone word) (IsOf line) r to from h
  where
    to : (i : Inst) → IsAlone word i → IsOf line i
    to i h =
        (h.0, e ∙ ap (λ w. 9 ∷ w) h.2 ∙ ap (λ texts. spelled_line (line_word i) texts) (sym h.1) ∙ sym (line_parts i))

    by_operands : (i : Inst) (texts : List (List ℕ)) → IsRead i → line_operands i ≡ texts → line ≡ spelled_line (line_word i) texts → IsAlone word i
    by_operands i [] read is told = (read, is, tail_same 9 9 word (line_word i) (sym e ∙ told))
    by_operands i (first ∷ more) read is told =
        absurd (uncut (line_word i) (operands (first ∷ more)) (tail_same 9 9 word (line_word i ++ 9 ∷ operands (first ∷ more)) (sym e ∙ told)))

    from : (i : Inst) → IsOf line i → IsAlone word i
    from i h = by_operands i (line_operands i) h.0 refl (h.1 ∙ line_parts i)
