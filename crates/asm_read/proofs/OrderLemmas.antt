-- Forms in order are an assembly.
use Rattle.std.proofs.Common.{◌≡◌, ◌<◌, ◌+◌, ◌∙◌, ℕ, zero, suc, List, [], ◌∷◌, ◌++◌, All, Bool, Option, map, true, false, inl, inr, refl, sym, ap, subst, arith, take, drop, get_or, length, slice_index_or}
use Rattle.std.proofs.lemmas.Bool.{false≢true}
use Rattle.std.proofs.lemmas.List.{append-nil, drop_more, get_or-map, length-map, take-append-drop, take-map}
use Rattle.std.proofs.lemmas.List.Elements.{All-get_or, All-head, All-tail, All-take, Contains-get_or}
use Rattle.std.specs.List.{Contains, flat_map}
use Rattle.rv_isa.specs.Lines.{text_of_lines}
use Rattle.asm_read.specs.Assembly.{AreOrdered, IsAssembly, IsBad, IsBadLine, IsFarLine, IsRefusedLine, needs_section}
use Rattle.asm_read.specs.Labels.{code_at, is_far, misses, place, size, words, words_after}
use Rattle.asm_read.specs.Assembly.IsBad.{outside, early, again, twice, unknown, nowhere}
use Rattle.asm_line.specs.Statements.{IsStatement, Says, code}
use Rattle.rv_isa.specs.declared.inst.Inst.{Inst}
use Rattle.rv_isa.specs.declared.statement.Statement.{Statement}
use Rattle.rv_isa.specs.declared.statement.Statement.TheVariants.{Text, Global, Align, Define, Code, Unimp, Label, ToLabel}
use Rattle.asm_line.proofs.StatementLemmas.{statement_once, said_once}
use Rattle.rv_isa.specs.Statements.{statement_line}
use Rattle.asm_read.proofs.AssemblyLemmas.{statements_once}
use Rattle.asm_read.proofs.ReadLemmas.{contains_first, contains_more, first_or_more}

contains_line : (statements : List Statement) (statement : Statement) → Contains statements statement → Contains (map statement_line statements) (statement_line statement)
contains_line [] statement (k, l, e) = absurd (omega arith)
contains_line (f ∷ statements) statement c = elim (first_or_more f statement statements c) [
  | inl e ↦ contains_first (statement_line f) (statement_line statement) (map statement_line statements) (ap statement_line e)
  | inr more ↦ contains_more (statement_line f) (statement_line statement) (map statement_line statements) (contains_line statements statement more)
]

contains_statement : (statements : List Statement) (statement : Statement) → All IsStatement statements → IsStatement statement → Contains (map statement_line statements) (statement_line statement) → Contains statements statement
contains_statement [] statement all h (k, l, e) = absurd (omega arith)
contains_statement (f ∷ statements) statement all h c = elim (first_or_more (statement_line f) (statement_line statement) (map statement_line statements) c) [
  | inl e ↦ contains_first f statement statements (statement_once f statement (All-head IsStatement f statements all) h e)
  | inr more ↦ contains_more f statement statements (contains_statement statements statement (All-tail IsStatement f statements all) h more)
]

-- the section line is before each line but the first
section_before : (statements rest : List Statement) (k : ℕ) → statements ≡ Text ∷ rest → Contains (take (suc k) (map statement_line statements)) (statement_line Text)
section_before statements rest k e =
    subst (λ (fs : List Statement). Contains (take (suc k) (map statement_line fs)) (statement_line Text)) (sym e)
    (contains_first (statement_line Text) (statement_line Text) (take k (map statement_line rest)) refl)

module _ (statements : List Statement) (h : AreOrdered statements) where
  statement_at : ℕ → Statement
  statement_at k = get_or statements k Text

  says_at : (k : ℕ) → k < length statements → Says (slice_index_or (map statement_line statements) k []) (get_or statements k Text)
  says_at k l = (All-get_or IsStatement statements k Text l h.allowed, get_or-map statement_line statements k Text [] l)

  not_early : (k : ℕ) → k < length statements → needs_section (get_or statements k Text) ≡ true → ¬ (Contains (take k (map statement_line statements)) (statement_line Text)) → ⊥
  not_early k l needs closed = elim h.begins [
    | inl e ↦ omega (arith, ap length e)
    | inr first ↦ of k needs closed first.0 first.1
  ]
    where
      of : (k : ℕ) → needs_section (get_or statements k Text) ≡ true → ¬ (Contains (take k (map statement_line statements)) (statement_line Text)) → (rest : List Statement) → statements ≡ Text ∷ rest → ⊥
      of zero needs closed rest e = false≢true (subst (λ fs. needs_section (get_or fs 0 Text) ≡ true) e needs)
      of (suc k) needs closed rest e = closed (section_before statements rest k e)

  not_again : (k : ℕ) → k < length statements → (name : List ℕ) → get_or statements k Text ≡ Define name → Contains (take k (map statement_line statements)) (slice_index_or (map statement_line statements) k []) → ⊥
  not_again k l name is c =
      let told : Contains (take k (map statement_line statements)) (statement_line (Define name)) = subst (Contains (take k (map statement_line statements))) (get_or-map statement_line statements k Text [] l ∙ ap statement_line is) c in
      let earlier : Contains (map statement_line (take k statements)) (statement_line (Define name)) = subst (λ ls. Contains ls (statement_line (Define name))) (take-map statement_line k statements) told in
      let allowed : IsStatement (Define name) = subst IsStatement is (All-get_or IsStatement statements k Text l h.allowed) in
      h.once (take k statements) (drop (k + 1) statements) name
      (sym (take-append-drop k statements) ∙ ap (λ xs. take k statements ++ xs) (drop_more statements k Text l ∙ ap (λ f. f ∷ drop (k + 1) statements) is))
      (contains_statement (take k statements) (Define name) (All-take IsStatement k statements h.allowed) allowed earlier)

  not_unknown : (k : ℕ) → k < length statements → (name : List ℕ) → get_or statements k Text ≡ Global name → ¬ (Contains (map statement_line statements) (statement_line (Define name))) → ⊥
  not_unknown k l name is none =
      none (contains_line statements (Define name) (h.known name (subst (Contains statements) is (Contains-get_or statements k Text l))))

  not_twice : (k : ℕ) → k < length statements → (name : List ℕ) → get_or statements k Text ≡ Label name → Contains (take k (map statement_line statements)) (slice_index_or (map statement_line statements) k []) → ⊥
  not_twice k l name is c =
      let told : Contains (take k (map statement_line statements)) (statement_line (Label name)) = subst (Contains (take k (map statement_line statements))) (get_or-map statement_line statements k Text [] l ∙ ap statement_line is) c in
      let earlier : Contains (map statement_line (take k statements)) (statement_line (Label name)) = subst (λ ls. Contains ls (statement_line (Label name))) (take-map statement_line k statements) told in
      let allowed : IsStatement (Label name) = subst IsStatement is (All-get_or IsStatement statements k Text l h.allowed) in
      h.alone (take k statements) (drop (k + 1) statements) name
      (sym (take-append-drop k statements) ∙ ap (λ xs. take k statements ++ xs) (drop_more statements k Text l ∙ ap (λ f. f ∷ drop (k + 1) statements) is))
      (contains_statement (take k statements) (Label name) (All-take IsStatement k statements h.allowed) allowed earlier)

  not_nowhere : (k : ℕ) → k < length statements → (inst : Inst) (name : List ℕ) → get_or statements k Text ≡ ToLabel inst name → ¬ (Contains (map statement_line statements) (statement_line (Label name))) → ⊥
  not_nowhere k l inst name is none =
      none (contains_line statements (Label name) (h.placed inst name (subst (Contains statements) is (Contains-get_or statements k Text l))))

  not_bad : (k : ℕ) → k < length statements → IsBad (map statement_line statements) (take k (map statement_line statements)) (slice_index_or (map statement_line statements) k []) → ⊥
  not_bad k l (outside none) = none (get_or statements k Text) (says_at k l)
  not_bad k l (early statement says needs closed) = not_early k l (subst (λ s. needs_section s ≡ true) (said_once _ statement (get_or statements k Text) says (says_at k l)) needs) closed
  not_bad k l (again name says c) = not_again k l name (said_once _ (get_or statements k Text) (Define name) (says_at k l) says) c
  not_bad k l (unknown name says none) = not_unknown k l name (said_once _ (get_or statements k Text) (Global name) (says_at k l) says) none
  not_bad k l (twice name says c) = not_twice k l name (said_once _ (get_or statements k Text) (Label name) (says_at k l) says) c
  not_bad k l (nowhere inst name says none) = not_nowhere k l inst name (said_once _ (get_or statements k Text) (ToLabel inst name) (says_at k l) says) none

  not_bad_itself : (k : ℕ) → IsBadLine (map statement_line statements) [] k → ⊥
  not_bad_itself k (inl (l, bad)) = not_bad k (omega (arith, length-map statements statement_line)) bad
  not_bad_itself k (inr (at, some)) = some refl

  -- all statements are judged
  not_far : (k : ℕ) → IsFarLine (map statement_line statements) [] k → ⊥
  not_far k f = elim f.ends [
    | inl e ↦ false≢true (sym (subst (λ fs. is_far fs k ≡ false) (all_judged e) (h.near k)) ∙ f.far)
    | inr bad ↦ not_bad_itself (length f.statements) bad
  ]
    where
      all_judged : f.rest ≡ [] → statements ≡ f.statements
      all_judged e =
          statements_once statements f.statements h.allowed f.allowed
          (f.are ∙ ap (λ ls. map statement_line f.statements ++ ls) e ∙ append-nil (map statement_line f.statements))

  not_bad_line : (k : ℕ) → IsRefusedLine (map statement_line statements) [] k → ⊥
  not_bad_line k (inl bad) = not_bad_itself k bad
  not_bad_line k (inr far) = not_far k far

  pub assembly_when_ordered : IsAssembly (text_of_lines (map statement_line statements)) statements
  assembly_when_ordered = record { spelled = refl; allowed = h.allowed; no_bad_line = not_bad_line }

-- Statements without labels, and without branches or jumps to them.

abbrev pub is_direct : Statement → Bool
is_direct (Label name) = false
is_direct (ToLabel inst name) = false
is_direct other = true

abbrev pub AreDirect : List Statement → Type 0
AreDirect [] = Unit {0}
AreDirect (statement ∷ statements) = (is_direct statement ≡ true) × AreDirect statements

no_label : (statements : List Statement) (name : List ℕ) → AreDirect statements → Contains statements (Label name) → ⊥
no_label [] name h (k, l, e) = omega (arith, l)
no_label (f ∷ statements) name h c = elim (first_or_more f (Label name) statements c) [
  | inl e ↦ false≢true (sym (ap is_direct e) ∙ h.0)
  | inr more ↦ no_label statements name h.1 more
]

no_branch : (statements : List Statement) (inst : Inst) (name : List ℕ) → AreDirect statements → Contains statements (ToLabel inst name) → ⊥
no_branch [] inst name h (k, l, e) = omega (arith, l)
no_branch (f ∷ statements) inst name h c = elim (first_or_more f (ToLabel inst name) statements c) [
  | inl e ↦ false≢true (sym (ap is_direct e) ∙ h.0)
  | inr more ↦ no_branch statements inst name h.1 more
]

direct_first : (before after : List Statement) → AreDirect (before ++ after) → AreDirect before
direct_first [] after h = tt
direct_first (f ∷ before) after h = (h.0, direct_first before after h.1)

pub direct_alone : (statements : List Statement) → AreDirect statements → (before after : List Statement) (name : List ℕ) → statements ≡ before ++ Label name ∷ after → Contains before (Label name) → ⊥
direct_alone statements h before after name e c = no_label before name (direct_first before (Label name ∷ after) (subst AreDirect e h)) c

pub direct_placed : (statements : List Statement) → AreDirect statements → (inst : Inst) (name : List ℕ) → Contains statements (ToLabel inst name) → Contains statements (Label name)
direct_placed statements h inst name c = absurd (no_branch statements inst name h c)

direct_misses : (p : List ℕ → Option ℕ) (here : ℕ) (statement : Statement) → is_direct statement ≡ true → misses p here statement ≡ false
direct_misses p here (ToLabel inst name) h = absurd (false≢true h)
direct_misses p here Text h = refl
direct_misses p here (Global name) h = refl
direct_misses p here Align h = refl
direct_misses p here (Define name) h = refl
direct_misses p here (Code inst) h = refl
direct_misses p here Unimp h = refl
direct_misses p here (Label name) h = refl

direct_at : (statements : List Statement) (k : ℕ) → AreDirect statements → is_direct (slice_index_or statements k Text) ≡ true
direct_at [] k h = refl
direct_at (f ∷ statements) zero h = h.0
direct_at (f ∷ statements) (suc k) h = direct_at statements k h.1

pub direct_near : (statements : List Statement) → AreDirect statements → (k : ℕ) → is_far statements k ≡ false
direct_near statements h k = direct_misses (place statements) (size (take k statements)) (slice_index_or statements k Text) (direct_at statements k h)

direct_code : (p : List ℕ → Option ℕ) (n : ℕ) (statement : Statement) → is_direct statement ≡ true → code_at p n statement ≡ code statement
direct_code p n (ToLabel inst name) h = absurd (false≢true h)
direct_code p n Text h = refl
direct_code p n (Global name) h = refl
direct_code p n Align h = refl
direct_code p n (Define name) h = refl
direct_code p n (Code inst) h = refl
direct_code p n Unimp h = refl
direct_code p n (Label name) h = refl

direct_after : (p : List ℕ → Option ℕ) (n : ℕ) (statements : List Statement) → AreDirect statements → words_after p n statements ≡ flat_map code statements
direct_after p n [] h = refl
direct_after p n (f ∷ statements) h =
    ap (λ here. here ++ words_after p (n + length (code f)) statements) (direct_code p n f h.0)
    ∙ ap (λ more. code f ++ more) (direct_after p (n + length (code f)) statements h.1)

-- their words are those of their code
pub direct_words : (statements : List Statement) → AreDirect statements → words statements ≡ flat_map code statements
direct_words statements h = direct_after (place statements) 0 statements h
