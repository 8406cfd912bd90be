-- The places of labels and the words of lines, one line more.
use Rattle.std.proofs.Common.{◌≡◌, ◌<◌, ◌≤◌, ◌+◌, ◌*◌, ◌-ℤ◌, ◌||◌, ◌&&◌, ◌∙◌, ℕ, ℤ, zero, suc, pos, negsuc, List, [], ◌∷◌, ◌++◌, Bool, true, false, not, nat_lt, nat_le, cond, Option, Some, None, All, refl, sym, ap, subst, arith, take, get_or, length, length-append}
use Rattle.std.proofs.lemmas.Bool.{false≢true}
use Rattle.std.proofs.lemmas.Bool.Decides.{nat_tests}
use Rattle.std.proofs.lemmas.Grind.{flat_map-append}
use Rattle.std.proofs.lemmas.Int.{ints}
use Rattle.std.proofs.lemmas.List.{append-nil, append_assoc, get_or_default}
use Rattle.std.proofs.lemmas.List.Elements.{All-head, All-tail}
use Rattle.std.specs.List.{flat_map}
use Rattle.rv_isa.specs.Encoding.{FitsRow, IsBranchDistance, IsInst, IsJumpDistance}
use Rattle.rv_isa.specs.Relocation.{AreLines}
use Rattle.rv_isa.specs.Table.{row, shape}
use Rattle.rv_isa.specs.declared.inst.Inst.{Inst}
use Rattle.rv_isa.specs.declared.inst.Line.{Line}
use Rattle.rv_isa.specs.declared.inst.Line.TheVariants.{Plain}
use Rattle.rv_isa.specs.declared.op.Op.{Op}
use Rattle.rv_isa.specs.declared.row.Row.{Row}
use Rattle.rv_isa.specs.declared.row.Row.TheVariants.{BType, JType}
use Rattle.rv_isa.specs.declared.shape.Shape.{Shape}
use Rattle.rv_isa.specs.declared.shape.Shape.TheVariants.{Branch, Jump}
use Rattle.rv_isa.specs.declared.statement.Statement.{Statement}
use Rattle.rv_isa.specs.declared.statement.Statement.TheVariants.{Text, Global, Align, Define, Code, Unimp, Label, ToLabel}
use Rattle.asm_inst.specs.Mnemonics.{op_at}
use Rattle.asm_inst.specs.Targets.{HasRegisters, IsOpen, target}
use Rattle.asm_inst.specs.declared.target.Target.{Target}
use Rattle.asm_inst.specs.declared.target.Target.TheVariants as targets
use Rattle.asm_inst.proofs.MnemonicLemmas.{each}
use Rattle.asm_inst.proofs.RegisterLemmas.{below_holds}
use Rattle.asm_line.specs.Statements.{IsStatement, code}
use Rattle.asm_read.specs.Checks.{in_line, is_far_at, statements_in}
use Rattle.asm_read.specs.Labels.{aimed_at, code_at, going, is_some_and, labels, misses, place, place_after, reach, reaches, size, words_after}
use Rattle.asm_read.proofs.BuildLemmas.{statements_more}

pub size-append : (xs ys : List Statement) → size (xs ++ ys) ≡ size xs + size ys
size-append xs ys = ap length (flat_map-append code xs ys) ∙ length-append (flat_map code xs) (flat_map code ys)

size_line : (line : Option Statement) → size (statements_in (line ∷ [])) ≡ length (in_line code line)
size_line None = refl
size_line (Some statement) = ap length (append-nil (code statement))

pub size_more : (lines : List (Option Statement)) (k : ℕ) (line : Option Statement) (before here : ℕ) → k < length lines → line ≡ get_or lines k line
    → before ≡ size (statements_in (take k lines)) → here ≡ length (in_line code line) → before + here ≡ size (statements_in (take (k + 1) lines))
size_more lines k line before here l e was is =
    let sum : before + here ≡ size (statements_in (take k lines)) + size (statements_in (line ∷ [])) = omega (arith, was, is, size_line line) in
    sum ∙ sym (size-append (statements_in (take k lines)) (statements_in (line ∷ []))) ∙ ap size (sym (statements_more lines k line l e))

-- Places.

place-append : (q : List ℕ) (found : Option ℕ) (n : ℕ) (xs : List Statement) (statement : Statement) →
    place_after q found n (xs ++ statement ∷ []) ≡ cond (labels q statement) (Some (n + size xs)) (place_after q found n xs)
place-append q found n [] statement = let same : n ≡ n + 0 = omega arith in ap (λ m. cond (labels q statement) (Some m) found) same
place-append q found n (x ∷ xs) statement =
    let next : ℕ = n + length (code x) in
    let count : next + size xs ≡ n + size (x ∷ xs) = omega (arith, length-append (code x) (flat_map code xs)) in
    let here : Option ℕ = cond (labels q x) (Some n) found in
    place-append q here next xs statement ∙ ap (λ m. cond (labels q statement) (Some m) (place_after q here next xs)) count

place_line : (q : List ℕ) (xs : List Statement) (line : Option Statement) (before : ℕ) (old new : Option ℕ) → before ≡ size xs → old ≡ place xs q →
    new ≡ cond (is_some_and (labels q) line) (Some before) old → new ≡ place (xs ++ statements_in (line ∷ [])) q
place_line q xs None before old new count was is = is ∙ was ∙ ap (λ ys. place ys q) (sym (append-nil xs))
place_line q xs (Some statement) before old new count was is =
    is ∙ ap (λ o. cond (labels q statement) (Some before) o) was
    ∙ ap (λ m. cond (labels q statement) (Some m) (place xs q)) (count ∙ omega arith)
    ∙ sym (place-append q None 0 xs statement)

pub place_more : (lines : List (Option Statement)) (k : ℕ) (line : Option Statement) (before : ℕ) (q : List ℕ) (old new : Option ℕ) → k < length lines → line ≡ get_or lines k line
    → before ≡ size (statements_in (take k lines)) → old ≡ place (statements_in (take k lines)) q
    → new ≡ cond (is_some_and (labels q) line) (Some before) old → new ≡ place (statements_in (take (k + 1) lines)) q
place_more lines k line before q old new l e count was is =
    place_line q (statements_in (take k lines)) line before old new count was is ∙ ap (λ ys. place ys q) (sym (statements_more lines k line l e))

-- What is out of reach.

misses_same : (p r : List ℕ → Option ℕ) (here there : ℕ) (statement : Statement) → ((q : List ℕ) → p q ≡ r q) → here ≡ there → misses p here statement ≡ misses r there statement
misses_same p r here there (ToLabel inst name) same count =
    ap (λ o. is_some_and (λ at. not (reaches inst here at)) o) (same name) ∙ ap (λ n. is_some_and (λ at. not (reaches inst n at)) (r name)) count
misses_same p r here there Text same count = refl
misses_same p r here there (Global name) same count = refl
misses_same p r here there Align same count = refl
misses_same p r here there (Define name) same count = refl
misses_same p r here there (Code inst) same count = refl
misses_same p r here there Unimp same count = refl
misses_same p r here there (Label name) same count = refl

missed_same : (p r : List ℕ → Option ℕ) (here there : ℕ) (line : Option Statement) → ((q : List ℕ) → p q ≡ r q) → here ≡ there → is_some_and (misses p here) line ≡ is_some_and (misses r there) line
missed_same p r here there None same count = refl
missed_same p r here there (Some statement) same count = misses_same p r here there statement same count

pub far_here : (lines : List (Option Statement)) (k : ℕ) (line : Option Statement) (here : ℕ) (p : List ℕ → Option ℕ) → k < length lines → line ≡ get_or lines k line
    → here ≡ size (statements_in (take k lines)) → ((q : List ℕ) → p q ≡ place (statements_in lines) q) → is_some_and (misses p here) line ≡ is_far_at lines k
far_here lines k line here p l e count same =
    missed_same p (place (statements_in lines)) here _ line same count
    ∙ ap (λ x. is_some_and (misses (place (statements_in lines)) (size (statements_in (take k lines)))) x) (e ∙ get_or_default lines k line None l)

-- Words.

code_same : (p r : List ℕ → Option ℕ) (m n : ℕ) (statement : Statement) → ((q : List ℕ) → p q ≡ r q) → m ≡ n → code_at p m statement ≡ code_at r n statement
code_same p r m n (ToLabel inst name) same count =
    ap (λ o. Plain (aimed_at inst m o) ∷ []) (same name) ∙ ap (λ k. Plain (aimed_at inst k (r name)) ∷ []) count
code_same p r m n Text same count = refl
code_same p r m n (Global name) same count = refl
code_same p r m n Align same count = refl
code_same p r m n (Define name) same count = refl
code_same p r m n (Code inst) same count = refl
code_same p r m n Unimp same count = refl
code_same p r m n (Label name) same count = refl

code_size : (p : List ℕ → Option ℕ) (n : ℕ) (statement : Statement) → length (code_at p n statement) ≡ length (code statement)
code_size p n (ToLabel inst name) = refl
code_size p n Text = refl
code_size p n (Global name) = refl
code_size p n Align = refl
code_size p n (Define name) = refl
code_size p n (Code inst) = refl
code_size p n Unimp = refl
code_size p n (Label name) = refl

pub words_size : (p : List ℕ → Option ℕ) (n : ℕ) (statements : List Statement) → length (words_after p n statements) ≡ size statements
words_size p n [] = refl
words_size p n (statement ∷ statements) =
    let next : ℕ = n + length (code statement) in
    omega (arith, length-append (code_at p n statement) (words_after p next statements), length-append (code statement) (flat_map code statements), code_size p n statement, words_size p next statements)

words-append : (p : List ℕ → Option ℕ) (n : ℕ) (xs ys : List Statement) → words_after p n (xs ++ ys) ≡ words_after p n xs ++ words_after p (n + size xs) ys
words-append p n [] ys = ap (λ m. words_after p m ys) (omega arith)
words-append p n (x ∷ xs) ys =
    let next : ℕ = n + length (code x) in
    let count : next + size xs ≡ n + size (x ∷ xs) = omega (arith, length-append (code x) (flat_map code xs)) in
    ap (λ more. code_at p n x ++ more) (words-append p next xs ys ∙ ap (λ m. words_after p next xs ++ words_after p m ys) count)
    ∙ sym (append_assoc (code_at p n x) (words_after p next xs) (words_after p (n + size (x ∷ xs)) ys))

word_added : (p r : List ℕ → Option ℕ) (m n : ℕ) (line : Option Statement) → ((q : List ℕ) → p q ≡ r q) → m ≡ n → in_line (code_at p m) line ≡ words_after r n (statements_in (line ∷ []))
word_added p r m n None same count = refl
word_added p r m n (Some statement) same count = code_same p r m n statement same count ∙ sym (append-nil (code_at r n statement))

pub words_more : (lines : List (Option Statement)) (k : ℕ) (line : Option Statement) (p r : List ℕ → Option ℕ) (old new : List Line) → k < length lines → line ≡ get_or lines k line
    → ((q : List ℕ) → p q ≡ r q) → old ≡ words_after r 0 (statements_in (take k lines)) → new ≡ old ++ in_line (code_at p (length old)) line
    → new ≡ words_after r 0 (statements_in (take (k + 1) lines))
words_more lines k line p r old new l e same was is =
    let prefix : List Statement = statements_in (take k lines) in
    let count : length old ≡ 0 + size prefix = omega (arith, ap length was, words_size r 0 prefix) in
    is ∙ ap (λ ws. ws ++ in_line (code_at p (length old)) line) was
    ∙ ap (λ ws. words_after r 0 prefix ++ ws) (word_added p r (length old) (0 + size prefix) line same count)
    ∙ sym (words-append r 0 prefix (statements_in (line ∷ []))) ∙ ap (words_after r 0) (sym (statements_more lines k line l e))

-- The word of a branch or a jump to a label.

abbrev is_label_target : Option Target → Bool
is_label_target (Some targets.Label) = true
is_label_target other = false

abbrev has_distance : Shape → Row → Bool
has_distance Branch (BType opcode funct3) = true
has_distance Jump (JType opcode) = true
has_distance s r = false

label_row : (op : Op) → target op ≡ Some targets.Label → has_distance (shape op) (row op) ≡ true
label_row op e =
    from_test (is_label_target (target op)) (has_distance (shape op) (row op)) (ap is_label_target e)
    (each (λ o. not (is_label_target (target o)) || has_distance (shape o) (row o))
    (below_holds 65 (λ n. not (is_label_target (target (op_at n))) || has_distance (shape (op_at n)) (row (op_at n))) refl) op)
  where
    from_test : (a b : Bool) → a ≡ true → (not a || b) ≡ true → b ≡ true
    from_test a b h k = grind (arith, nat_tests)

reach_from : (r here there : ℕ) → (nat_le here (there + r) && nat_lt there (here + r)) ≡ true → (here ≤ there + r) × (there < here + r)
reach_from r here there h = (grind (arith, nat_tests), grind (arith, nat_tests))

branch_distance : (here there : ℕ) (d : ℤ) → d ≡ pos (4 * there) -ℤ pos (4 * here) → here ≤ there + 0x400 → there < here + 0x400 → IsBranchDistance d
branch_distance here there (pos n) e b f = (omega (arith, ints), omega (arith, ints, e), omega (arith, ints, e))
branch_distance here there (negsuc n) e b f = (omega (arith, ints, e), omega (arith, ints), omega (arith, ints, e))

jump_distance : (here there : ℕ) (d : ℤ) → d ≡ pos (4 * there) -ℤ pos (4 * here) → here ≤ there + 0x40000 → there < here + 0x40000 → IsJumpDistance d
jump_distance here there (pos n) e b f = (omega (arith, ints), omega (arith, ints, e), omega (arith, ints, e))
jump_distance here there (negsuc n) e b f = (omega (arith, ints, e), omega (arith, ints), omega (arith, ints, e))

abbrev Fits : Row → Inst → Type 0
Fits r i = (i.rd < 32) × (i.rs1 < 32) × (i.rs2 < 32) × FitsRow r i

goes : (s : Shape) (r : Row) (i : Inst) (here there : ℕ) → has_distance s r ≡ true → HasRegisters s i →
    (nat_le here (there + reach s) && nat_lt there (here + reach s)) ≡ true → Fits r (going i here there)
goes Branch (BType opcode funct3) i here there d h e =
    let near = reach_from 0x400 here there e in
    (omega (arith, h.0), h.1, h.2, (h.0, branch_distance here there _ refl near.0 near.1))
goes Jump (JType opcode) i here there d h e =
    let near = reach_from 0x40000 here there e in
    (h.0, omega (arith, h.1), omega (arith, h.2), (h.1, h.2, jump_distance here there _ refl near.0 near.1))
goes s r i here there d h e = absurd (cc)

going_is_inst : (i : Inst) (here there : ℕ) → IsOpen i → target i.op ≡ Some targets.Label → reaches i here there ≡ true → IsInst (going i here there)
going_is_inst i here there h e near =
    let fits = goes (shape i.op) (row i.op) i here there (label_row i.op e) h.registers near in
    record { rd = fits.0; rs1 = fits.1; rs2 = fits.2; row = fits.3 }

stays : (s : Shape) (r : Row) (i : Inst) → has_distance s r ≡ true → HasRegisters s i → i.imm ≡ pos 0 → Fits r i
stays Branch (BType opcode funct3) i d h z = (omega (arith, h.0), h.1, h.2, (h.0, subst IsBranchDistance (sym z) (omega (arith, ints), omega (arith, ints), refl)))
stays Jump (JType opcode) i d h z = (h.0, omega (arith, h.1), omega (arith, h.2), (h.1, h.2, subst IsJumpDistance (sym z) (omega (arith, ints), omega (arith, ints), refl)))
stays s r i d h z = absurd (cc)

aimed_is_inst : (i : Inst) (here : ℕ) (there : Option ℕ) → IsOpen i → target i.op ≡ Some targets.Label → is_some_and (λ at. not (reaches i here at)) there ≡ false → IsInst (aimed_at i here there)
aimed_is_inst i here None h e near =
    let fits = stays (shape i.op) (row i.op) i (label_row i.op e) h.registers h.zero in
    record { rd = fits.0; rs1 = fits.1; rs2 = fits.2; row = fits.3 }
aimed_is_inst i here (Some there) h e near = going_is_inst i here there h e (reached (reaches i here there) near)
  where
    reached : (b : Bool) → not b ≡ false → b ≡ true
    reached true p = refl
    reached false p = absurd (false≢true (sym p))

-- a line of the grammar, where there is one
abbrev pub IsAllowed : Option Statement → Type 0
IsAllowed None = Unit {0}
IsAllowed (Some statement) = IsStatement statement

line_allowed : (lines : List (Option Statement)) (k : ℕ) → All IsStatement (statements_in lines) → IsAllowed (get_or lines k None)
line_allowed [] k h = tt
line_allowed (None ∷ lines) zero h = tt
line_allowed (Some statement ∷ lines) zero h = All-head IsStatement statement (statements_in lines) h
line_allowed (None ∷ lines) (suc k) h = line_allowed lines k h
line_allowed (Some statement ∷ lines) (suc k) h = line_allowed lines k (All-tail IsStatement statement (statements_in lines) h)

word_is_line : (p : List ℕ → Option ℕ) (n : ℕ) (line : Option Statement) → IsAllowed line → is_some_and (misses p n) line ≡ false → AreLines (in_line (code_at p n) line)
word_is_line p n None h near = tt
word_is_line p n (Some (ToLabel inst name)) h near = (aimed_is_inst inst n (p name) h.0 h.1 near, tt)
word_is_line p n (Some (Code inst)) h near = (h.inst, tt)
word_is_line p n (Some Unimp) h near = (tt, tt)
word_is_line p n (Some Text) h near = tt
word_is_line p n (Some (Global name)) h near = tt
word_is_line p n (Some Align) h near = tt
word_is_line p n (Some (Define name)) h near = tt
word_is_line p n (Some (Label name)) h near = tt

lines-append : (xs ys : List Line) → AreLines xs → AreLines ys → AreLines (xs ++ ys)
lines-append [] ys h k = k
lines-append (x ∷ xs) ys h k = (h.0, lines-append xs ys h.1 k)

pub lines_more : (lines : List (Option Statement)) (k : ℕ) (line : Option Statement) (p : List ℕ → Option ℕ) (old new : List Line) → k < length lines → line ≡ get_or lines k line
    → All IsStatement (statements_in lines) → is_some_and (misses p (length old)) line ≡ false → AreLines old → new ≡ old ++ in_line (code_at p (length old)) line → AreLines new
lines_more lines k line p old new l e all near were is =
    let allowed : IsAllowed line = subst IsAllowed (sym (e ∙ get_or_default lines k line None l)) (line_allowed lines k all) in
    subst AreLines (sym is) (lines-append old _ were (word_is_line p (length old) line allowed near))
