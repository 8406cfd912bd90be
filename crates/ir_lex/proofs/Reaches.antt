-- A length is no less than a text of its kind at the start.
use Rattle.std.proofs.Common.{◌≡◌, ℕ, zero, suc, ◌+◌, ◌<◌, ◌≤◌, inl, inr, ◌==◌, ◌&&◌, Bool, true, false, List, [], ◌∷◌, ◌++◌, ap, append_assoc, arith, cond, get_or, length, length-append, sym, refl, ◌∙◌}
use Rattle.std.specs.List.{list_all, prefix_len}
use Rattle.std.proofs.lemmas.Bool.{and_parts, both_ways, eqb-true}
use Rattle.std.proofs.Math.Seq.{get_or-append_seam}
use Rattle.ir_lex.specs.Characters.{is_in, is_name_byte, run}
use Rattle.ir_lex.specs.Lengths.{content_len, more_than, string_len}
use Rattle.ir_lex.specs.Spelling.{IsContent, IsRun, IsString}
use Rattle.ir_lex.specs.declared.class.Class.{Class}
use Rattle.ir_lex.specs.declared.class.Class.TheVariants.{Name, Quoted}

pub run_whole : (p : ℕ → Bool) (xs ys : List ℕ) → list_all p xs ≡ true → prefix_len p (xs ++ ys) ≡ length xs + prefix_len p ys
run_whole p [] ys all = omega arith
run_whole p (x ∷ xs) ys all =
    let both = and_parts (p x) (list_all p xs) all in
    let later = run_whole p xs ys both.1 in
    ap (λ t. cond t (1 + prefix_len p (xs ++ ys)) 0) both.0 ∙ omega (arith, later)

pub run_reaches : (class : Class) (text rest : List ℕ) → IsRun class text → length text ≤ run class (text ++ rest)
run_reaches class text rest is = omega (arith, run_whole (is_in class) text rest is.all)

pub positive : (n : ℕ) → 0 < n → n == 0 ≡ false
positive zero some = absurd (omega arith)
positive (suc n) some = go (suc n == 0) refl
  where
    go : (t : Bool) → suc n == 0 ≡ t → t ≡ false
    go true e = absurd (omega (arith, eqb-true (suc n) 0 e))
    go false e = refl

pub more_whole : (k n : ℕ) → 0 < n → more_than k n ≡ k + n
more_whole k n some = ap (λ t. cond t 0 (k + n)) (positive n some)

pub more_reaches : (k n m : ℕ) → 0 < m → m ≤ n → k + m ≤ more_than k n
more_reaches k n m some h = omega (arith, more_whole k n (omega (arith, some, h)), h)

-- what is of a class does not begin with a byte that isn't
pub no_first : (class : Class) (byte : ℕ) (text rest : List ℕ) → is_in class byte ≡ false → IsRun class text → get_or (text ++ rest) 0 0 == byte ≡ false
no_first class byte [] rest other is = absurd (omega (arith, is.some))
no_first class byte (b ∷ text) rest other is = go (b == byte) refl
  where
    go : (t : Bool) → b == byte ≡ t → t ≡ false
    go true e = absurd (both_ways (is_in class byte) other (ap (is_in class) (sym (eqb-true b byte e)) ∙ (and_parts (is_in class b) (list_all (is_in class) text) is.all).0))
    go false e = refl

pub string_exact : (inner rest : List ℕ) → list_all (is_in Quoted) inner ≡ true → string_len (34 ∷ (inner ++ 34 ∷ rest)) ≡ length inner + 2
unfolding string_len
string_exact inner rest all =
    let bytes = 34 ∷ (inner ++ 34 ∷ rest) in
    let n : run Quoted (inner ++ 34 ∷ rest) ≡ length inner = run_whole (is_in Quoted) inner (34 ∷ rest) all ∙ omega arith in
    let last : get_or bytes (1 + length inner) 0 ≡ 34 = ap (λ k. get_or bytes k 0) next ∙ seam inner in
    ap (λ k. cond (true && get_or bytes (1 + k) 0 == 34) (2 + k) 0) n
    ∙ ap (λ b. cond (b == 34) (2 + length inner) 0) last ∙ omega arith
  where
    next : 1 + length inner ≡ suc (length inner)
    next = omega arith

    seam : (xs : List ℕ) → get_or (xs ++ 34 ∷ rest) (length xs) 0 ≡ 34
    seam xs = get_or-append_seam xs 34 rest 0

pub string_text : (text rest : List ℕ) (is : IsString text) → string_len (text ++ rest) ≡ length text
string_text text rest is =
    ap (λ xs. string_len (xs ++ rest)) is.is ∙ ap (λ xs. string_len (34 ∷ xs)) (append_assoc is.inner (34 ∷ []) rest)
    ∙ string_exact is.inner rest is.all ∙ omega (arith, ap length is.is, length-append is.inner (34 ∷ []))

pub string_some : (text : List ℕ) → IsString text → 0 < length text
string_some text is = omega (arith, ap length is.is, length-append is.inner (34 ∷ []))

pub no_quote : (b : ℕ) → is_name_byte b ≡ true → b == 34 ≡ false
no_quote b is = go (b == 34) refl
  where
    go : (t : Bool) → b == 34 ≡ t → t ≡ false
    go true e = absurd (both_ways (is_name_byte b) (ap is_name_byte (eqb-true b 34 e)) is)
    go false e = refl

name_no_string : (text rest : List ℕ) → IsRun Name text → string_len (text ++ rest) ≡ 0
unfolding string_len
name_no_string [] rest is = absurd (omega (arith, is.some))
name_no_string (b ∷ text) rest is =
    ap (λ t. cond (t && get_or (b ∷ (text ++ rest)) (1 + run Quoted (text ++ rest)) 0 == 34) (2 + run Quoted (text ++ rest)) 0)
    (no_quote b (and_parts (is_name_byte b) (list_all is_name_byte text) is.all).0)

content_run : (bytes : List ℕ) → string_len bytes ≡ 0 → content_len bytes ≡ run Name bytes
unfolding content_len
content_run bytes none = ap (λ n. cond (n == 0) (run Name bytes) n) none

content_string : (bytes : List ℕ) → 0 < string_len bytes → content_len bytes ≡ string_len bytes
unfolding content_len
content_string bytes some = go (string_len bytes == 0) refl
  where
    go : (t : Bool) → string_len bytes == 0 ≡ t → cond t (run Name bytes) (string_len bytes) ≡ string_len bytes
    go true e = absurd (omega (arith, eqb-true (string_len bytes) 0 e, some))
    go false e = refl

pub content_some : (text : List ℕ) → IsContent text → 0 < length text
content_some text (inl run) = run.some
content_some text (inr string) = string_some text string

pub content_reaches : (text rest : List ℕ) → IsContent text → length text ≤ content_len (text ++ rest)
content_reaches text rest (inl run) =
    omega (arith, content_run (text ++ rest) (name_no_string text rest run), run_reaches Name text rest run)
content_reaches text rest (inr string) =
    let exact = string_text text rest string in
    omega (arith, exact, content_string (text ++ rest) (omega (arith, exact, string_some text string)))

pub content_exact : (text rest : List ℕ) → IsContent text → run Name rest ≡ 0 → content_len (text ++ rest) ≡ length text
content_exact text rest (inl run) end =
    omega (arith, content_run (text ++ rest) (name_no_string text rest run), run_whole (is_in Name) text rest run.all, end)
content_exact text rest (inr string) end =
    let exact = string_text text rest string in
    omega (arith, exact, content_string (text ++ rest) (omega (arith, exact, string_some text string)))
