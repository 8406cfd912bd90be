-- A label or a word, where a word begins, and a name after a mark.
use Rattle.std.proofs.Common.{◌≡◌, ℕ, ◌+◌, ◌<◌, ◌==◌, ◌&&◌, ◌||◌, not, nat_lt, Bool, true, false, List, [], ◌∷◌, ap, arith, codes, cond, drop, get_or, take, sym, refl, ◌∙◌}
use Rattle.std.specs.Str.{bytes_eq}
use Rattle.std.proofs.lemmas.Bool.{and_parts, both_ways, eq-eqb, false_from_ne_true, le-ltb, lt-ltb, ne_eqb, not-true, or_parts}
use Rattle.std.proofs.lemmas.List.{get_or-take}
use Rattle.std.proofs.lemmas.Slice.Eq.{bytes_eq-Decides}
use Rattle.std.proofs.lemmas.Grind.{get_or_after_one}
use Rattle.ir_lex.specs.Characters.{is_digit, is_name_byte, run}
use Rattle.ir_lex.specs.Lengths.{content_len, label_len, len_of, marked_len, more_than, word_len}
use Rattle.ir_lex.specs.Splitting.{longer, longest_of}
use Rattle.ir_lex.specs.Starts.{begins_word, marks, none}
use Rattle.ir_lex.specs.declared.class.Class.TheVariants.{Name}
use Rattle.ir_lex.specs.declared.kind.Kind.{Kind}
use Rattle.ir_lex.specs.declared.kind.Kind.TheVariants as kind
use Rattle.ir_lex.proofs.Reaches.{no_quote, positive}
use Rattle.ir_lex.proofs.Starts.{string_none}

run_some : (bytes : List ℕ) → is_name_byte (get_or bytes 0 0) ≡ true → 0 < run Name bytes
run_some [] is = absurd (both_ways false refl is)
run_some (b ∷ bytes) is = omega (arith, ap (λ t. cond t (1 + run Name bytes) 0) is)

content_run : (bytes : List ℕ) → is_name_byte (get_or bytes 0 0) ≡ true → content_len bytes ≡ run Name bytes
unfolding content_len
content_run bytes is = ap (λ n. cond (n == 0) (run Name bytes) n) (string_none bytes (no_quote (get_or bytes 0 0) is))

label_of : (bytes : List ℕ) → is_name_byte (get_or bytes 0 0) ≡ true → label_len bytes ≡ cond (get_or bytes (run Name bytes) 0 == 58) (run Name bytes + 1) 0
unfolding label_len
label_of bytes is =
    ap (λ n. cond (get_or bytes n 0 == 58 && not (n == 0)) (n + 1) 0) (content_run bytes is)
    ∙ ap (λ t. cond (get_or bytes (run Name bytes) 0 == 58 && not t) (run Name bytes + 1) 0) (positive (run Name bytes) (run_some bytes is))
    ∙ plain (get_or bytes (run Name bytes) 0 == 58)
  where
    plain : (t : Bool) → cond (t && true) (run Name bytes + 1) 0 ≡ cond t (run Name bytes + 1) 0
    plain true = refl
    plain false = refl

word_of : (bytes : List ℕ) → begins_word (get_or bytes 0 0) ≡ true → word_len bytes ≡ run Name bytes
unfolding word_len
word_of bytes is =
    let b = get_or bytes 0 0 in
    let dots = bytes_eq (take (run Name bytes) bytes) (codes "...") in
    let both = and_parts (is_name_byte b) (not (is_digit b || b == 45 || b == 46)) is in
    let parts = or_parts (is_digit b || b == 45) (b == 46) (not-true (is_digit b || b == 45 || b == 46) both.1) in
    let no_dots : dots ≡ false = false_from_ne_true dots (λ e. both_ways (b == 46) parts.1 (eq-eqb b 46
    (sym (get_or-take (run Name bytes) bytes 0 0 (run_some bytes both.0)) ∙ ap (λ xs. get_or xs 0 0) ((bytes_eq-Decides (take (run Name bytes) bytes) (codes "...")).0 e)))) in
    ap (λ t. cond (t || dots) 0 (run Name bytes)) parts.0 ∙ ap (λ t. cond t 0 (run Name bytes)) no_dots

pair : (bytes : List ℕ) (label word : ℕ) → label_len bytes ≡ label → word_len bytes ≡ word → longest_of (kind.Label ∷ kind.Word ∷ []) none bytes
    ≡ cond (nat_lt (cond (nat_lt 0 label) (record { kind = kind.Label; len = label }) none).len word) (record { kind = kind.Word; len = word }) (cond (nat_lt 0 label) (record { kind = kind.Label; len = label }) none)
unfolding longest_of longer len_of
pair bytes label word is_l is_w =
    ap (λ n. cond (nat_lt (cond (nat_lt 0 n) (record { kind = kind.Label; len = n }) none).len (word_len bytes)) (record { kind = kind.Word; len = word_len bytes }) (cond (nat_lt 0 n) (record { kind = kind.Label; len = n }) none)) is_l
    ∙ ap (λ n. cond (nat_lt (cond (nat_lt 0 label) (record { kind = kind.Label; len = label }) none).len n) (record { kind = kind.Word; len = n }) (cond (nat_lt 0 label) (record { kind = kind.Label; len = label }) none)) is_w

module _ (bytes : List ℕ) (is : begins_word (get_or bytes 0 0) ≡ true) where
  name : is_name_byte (get_or bytes 0 0) ≡ true
  name = (and_parts (is_name_byte (get_or bytes 0 0)) (not (is_digit (get_or bytes 0 0) || get_or bytes 0 0 == 45 || get_or bytes 0 0 == 46)) is).0

  pub label_match : get_or bytes (run Name bytes) 0 ≡ 58 → record { kind = kind.Label; len = run Name bytes + 1 } ≡ longest_of (kind.Label ∷ kind.Word ∷ []) none bytes
  label_match colon =
      let n = run Name bytes in
      let label : label_len bytes ≡ n + 1 = label_of bytes name ∙ ap (λ t. cond t (n + 1) 0) (eq-eqb (get_or bytes n 0) 58 colon) in
      sym (pair bytes (n + 1) n label (word_of bytes is)
      ∙ ap (λ t. cond (nat_lt (cond t (record { kind = kind.Label; len = n + 1 }) none).len n) (record { kind = kind.Word; len = n }) (cond t (record { kind = kind.Label; len = n + 1 }) none)) (lt-ltb 0 (n + 1) (omega arith))
      ∙ ap (λ t. cond t (record { kind = kind.Word; len = n }) (record { kind = kind.Label; len = n + 1 })) (le-ltb (n + 1) n (omega arith)))

  pub word_match : (get_or bytes (run Name bytes) 0 ≡ 58 → ⊥) → record { kind = kind.Word; len = run Name bytes } ≡ longest_of (kind.Label ∷ kind.Word ∷ []) none bytes
  word_match other =
      let n = run Name bytes in
      let label : label_len bytes ≡ 0 = label_of bytes name ∙ ap (λ t. cond t (n + 1) 0) (ne_eqb (get_or bytes n 0) 58 other) in
      sym (pair bytes 0 n label (word_of bytes is)
      ∙ ap (λ t. cond t (record { kind = kind.Word; len = n }) none) (lt-ltb 0 n (run_some bytes name)))

-- a name that no quote begins
bare_marked : (mark : ℕ) (bytes : List ℕ) → get_or bytes 0 0 == mark ≡ true → get_or bytes 1 0 == 34 ≡ false → marked_len mark bytes ≡ more_than 1 (run Name (drop 1 bytes))
unfolding marked_len content_len
bare_marked mark bytes is bare =
    ap (λ t. cond t (more_than 1 (content_len (drop 1 bytes))) 0) is
    ∙ ap (λ n. more_than 1 (cond (n == 0) (run Name (drop 1 bytes)) n)) (string_none (drop 1 bytes) (ap (λ b. b == 34) (get_or_after_one bytes 0 0) ∙ bare))

name_len : (kind : Kind) (bytes : List ℕ) → marks kind (get_or bytes 0 0) ≡ true → get_or bytes 1 0 == 34 ≡ false → len_of kind bytes ≡ more_than 1 (run Name (drop 1 bytes))
unfolding len_of
name_len kind.Label bytes is bare = absurd (both_ways false refl is)
name_len kind.Int bytes is bare = absurd (both_ways false refl is)
name_len kind.Real bytes is bare = absurd (both_ways false refl is)
name_len kind.Word bytes is bare = absurd (both_ways false refl is)
name_len kind.Str bytes is bare = absurd (both_ways false refl is)
name_len kind.CStr bytes is bare = absurd (both_ways false refl is)
name_len kind.Global bytes is bare = bare_marked 64 bytes is bare
name_len kind.Local bytes is bare = bare_marked 37 bytes is bare
name_len kind.Meta bytes is bare = absurd (both_ways false refl is)
name_len kind.Attr bytes is bare = absurd (both_ways false refl is)
name_len kind.Equal bytes is bare = absurd (both_ways false refl is)
name_len kind.Comma bytes is bare = absurd (both_ways false refl is)
name_len kind.Star bytes is bare = absurd (both_ways false refl is)
name_len kind.OpenRound bytes is bare = absurd (both_ways false refl is)
name_len kind.CloseRound bytes is bare = absurd (both_ways false refl is)
name_len kind.OpenSquare bytes is bare = absurd (both_ways false refl is)
name_len kind.CloseSquare bytes is bare = absurd (both_ways false refl is)
name_len kind.OpenCurly bytes is bare = absurd (both_ways false refl is)
name_len kind.CloseCurly bytes is bare = absurd (both_ways false refl is)
name_len kind.OpenPacked bytes is bare = absurd (both_ways false refl is)
name_len kind.ClosePacked bytes is bare = absurd (both_ways false refl is)
name_len kind.Less bytes is bare = absurd (both_ways false refl is)
name_len kind.Greater bytes is bare = absurd (both_ways false refl is)
name_len kind.Bar bytes is bare = absurd (both_ways false refl is)
name_len kind.Bang bytes is bare = absurd (both_ways false refl is)
name_len kind.Ellipsis bytes is bare = absurd (both_ways false refl is)

alone : (kind : Kind) (bytes : List ℕ) (n : ℕ) → len_of kind bytes ≡ n → longest_of (kind ∷ []) none bytes ≡ cond (nat_lt 0 n) (record { kind = kind; len = n }) none
unfolding longest_of longer
alone kind bytes n is = ap (λ k. cond (nat_lt 0 k) (record { kind = kind; len = k }) none) is

pub bare_name : (kind : Kind) (bytes : List ℕ) (n : ℕ) → marks kind (get_or bytes 0 0) ≡ true → (get_or bytes 1 0 ≡ 34 → ⊥) → n ≡ run Name (drop 1 bytes) → 0 < n → record { kind = kind; len = 1 + n } ≡ longest_of (kind ∷ []) none bytes
bare_name kind bytes n is bare run some =
    sym (alone kind bytes (1 + n) (name_len kind bytes is (ne_eqb (get_or bytes 1 0) 34 bare) ∙ ap (more_than 1) (sym run) ∙ ap (λ t. cond t 0 (1 + n)) (positive n some))
    ∙ ap (λ t. cond t (record { kind = kind; len = 1 + n }) none) (lt-ltb 0 (1 + n) (omega arith)))

pub no_name : (kind : Kind) (bytes : List ℕ) → marks kind (get_or bytes 0 0) ≡ true → (get_or bytes 1 0 ≡ 34 → ⊥) → 0 ≡ run Name (drop 1 bytes) → none ≡ longest_of (kind ∷ []) none bytes
no_name kind bytes is bare run =
    sym (alone kind bytes 0 (name_len kind bytes is (ne_eqb (get_or bytes 1 0) 34 bare) ∙ ap (more_than 1) (sym run)))
