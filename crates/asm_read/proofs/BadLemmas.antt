-- The lines that the checks refuse are the bad ones.
use Rattle.std.proofs.Common.{◌≡◌, ◌<◌, ◌&&◌, ◌||◌, ◌∙◌, ℕ, zero, suc, List, [], ◌∷◌, Bool, true, false, not, Option, Some, None, refl, sym, ap, subst, arith, take, length, slice_index_or}
use Rattle.std.proofs.lemmas.Bool.{and_parts, false≢true, not-false, not-true, or_parts}
use Rattle.std.specs.List.{Contains, list_any}
use Rattle.rv_isa.specs.Statements.{statement_line}
use Rattle.asm_read.specs.Assembly.{IsBad, needs_section}
use Rattle.asm_read.specs.Assembly.IsBad.{outside, early, again, twice, unknown, nowhere}
use Rattle.asm_read.specs.Checks.{AreRead, gives, is_early, refuses, refuses_at}
use Rattle.asm_read.specs.Labels.{is_some_and}
use Rattle.asm_line.specs.Statements.{Says, named, opens, wanted}
use Rattle.asm_inst.specs.Readings.{Reads}
use Rattle.rv_isa.specs.declared.statement.Statement.{Statement}
use Rattle.rv_isa.specs.declared.statement.Statement.TheVariants.{Text, Global, Define, Label, ToLabel}
use Rattle.asm_read.proofs.ReadLemmas.{any_from_line, line_from_any, names_label, names_symbol, opens_tests, reads_that}

pub read_at : (lines : List (List ℕ)) (readings : List (Option Statement)) (k : ℕ) → AreRead lines readings → k < length lines → Reads (Says (slice_index_or lines k [])) (slice_index_or readings k None)
read_at [] readings k h l = absurd (omega arith)
read_at (line ∷ lines) [] k h l = absurd h
read_at (line ∷ lines) (r ∷ readings) zero h l = h.0
read_at (line ∷ lines) (r ∷ readings) (suc k) h l = read_at lines readings k h.1 (omega arith)

pub read_first : (lines : List (List ℕ)) (readings : List (Option Statement)) (k : ℕ) → AreRead lines readings → AreRead (take k lines) (take k readings)
read_first lines readings zero h = tt
read_first [] [] (suc k) h = tt
read_first [] (r ∷ readings) (suc k) h = absurd h
read_first (line ∷ lines) [] (suc k) h = absurd h
read_first (line ∷ lines) (r ∷ readings) (suc k) h = (h.0, read_first lines readings k h.1)

pub read_length : (lines : List (List ℕ)) (readings : List (Option Statement)) → AreRead lines readings → length lines ≡ length readings
read_length [] [] h = refl
read_length [] (r ∷ readings) h = absurd h
read_length (line ∷ lines) [] h = absurd h
read_length (line ∷ lines) (r ∷ readings) h = omega (arith, read_length lines readings h.1)

-- one line, by all lines and those before it
module _ (lines before : List (List ℕ)) (all some : List (Option Statement)) (h_all : AreRead lines all) (h_some : AreRead before some) (line : List ℕ) where
  abbrev opened : Bool
  opened = list_any (is_some_and opens) some

  abbrev seen : List ℕ → Bool
  seen q = list_any (is_some_and (gives q)) some

  abbrev known : List ℕ → Bool
  known q = list_any (is_some_and (gives q)) all

  closed : opened ≡ false → Contains before (statement_line Text) → ⊥
  closed e c = false≢true (sym e ∙ any_from_line (is_some_and opens) Text opens_tests tt before some h_some c)

  early_bad : (statement : Statement) → Says line statement → is_early opened statement ≡ true → IsBad lines before line
  early_bad statement says e =
      let parts = and_parts (needs_section statement) (not opened) e in
      early statement says parts.0 (closed (not-true opened parts.1))

  again_bad : (statement : Statement) → Says line statement → is_some_and seen (named statement) ≡ true → IsBad lines before line
  again_bad (Define name) says e =
      again name says (subst (Contains before) (sym says.1) (line_from_any (is_some_and (gives name)) (Define name) (names_symbol name says.0) before some h_some e))
  again_bad (Label name) says e =
      twice name says (subst (Contains before) (sym says.1) (line_from_any (is_some_and (gives name)) (Label name) (names_label name says.0) before some h_some e))
  again_bad other says e = absurd (false≢true e)

  unknown_bad : (statement : Statement) → Says line statement → is_some_and (λ name. not (known name)) (wanted statement) ≡ true → IsBad lines before line
  unknown_bad (Global name) says e =
      unknown name says (λ c. false≢true (sym (not-true (known name) e) ∙ any_from_line (is_some_and (gives name)) (Define name) (names_symbol name says.0) says.0 lines all h_all c))
  unknown_bad (ToLabel inst name) says e =
      nowhere inst name says (λ c. false≢true (sym (not-true (known name) e) ∙ any_from_line (is_some_and (gives name)) (Label name) (names_label name says.0.2) says.0.2 lines all h_all c))
  unknown_bad other says e = absurd (false≢true e)

  by_tests : (statement : Statement) → Says line statement → (a b c : Bool) → is_early opened statement ≡ a → is_some_and seen (named statement) ≡ b →
      is_some_and (λ name. not (known name)) (wanted statement) ≡ c → (a || b || c) ≡ true → IsBad lines before line
  by_tests statement says true b c p q r e = early_bad statement says p
  by_tests statement says false true c p q r e = again_bad statement says q
  by_tests statement says false false c p q r e = unknown_bad statement says (r ∙ e)

  pub bad_when : (reading : Option Statement) → Reads (Says line) reading → refuses opened seen known reading ≡ true → IsBad lines before line
  bad_when None h e = outside h
  bad_when (Some statement) h e = by_tests statement h _ _ _ refl refl refl e

  in_section : opened ≡ true → ¬ (Contains before (statement_line Text)) → ⊥
  in_section e none = none (line_from_any (is_some_and opens) Text opens_tests before some h_some e)

  at : (reading : Option Statement) (statement : Statement) → Reads (Says line) reading → Says line statement → refuses opened seen known reading ≡ false → refuses opened seen known (Some statement) ≡ false
  at reading statement h says e = ap (refuses opened seen known) (sym (reads_that line reading statement h says)) ∙ e

  pub not_bad_when : (reading : Option Statement) → Reads (Says line) reading → refuses opened seen known reading ≡ false → IsBad lines before line → ⊥
  not_bad_when None h e bad = false≢true (sym e)
  not_bad_when (Some statement) h e (outside none) = none statement h
  not_bad_when (Some statement) h e (early other says needs closed) =
      let parts = or_parts (is_early opened other) _ (or_parts _ _ (at (Some statement) other h says e)).0 in
      in_section (not-false opened (ap (λ b. b && not opened) (sym needs) ∙ parts.0)) closed
  not_bad_when (Some statement) h e (again name says c) =
      let parts = or_parts (not opened) (seen name) (or_parts _ false (at (Some statement) (Define name) h says e)).0 in
      false≢true (sym parts.1
      ∙ any_from_line (is_some_and (gives name)) (Define name) (names_symbol name says.0) says.0 before some h_some (subst (Contains before) says.1 c))
  not_bad_when (Some statement) h e (twice name says c) =
      let parts = or_parts (not opened) (seen name) (or_parts _ false (at (Some statement) (Label name) h says e)).0 in
      false≢true (sym parts.1
      ∙ any_from_line (is_some_and (gives name)) (Label name) (names_label name says.0) says.0 before some h_some (subst (Contains before) says.1 c))
  not_bad_when (Some statement) h e (unknown name says none) =
      none (line_from_any (is_some_and (gives name)) (Define name) (names_symbol name says.0) lines all h_all
      (not-false (known name) (at (Some statement) (Global name) h says e)))
  not_bad_when (Some statement) h e (nowhere inst name says none) =
      let parts = or_parts (not opened || false) (not (known name)) (at (Some statement) (ToLabel inst name) h says e) in
      none (line_from_any (is_some_and (gives name)) (Label name) (names_label name says.0.2) lines all h_all
      (not-false (known name) parts.1))

pub refused_is_bad : (lines : List (List ℕ)) (readings : List (Option Statement)) (k : ℕ) → AreRead lines readings → k < length lines → refuses_at readings k ≡ true → IsBad lines (take k lines) (slice_index_or lines k [])
refused_is_bad lines readings k h l e =
    bad_when lines (take k lines) readings (take k readings) h (read_first lines readings k h) (slice_index_or lines k []) (slice_index_or readings k None) (read_at lines readings k h l) e

pub passed_is_not_bad : (lines : List (List ℕ)) (readings : List (Option Statement)) (k : ℕ) → AreRead lines readings → k < length lines → refuses_at readings k ≡ false → IsBad lines (take k lines) (slice_index_or lines k []) → ⊥
passed_is_not_bad lines readings k h l e =
    not_bad_when lines (take k lines) readings (take k readings) h (read_first lines readings k h) (slice_index_or lines k []) (slice_index_or readings k None) (read_at lines readings k h l) e
