-- What the readings tell of the lines.
use Rattle.std.proofs.Common.{◌≡◌, ◌||◌, ◌⊎◌, ◌∙◌, ℕ, zero, suc, List, [], ◌∷◌, Bool, true, false, Option, Some, None, inl, inr, refl, sym, ap, subst, arith}
use Rattle.std.proofs.lemmas.Bool.{false≢true}
use Rattle.std.proofs.lemmas.Bool.Decides.{nat_tests}
use Rattle.std.proofs.lemmas.Slice.Eq.{bytes_eq-Decides}
use Rattle.std.specs.List.{Contains, list_any}
use Rattle.rv_isa.specs.Statements.{statement_line}
use Rattle.rv_isa.specs.Symbol.{IsLabel, IsSymbol}
use Rattle.asm_read.specs.Checks.{AreRead, gives}
use Rattle.asm_read.specs.Labels.{is_some_and}
use Rattle.asm_line.specs.Statements.{IsStatement, Says, opens}
use Rattle.asm_inst.specs.Readings.{Reads}
use Rattle.rv_isa.specs.declared.statement.Statement.{Statement}
use Rattle.rv_isa.specs.declared.statement.Statement.TheVariants.{Text, Define, Label}
use Rattle.asm_line.proofs.StatementLemmas.{said_once}

-- a line is read as what it says
pub reads_that : (line : List ℕ) (reading : Option Statement) (statement : Statement) → Reads (Says line) reading → Says line statement → reading ≡ Some statement
reads_that line None statement h k = absurd (h statement k)
reads_that line (Some other) statement h k = ap Some (said_once line other statement h k)

pub first_or_more : {A : Type 0} (x y : A) (xs : List A) → Contains (x ∷ xs) y → (x ≡ y) ⊎ Contains xs y
first_or_more x y xs (zero, l, e) = inl e
first_or_more x y xs (suc k, l, e) = inr (k, omega arith, e)

pub contains_first : {A : Type 0} (x y : A) (xs : List A) → x ≡ y → Contains (x ∷ xs) y
contains_first x y xs e = (0, omega arith, e)

pub contains_more : {A : Type 0} (x y : A) (xs : List A) → Contains xs y → Contains (x ∷ xs) y
contains_more x y xs h = (suc h.0, omega (arith, h.1), h.2)

module _ (test : Option Statement → Bool) (statement : Statement) where
  -- a line that says the statement passes the test, and no other
  abbrev pub IsTestOf : Type 0
  IsTestOf = (test (Some statement) ≡ true) × (test None ≡ false) × ((s : Statement) → IsStatement s → test (Some s) ≡ true → s ≡ statement)

  pub any_from_line : IsTestOf → IsStatement statement → (lines : List (List ℕ)) (readings : List (Option Statement)) → AreRead lines readings → Contains lines (statement_line statement) → list_any test readings ≡ true
  any_from_line t f [] [] h (k, l, e) = absurd (omega arith)
  any_from_line t f [] (r ∷ readings) h c = absurd h
  any_from_line t f (line ∷ lines) [] h c = absurd h
  any_from_line t f (line ∷ lines) (r ∷ readings) h c = of (first_or_more line (statement_line statement) lines c) (any_from_line t f lines readings h.1)
    where
      passes : (reading : Option Statement) → reading ≡ Some statement → (test reading || list_any test readings) ≡ true
      passes reading e = ap (λ x. test x || list_any test readings) e ∙ ap (λ b. b || list_any test readings) t.0

      or_true : (a b : Bool) → b ≡ true → (a || b) ≡ true
      or_true a b e = grind (arith, nat_tests)

      of : (line ≡ statement_line statement) ⊎ Contains lines (statement_line statement) → (Contains lines (statement_line statement) → list_any test readings ≡ true) → (test r || list_any test readings) ≡ true
      of (inl e) more = passes r (reads_that line r statement h.0 (f, e))
      of (inr c) more = or_true (test r) (list_any test readings) (more c)

  pub line_from_any : IsTestOf → (lines : List (List ℕ)) (readings : List (Option Statement)) → AreRead lines readings → list_any test readings ≡ true → Contains lines (statement_line statement)
  line_from_any t [] [] h e = cc
  line_from_any t [] (r ∷ readings) h e = absurd h
  line_from_any t (line ∷ lines) [] h e = absurd h
  line_from_any t (line ∷ lines) (r ∷ readings) h e = of (test r) refl (line_from_any t lines readings h.1)
    where
      said : (reading : Option Statement) → Reads (Says line) reading → test reading ≡ true → line ≡ statement_line statement
      said None h p = absurd (false≢true (sym t.1 ∙ p))
      said (Some s) h p = h.1 ∙ ap statement_line (t.2 s h.0 p)

      other : (a b : Bool) → a ≡ false → (a || b) ≡ true → b ≡ true
      other a b p q = grind (arith, nat_tests)

      of : (b : Bool) → test r ≡ b → (list_any test readings ≡ true → Contains lines (statement_line statement)) → Contains (line ∷ lines) (statement_line statement)
      of true p more = contains_first line (statement_line statement) lines (said r h.0 p)
      of false p more = contains_more line (statement_line statement) lines (more (other (test r) (list_any test readings) p e))

-- the tests of the checks
pub opens_tests : IsTestOf (is_some_and opens) Text
opens_tests = (refl, refl, only)
  where
    only : (s : Statement) → IsStatement s → is_some_and opens (Some s) ≡ true → s ≡ Text
    only Text f e = refl
    only other f e = cc

pub names_symbol : (q : List ℕ) → IsSymbol q → IsTestOf (is_some_and (gives q)) (Define q)
names_symbol q symbol = ((bytes_eq-Decides q q).1 refl, refl, only)
  where
    only : (s : Statement) → IsStatement s → is_some_and (gives q) (Some s) ≡ true → s ≡ Define q
    only (Define name) f e = ap Define (sym ((bytes_eq-Decides q name).0 e))
    only (Label name) f e = absurd (symbol.1 (subst IsLabel (sym ((bytes_eq-Decides q name).0 e)) f))
    only other f e = cc

pub names_label : (q : List ℕ) → IsLabel q → IsTestOf (is_some_and (gives q)) (Label q)
names_label q label = ((bytes_eq-Decides q q).1 refl, refl, only)
  where
    only : (s : Statement) → IsStatement s → is_some_and (gives q) (Some s) ≡ true → s ≡ Label q
    only (Label name) f e = ap Label (sym ((bytes_eq-Decides q name).0 e))
    only (Define name) f e = absurd (f.1 (subst IsLabel ((bytes_eq-Decides q name).0 e) label))
    only other f e = cc
