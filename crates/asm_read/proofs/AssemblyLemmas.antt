-- From what was read to the text: it is an assembly, or its first bad line is known.
use Rattle.std.proofs.Common.{◌≡◌, ◌<◌, ◌≤◌, ◌+◌, ◌⊎◌, ◌↔◌, ◌∙◌, ℕ, zero, suc, List, [], ◌∷◌, ◌++◌, Bool, true, false, Option, Some, None, All, map, IsTrue, inl, inr, refl, sym, ap, subst, arith, length, length-append, take, drop, slice_index_or}
use Rattle.std.proofs.lemmas.Bool.{false≢true}
use Rattle.std.proofs.lemmas.List.{length-map, take-append-drop}
use Rattle.std.proofs.lemmas.List.Elements.{All-cons, All-head, All-nil, All-tail}
use Rattle.std.specs.List.{list_any}
use Rattle.asm_read.specs.Assembly.{Assembles, IsObjectOf, HasLines, IsAssembly, IsBadLine, IsFarLine, IsFirstBad, IsRefusal, IsRefusedLine}
use Rattle.asm_read.specs.Checks.{AreRead, IsEnd, IsFirstRefused, IsMissed, IsRefused, gives, is_far_at, statements_in, refuses, refuses_at}
use Rattle.asm_read.specs.Labels.{is_some_and}
use Rattle.asm_line.specs.Statements.{IsStatement, opens}
use Rattle.rv_isa.specs.declared.inst.Line.{Line}
use Rattle.rv_isa.specs.declared.statement.Statement.{Statement}
use Rattle.asm_read.specs.declared.object.Object.{Object}
use Rattle.asm_read.specs.declared.object.ObjectSymbol.{ObjectSymbol}
use Rattle.asm_read.specs.declared.refusal.AsmRefusal.TheVariants.{Line as RefusedLine}
use Rattle.asm_read.proofs.BadLemmas.{passed_is_not_bad, read_first, read_length, refused_is_bad}
use Rattle.asm_read.proofs.FarLemmas.{IsAnyRefused, far_said, readings_are, split}
use Rattle.asm_inst.proofs.BytesLemmas.{tail_same}
use Rattle.asm_line.proofs.StatementLemmas.{statement_once}
use Rattle.rv_isa.specs.Statements.{statement_line}
use Rattle.asm_read.proofs.PieceLemmas.{lines_of_statements, lines_once, text_is_lines}

-- every line is read
abbrev AllSaid : List (Option Statement) → Type 0
AllSaid readings = (k : ℕ) → k < length readings → slice_index_or readings k None ≡ None → ⊥

said_tail : (r : Option Statement) (readings : List (Option Statement)) → AllSaid (r ∷ readings) → AllSaid readings
said_tail r readings h k l e = h (suc k) (omega arith) e

lines_said : (lines : List (List ℕ)) (readings : List (Option Statement)) → AreRead lines readings → AllSaid readings → lines ≡ map statement_line (statements_in readings)
lines_said [] [] h said = refl
lines_said [] (r ∷ readings) h said = absurd h
lines_said (line ∷ lines) [] h said = absurd h
lines_said (line ∷ lines) (None ∷ readings) h said = absurd (said 0 (omega arith) refl)
lines_said (line ∷ lines) (Some statement ∷ readings) h said =
    ap (λ l. l ∷ lines) h.0.1 ∙ ap (λ ls. statement_line statement ∷ ls) (lines_said lines readings h.1 (said_tail (Some statement) readings said))

all_some : (readings : List (Option Statement)) → AllSaid readings → readings ≡ map (λ s. Some s) (statements_in readings)
all_some [] said = refl
all_some (None ∷ readings) said = absurd (said 0 (omega arith) refl)
all_some (Some statement ∷ readings) said = ap (λ rs. Some statement ∷ rs) (all_some readings (said_tail (Some statement) readings said))

take_length : (n : ℕ) (xs : List (Option Statement)) → n ≤ length xs → length (take n xs) ≡ n
take_length zero xs l = refl
take_length (suc n) [] l = absurd (omega (arith, l))
take_length (suc n) (x ∷ xs) l = ap suc (take_length n xs (omega (arith, l)))

get_or-take : (xs : List (Option Statement)) (n k : ℕ) (d : Option Statement) → k < n → slice_index_or (take n xs) k d ≡ slice_index_or xs k d
get_or-take xs zero k d l = absurd (omega (arith, l))
get_or-take [] (suc n) k d l = refl
get_or-take (x ∷ xs) (suc n) zero d l = refl
get_or-take (x ∷ xs) (suc n) (suc k) d l = get_or-take xs n k d (omega (arith, l))

drop_all : (n : ℕ) (xs : List (List ℕ)) → length xs ≤ n → drop n xs ≡ []
drop_all zero [] l = refl
drop_all zero (x ∷ xs) l = absurd (omega (arith, l))
drop_all (suc n) [] l = refl
drop_all (suc n) (x ∷ xs) l = drop_all n xs (omega (arith, l))

pub statements_said : (lines : List (List ℕ)) (readings : List (Option Statement)) → AreRead lines readings → All IsStatement (statements_in readings)
statements_said [] [] h = All-nil IsStatement
statements_said [] (r ∷ readings) h = absurd h
statements_said (line ∷ lines) [] h = absurd h
statements_said (line ∷ lines) (None ∷ readings) h = statements_said lines readings h.1
statements_said (line ∷ lines) (Some statement ∷ readings) h = All-cons IsStatement statement (statements_in readings) h.0.0 (statements_said lines readings h.1)

module _ (lines : List (List ℕ)) (last : List ℕ) (readings : List (Option Statement)) (whole : Bool) (read : AreRead lines readings) (ends : IsTrue whole ↔ (last ≡ [])) where
  refused_bad : (k : ℕ) → IsRefused readings whole k → IsBadLine lines last k
  refused_bad k (inl (l, e)) =
      let within : k < length lines = omega (arith, read_length lines readings read) in
      inl (within, refused_is_bad lines readings k read within e)
  refused_bad k (inr (e, open')) =
      inr (e ∙ sym (read_length lines readings read), λ nothing. false≢true (sym open' ∙ ends.1 nothing))

  by_test : (k : ℕ) → (IsRefused readings whole k → ⊥) → (b : Bool) → k < length lines → refuses_at readings k ≡ b → b ≡ false
  by_test k fine true l e = absurd (fine (inl (omega (arith, read_length lines readings read), e)))
  by_test k fine false l e = refl

  by_end : (k : ℕ) → (IsRefused readings whole k → ⊥) → (b : Bool) → k ≡ length lines → whole ≡ b → last ≡ []
  by_end k fine true at e = ends.0 e
  by_end k fine false at e = absurd (fine (inr (at ∙ read_length lines readings read, e)))

  fine_not_bad : (k : ℕ) → (IsRefused readings whole k → ⊥) → IsBadLine lines last k → ⊥
  fine_not_bad k fine (inl (l, bad)) = passed_is_not_bad lines readings k read l (by_test k fine (refuses_at readings k) l refl) bad
  fine_not_bad k fine (inr (at, some)) = some (by_end k fine whole at refl)

  bad_refused : (k : ℕ) → k ≤ length readings → IsBadLine lines last k → IsRefused readings whole k
  bad_refused k within bad = elim (split k (length readings) within) [
    | inl l ↦ by_line l (refuses_at readings k) refl
    | inr e ↦ by_last e whole refl
  ]
    where
      by_line : k < length readings → (b : Bool) → refuses_at readings k ≡ b → IsRefused readings whole k
      by_line l true e = inl (l, e)
      by_line l false e = absurd (fine_not_bad k (not_line l e) bad)
        where
          not_line : k < length readings → refuses_at readings k ≡ false → IsRefused readings whole k → ⊥
          not_line l e (inl (m, r)) = false≢true (sym e ∙ r)
          not_line l e (inr (same, r)) = omega (arith, same, l)

      by_last : k ≡ length readings → (b : Bool) → whole ≡ b → IsRefused readings whole k
      by_last same false e = inr (same, e)
      by_last same true e = absurd (fine_not_bad k (not_last same e) bad)
        where
          not_last : k ≡ length readings → whole ≡ true → IsRefused readings whole k → ⊥
          not_last same e (inl (m, r)) = omega (arith, same, m)
          not_last same e (inr (also, r)) = false≢true (sym r ∙ e)

  -- the lines before the end say statements
  module _ (end : ℕ) (h : IsEnd readings whole end) where
    first_said : AllSaid (take end readings)
    first_said k l e =
        let m : k < end = omega (arith, l, take_length end readings h.within) in
        let n : k < length readings = omega (arith, m, h.within) in
        let none : slice_index_or readings k None ≡ None = sym (get_or-take readings end k None m) ∙ e in
        h.fine k m (inl (n, ap (refuses (list_any (is_some_and opens) (take k readings)) (λ q. list_any (is_some_and (gives q)) (take k readings)) (λ q. list_any (is_some_and (gives q)) readings)) none))

    first_are : take end readings ≡ map (λ s. Some s) (statements_in (take end readings))
    first_are = all_some (take end readings) first_said

    first_length : length (statements_in (take end readings)) ≡ end
    first_length =
        let counted : length (take end readings) ≡ length (statements_in (take end readings)) = ap length first_are ∙ length-map (statements_in (take end readings)) (λ s. Some s) in
        omega (arith, counted, take_length end readings h.within, h.within)

    pub missed_far : (k : ℕ) → is_far_at (take end readings) k ≡ true → IsFarLine lines last k
    missed_far k far = record {
      statements = statements_in (take end readings);
      rest = drop end lines;
      are = sym (take-append-drop end lines) ∙ ap (λ ls. ls ++ drop end lines) (lines_said (take end lines) (take end readings) (read_first lines readings end read) first_said);
      allowed = statements_said (take end lines) (take end readings) (read_first lines readings end read);
      fine = λ j l. fine_not_bad j (h.fine j (omega (arith, l, first_length)));
      ends = ends_of h.ends;
      far = sym (far_said (statements_in (take end readings)) k) ∙ ap (λ xs. is_far_at xs k) (sym first_are) ∙ far;
    }
      where
        ends_of : (end ≡ length readings) ⊎ IsRefused readings whole end → (drop end lines ≡ []) ⊎ IsBadLine lines last (length (statements_in (take end readings)))
        ends_of (inl e) = inl (drop_all end lines (omega (arith, e, read_length lines readings read)))
        ends_of (inr refused) = inr (subst (IsBadLine lines last) (sym first_length) (refused_bad end refused))

  far_missed : (k : ℕ) → IsFarLine lines last k → IsMissed readings whole k
  far_missed k f =
      let end : ℕ = length f.statements in
      let counted : length lines ≡ end + length f.rest = ap length f.are ∙ length-append (map statement_line f.statements) f.rest ∙ ap (λ n. n + length f.rest) (length-map f.statements statement_line) in
      let within : end ≤ length readings = omega (arith, counted, read_length lines readings read) in
      let same : take end readings ≡ map (λ s. Some s) f.statements = readings_are f.statements f.rest readings f.allowed (subst (λ ls. AreRead ls readings) f.are read) in (
        end,
        record {
          within = within;
          fine = λ j l refused. f.fine j l (refused_bad j refused);
          ends = ends_of within counted f.ends;
        },
        ap (λ xs. is_far_at xs k) same ∙ far_said f.statements k ∙ f.far,
      )
    where
      ends_of : length f.statements ≤ length readings → length lines ≡ length f.statements + length f.rest → (f.rest ≡ []) ⊎ IsBadLine lines last (length f.statements) → (length f.statements ≡ length readings) ⊎ IsRefused readings whole (length f.statements)
      ends_of within counted (inl e) = inl (omega (arith, counted, ap length e, read_length lines readings read))
      ends_of within counted (inr bad) = inr (bad_refused (length f.statements) within bad)

  any_bad : (k : ℕ) → IsAnyRefused readings whole k → IsRefusedLine lines last k
  any_bad k (inl refused) = inl (refused_bad k refused)
  any_bad k (inr missed) = inr (missed_far missed.0 missed.1 k missed.2)

  none_bad : (k : ℕ) → (IsAnyRefused readings whole k → ⊥) → IsRefusedLine lines last k → ⊥
  none_bad k fine (inl bad) = fine_not_bad k (λ refused. fine (inl refused)) bad
  none_bad k fine (inr far) = fine (inr (far_missed k far))

  pub first_bad : (k : ℕ) → IsFirstRefused readings whole k → IsFirstBad lines last k
  first_bad k first = (any_bad k first.0, λ j l. none_bad j (first.1 j l))

  all_said : ((k : ℕ) → IsRefused readings whole k → ⊥) → AllSaid readings
  all_said fine k l e = fine k (inl (l, ap (refuses (list_any (is_some_and opens) (take k readings)) (λ q. list_any (is_some_and (gives q)) (take k readings)) (λ q. list_any (is_some_and (gives q)) readings)) e))

  pub accepted : (text : List ℕ) → HasLines text lines last → ((k : ℕ) → IsAnyRefused readings whole k → ⊥) → IsAssembly text (statements_in readings)
  accepted text has fine =
      let each : (k : ℕ) → IsRefused readings whole k → ⊥ = λ k refused. fine k (inl refused) in
      let nothing : last ≡ [] = by_end (length lines) (each (length lines)) whole refl refl in
      let said : lines ≡ map statement_line (statements_in readings) = lines_said lines readings read (all_said each) in
      record {
        spelled = text_is_lines text (map statement_line (statements_in readings)) (subst (λ ls. HasLines text ls []) said (subst (λ l. HasLines text lines l) nothing has));
        allowed = statements_said lines readings read;
        no_bad_line = λ k bad. none_bad k (fine k) (subst (λ ls. IsRefusedLine ls last k) (sym said) (subst (λ l. IsRefusedLine (map statement_line (statements_in readings)) l k) (sym nothing) bad));
      }

-- the lines of an assembly
assembly_lines : (text : List ℕ) (statements : List Statement) → IsAssembly text statements → HasLines text (map statement_line statements) []
assembly_lines text statements h = subst (λ t. HasLines t (map statement_line statements) []) (sym h.spelled) (lines_of_statements statements h.allowed)

pub statements_once : (statements more : List Statement) → All IsStatement statements → All IsStatement more → map statement_line statements ≡ map statement_line more → statements ≡ more
statements_once [] [] h k e = refl
statements_once [] (g ∷ more) h k e = cc
statements_once (f ∷ statements) [] h k e = cc
statements_once (f ∷ statements) (g ∷ more) h k e =
    let first : statement_line f ≡ statement_line g = cc in
    let rest = statements_once statements more (All-tail IsStatement f statements h) (All-tail IsStatement g more k) (tail_same (statement_line f) (statement_line g) (map statement_line statements) (map statement_line more) e) in
    let same = statement_once f g (All-head IsStatement f statements h) (All-head IsStatement g more k) first in
    cc

-- a text is the assembly of one list of statements
pub assembly_once : (text : List ℕ) (statements more : List Statement) → IsAssembly text statements → IsAssembly text more → statements ≡ more
assembly_once text statements more h k =
    statements_once statements more h.allowed k.allowed
    (lines_once text (map statement_line statements) (map statement_line more) [] [] (assembly_lines text statements h) (assembly_lines text more k)).0

-- and then no line of it is refused
pub never_refused : (text : List ℕ) (statements : List Statement) (line : ℕ) → IsAssembly text statements → IsRefusal text (RefusedLine line) → ⊥
never_refused text statements line h (lines, last, k, has, first, is) =
    let same = lines_once text lines (map statement_line statements) last [] has (assembly_lines text statements h) in
    h.no_bad_line k (subst (λ l. IsRefusedLine (map statement_line statements) l k) same.1 (subst (λ ls. IsRefusedLine ls last k) same.0 first.0))

abbrev object_with : List Line → List ObjectSymbol → List (List ℕ) → Object
object_with words symbols needs = record { words = words; symbols = symbols; needs = needs }

-- statements have one object
one_object : (statements : List Statement) (one other : Object) → IsObjectOf statements one → IsObjectOf statements other → one ≡ other
one_object statements one other first second =
    ap (λ words. object_with words one.symbols one.needs) (first.has_words ∙ sym second.has_words)
    ∙ ap (λ symbols. object_with other.words symbols one.needs) (first.has_symbols ∙ sym second.has_symbols)
    ∙ ap (λ needs. object_with other.words other.symbols needs) (first.has_no_needs ∙ sym second.has_no_needs)

-- a text assembles to one object at most
pub assembled_once : (text : List ℕ) (one other : Object) → Assembles text one → Assembles text other → one ≡ other
assembled_once text one other first second =
    one_object second.0 one other
    (subst (λ statements. IsObjectOf statements one) (assembly_once text first.0 second.0 first.1 second.1) first.2) second.2
