-- One line more, in the search for the first that is refused.
use Rattle.std.proofs.Common.{◌≡◌, ◌<◌, ◌+◌, ◌&&◌, ◌||◌, ◌∙◌, ℕ, List, Bool, not, Option, Some, None, refl, sym, ap, take, get_or, length}
use Rattle.std.proofs.Math.Bool.{or_comm}
use Rattle.std.proofs.lemmas.List.{get_or_default}
use Rattle.std.proofs.lemmas.List.Folds.{list_any_more}
use Rattle.std.specs.List.{list_any}
use Rattle.asm_read.specs.Assembly.{needs_section}
use Rattle.asm_read.specs.Checks.{gives, refuses, refuses_at}
use Rattle.asm_read.specs.Labels.{is_some_and}
use Rattle.asm_line.specs.Statements.{named, opens, wanted}
use Rattle.rv_isa.specs.declared.statement.Statement.{Statement}

joined : (a b x y : Bool) → a ≡ x → b ≡ y → (a || b) ≡ (x || y)
joined a b x y p q = cc

any_more : {A : Type 0} (p : A → Bool) (xs : List A) (k : ℕ) (x : A) → k < length xs → x ≡ get_or xs k x → list_any p (take (k + 1) xs) ≡ (list_any p (take k xs) || p x)
any_more p xs k x l e = list_any_more p xs k x l ∙ ap (λ y. list_any p (take k xs) || p y) (sym e)

pub opened_more : (lines : List (Option Statement)) (k : ℕ) (line : Option Statement) (opened here : Bool) → k < length lines → line ≡ get_or lines k line
    → opened ≡ list_any (is_some_and opens) (take k lines) → here ≡ is_some_and opens line → (opened || here) ≡ list_any (is_some_and opens) (take (k + 1) lines)
opened_more lines k line opened here l e p q = joined opened here _ _ p q ∙ sym (any_more (is_some_and opens) lines k line l e)

-- p holds of the lines that were read or of the next one
pub seen_more : (p : Option Statement → Bool) (lines : List (Option Statement)) (k : ℕ) (line : Option Statement) (after before : Bool) → k < length lines → line ≡ get_or lines k line
    → before ≡ list_any p (take k lines) → after ≡ (p line || before) → after ≡ list_any p (take (k + 1) lines)
seen_more p lines k line after before l e h s = s ∙ or_comm (p line) before ∙ joined before (p line) _ _ h refl ∙ sym (any_more p lines k line l e)

same_named : (p q : List ℕ → Bool) (name : Option (List ℕ)) → ((n : List ℕ) → p n ≡ q n) → is_some_and p name ≡ is_some_and q name
same_named p q None same = refl
same_named p q (Some name) same = same name

refuses_same : (line : Option Statement) (o o' : Bool) (s s' k k' : List ℕ → Bool) → o ≡ o' → ((q : List ℕ) → s q ≡ s' q) → ((q : List ℕ) → k q ≡ k' q) → refuses o s k line ≡ refuses o' s' k' line
refuses_same None o o' s s' k k' e f g = refl
refuses_same (Some statement) o o' s s' k k' e f g =
    joined _ _ _ _
    (joined _ _ _ _ (ap (λ b. needs_section statement && not b) e) (same_named s s' (named statement) f))
    (same_named (λ name. not (k name)) (λ name. not (k' name)) (wanted statement) (λ name. ap not (g name)))

pub refused_here : (lines : List (Option Statement)) (k : ℕ) (line : Option Statement) (o : Bool) (s d : List ℕ → Bool) → k < length lines → line ≡ get_or lines k line
    → o ≡ list_any (is_some_and opens) (take k lines) → ((q : List ℕ) → s q ≡ list_any (is_some_and (gives q)) (take k lines)) → ((q : List ℕ) → d q ≡ list_any (is_some_and (gives q)) lines)
    → refuses o s d line ≡ refuses_at lines k
refused_here lines k line o s d l e p q r =
    refuses_same line o _ s _ d _ p q r
    ∙ ap (refuses (list_any (is_some_and opens) (take k lines)) (λ q. list_any (is_some_and (gives q)) (take k lines)) (λ q. list_any (is_some_and (gives q)) lines)) (e ∙ get_or_default lines k line None l)
