-- Sets of names.
use Rattle.std.proofs.Common.{◌≡◌, ◌||◌, ◌∙◌, ℕ, List, Bool, true, false, refl, cond, Bor}
use Rattle.std.specs.HashSet.{HashSet, UpdatesBy}
use Rattle.std.specs.Str.{bytes_eq}
use Rattle.asm_read.specs.Checks.{has}

or_is : (a b : Bool) → cond a true b ≡ (a || b)
or_is true b = refl
or_is false b = refl

-- a set after a name is inserted
pub has_added : {S : Type 0} (m n : HashSet (Bor (List ℕ)) S) (name : List ℕ)
    → UpdatesBy (λ x y. bytes_eq x.now y.now) (λ k. bytes_eq name k.now) m n true
    → (q : List ℕ) → has n q ≡ (bytes_eq name q || has m q)
has_added m n name h q = h.0 (record { ref_ptr = (0, 0); now = q }) ∙ or_is (bytes_eq name q) (has m q)
