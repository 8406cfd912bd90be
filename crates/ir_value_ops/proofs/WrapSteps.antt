-- Words that say that nothing wraps, one after the other.
use Rattle.std.proofs.Common.{◌≡◌, ap, refl, sym, ◌∙◌, Bool, true, false, not, ◌||◌, List, [], ◌∷◌, Ok, Err}
use Rattle.std.specs.List.{list_any}
use Rattle.std.specs.Prelude.{fold}
use Rattle.ir_rules.specs.Repeats.{into}
use Rattle.ir_rules.specs.Rules.{Answer}
use Rattle.ir_value_ops.specs.ValueOps.{Wraps, with_wrap, wraps_of}

or_assoc : (a b c : Bool) → a || (b || c) ≡ (a || b) || c
or_assoc true b c = refl
or_assoc false b c = refl

or_none : (a : Bool) → a || false ≡ a
or_none true = refl
or_none false = refl

joined : (w : Wraps) (words : List Bool) → fold with_wrap w words ≡ (w.0 || list_any (λ word. word) words, w.1 || list_any not words)
joined w [] = sym (ap (λ b. (b, w.1 || false)) (or_none w.0) ∙ ap (λ b. (w.0, b)) (or_none w.1))
joined w (word ∷ words) =
    joined (with_wrap w word) words
    ∙ sym (ap (λ b. (b, w.1 || (not word || list_any not words))) (or_assoc w.0 word (list_any (λ word. word) words))
    ∙ ap (λ b. ((w.0 || word) || list_any (λ word. word) words, b)) (or_assoc w.1 (not word) (list_any not words)))

-- one after the other, they give what all say
pub wraps_join : (o : Answer (List Bool)) → into (λ words. fold with_wrap (false, false) words) o ≡ into wraps_of o
wraps_join (Ok q) = ap (λ w. Ok (w, q.1)) (joined (false, false) q.0)
wraps_join (Err n) = refl
