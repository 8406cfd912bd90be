-- A word is sought among those that begin as it does.
use Rattle.std.proofs.Common.{◌≡◌, refl, ap, ℕ, ◌==◌, Bool, true, false, List, [], ◌∷◌, ◌∙◌, slice_index, cond, length}
use Rattle.std.proofs.lemmas.Bool.{eq-eqb, false_from_ne_true, false≢true}
use Rattle.std.proofs.lemmas.Slice.Eq.{bytes_eq-Decides}
use Rattle.std.specs.Str.{bytes_eq}
use Rattle.ir_words.specs.Words.{Entry, beginning, looked_up}
use Rattle.ir_words.specs.declared.class.Class.{Class}

-- an entry that is left out is not the word's
left_out : (begins is : Bool) (entry : Entry) (rest table : List Entry) (word : List ℕ) (other : Class) → bytes_eq entry.0 word ≡ is → (is ≡ true → begins ≡ true) → looked_up rest word other ≡ looked_up table word other → looked_up (cond begins (entry ∷ rest) rest) word other ≡ cond is entry.1 (looked_up table word other)
left_out true is entry rest table word other e h ih = ap (λ b. cond b entry.1 (looked_up rest word other)) e ∙ ap (λ x. cond is entry.1 x) ih
left_out false true entry rest table word other e h ih = absurd (false≢true (h refl))
left_out false false entry rest table word other e h ih = ih

pub only_beginning : (byte : ℕ) (table : List Entry) (word : List ℕ) (other : Class) → slice_index word 0 ≡ byte → looked_up (beginning byte table) word other ≡ looked_up table word other
only_beginning byte [] word other begins = refl
only_beginning byte (entry ∷ table) word other begins =
    left_out (slice_index entry.0 0 == byte) (bytes_eq entry.0 word) entry (beginning byte table) table word other refl
    (λ is. eq-eqb _ _ (ap (λ w. slice_index w 0) ((bytes_eq-Decides entry.0 word).0 is) ∙ begins))
    (only_beginning byte table word other begins)

-- texts of different lengths differ
pub other_length : (xs ys : List ℕ) → (length xs ≡ length ys → ⊥) → bytes_eq xs ys ≡ false
other_length xs ys other =
    false_from_ne_true (bytes_eq xs ys) (λ is. other (ap length ((bytes_eq-Decides xs ys).0 is)))
