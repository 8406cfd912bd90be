-- The first 40 bytes of a name tell its class.
use Rattle.std.proofs.Common.{◌≡◌, refl, ap, sym, ◌∙◌, ℕ, ◌<◌, ◌≤◌, ◌&&◌, ◌||◌, ◌==◌, Bool, true, false, List, [], ◌∷◌, arith, codes, cond, drop, inl, inr, length, nat_le, nat_lt, slice_index, not, take}
use Rattle.std.proofs.lemmas.Bool.{and_parts, cases_lt, leb-true, lt-leb, ltb-true}
use Rattle.std.proofs.lemmas.List.{length-drop, length-take-le, take_all, take-take}
use Rattle.std.proofs.lemmas.Slice.Eq.{bytes_eq-Decides}
use Rattle.std.specs.List.{list_all}
use Rattle.std.specs.Str.{bytes_eq}
use Rattle.ir_lex.specs.Literals.{decimal_after}
use Rattle.ir_words.specs.Intrinsics.{begins_with, intrinsic_class, is_sized, name_class, named, sized}
use Rattle.ir_words.specs.Words.{Entry, is_digits, is_width, looked_up}
use Rattle.ir_words.specs.declared.class.Class.{Class}
use Rattle.ir_words.specs.declared.class.Class.TheVariants.{Global, MetadataIntrinsic, DroppedIntrinsic, Intrinsic, UnknownIntrinsic}

is_false : (b : Bool) → (b ≡ true → ⊥) → b ≡ false
is_false true never = absurd (never refl)
is_false false never = refl

not_found : (table : List Entry) (name : List ℕ) (other : Class) → list_all (λ entry. nat_lt (length entry.0) 40) table ≡ true → 40 ≤ length name → looked_up table name other ≡ other
not_found [] name other short long = refl
not_found (entry ∷ table) name other short long =
    let parts : (nat_lt (length entry.0) 40 ≡ true) × (list_all (λ e. nat_lt (length e.0) 40) table ≡ true) = and_parts _ _ short in
    ap (λ b. cond b entry.1 (looked_up table name other))
    (is_false (bytes_eq entry.0 name) (λ is. omega (arith, ap length ((bytes_eq-Decides entry.0 name).0 is), ltb-true _ _ parts.0, long)))
    ∙ not_found table name other parts.1 long

and_none : (a c d : Bool) → (a && false && c && d) ≡ false
and_none true c d = refl
and_none false c d = refl

long_width : (text : List ℕ) → 2 < length text → is_width text ≡ false
unfolding is_width
long_width text long =
    ap (λ b. is_digits text && b && not (slice_index text 0 == 48) && nat_le (decimal_after 0 text) 64) (lt-leb _ _ long)
    ∙ and_none (is_digits text) (not (slice_index text 0 == 48)) (nat_le (decimal_after 0 text) 64)

no_first : (a b : Bool) → ((a && false) || b) ≡ b
no_first true b = refl
no_first false b = refl

never_sized : (prefixes : List (List ℕ)) (name : List ℕ) → list_all (λ prefix. nat_le (length prefix) 30) prefixes ≡ true → 40 ≤ length name → is_sized prefixes name ≡ false
unfolding is_sized
never_sized [] name short long = refl
never_sized (prefix ∷ prefixes) name short long =
    let parts : (nat_le (length prefix) 30 ≡ true) × (list_all (λ f. nat_le (length f) 30) prefixes ≡ true) = and_parts _ _ short in
    ap (λ b. (begins_with prefix name && b) || is_sized prefixes name)
    (long_width (drop (length prefix) name) (omega (arith, length-drop (length prefix) name, leb-true _ _ parts.0, long)))
    ∙ no_first (begins_with prefix name) (is_sized prefixes name)
    ∙ never_sized prefixes name parts.1 long

-- the class of a long name, by what it begins with
picked : Bool → Bool → Bool → Class
picked llvm debug lifetime = cond llvm (cond debug MetadataIntrinsic (cond lifetime DroppedIntrinsic UnknownIntrinsic)) Global

long_class : (name : List ℕ) → 40 ≤ length name → name_class name ≡ picked (begins_with (codes "llvm.") name) (begins_with (codes "llvm.dbg.") name) (begins_with (codes "llvm.lifetime.") name)
unfolding name_class intrinsic_class picked
long_class name long =
    ap (λ b. cond (begins_with (codes "llvm.") name) (cond (begins_with (codes "llvm.dbg.") name) MetadataIntrinsic (cond (begins_with (codes "llvm.lifetime.") name) DroppedIntrinsic (cond b Intrinsic (looked_up named name UnknownIntrinsic)))) Global)
    (never_sized sized name refl long)
    ∙ ap (λ class. cond (begins_with (codes "llvm.") name) (cond (begins_with (codes "llvm.dbg.") name) MetadataIntrinsic (cond (begins_with (codes "llvm.lifetime.") name) DroppedIntrinsic class)) Global)
    (not_found named name UnknownIntrinsic refl long)

begins_alike : (prefix name : List ℕ) → length prefix ≤ 40 → begins_with prefix (take 40 name) ≡ begins_with prefix name
unfolding begins_with
begins_alike prefix name short = ap (λ xs. bytes_eq xs prefix) (take-take (length prefix) 40 name short)

long_alike : (name : List ℕ) → 40 ≤ length name → name_class (take 40 name) ≡ name_class name
long_alike name long =
    long_class (take 40 name) (omega (arith, length-take-le 40 name long))
    ∙ ap (λ b. picked b (begins_with (codes "llvm.dbg.") (take 40 name)) (begins_with (codes "llvm.lifetime.") (take 40 name))) (begins_alike (codes "llvm.") name (omega arith))
    ∙ ap (λ b. picked (begins_with (codes "llvm.") name) b (begins_with (codes "llvm.lifetime.") (take 40 name))) (begins_alike (codes "llvm.dbg.") name (omega arith))
    ∙ ap (λ b. picked (begins_with (codes "llvm.") name) (begins_with (codes "llvm.dbg.") name) b) (begins_alike (codes "llvm.lifetime.") name (omega arith))
    ∙ sym (long_class name long)

pub prefix_tells : (name : List ℕ) → name_class (take 40 name) ≡ name_class name
prefix_tells name = elim (cases_lt 40 (length name)) [
  | inl long ↦ long_alike name (omega (arith, long))
  | inr short ↦ ap name_class (take_all 40 name short)
]
