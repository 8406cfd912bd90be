-- A token that is an integer type has a width of at most 64.
use Rattle.std.proofs.Common.{◌≡◌, codes, slice_index, ℕ, ◌≤◌, Bool, true, false, not, ◌&&◌, ◌==◌, List, [], ◌∷◌, ap, arith, drop, if◌then◌else◌, refl, sym, ◌∙◌}
use Rattle.std.proofs.lemmas.Bool.Decides.{nat_tests}
use Rattle.std.specs.List.{list_all}
use Rattle.std.specs.Str.{bytes_eq}
use Rattle.ir_lex.specs.Literals.{decimal_after}
use Rattle.ir_lex.specs.declared.kind.Kind.{Kind}
use Rattle.ir_lex.specs.declared.kind.Kind.TheVariants as kind
use Rattle.ir_words.specs.Classes.{class_in, first, head_text, same}
use Rattle.ir_words.specs.Intrinsics.{begins_with, global_class, global_name, intrinsic_class, is_sized, name_class, named, sized}
use Rattle.ir_words.specs.Lexemes.{Lexeme}
use Rattle.ir_words.specs.Words.{Entry, is_int_type, is_width, looked_up, word_class, words}
use Rattle.ir_words.specs.declared.class.Class.{Class}
use Rattle.ir_words.specs.declared.class.Class.TheVariants as class

abbrev is_other : Class → Bool
is_other c = not (same c class.IntType)

-- a table without integer types finds none
not_listed : (table : List Entry) (word : List ℕ) (other : Class) → list_all (λ (e : Entry). is_other e.1) table ≡ true → is_other other ≡ true
    → is_other (looked_up table word other) ≡ true
not_listed [] word other all o = o
not_listed (e ∷ table) word other all o = pick (is_other e.1) (list_all (λ (e : Entry). is_other e.1) table) (bytes_eq e.0 word) refl all (λ r. not_listed table word other r o)
  where
    pick : (here rest found : Bool) → is_other e.1 ≡ here → (here && rest) ≡ true → (rest ≡ true → is_other (looked_up table word other) ≡ true)
        → is_other (if found then e.1 else looked_up table word other) ≡ true
    pick true true true h all later = h
    pick true true false h all later = later refl
    pick true false found h all later = absurd (cc)
    pick false rest found h all later = absurd (cc)

no_class : (c : Class) → is_other c ≡ true → c ≡ class.IntType → ⊥
no_class c o e = absurd_bool (sym o ∙ ap is_other e)
  where
    absurd_bool : true ≡ false → ⊥
    absurd_bool e = absurd (cc)

module _ (text : List ℕ) where
  word_width : word_class text ≡ class.IntType → is_width (drop 1 text) ≡ true
  unfolding word_class
  word_width e = go (is_int_type text) (is_width (drop 1 text)) (slice_index text 0 == 36) refl e
    where
      go : (numbered wide dollar : Bool) → is_width (drop 1 text) ≡ wide
          → (if numbered then (if wide then class.IntType else class.Unsupported) else if dollar then class.Unsupported else looked_up words text class.Attribute) ≡ class.IntType
          → is_width (drop 1 text) ≡ true
      go true true dollar w e = w
      go true false dollar w e = absurd (cc)
      go false wide true w e = absurd (cc)
      go false wide false w e = absurd (no_class _ (not_listed words text class.Attribute refl refl) e)

  intrinsic_other : is_other (intrinsic_class text) ≡ true
  unfolding intrinsic_class
  intrinsic_other = go (begins_with (codes "llvm.dbg.") text) (begins_with (codes "llvm.lifetime.") text) (is_sized sized text)
    where
      go : (dbg lifetime is_sized : Bool)
          → is_other (if dbg then class.MetadataIntrinsic else if lifetime then class.DroppedIntrinsic else if is_sized then class.Intrinsic else looked_up named text class.UnknownIntrinsic) ≡ true
      go true lifetime is_sized = refl
      go false true is_sized = refl
      go false false true = refl
      go false false false = not_listed named text class.UnknownIntrinsic refl refl

  name_other : is_other (name_class text) ≡ true
  unfolding name_class
  name_other = go (begins_with (codes "llvm.") text)
    where
      go : (begins : Bool) → is_other (if begins then intrinsic_class text else class.Global) ≡ true
      go true = intrinsic_other
      go false = refl

  width_fits : is_width text ≡ true → decimal_after 0 text ≤ 64
  unfolding is_width
  width_fits e = grind (arith, nat_tests)

global_other : (text : List ℕ) → is_other (global_class text) ≡ true
unfolding global_class
global_other text = name_other (global_name text)

kind_fits : (k : Kind) (text : List ℕ) → class_in k text ≡ class.IntType → decimal_after 0 (drop 1 text) ≤ 64
kind_fits kind.Word text e = width_fits (drop 1 text) (word_width text e)
kind_fits kind.Global text e = absurd (no_class _ (global_other text) e)
kind_fits _ text e = absurd (cc)

pub fits : (ts : List Lexeme) → first ts ≡ class.IntType → decimal_after 0 (drop 1 (head_text ts)) ≤ 64
fits [] e = absurd (cc)
fits (t ∷ ts) e = kind_fits t.kind t.text e
