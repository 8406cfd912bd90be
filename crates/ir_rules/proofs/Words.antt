-- The rules that have words in them keep the laws.
use Rattle.std.proofs.Common.{◌≡◌, true, false, [], ◌∷◌}
use Rattle.ir_words.specs.Classes.{same}
use Rattle.ir_words.specs.declared.class.Class.{Class}
use Rattle.ir_words.specs.declared.class.Class.TheVariants as class
use Rattle.ir_rules.specs.Laws.{Lawful}
use Rattle.ir_rules.specs.Leaves.{flag, means}
use Rattle.ir_rules.specs.Rules.{Rule, ◌▷◌, ◌◁◌, apart, has, word}
use Rattle.ir_rules.proofs.Derived.{after_lawful, before_lawful}
use Rattle.ir_rules.proofs.Laws.{word_lawful}
use Rattle.ir_rules.proofs.Leaves.{flag_lawful, means_lawful}
use Rattle.ir_rules.proofs.Examples.{example, example_is}

pub word_law : (c : Class) → same class.End c ≡ false → has (c ∷ []) c ≡ true → Lawful (word c)
word_law c e h = word_lawful c (example c) (example_is c e) h

pub before_law : {A : Type 0} (c : Class) (a : Rule A) → same class.End c ≡ false → has (c ∷ []) c ≡ true → Lawful a → Lawful (c ▷ a)
before_law c a e h la = before_lawful c (example c) (example_is c e) h a la

pub after_law : {A : Type 0} (a : Rule A) (c : Class) → same class.End c ≡ false → has (c ∷ []) c ≡ true → Lawful a → apart a.flast (c ∷ []) ≡ true → Lawful (a ◁ c)
after_law a c e h la on = after_lawful a la c (example c) (example_is c e) h on

pub means_law : {A : Type 0} (c : Class) (x : A) → same class.End c ≡ false → has (c ∷ []) c ≡ true → Lawful (means c x)
means_law c x e h = means_lawful c x (example c) (example_is c e) h

pub flag_law : (c : Class) → same class.End c ≡ false → has (c ∷ []) c ≡ true → Lawful (flag c)
flag_law c e h = flag_lawful c (example c) (example_is c e) h
