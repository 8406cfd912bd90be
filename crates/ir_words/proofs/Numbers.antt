-- The numbers of classes tell them apart.
use Rattle.std.proofs.Common.{◌≡◌, refl, true}
use denote.Enum.Bare.{same_true}
use Rattle.ir_words.specs.Classes.{number, same}
use Rattle.ir_words.specs.contracts.class.Class.{the_type}
use Rattle.ir_words.specs.declared.class.Class.{Class}
use Rattle.ir_words.specs.declared.class.Class.TheVariants.{Attribute, End}

-- two classes that are the same are equal
pub same_is : (a b : Class) → same a b ≡ true → a ≡ b
same_is a b p = same_true the_type tt a b p

pub first_number : number End ≡ 0
first_number = refl

pub last_number : number Attribute ≡ 119
last_number = refl
