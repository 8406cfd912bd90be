-- The rules of types keep the laws.
use Rattle.std.proofs.Common.{◌≡◌, ℕ, zero, suc, true, false, List, [], ◌∷◌, Some, None, refl}
use Rattle.ir_lex.specs.Lengths.{minus_len}
use Rattle.ir_lex.specs.Literals.{decimal_after, is_in_range}
use Rattle.ir_syntax.specs.Types.{TextTree, int, ptr, array, struct, named, trees_from}
use Rattle.ir_ident.specs.declared.name.NameUse.{NameUse}
use Rattle.ir_words.specs.Words.{is_digits, is_int_type, is_width, word_class}
use Rattle.ir_words.specs.declared.class.Class.TheVariants as class
use Rattle.ir_rules.specs.Laws.{Lawful}
use Rattle.ir_rules.specs.Rules.{◌▷◌, ◌◁◌, commas, either}
use Rattle.ir_rules.proofs.Derived.{commas_lawful}
use Rattle.ir_rules.proofs.Laws.{either_lawful, made_lawful, seq_lawful, within_lawful}
use Rattle.ir_rules.proofs.Leaves.{leaf_lawful, lined_lawful}
use Rattle.ir_rules.proofs.Examples.{example}
use Rattle.ir_rules.proofs.Words.{after_law, before_law, means_law}
use Rattle.ir_types.specs.Names.{literal_of, name_of, use_of}
use Rattle.ir_types.specs.Types.{array_lengths, arrays, integer_types, literals, local_names, local_uses, of_types, result_types, simple_forms, simple_types, structs, types, types_in}

pub local_names_law : Lawful local_names
unfolding name_of
local_names_law = leaf_lawful _ _ (example class.Local) _ refl

pub local_uses_law : Lawful local_uses
local_uses_law = made_lawful use_of _ (lined_lawful local_names local_names_law refl)

pub literals_law : Lawful literals
unfolding literal_of is_in_range decimal_after minus_len
literals_law = leaf_lawful _ _ (example class.Int) _ refl

pub array_lengths_law : Lawful array_lengths
unfolding literal_of is_in_range decimal_after minus_len
array_lengths_law = leaf_lawful _ _ (example class.Int) 0 refl

integer_types_law : Lawful integer_types
unfolding word_class is_int_type is_digits is_width decimal_after
integer_types_law = leaf_lawful _ _ (example class.IntType) (int 1) refl

simple_forms_law : Lawful simple_forms
unfolding simple_forms
simple_forms_law =
    either_lawful _ _ integer_types_law
    (either_lawful _ _ (means_law class.Ptr ptr refl refl) (made_lawful (λ (n : NameUse). named n) _ local_uses_law) refl refl) refl refl

simple_types_law : Lawful simple_types
unfolding simple_forms
simple_types_law = within_lawful _ _ _ _ simple_forms_law refl refl refl

-- what the bracketed types of one more bracket are made of
module _ (depth : ℕ) (lt : Lawful (types depth)) where
  arrays_law : Lawful (arrays (types depth))
  arrays_law =
      made_lawful (λ (z : ℕ × TextTree). array z.0 z.1) _
      (before_law class.OpenSquare _ refl refl
      (seq_lawful array_lengths _ array_lengths_law
      (before_law class.Times _ refl refl (after_law (types depth) class.CloseSquare refl refl lt refl)) refl))

  fields_law : Lawful (commas (types depth))
  fields_law = commas_lawful (types depth) lt refl refl refl

  pub structs_law : Lawful (structs (types depth))
  structs_law =
      either_lawful _ _
      (made_lawful (λ (ts : List TextTree). struct false (trees_from ts)) _
      (before_law class.OpenCurly _ refl refl (after_law _ class.CloseCurly refl refl fields_law refl)))
      (made_lawful (λ (ts : List TextTree). struct true (trees_from ts)) _
      (before_law class.OpenPacked _ refl refl (after_law _ class.ClosePacked refl refl fields_law refl)))
      refl refl

  brackets_law : Lawful (of_types (either (arrays (types depth)) (either (structs (types depth)) simple_types)))
  brackets_law =
      within_lawful _ _ _ _ (either_lawful _ _ arrays_law (either_lawful _ _ structs_law simple_types_law refl refl) refl refl) refl refl refl

pub types_law : (depth : ℕ) → Lawful (types depth)
unfolding types_in
types_law zero = within_lawful _ _ _ _ simple_types_law refl refl refl
types_law (suc depth) = brackets_law depth (types_law depth)

pub result_types_law : Lawful result_types
result_types_law =
    within_lawful _ _ _ _ (either_lawful _ _ (means_law class.Void None refl refl) (made_lawful (λ (t : TextTree). Some t) _ (types_law 64)) refl refl) refl refl refl
