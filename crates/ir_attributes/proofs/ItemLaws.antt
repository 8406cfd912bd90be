-- The rules of items and of attached metadata behind them keep the laws.
use Rattle.std.proofs.Common.{◌≡◌, Bool, true, false, List, [], ◌∷◌, ◌++◌, Some, None, ap, refl, ◌∙◌}
use Rattle.std.specs.Prelude.{Option, filter_map}
use Rattle.ir_words.specs.declared.class.Class.TheVariants as class
use Rattle.ir_rules.specs.Laws.{Lawful}
use Rattle.ir_rules.specs.Rules.{Rule, all_in, apart, when}
use Rattle.ir_rules.proofs.Chains.{chain_lawful}
use Rattle.ir_rules.proofs.Laws.{either_lawful, made_lawful, within_lawful}
use Rattle.ir_rules.proofs.Words.{before_law}
use Rattle.ir_attributes.specs.Items.{item_forms, items, may_follow, next_part}
use Rattle.ir_attributes.proofs.AttributeLaws.{attachment_law}

module _ {A : Type 0} (item : Rule A) (law : Lawful item) (some : item.nullable ≡ false) (last : item.flast ≡ []) (other : apart item.firsts (class.Meta ∷ []) ≡ true) where
  -- nothing goes on behind an item
  nothing_on : all_in ((item.flast ++ when item.nullable (class.Meta ∷ [])) ++ when (item.nullable) []) [] ≡ true
  nothing_on =
      ap (λ l. all_in ((l ++ when item.nullable (class.Meta ∷ [])) ++ when item.nullable []) []) last
      ∙ ap (λ n. all_in (([] ++ when n (class.Meta ∷ [])) ++ when n []) []) some

  pub next_part_law : (before : Bool) → Lawful (next_part item before)
  unfolding next_part
  next_part_law true =
      within_lawful _ _ _ _ (before_law class.Comma _ refl refl (either_lawful _ _ (made_lawful (λ (u : Unit {0}). None) _ attachment_law)
      (made_lawful (λ (x : A). Some x) _ law) refl other)) refl nothing_on refl
  next_part_law false = within_lawful _ _ _ _ (before_law class.Comma _ refl refl (made_lawful (λ (u : Unit {0}). None) _ attachment_law)) refl refl refl

  -- the sets of both states are the same
  pub next_part_some : (before : Bool) → (next_part item before).nullable ≡ false
  unfolding next_part
  next_part_some true = refl
  next_part_some false = refl

  next_part_firsts : (before : Bool) → all_in (next_part item before).firsts (class.Comma ∷ []) ≡ true
  unfolding next_part
  next_part_firsts true = refl
  next_part_firsts false = refl

  next_part_flast : (before : Bool) → all_in (next_part item before).flast [] ≡ true
  unfolding next_part
  next_part_flast true = refl
  next_part_flast false = refl

  pub items_law : Lawful (items item)
  unfolding item_forms
  items_law =
      within_lawful _ _ _ _ (made_lawful (λ (found : List (Option A)). filter_map (λ x. x) found) _
      (chain_lawful (class.Comma ∷ []) [] (next_part item) may_follow next_part_law next_part_some next_part_firsts next_part_flast refl true)) refl refl refl
