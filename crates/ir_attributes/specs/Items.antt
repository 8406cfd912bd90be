-- Items that each follow a comma, and attached metadata behind them.
use Rattle.std.specs.Prelude.{Bool, true, false, Option, Some, None, List, [], ◌∷◌, filter_map}
use Rattle.ir_words.specs.declared.class.Class.TheVariants.{Comma}
use Rattle.ir_rules.specs.Rules.{Rule, ◌▷◌, chain, either, made, within}
use Rattle.ir_attributes.specs.Attributes.{attachment}

-- , META META
abbrev pub next_attachment : (A : Type 0) → Rule (Option A)
next_attachment A = Comma ▷ made (λ (u : Unit {0}). None) attachment

-- , META META | , item
abbrev pub next_item : {A : Type 0} → Rule A → Rule (Option A)
next_item {A} item = Comma ▷ either (made (λ (u : Unit {0}). None) attachment) (made (λ (x : A). Some x) item)

-- behind metadata no item stands
unfoldable pub next_part : {A : Type 0} → Rule A → Bool → Rule (Option A)
next_part item true = within (Comma ∷ []) [] false (next_item item)
next_part {A} item false = within (Comma ∷ []) [] false (next_attachment A)

abbrev pub may_follow : {A : Type 0} → Bool → Option A → Bool
may_follow before None = false
may_follow before (Some x) = before

-- (, item)* md*
unfoldable pub item_forms : {A : Type 0} → Rule A → Rule (List A)
item_forms {A} item = made (λ (found : List (Option A)). filter_map (λ x. x) found) (chain (Comma ∷ []) [] (next_part item) may_follow true)

abbrev pub items : {A : Type 0} → Rule A → Rule (List A)
items item = within (Comma ∷ []) (Comma ∷ []) true (item_forms item)
