-- The names of the items of a module in the order of the text (LangRef, "Module Structure").
use Rattle.std.proofs.Common.{◌≡◌, ◌∙◌, sym, ap}
use base.Stored.{Coded, Gv, gnum, gcons}
use Rattle.std.specs.Prelude.{ℕ, Bool, true, is_some, nat_le, List, [], ◌∷◌, map, if◌then◌else◌}
use Rattle.ir_ident.specs.Codes.{bool_back, bool_back_code, bool_code, first, name_back, name_back_code, name_code, number_back, second}
use Rattle.ir_ident.specs.declared.name.Name.{Name}
use Rattle.ir_ident.specs.declared.name.NameUse.{NameUse}
use Rattle.ir_syntax.specs.Definitions.{has_body}
use Rattle.ir_syntax.specs.declared.alias.Alias.{Alias}
use Rattle.ir_syntax.specs.declared.function.Function.{Function}
use Rattle.ir_syntax.specs.declared.global.Global.{Global}
use Rattle.ir_syntax.specs.declared.module.Module.{Module}

-- an item by its place among all items, the line of its first token, whether it is defined, and its name
pub record NamedItem : Type 0 where
  pub place : ℕ
  pub line : ℕ
  pub defined : Bool
  pub name : Name

-- such an item as a tree of numbers, and back
abbrev pub item_tree : NamedItem → Gv
item_tree i = gcons (gnum i.place) (gcons (gnum i.line) (gcons (bool_code i.defined) (name_code i.name)))

abbrev pub item_back : Gv → NamedItem
item_back g = record {
  place = number_back (first g);
  line = number_back (first (second g));
  defined = bool_back (first (second (second g)));
  name = name_back (second (second (second g)));
}

abbrev pub item_back_tree : (i : NamedItem) → item_back (item_tree i) ≡ i
item_back_tree i =
    ap (λ d. record { place = i.place; line = i.line; defined = d; name = name_back (name_code i.name) }) (bool_back_code i.defined)
    ∙ ap (λ n. record { place = i.place; line = i.line; defined = i.defined; name = n }) (name_back_code i.name)

abbrev pub item_code : Coded NamedItem
item_code = record { code = item_tree; inj = λ x y p. sym (item_back_tree x) ∙ ap item_back p ∙ item_back_tree y }

abbrev pub variable_item : Global → NamedItem
variable_item g = record { place = g.place; line = g.line; defined = is_some g.init; name = g.name }

abbrev pub function_item : Function → NamedItem
function_item f = record { place = f.place; line = f.line; defined = has_body f; name = f.name }

abbrev pub alias_item : Alias → NamedItem
alias_item a = record { place = a.place; line = a.line; defined = true; name = a.name }

-- an item and more, and other items, in the order of their places, where `rest` puts the others in order with those
abbrev pub merged_with : NamedItem → (List NamedItem → List NamedItem) → List NamedItem → List NamedItem
merged_with x rest [] = x ∷ rest []
merged_with x rest (y ∷ ys) = if nat_le x.place y.place then x ∷ rest (y ∷ ys) else y ∷ merged_with x rest ys

-- two lists of items in the order of their places, each in this order by itself
unfoldable pub merged : List NamedItem → List NamedItem → List NamedItem
merged [] ys = ys
merged (x ∷ xs) ys = merged_with x (merged xs) ys

-- the variables, functions and aliases of a module in the order of the text
abbrev pub named_items : Module → List NamedItem
named_items m = merged (map variable_item m.globals) (merged (map function_item m.functions) (map alias_item m.aliases))

-- such an item's name with its line
abbrev pub item_use : NamedItem → NameUse
item_use i = record { line = i.line; name = i.name }
