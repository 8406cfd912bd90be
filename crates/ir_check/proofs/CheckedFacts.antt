-- What is true of each module that passed the checks.
use Rattle.std.proofs.Common.{◌≡◌, ◌∙◌, ◌≤◌, suc, Bool, true, false, Option, None, Some, is_some, List, [], ◌∷◌, cond, filter, length, map, refl, sym, ap, subst}
use Rattle.std.specs.Prelude.{find, nat_lt, option_map}
use Rattle.std.specs.List.{flat_map, list_any}
use Rattle.std.proofs.lemmas.Bool.{ltb-false}
use Rattle.ir_cfg.specs.Sizes.{function_size, module_size}
use Rattle.ir_check.specs.Checks.{IsChecked, IsCheckedFrom, checked_module}
use Rattle.ir_check.specs.Limits.{exceeded_limit}
use Rattle.ir_check.proofs.NoLines.{none_joined, none_least}
use Rattle.ir_ident.specs.Names.{name_bytes}
use Rattle.ir_naming.specs.Items.{NamedItem, alias_item, function_item, item_use, merged, named_items, variable_item}
use Rattle.ir_naming.specs.Repeated.{local_names, repeated_lines, repeats, type_name}
use Rattle.ir_naming.specs.Reserved.{is_misnamed}
use Rattle.ir_mentions.specs.Mentions.{mentioned_places, mentions}
use Rattle.ir_plan.proofs.UnnamedLemmas.{all_places-checked, planned_types-checked}
use Rattle.ir_plan.specs.Planned.{planned, planned_types}
use Rattle.ir_prune.specs.Pruned.{pruned, pruned_body, pruned_function}
use Rattle.ir_rewrite.specs.Inits.{rewritten_init}
use Rattle.ir_rewrite.specs.Modules.{rewritten_alias, rewritten_global, rewritten_module}
use Rattle.ir_rewrite.specs.Rewritten.{each, rewritten_block, rewritten_function}
use Rattle.ir_syntax.specs.Definitions.{defined_functions, has_body}
use Rattle.ir_syntax.specs.Types.{TextTree}
use Rattle.ir_syntax.specs.declared.alias.Alias.{Alias}
use Rattle.ir_syntax.specs.declared.block.Block.{Block}
use Rattle.ir_syntax.specs.declared.function.Function.{Function}
use Rattle.ir_syntax.specs.declared.global.Global.{Global}
use Rattle.ir_syntax.specs.declared.module.Module.{Module}
use Rattle.ir_syntax.specs.declared.operand.GepParts.{GepParts}
use Rattle.ir_syntax.specs.declared.refusal.Count.{Count}
use Rattle.ir_syntax.specs.declared.refusal.Count.TheVariants.{Arguments, Functions, Instructions, OneFunction, TypePlaces}
use Rattle.ir_unname.specs.Unnamed.{byte_offset, without_names}
use Rattle.ty_core.specs.Plans.{all_places, plan_limit}

same_each : {A B : Type 0} (item : A → B) (new : A → A) → ((x : A) → item (new x) ≡ item x) → (xs : List A) → map item (map new xs) ≡ map item xs
same_each item new same [] = refl
same_each item new same (x ∷ xs) = λ k. same x k ∷ same_each item new same xs k

same_count : {A : Type 0} (test : A → Bool) (new : A → A) → ((x : A) → test (new x) ≡ test x) → (xs : List A) →
    length (filter test (map new xs)) ≡ length (filter test xs)
same_count test new same [] = refl
same_count test new same (x ∷ xs) =
    ap (λ t. length (cond t (new x ∷ filter test (map new xs)) (filter test (map new xs)))) (same x)
    ∙ by (test x) (same_count test new same xs)
  where
    by : (t : Bool) → length (filter test (map new xs)) ≡ length (filter test xs) →
        length (cond t (new x ∷ filter test (map new xs)) (filter test (map new xs))) ≡ length (cond t (x ∷ filter test xs) (filter test xs))
    by true same = ap (λ n. suc n) same
    by false same = same

some_mapped : {A : Type 0} (f : A → A) (o : Option A) → is_some (option_map f o) ≡ is_some o
some_mapped f None = refl
some_mapped f (Some x) = refl

pruned_has : (f : Function) → has_body (pruned_function f) ≡ has_body f
pruned_has f = by f.blocks
  where
    by : (blocks : Option (List Block)) → is_some (pruned_body blocks) ≡ is_some blocks
    by None = refl
    by (Some blocks) = refl

-- an item by whether it is defined
abbrev function_by : Function → Bool → NamedItem
function_by f defined = record { place = f.place; line = f.line; defined = defined; name = f.name }

-- no item is lost with unreachable blocks
items_pruned : (m : Module) → named_items (pruned m) ≡ named_items m
items_pruned m =
    ap (λ functions. merged (map variable_item m.globals) (merged functions (map alias_item m.aliases)))
    (same_each function_item pruned_function (λ f. ap (function_by f) (pruned_has f)) m.functions)

module _ (ty_of : TextTree → TextTree) (gep_of : GepParts → GepParts) where
  unnamed_has : (f : Function) → has_body (rewritten_function ty_of gep_of f) ≡ has_body f
  unnamed_has f = some_mapped (each rewritten_block ty_of gep_of) f.blocks

  same_variable : (g : Global) → variable_item (rewritten_global ty_of gep_of g) ≡ variable_item g
  same_variable g =
      ap (λ defined. record { place = g.place; line = g.line; defined = defined; name = g.name }) (some_mapped (rewritten_init ty_of gep_of) g.init)

  same_alias : (a : Alias) → alias_item (rewritten_alias ty_of gep_of a) ≡ alias_item a
  same_alias a = refl

  -- nor with the names of types
  items_rewritten : (m : Module) → named_items (rewritten_module ty_of gep_of m) ≡ named_items m
  items_rewritten m = λ i.
      merged (same_each variable_item (rewritten_global ty_of gep_of) same_variable m.globals i)
      (merged (same_each function_item (rewritten_function ty_of gep_of) (λ f. ap (function_by f) (unnamed_has f)) m.functions i)
      (same_each alias_item (rewritten_alias ty_of gep_of) same_alias m.aliases i))

-- so the items are those of the module that was checked
items_kept : (m : Module) → named_items (checked_module m) ≡ named_items m
items_kept m = items_rewritten (without_names (pruned m).types) (byte_offset (pruned m).types) (pruned m) ∙ items_pruned m

-- and as many functions are defined
count_kept : (m : Module) → length (defined_functions (checked_module m)) ≡ length (defined_functions m)
count_kept m =
    same_count has_body (rewritten_function (without_names (pruned m).types) (byte_offset (pruned m).types))
    (unnamed_has (without_names (pruned m).types) (byte_offset (pruned m).types)) (pruned m).functions
    ∙ same_count has_body pruned_function pruned_has m.functions

-- no two items have one name
pub items_differ : (c : Module) → IsChecked c → repeats (map item_use (named_items c)) ≡ []
items_differ c (m, from) =
    let none = none_least (repeated_lines m) from.keeps.0.0.0.0.0 in
    let type_names = none_joined (repeats (map type_name m.types)) _ none in
    let names = none_joined (repeats (map item_use (named_items m))) (flat_map (λ f. repeats (local_names f)) m.functions) type_names.1 in
    ap (λ n. repeats (map item_use (named_items n))) from.is ∙ ap (λ items. repeats (map item_use items)) (items_kept m) ∙ names.0

-- no item has a name that it may not have
pub items_free : (c : Module) → IsChecked c → find is_misnamed (named_items c) ≡ None
items_free c (m, from) =
    ap (λ n. find is_misnamed (named_items n)) from.is ∙ ap (find is_misnamed) (items_kept m) ∙ none_mapped (find is_misnamed (named_items m)) from.keeps.0.0.0.0.1
  where
    none_mapped : (found : Option NamedItem) → option_map (λ i. name_bytes i.name) found ≡ None → found ≡ None
    none_mapped None none = refl
    none_mapped (Some i) some = absurd (cc)

-- no more functions are defined than may be
pub few_defined : (c : Module) → IsChecked c → length (defined_functions c) ≤ 4096
few_defined c (m, from) =
    subst (λ n. n ≤ 4096) (sym (ap (λ n. length (defined_functions n)) from.is ∙ count_kept m)) (by (nat_lt 4096 (length (defined_functions m))) refl)
  where
    chosen : {A : Type 0} (t : Bool) (a : A) (rest : Option A) → t ≡ true → is_some (cond t (Some a) rest) ≡ true
    chosen true a rest is = refl
    chosen false a rest is = absurd (cc)

    none_chosen : is_some (exceeded_limit m) ≡ true → exceeded_limit m ≡ None → ⊥
    none_chosen some none = cc

    by : (t : Bool) → nat_lt 4096 (length (defined_functions m)) ≡ t → length (defined_functions m) ≤ 4096
    by true many = absurd (none_chosen (chosen _ Functions _ many) from.keeps.1)
    by false few = ltb-false 4096 (length (defined_functions m)) few

-- the mentioned types have no more places than they may have
few_places : (m : Module) → exceeded_limit m ≡ None → mentioned_places m ≤ 4194304
few_places m none =
    let many = list_any (λ f. nat_lt 65536 (function_size f)) m.functions in
    let long = list_any (λ f. nat_lt 64 (length f.params)) m.functions in
    let places = cond (nat_lt 4194304 (mentioned_places m)) (Some TypePlaces) None in
    let params = cond long (Some Arguments) places in
    let all = cond (nat_lt 262144 (module_size m)) (Some Instructions) params in
    by (nat_lt 4194304 (mentioned_places m)) refl
    (rest_none long Arguments places
    (rest_none (nat_lt 262144 (module_size m)) Instructions params
    (rest_none many OneFunction all
    (rest_none (nat_lt 4096 (length (defined_functions m))) Functions (cond many (Some OneFunction) all) none))))
  where
    rest_none : (t : Bool) (which : Count) (rest : Option Count) → cond t (Some which) rest ≡ None → rest ≡ None
    rest_none true which rest is = absurd (cc)
    rest_none false which rest is = is

    by : (t : Bool) → nat_lt 4194304 (mentioned_places m) ≡ t → cond t (Some TypePlaces) None ≡ None → mentioned_places m ≤ 4194304
    by true many is = absurd (cc)
    by false few is = ltb-false 4194304 (mentioned_places m) few

-- a plan of its types has no more than that
pub plan_fits : (c : Module) → IsChecked c → all_places (planned_types c) ≤ plan_limit
plan_fits c (m, from) =
    subst (λ n. n ≤ plan_limit) (sym (ap (λ n. all_places (planned_types n)) from.is ∙ all_places-checked m)) (few_places m from.keeps.1)

-- and these are the types of the module that was checked
pub plan_of_source : (m c : Module) → IsCheckedFrom m c → planned_types c ≡ planned m.types (mentions m)
plan_of_source m c from = ap planned_types from.is ∙ planned_types-checked m
