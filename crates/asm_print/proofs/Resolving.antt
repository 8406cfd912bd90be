-- The one text of items resolves.
use Rattle.std.proofs.Common.{◌≡◌, ◌+◌, ◌∷◌, [], ℕ, List, cond, zero, suc, All, Contains, map, ap, sym, ◌∙◌, subst, arith}
use Rattle.std.specs.Prelude.{bytes_eq}
use Rattle.std.specs.List.{list_any}
use Rattle.std.proofs.lemmas.Cmp.{nat_list_eq_equiv}
use Rattle.std.proofs.lemmas.Map.Views.{list_any-from_Contains}
use Rattle.rv_isa.specs.Symbol.{spelled}
use Rattle.asm_print.specs.Items.{IsItem, Item, items_text}
use Rattle.asm_print.specs.Resolving.{Resolves}
use Rattle.asm_print.specs.Symbols.{needs_of, symbols_of}
use Rattle.asm_print.proofs.Symbols.{items_needs, items_symbols}

-- the one text of a list
one_text : (one text : List ℕ) → Contains (one ∷ []) text → text ≡ one
one_text one text (zero, inside, here) = sym here
one_text one text (suc k, inside, here) = absurd (omega arith)

resolves_by : (defined declared : List (List ℕ)) (text : List ℕ) → symbols_of text ≡ defined → needs_of text ≡ [] → Resolves defined declared (text ∷ [])
resolves_by defined declared text symbols needs = record {
  once = λ symbol among.
      ap (λ t. 0 + cond t 1 0) (ap (list_any (bytes_eq symbol)) symbols ∙ list_any-from_Contains nat_list_eq_equiv symbol defined among);
  no_other = λ t symbol is among.
      subst (λ all. Contains all symbol) symbols (subst (λ u. Contains (symbols_of u) symbol) (one_text text t is) among);
  needed = λ t symbol is among.
      let none : Contains [] symbol = subst (λ all. Contains all symbol) needs (subst (λ u. Contains (needs_of u) symbol) (one_text text t is) among) in
      absurd (omega (arith, none.1));
}

pub items_resolve : (items : List Item) (declared : List (List ℕ)) → All IsItem items →
    Resolves (map (λ item. spelled item.name) items) declared (items_text items ∷ [])
items_resolve items declared formed =
    resolves_by (map (λ item. spelled item.name) items) declared (items_text items) (items_symbols items formed) (items_needs items formed)
