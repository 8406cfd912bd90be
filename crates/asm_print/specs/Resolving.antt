-- When the symbols of texts resolve.
use Rattle.std.specs.Prelude.{◌≡◌, ℕ, bytes_eq, List, ◌⊎◌, count_by, Contains}
use Rattle.std.specs.List.{list_any}
use Rattle.asm_print.specs.Symbols.{globals_of, needs_of, symbols_of}

-- in how many of the texts a symbol is, by the symbols of each
abbrev pub texts_with : (List ℕ → List (List ℕ)) → List ℕ → List (List ℕ) → ℕ
texts_with symbols symbol texts = count_by (λ text. list_any (bytes_eq symbol) (symbols text)) texts

-- Each symbol that is defined stands in exactly one text, no other stands in any, and each that a text needs
-- is its own, one that exactly one text exports, or a declared one.
pub record Resolves (defined declared : List (List ℕ)) (texts : List (List ℕ)) : Type 0 where
  pub once : (symbol : List ℕ) → Contains defined symbol → texts_with symbols_of symbol texts ≡ 1
  pub no_other : (text symbol : List ℕ) → Contains texts text → Contains (symbols_of text) symbol → Contains defined symbol
  pub needed : (text symbol : List ℕ) → Contains texts text → Contains (needs_of text) symbol →
      Contains (symbols_of text) symbol ⊎ (texts_with globals_of symbol texts ≡ 1) ⊎ Contains declared symbol
