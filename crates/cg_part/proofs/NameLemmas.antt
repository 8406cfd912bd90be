-- The names of definitions: they stand without quotes, and are no label's and none of the runtime's.
use Rattle.std.proofs.Common.{◌≡◌, ◌<◌, ◌++◌, ◌∷◌, [], ℕ, List, true, false, not, ◌&&◌, ◌||◌, All, sym, subst, codes, arith}
use Rattle.std.specs.Prelude.{◌==◌, bytes_eq, nat_eq}
use Rattle.std.specs.List.{list_all, starts_with}
use Rattle.std.proofs.lemmas.Bool.{and_parts, both_ways, or_parts}
use Rattle.std.proofs.lemmas.Bool.Decides.{nat_tests}
use Rattle.std.proofs.lemmas.List.Elements.{All-cons, All-nil}
use Rattle.ir_naming.specs.Reserved.{begins_digit, is_label_name, is_reserved}
use Rattle.rv_isa.specs.Symbol.{IsLabel, IsSymbol, is_digit, is_number, is_symbol_byte}
use Rattle.cg_built.specs.Built.{is_built_name}
use Rattle.cg_built.proofs.BareNames.{bare_bytes, name_is_bare, name_not_reserved}

-- a name that is not reserved differs from each that is
pub free_differs : (name other : List ℕ) → is_reserved name ≡ false → is_reserved other ≡ true → name ≡ other → ⊥
free_differs name other free taken same = both_ways (is_reserved other) (subst (λ n. is_reserved n ≡ false) same free) taken

-- nor does it begin as the labels of blocks do
free_of_labels : (name : List ℕ) → is_reserved name ≡ false → is_label_name name ≡ false
free_of_labels name free =
    (or_parts (bytes_eq name (codes "_start") || starts_with nat_eq name (codes "__host_") || starts_with nat_eq name (codes "llvm.")) (is_label_name name) free).1

number_begins : (digits rest : List ℕ) → is_number digits ≡ true → begins_digit (digits ++ rest) ≡ true
number_begins [] rest number = absurd (cc)
number_begins (d ∷ []) rest number = number
number_begins (d ∷ e ∷ more) rest number =
    (and_parts (is_digit d) (not (d == 48)) (and_parts (is_digit d && not (d == 48)) (list_all is_digit (e ∷ more)) number).0).0

-- so it is no label,
no_label : (name : List ℕ) → is_reserved name ≡ false → IsLabel name → ⊥
no_label name free (f, b, is, number, last) =
    both_ways (is_label_name name) (free_of_labels name free)
    (subst (λ n. is_label_name n ≡ true) (sym is) (number_begins f (95 ∷ b) number))

-- and the assembler reads it as a symbol
symbol_byte_small : (b : ℕ) → is_symbol_byte b ≡ true → b < 256
symbol_byte_small b symbol = grind (arith, nat_tests, symbol)

small_bytes : (bytes : List ℕ) → list_all is_symbol_byte bytes ≡ true → All (λ b. b < 256) bytes
small_bytes [] all = All-nil (λ b. b < 256)
small_bytes (b ∷ bytes) all =
    let parts = and_parts (is_symbol_byte b) (list_all is_symbol_byte bytes) all in
    All-cons (λ x. x < 256) b bytes (symbol_byte_small b parts.0) (small_bytes bytes parts.1)

pub name_is_symbol : (name : List ℕ) → is_built_name name ≡ true → IsSymbol name
name_is_symbol name built = (small_bytes name (bare_bytes name (name_is_bare name built)), no_label name (name_not_reserved name built))
