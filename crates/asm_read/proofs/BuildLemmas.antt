-- Symbols, one line more.
use Rattle.std.proofs.Common.{◌≡◌, ◌<◌, ◌+◌, ◌*◌, ◌||◌, ◌∙◌, ℕ, List, [], ◌∷◌, ◌++◌, Bool, Option, Some, None, pos, refl, sym, ap, arith, take, get_or, length, length-append}
use Rattle.std.proofs.lemmas.List.{append-nil, append_assoc, take_more}
use Rattle.std.proofs.lemmas.List.Elements.{filter_map-append}
use Rattle.std.specs.List.{flat_map, list_any}
use Rattle.rv_isa.specs.declared.statement.Statement.{Statement}
use Rattle.asm_read.specs.Assembly.{exports, symbol_at, symbols_after}
use Rattle.asm_read.specs.Labels.{is_some_and, size}
use Rattle.asm_read.specs.Checks.{in_line, statements_in}
use Rattle.asm_line.specs.Statements.{code, defined}
use Rattle.asm_read.specs.declared.object.ObjectSymbol.{ObjectSymbol}
use Rattle.asm_read.specs.declared.object.Section as section

-- what a line adds to the statements
pub statements_more : (lines : List (Option Statement)) (k : ℕ) (line : Option Statement) → k < length lines → line ≡ get_or lines k line
    → statements_in (take (k + 1) lines) ≡ statements_in (take k lines) ++ statements_in (line ∷ [])
statements_more lines k line l e =
    ap (λ xs. statements_in xs) (take_more lines k line l ∙ ap (λ x. take k lines ++ x ∷ []) (sym e)) ∙ filter_map-append (λ x. x) (take k lines) (line ∷ [])

-- a test of the lines is one of the statements
exported_is : (q : List ℕ) (lines : List (Option Statement)) → list_any (is_some_and (exports q)) lines ≡ list_any (exports q) (statements_in lines)
exported_is q [] = refl
exported_is q (None ∷ lines) = exported_is q lines
exported_is q (Some statement ∷ lines) = ap (λ b. exports q statement || b) (exported_is q lines)

-- the symbols of statements after others
symbols-append : (global : List ℕ → Bool) (before : ℕ) (prefix back : List Statement) →
    symbols_after global before (prefix ++ back) ≡ symbols_after global before prefix ++ symbols_after global (before + size prefix) back
symbols-append global before [] back = ap (λ n. symbols_after global n back) (omega arith)
symbols-append global before (statement ∷ prefix) back =
    let here : List ObjectSymbol = symbol_at global before (defined statement) in
    let next : ℕ = before + length (code statement) in
    let count : next + size prefix ≡ before + size (statement ∷ prefix) = omega (arith, length-append (code statement) (flat_map code prefix)) in
    ap (λ more. here ++ more) (symbols-append global next prefix back ∙ ap (λ n. symbols_after global next prefix ++ symbols_after global n back) count)
    ∙ sym (append_assoc here (symbols_after global next prefix) (symbols_after global (before + size (statement ∷ prefix)) back))

abbrev symbol_of : List ℕ → Bool → ℕ → ObjectSymbol
symbol_of name global n = record { name = name; global = global; section = section.TheVariants.Text; offset = pos (4 * n) }

symbol_same : (g global : List ℕ → Bool) (m n : ℕ) (name : Option (List ℕ)) → ((q : List ℕ) → g q ≡ global q) → m ≡ n → symbol_at g m name ≡ symbol_at global n name
symbol_same g global m n None same count = refl
symbol_same g global m n (Some name) same count =
    ap (λ b. symbol_of name b m ∷ []) (same name) ∙ ap (λ k. symbol_of name (global name) k ∷ []) count

symbol_added : (g global : List ℕ → Bool) (m n : ℕ) (line : Option Statement) → ((q : List ℕ) → g q ≡ global q) → m ≡ n →
    in_line (λ statement. symbol_at g m (defined statement)) line ≡ symbols_after global n (statements_in (line ∷ []))
symbol_added g global m n None same count = refl
symbol_added g global m n (Some statement) same count =
    symbol_same g global m n (defined statement) same count ∙ sym (append-nil (symbol_at global n (defined statement)))

pub symbols_more : (lines : List (Option Statement)) (k : ℕ) (line : Option Statement) (n : ℕ) (g : List ℕ → Bool) (old new : List ObjectSymbol) → k < length lines → line ≡ get_or lines k line
    → ((q : List ℕ) → g q ≡ list_any (is_some_and (exports q)) lines)
    → old ≡ symbols_after (λ q. list_any (exports q) (statements_in lines)) 0 (statements_in (take k lines)) → n ≡ size (statements_in (take k lines))
    → new ≡ old ++ in_line (λ statement. symbol_at g n (defined statement)) line
    → new ≡ symbols_after (λ q. list_any (exports q) (statements_in lines)) 0 (statements_in (take (k + 1) lines))
symbols_more lines k line n g old new l e h was count is =
    let global : List ℕ → Bool = λ q. list_any (exports q) (statements_in lines) in
    let prefix : List Statement = statements_in (take k lines) in
    let counted : n ≡ 0 + size prefix = omega (arith, count) in
    is ∙ ap (λ xs. xs ++ in_line (λ statement. symbol_at g n (defined statement)) line) was
    ∙ ap (λ xs. symbols_after global 0 prefix ++ xs) (symbol_added g global n _ line (λ q. h q ∙ exported_is q lines) counted)
    ∙ sym (symbols-append global 0 prefix (statements_in (line ∷ [])))
    ∙ ap (symbols_after global 0) (sym (statements_more lines k line l e))
