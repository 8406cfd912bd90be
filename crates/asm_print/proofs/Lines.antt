-- What the line of a statement defines, exports and needs.
use Rattle.std.proofs.Common.{◌≡◌, ◌+◌, ◌/◌, ◌%◌, ◌&&◌, ◌++◌, ◌∷◌, [], ℕ, List, Bool, true, false, not, cond, Option, Some, None, nat_eq, codes, drop, length, inl, inr, refl, ap, sym, subst, ◌∙◌, arith, append_assoc}
use Rattle.std.specs.Prelude.{◌==◌, bytes_eq, nat_le}
use Rattle.std.specs.List.{flat_map, list_all, starts_with}
use Rattle.std.proofs.Math.Seq.{drop-append_seam}
use Rattle.std.proofs.lemmas.Bool.{and_left, and_parts, both_ways, ne_eqb, not-true}
use Rattle.std.proofs.lemmas.List.{append-nil}
use Rattle.rv_isa.specs.Statements.{statement_line}
use Rattle.rv_isa.specs.Symbol.{IsLabel, escaped, is_bare, is_digit, is_symbol_byte, spelled}
use Rattle.rv_isa.specs.Text.{instruction_line, line_to}
use Rattle.rv_isa.specs.declared.inst.Inst.{Inst}
use Rattle.rv_isa.specs.declared.statement.Statement.{Statement}
use Rattle.rv_isa.specs.declared.statement.Statement.TheVariants.{Text, Global, Align, Define, Code, Unimp, Label, ToLabel}
use Rattle.asm_inst.specs.Grammar.{IsRead}
use Rattle.asm_line.specs.Statements.{IsStatement, defined, exported}
use Rattle.asm_inst.proofs.CodeLemmas.{are_calm, code_calm, is_calm}
use Rattle.asm_inst.proofs.OnceLemmas.{BeginsCode, code_begins}
use Rattle.asm_inst.proofs.OpenLemmas.{open_begins, open_kept}
use Rattle.asm_line.proofs.SymbolLemmas.{how_spelled}
use Rattle.asm_print.specs.Symbols.{after_percent, defined_in, exported_in, is_label, leading, needed_in, one_symbol, quoted_prefix, symbol_at}
use Rattle.asm_print.proofs.Labels.{bare_no_percent, is_label_when, is_no_percent, label_bare, no_label}

-- A name that stands without quotes.

record IsBareName (b : ℕ) (bytes : List ℕ) : Type 0 where
  symbol : is_symbol_byte b ≡ true
  digit : is_digit b ≡ false
  all : list_all is_symbol_byte (b ∷ bytes) ≡ true

bare_name : (b : ℕ) (bytes : List ℕ) → is_bare (b ∷ bytes) ≡ true → IsBareName b bytes
bare_name b bytes bare =
    let parts = and_parts (is_symbol_byte b && not (is_digit b)) (list_all is_symbol_byte bytes) bare in
    let first = and_parts (is_symbol_byte b) (not (is_digit b)) parts.0 in
    record {
      symbol = first.0;
      digit = not-true (is_digit b) first.1;
      all = ap (λ t. t && list_all is_symbol_byte bytes) first.0 ∙ parts.1;
    }

-- a byte that stands in no symbol differs from each that does
differs : (b c : ℕ) → is_symbol_byte c ≡ false → is_symbol_byte b ≡ true → b ≡ c → ⊥
differs b c other plain same = both_ways (is_symbol_byte c) other (subst (λ x. is_symbol_byte x ≡ true) same plain)

-- symbol bytes are read up to what follows them
all_leading : (bytes rest : List ℕ) → list_all is_symbol_byte bytes ≡ true → leading is_symbol_byte rest ≡ [] →
    leading is_symbol_byte (bytes ++ rest) ≡ bytes
all_leading [] rest all ends = ends
all_leading (b ∷ bytes) rest all ends =
    let parts = and_parts (is_symbol_byte b) (list_all is_symbol_byte bytes) all in
    ap (λ t. cond t (b ∷ leading is_symbol_byte (bytes ++ rest)) []) parts.0 ∙ ap (λ prefix. b ∷ prefix) (all_leading bytes rest parts.1 ends)

bare_read : (name rest : List ℕ) → is_bare name ≡ true → leading is_symbol_byte rest ≡ [] → symbol_at (name ++ rest) ≡ name
bare_read [] rest bare ends = absurd (cc)
bare_read (b ∷ bytes) rest bare ends =
    let first = bare_name b bytes bare in
    let prefix : List ℕ = leading is_symbol_byte (b ∷ (bytes ++ rest)) in
    ap (λ t. cond t (b ∷ quoted_prefix false (bytes ++ rest)) (cond (is_digit b) [] prefix)) (ne_eqb b 34 (λ e. differs b 34 refl first.symbol e))
    ∙ ap (λ t. cond t [] prefix) first.digit
    ∙ all_leading (b ∷ bytes) rest first.all ends

bare_no_tab : (name rest word : List ℕ) → is_bare name ≡ true → starts_with nat_eq (name ++ rest) (9 ∷ word) ≡ false
bare_no_tab [] rest word bare = absurd (cc)
bare_no_tab (b ∷ bytes) rest word bare = and_left _ _ (ne_eqb 9 b (λ e. differs b 9 refl (bare_name b bytes bare).symbol (sym e)))

bare_one : (name : List ℕ) → is_bare name ≡ true → one_symbol name ≡ name ∷ []
bare_one [] bare = absurd (cc)
bare_one (b ∷ bytes) bare = refl

-- A name between quotes.

plain_read : (b : ℕ) (rest : List ℕ) → (b == 34) ≡ false → (b == 92) ≡ false → quoted_prefix false (b ∷ rest) ≡ b ∷ quoted_prefix false rest
plain_read b rest quote escape =
    ap (λ t. cond t (b ∷ []) (b ∷ quoted_prefix (b == 92) rest)) quote ∙ ap (λ t. b ∷ quoted_prefix t rest) escape

digit_read : (n : ℕ) (rest : List ℕ) → quoted_prefix false ((48 + n % 8) ∷ rest) ≡ (48 + n % 8) ∷ quoted_prefix false rest
digit_read n rest = plain_read (48 + n % 8) rest (ne_eqb (48 + n % 8) 34 (λ e. omega arith)) (ne_eqb (48 + n % 8) 92 (λ e. omega arith))

-- the bytes that a byte becomes, by the tests of it
abbrev escaped_by : ℕ → Bool → Bool → Bool → List ℕ
escaped_by b quote escape shown =
    cond quote (92 ∷ 34 ∷ []) (cond escape (92 ∷ 92 ∷ []) (cond shown (b ∷ []) (92 ∷ (48 + b / 64) ∷ (48 + b / 8 % 8) ∷ (48 + b % 8) ∷ [])))

escape_read : (b : ℕ) (rest : List ℕ) → quoted_prefix false (escaped b ++ rest) ≡ escaped b ++ quoted_prefix false rest
escape_read b rest = by_tests (b == 34) (b == 92) (nat_le 32 b && nat_le b 126) refl refl
  where
    by_tests : (quote escape shown : Bool) → (b == 34) ≡ quote → (b == 92) ≡ escape →
        quoted_prefix false (escaped_by b quote escape shown ++ rest) ≡ escaped_by b quote escape shown ++ quoted_prefix false rest
    by_tests true escape shown is_quote is_escape = refl
    by_tests false true shown is_quote is_escape = refl
    by_tests false false true is_quote is_escape = plain_read b rest is_quote is_escape
    by_tests false false false is_quote is_escape =
        ap (λ more. 92 ∷ (48 + b / 64) ∷ more)
        (digit_read (b / 8) ((48 + b % 8) ∷ rest) ∙ ap (λ more. (48 + b / 8 % 8) ∷ more) (digit_read b rest))

escapes_read : (name rest : List ℕ) → quoted_prefix false (flat_map escaped name ++ rest) ≡ flat_map escaped name ++ quoted_prefix false rest
escapes_read [] rest = refl
escapes_read (b ∷ name) rest =
    ap (quoted_prefix false) (append_assoc (escaped b) (flat_map escaped name) rest)
    ∙ escape_read b (flat_map escaped name ++ rest)
    ∙ ap (λ more. escaped b ++ more) (escapes_read name rest)
    ∙ sym (append_assoc (escaped b) (flat_map escaped name) (quoted_prefix false rest))

quoted_read : (name rest : List ℕ) → symbol_at ((34 ∷ (flat_map escaped name ++ 34 ∷ [])) ++ rest) ≡ 34 ∷ (flat_map escaped name ++ 34 ∷ [])
quoted_read name rest =
    ap (λ inner. 34 ∷ quoted_prefix false inner) (append_assoc (flat_map escaped name) (34 ∷ []) rest)
    ∙ ap (λ inner. 34 ∷ inner) (escapes_read name (34 ∷ rest))

-- Any name, as it is spelled.

symbol_read : (name rest : List ℕ) → leading is_symbol_byte rest ≡ [] → symbol_at (spelled name ++ rest) ≡ spelled name
symbol_read name rest ends = elim (how_spelled (spelled name) name refl) [
  | inl bare ↦ ap (λ s. symbol_at (s ++ rest)) bare.1 ∙ bare_read name rest bare.0 ends ∙ sym bare.1
  | inr quoted ↦ ap (λ s. symbol_at (s ++ rest)) quoted.1 ∙ quoted_read name rest ∙ sym quoted.1
]

no_tab : (name rest word : List ℕ) → starts_with nat_eq (spelled name ++ rest) (9 ∷ word) ≡ false
no_tab name rest word = elim (how_spelled (spelled name) name refl) [
  | inl bare ↦ ap (λ s. starts_with nat_eq (s ++ rest) (9 ∷ word)) bare.1 ∙ bare_no_tab name rest word bare.0
  | inr quoted ↦ ap (λ s. starts_with nat_eq (s ++ rest) (9 ∷ word)) quoted.1
]

one_spelled : (name : List ℕ) → one_symbol (spelled name) ≡ spelled name ∷ []
one_spelled name = elim (how_spelled (spelled name) name refl) [
  | inl bare ↦ ap one_symbol bare.1 ∙ bare_one name bare.0 ∙ ap (λ s. s ∷ []) (sym bare.1)
  | inr quoted ↦ ap one_symbol quoted.1 ∙ ap (λ s. s ∷ []) (sym quoted.1)
]

-- The line that defines a name.

definition_defines : (name : List ℕ) → is_label (spelled name) ≡ false → defined_in (spelled name ++ 58 ∷ []) ≡ spelled name ∷ []
definition_defines name plain =
    let line : List ℕ = spelled name ++ 58 ∷ [] in
    let read : List ℕ → List ℕ → List (List ℕ) = λ s after. cond (bytes_eq after (codes ":") && not (is_label s)) (one_symbol s) [] in
    ap (λ t. cond t (one_symbol (symbol_at (drop 6 line))) (read (symbol_at line) (drop (length (symbol_at line)) line))) (no_tab name (58 ∷ []) (codes ".set\t"))
    ∙ ap (λ s. read s (drop (length s) line)) (symbol_read name (58 ∷ []) refl)
    ∙ ap (read (spelled name)) (drop-append_seam (spelled name) (codes ":"))
    ∙ ap (λ t. cond (not t) (one_symbol (spelled name)) []) plain
    ∙ one_spelled name

definition_exports : (name : List ℕ) → exported_in (spelled name ++ 58 ∷ []) ≡ []
definition_exports name =
    ap (λ t. cond t (one_symbol (symbol_at (drop 8 (spelled name ++ 58 ∷ [])))) []) (no_tab name (58 ∷ []) (codes ".globl\t"))

definition_needs : (name : List ℕ) → needed_in (spelled name ++ 58 ∷ []) ≡ []
definition_needs name =
    let line : List ℕ = spelled name ++ 58 ∷ [] in
    let in_code : Bool → List (List ℕ) = λ t. cond t (after_percent line) [] in
    let in_lines : Bool → List (List ℕ) = λ t. cond t [] (in_code (starts_with nat_eq line (codes "\t"))) in
    ap (λ t. cond t (one_symbol (symbol_at (drop 8 line))) (in_lines (starts_with nat_eq line (codes "\t.")))) (no_tab name (58 ∷ []) (codes ".dword\t"))
    ∙ ap in_lines (no_tab name (58 ∷ []) (codes "."))
    ∙ ap in_code (no_tab name (58 ∷ []) [])

-- The line that exports one.

export_exports : (name : List ℕ) → one_symbol (symbol_at (spelled name)) ≡ spelled name ∷ []
export_exports name = ap (λ s. one_symbol (symbol_at s)) (sym (append-nil (spelled name))) ∙ ap one_symbol (symbol_read name [] refl) ∙ one_spelled name

-- Lines of code.

-- a line of code is no directive
no_directive : (b : ℕ) (rest word : List ℕ) → (b == 46) ≡ false → starts_with nat_eq (9 ∷ b ∷ rest) (9 ∷ 46 ∷ word) ≡ false
no_directive b rest word plain = and_left _ _ (ne_eqb 46 b (λ e. both_ways (b == 46) plain (subst (λ x. (x == 46) ≡ true) e refl)))

defines_none : (b : ℕ) (rest : List ℕ) → (b == 46) ≡ false → defined_in (9 ∷ b ∷ rest) ≡ []
defines_none b rest plain =
    ap (λ t. cond t (one_symbol (symbol_at (drop 6 (9 ∷ b ∷ rest)))) []) (no_directive b rest (codes "set\t") plain)

exports_none : (b : ℕ) (rest : List ℕ) → (b == 46) ≡ false → exported_in (9 ∷ b ∷ rest) ≡ []
exports_none b rest plain =
    ap (λ t. cond t (one_symbol (symbol_at (drop 8 (9 ∷ b ∷ rest)))) []) (no_directive b rest (codes "globl\t") plain)

needs_percent : (b : ℕ) (rest : List ℕ) → (b == 46) ≡ false → needed_in (9 ∷ b ∷ rest) ≡ after_percent (9 ∷ b ∷ rest)
needs_percent b rest plain =
    let line : List ℕ = 9 ∷ b ∷ rest in
    ap (λ t. cond t (one_symbol (symbol_at (drop 8 line))) (cond (starts_with nat_eq line (codes "\t.")) [] (after_percent line)))
    (no_directive b rest (codes "dword\t") plain)
    ∙ ap (λ t. cond t [] (after_percent line)) (no_directive b rest [] plain)

code_defines : (inst : Inst) → defined_in (instruction_line inst) ≡ []
code_defines inst = let begins = code_begins inst in ap defined_in begins.is ∙ defines_none begins.first begins.rest begins.plain

code_exports : (inst : Inst) → exported_in (instruction_line inst) ≡ []
code_exports inst = let begins = code_begins inst in ap exported_in begins.is ∙ exports_none begins.first begins.rest begins.plain

calm_needs : (bytes : List ℕ) → are_calm bytes ≡ true → after_percent bytes ≡ []
calm_needs [] calm = refl
calm_needs (b ∷ bytes) calm =
    let parts = and_parts (is_calm b) (are_calm bytes) calm in
    ap (λ t. cond t (one_symbol (symbol_at (drop 3 bytes))) (after_percent bytes)) (not-true (b == 37) (and_parts (not (b == 10)) (not (b == 37)) (and_parts (not (b == 10) && not (b == 37)) (not (b == 46)) parts.0).0).1)
    ∙ calm_needs bytes parts.1

-- what follows a tab is looked through
code_needs : (inst : Inst) → IsRead inst → needed_in (instruction_line inst) ≡ []
code_needs inst read =
    let begins = code_begins inst in
    ap needed_in begins.is
    ∙ needs_percent begins.first begins.rest begins.plain
    ∙ ap after_percent (sym begins.is)
    ∙ calm_needs (instruction_line inst) (code_calm inst read)

-- Lines with labels.

label_defines : (name : List ℕ) → IsLabel name → defined_in (name ++ 58 ∷ []) ≡ []
label_defines name label =
    ap (λ n. defined_in (n ++ 58 ∷ [])) label.2
    ∙ point_defines (codes "LBB" ++ (label.0 ++ 95 ∷ label.1)) (subst (λ n. list_all is_symbol_byte n ≡ true) label.2 (label_bare name label)) (subst (λ n. is_label n ≡ true) label.2 (is_label_when name label))
  where
    point_defines : (rest : List ℕ) → list_all is_symbol_byte (46 ∷ rest) ≡ true → is_label (46 ∷ rest) ≡ true → defined_in ((46 ∷ rest) ++ 58 ∷ []) ≡ []
    point_defines rest all is =
        let line : List ℕ = (46 ∷ rest) ++ 58 ∷ [] in
        let read : List ℕ → List ℕ → List (List ℕ) = λ s after. cond (bytes_eq after (codes ":") && not (is_label s)) (one_symbol s) [] in
        ap (λ s. read s (drop (length s) line)) (all_leading (46 ∷ rest) (58 ∷ []) all refl)
        ∙ ap (read (46 ∷ rest)) (drop-append_seam (46 ∷ rest) (codes ":"))
        ∙ ap (λ t. cond (not t) (one_symbol (46 ∷ rest)) []) is

label_exports : (name : List ℕ) → IsLabel name → exported_in (name ++ 58 ∷ []) ≡ []
label_exports name label = ap (λ n. exported_in (n ++ 58 ∷ [])) label.2

label_needs : (name : List ℕ) → IsLabel name → needed_in (name ++ 58 ∷ []) ≡ []
label_needs name label = ap (λ n. needed_in (n ++ 58 ∷ [])) label.2

begun_defines : (line : List ℕ) → BeginsCode line → defined_in line ≡ []
begun_defines line begins = ap defined_in begins.is ∙ defines_none begins.first begins.rest begins.plain

begun_exports : (line : List ℕ) → BeginsCode line → exported_in line ≡ []
begun_exports line begins = ap exported_in begins.is ∙ exports_none begins.first begins.rest begins.plain

percent_needs : (bytes : List ℕ) → list_all is_no_percent bytes ≡ true → after_percent bytes ≡ []
percent_needs [] h = refl
percent_needs (b ∷ bytes) h =
    let parts = and_parts (is_no_percent b) (list_all is_no_percent bytes) h in
    ap (λ t. cond t (one_symbol (symbol_at (drop 3 bytes))) (after_percent bytes)) (not-true (b == 37) parts.0)
    ∙ percent_needs bytes parts.1

to_label_needs : (inst : Inst) (name : List ℕ) → IsLabel name → needed_in (line_to inst name) ≡ []
to_label_needs inst name label =
    let begins = open_begins inst name in
    ap needed_in begins.is
    ∙ needs_percent begins.first begins.rest begins.plain
    ∙ ap after_percent (sym begins.is)
    ∙ percent_needs (line_to inst name)
    (open_kept is_no_percent (record { registers = refl; words = refl; tab = refl; blank = refl; opening = refl; closing = refl; comma = refl; in_j = refl; in_l = refl; in_i = refl }) inst name
    ∙ bare_no_percent name (label_bare name label))

-- the symbol of a name, where there is one
abbrev pub symbol_if : Option (List ℕ) → List (List ℕ)
symbol_if None = []
symbol_if (Some name) = spelled name ∷ []

pub line_defines : (statement : Statement) → IsStatement statement → defined_in (statement_line statement) ≡ symbol_if (defined statement)
line_defines Text formed = refl
line_defines (Global name) formed = refl
line_defines Align formed = refl
line_defines (Define name) formed = definition_defines name (no_label name formed.1)
line_defines (Code inst) formed = code_defines inst
line_defines Unimp formed = refl
line_defines (Label name) formed = label_defines name formed
line_defines (ToLabel inst name) formed = begun_defines (line_to inst name) (open_begins inst name)

pub line_exports : (statement : Statement) → IsStatement statement → exported_in (statement_line statement) ≡ symbol_if (exported statement)
line_exports Text formed = refl
line_exports (Global name) formed = export_exports name
line_exports Align formed = refl
line_exports (Define name) formed = definition_exports name
line_exports (Code inst) formed = code_exports inst
line_exports Unimp formed = refl
line_exports (Label name) formed = label_exports name formed
line_exports (ToLabel inst name) formed = begun_exports (line_to inst name) (open_begins inst name)

pub line_needs : (statement : Statement) → IsStatement statement → needed_in (statement_line statement) ≡ []
line_needs Text formed = refl
line_needs (Global name) formed = refl
line_needs Align formed = refl
line_needs (Define name) formed = definition_needs name
line_needs (Code inst) formed = code_needs inst formed
line_needs Unimp formed = refl
line_needs (Label name) formed = label_needs name formed
line_needs (ToLabel inst name) formed = to_label_needs inst name formed.2
