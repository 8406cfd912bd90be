-- Names that are among those before them, one more name at a time.
use Rattle.std.proofs.Common.{◌≡◌, ◌∙◌, ℕ, ◌+◌, ◌<◌, Bool, ◌||◌, List, [], ◌∷◌, ◌++◌, length, take, get_or, sym, ap}
use Rattle.std.proofs.lemmas.List.{append_assoc, append-nil, take_more}
use Rattle.std.proofs.lemmas.List.Folds.{list_any_more}
use Rattle.ir_naming.specs.Repeated.{is_among, repeats, repeats_after}
use Rattle.ir_syntax.specs.Lines.{line_if}
use Rattle.ir_ident.specs.Names.{same_name}
use Rattle.ir_ident.specs.declared.name.Name.{Name}
use Rattle.ir_ident.specs.declared.name.NameUse.{NameUse}

repeats_snoc : (before names : List NameUse) (n : NameUse) →
    repeats_after before (names ++ n ∷ []) ≡ repeats_after before names ++ line_if (is_among (before ++ names) n.name) n.line
repeats_snoc before [] n = append-nil (line_if (is_among before n.name) n.line) ∙ ap (λ b. line_if (is_among b n.name) n.line) (sym (append-nil before))
repeats_snoc before (x ∷ names) n =
    ap (λ rest. line_if (is_among before x.name) x.line ++ rest)
    (repeats_snoc (before ++ x ∷ []) names n
    ∙ ap (λ b. repeats_after (before ++ x ∷ []) names ++ line_if (is_among b n.name) n.line) (append_assoc before (x ∷ []) names))
    ∙ sym (append_assoc (line_if (is_among before x.name) x.line) (repeats_after (before ++ x ∷ []) names)
    (line_if (is_among (before ++ x ∷ names) n.name) n.line))

-- the lines of one more name
pub repeats_more : (names : List NameUse) (i : ℕ) (n : NameUse) (old lines new : List ℕ) (among : Bool) → i < length names → n ≡ get_or names i n →
    lines ≡ old ++ repeats (take i names) → among ≡ is_among (take i names) n.name → new ≡ lines ++ line_if among n.line →
    new ≡ old ++ repeats (take (i + 1) names)
repeats_more names i n old lines new among inside is before test now =
    now
    ∙ ap (λ b. lines ++ line_if b n.line) test
    ∙ ap (λ ls. ls ++ line_if (is_among (take i names) n.name) n.line) before
    ∙ append_assoc old (repeats (take i names)) (line_if (is_among (take i names) n.name) n.line)
    ∙ ap (λ ls. old ++ ls) (sym (repeats_snoc [] (take i names) n) ∙ ap repeats (sym (taken names i n inside is)))
  where
    taken : (names : List NameUse) (i : ℕ) (n : NameUse) → i < length names → n ≡ get_or names i n → take (i + 1) names ≡ take i names ++ n ∷ []
    taken names i n inside is = take_more names i n inside ∙ ap (λ x. take i names ++ x ∷ []) (sym is)

-- a name is known after one more name, if it was before or is this one
pub known_more : (names : List NameUse) (i : ℕ) (n : NameUse) (name : Name) (old new : Bool) → i < length names → n ≡ get_or names i n →
    old ≡ is_among (take i names) name → new ≡ (old || same_name name n.name) → new ≡ is_among (take (i + 1) names) name
known_more names i n name old new inside is before now =
    now
    ∙ ap (λ b. b || same_name name n.name) before
    ∙ ap (λ x. is_among (take i names) name || same_name name x.name) is
    ∙ sym (list_any_more (λ x. same_name name x.name) names i n inside)
