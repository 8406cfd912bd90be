use Rattle.std.proofs.Common.{◌≡◌, ◌∙◌, String, Global, List, [], ℕ, ap, sym, subst, map, string_bytes}
use Rattle.clap.specs.Words.{App, HasKind, app_of, fault_of, found_of, is_simple, is_simple_and_free, matches_of, rows_of}
use Rattle.llc_words.specs.Syntax.{llc_app}
use Rattle.llc_words.proofs.Refusing.{asked_as, free, other_refuses, read_asks, refused_as, simple}
use Rattle.llc_words.proofs.words.read_words.Goals as goal

abbrev texts_of : List (String Global) → List (List ℕ)
texts_of words = map (λ word. string_bytes word) words

pub returns-in-Ok-try_get_matches_from-clause-asked : goal.returns-in-Ok-try_get_matches_from-clause-asked
returns-in-Ok-try_get_matches_from-clause-asked c =
    let words : List (List ℕ) = texts_of c.args.words.now in
    let is : app_of c.in-Ok.command ≡ llc_app = c.in-Ok.ensures in
    let parse = c.in-Ok-try_get_matches_from.ensures in
    let read : fault_of llc_app words ≡ [] = ap (λ (a : App). fault_of a words) (sym is) ∙ parse.kinds (ap is_simple_and_free is ∙ free) in
    let rows : rows_of (found_of c.in-Ok-try_get_matches_from.matches) ≡ matches_of llc_app words =
    (parse.matches (ap is_simple is ∙ simple)).0 ∙ ap (λ (a : App). matches_of a words) is in
    asked_as words c.command_in.result (read_asks words _ read rows ∙ sym c.command_in.ensures) c.ok_or.result c.ok_or.ensures.ok_part

pub returns-in-Ok-try_get_matches_from-clause-refused : goal.returns-in-Ok-try_get_matches_from-clause-refused
returns-in-Ok-try_get_matches_from-clause-refused c =
    let words : List (List ℕ) = texts_of c.args.words.now in
    let is : app_of c.in-Ok.command ≡ llc_app = c.in-Ok.ensures in
    let parse = c.in-Ok-try_get_matches_from.ensures in
    let read : fault_of llc_app words ≡ [] = ap (λ (a : App). fault_of a words) (sym is) ∙ parse.kinds (ap is_simple_and_free is ∙ free) in
    let rows : rows_of (found_of c.in-Ok-try_get_matches_from.matches) ≡ matches_of llc_app words =
    (parse.matches (ap is_simple is ∙ simple)).0 ∙ ap (λ (a : App). matches_of a words) is in
    refused_as words c.command_in.result (read_asks words _ read rows ∙ sym c.command_in.ensures) c.ok_or.result _ c.ok_or.ensures.ok_part

pub returns-in-Err-clause-refused : goal.returns-in-Err-clause-refused
returns-in-Err-clause-refused c ends =
    let words : List (List ℕ) = texts_of c.args.words.now in
    let is : app_of c.in-Ok.command ≡ llc_app = c.in-Ok.ensures in
    let kinds : HasKind (fault_of llc_app words) c.in-Err.error =
    subst (λ (a : App). HasKind (fault_of a words) c.in-Err.error) is (c.in-Err.ensures.kinds (ap is_simple_and_free is ∙ free)) in
    other_refuses words c.in-Err.error kinds (c.end_of.ensures.refused (cc))
