-- What the split of a text keeps: the tokens before a place, and its line.
use Rattle.std.proofs.Common.{◌≡◌, ℕ, ◌+◌, ◌<◌, ◌≤◌, List, [], ◌∷◌, ◌++◌, ◌==◌, ◌||◌, cond, get_or, ap, arith, drop, length, subst, sym, take, refl, ◌∙◌}
use Rattle.std.proofs.lemmas.List.{get_or-drop, length-drop}
use Rattle.ir_lex.specs.Splitting.{begun, longest_match, gap_len, line_feeds, line_of, piece_of, token_at, tokens_from, tokens_of}
use Rattle.ir_lex.specs.declared.longest_match.LongestMatch.{LongestMatch}
use Rattle.ir_lex.specs.declared.kind.Token.{Token}
use Rattle.ir_lex.specs.declared.piece.Piece.TheVariants.{Gap, Begins}
use Rattle.ir_lex.specs.Characters.{run}
use Rattle.ir_lex.specs.declared.class.Class.TheVariants.{Comment}
use Rattle.ir_lex.proofs.Plain.{first_feed}
use Rattle.ir_lex.proofs.Scans.{all_begins, all_gap, before, before_all, line_kept}

pub record Kept (text : List ℕ) (at line : ℕ) (tokens : List Token) : Type 0 where
  pub within : at ≤ length text
  pub here : line ≡ line_of text at
  pub low : line ≤ at + 1
  pub left : before tokens (tokens_from text 0 at (drop at text)) ≡ tokens_of text

pub kept_first : (text : List ℕ) → Kept text 0 1 []
unfolding line_of
kept_first text = record {
  within = omega arith;
  here = refl;
  low = omega arith;
  left = before_all text;
}

module _ (text : List ℕ) (at line feeds n : ℕ) (tokens : List Token) (rest : List ℕ) (kept : Kept text at line tokens)
    (inside : at < length text) (some : 0 < n) (is : rest ≡ drop at text) (fits : n ≤ length rest)
    (counted : feeds ≡ line_feeds (take n rest)) (few : feeds ≤ n) where
  long : n ≤ length (drop at text)
  long = omega (arith, fits, ap length is)

  within : at + n ≤ length text
  within = omega (arith, long, length-drop at text, inside)

  low : line + feeds ≤ at + n + 1
  low = omega (arith, few, kept.low)

  pub kept_gap : Gap n ≡ piece_of rest → Kept text (at + n) (line + feeds) tokens
  kept_gap piece = record {
    within = within;
    here = line_kept text at n line feeds rest is kept.here counted;
    low = low;
    left = all_gap text tokens at n inside some long (piece ∙ ap piece_of is) ∙ kept.left;
  }

  pub kept_begins : (found : LongestMatch) → found.len ≡ n → Begins found ≡ piece_of rest
      → Kept text (at + n) (line + feeds) (tokens ++ record { kind = found.kind; start = at; len = found.len; line = line } ∷ [])
  unfolding token_at
  kept_begins found len piece =
      let token : Token = record { kind = found.kind; start = at; len = found.len; line = line } in
      let has : 0 < found.len = omega (arith, len, some) in
      let ends : at + found.len ≡ at + n = ap (λ k. at + k) len in
      record {
        within = within;
        here = line_kept text at n line feeds rest is kept.here counted;
        low = low;
        left = ap (λ k. before (tokens ++ token ∷ []) (tokens_from text 0 k (drop k text))) (sym ends)
            ∙ ap (λ l. before (tokens ++ record { kind = found.kind; start = at; len = found.len; line = l } ∷ [])
            (tokens_from text 0 (at + found.len) (drop (at + found.len) text))) kept.here
            ∙ all_begins text tokens at found inside has (omega (arith, len, long)) (piece ∙ ap piece_of is)
            ∙ kept.left;
      }

blank_piece : (bytes : List ℕ) → get_or bytes 0 0 ≡ 32 → Gap 1 ≡ piece_of bytes
unfolding piece_of gap_len
blank_piece bytes is =
    let step : gap_len bytes ≡ 1 = ap (λ b. cond (b == 32 || b == 9 || b == 13 || b == 10) 1 (cond (b == 59) (run Comment bytes) 0)) is in
    sym (ap (λ n. cond (n == 0) (begun (longest_match bytes) bytes) (Gap n)) step)

pub kept_blank : (text : List ℕ) (at line : ℕ) (tokens : List Token) → Kept text at line tokens → at < length text → get_or text at 0 ≡ 32 → Kept text (at + 1) line tokens
kept_blank text at line tokens kept inside is =
    let rest = drop at text in
    let first : get_or rest 0 0 ≡ 32 = get_or-drop at text 0 0 ∙ ap (λ n. get_or text n 0) start ∙ is in
    let some : 0 < length rest = omega (arith, length-drop at text, inside) in
    let feeds : line_feeds (take 1 rest) ≡ 0 = first_feed rest some ∙ ap (λ b. cond (b == 10) 1 0) first in
    subst (λ n. Kept text (at + 1) n tokens) same
    (kept_gap text at line 0 1 tokens rest kept inside (omega arith) refl (omega (arith, some)) (sym feeds) (omega arith) (blank_piece rest first))
  where
    start : at + 0 ≡ at
    start = omega arith

    same : line + 0 ≡ line
    same = omega arith
