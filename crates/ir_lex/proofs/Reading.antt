-- What is read of a text are its tokens, or a bad place.
use Rattle.std.proofs.Common.{◌≡◌, ℕ, zero, suc, ◌+◌, ◌-◌, ◌<◌, ◌≤◌, ◌==◌, ◌||◌, ◌⊎◌, inl, inr, Bool, true, false, List, [], ◌∷◌, Ok, Err, ap, arith, cond, drop, length, subst, sym, take, refl, ◌∙◌}
use Rattle.std.specs.declared.result.Result.{Result}
use Rattle.std.proofs.lemmas.Bool.{eqb-true}
use Rattle.std.proofs.lemmas.List.{drop-drop, drop_all, length-drop}
use Rattle.std.proofs.lemmas.List.Elements.{All-cons, All-nil}
use Rattle.ir_lex.specs.BadPlaces.{AreTokens, BeginsNothing, BeginsRefused, IsAccepted, IsBadPlace}
use Rattle.ir_lex.specs.Separated.{AreSeparated, past_gap}
use Rattle.ir_lex.specs.Splitting.{AreSpans, IsTokenOf, after, after_token, begun, longest_match, gap_len, is_refused, line_of, piece_of, token_at, tokens_from, tokens_of}
use Rattle.ir_lex.specs.declared.longest_match.LongestMatch.{LongestMatch}
use Rattle.ir_lex.specs.declared.kind.Token.{Token}
use Rattle.ir_lex.specs.declared.piece.Piece.TheVariants.{Gap, Begins, Bad}
use Rattle.ir_lex.proofs.Gaps.{past_nothing, past_piece}
use Rattle.ir_lex.proofs.Nothing.{begins_nothing}
use Rattle.ir_lex.proofs.Spans.{token_is}
use Rattle.ir_lex.proofs.Within.{longest_within, gap_within}

spans_earlier : (from later end : ℕ) (tokens : List Token) → from ≤ later → AreSpans later end tokens → AreSpans from end tokens
spans_earlier from later end [] h spans = omega (arith, h, spans)
spans_earlier from later end (token ∷ tokens) h spans = (omega (arith, h, spans.0), spans.1, spans.2)

separated_earlier : (text : List ℕ) (from later end : ℕ) (tokens : List Token) → past_gap false (drop from text) ≡ past_gap false (drop later text) → AreSeparated text later end tokens → AreSeparated text from end tokens
separated_earlier text from later end [] same separated = same ∙ separated
separated_earlier text from later end (token ∷ tokens) same separated = (same ∙ separated.0, separated.1)

no_tokens : (text : List ℕ) (at end : ℕ) → at ≤ end → past_gap false (drop at text) ≡ drop end text → AreTokens text at end []
no_tokens text at end h gap = record {
  spans = omega (arith, h);
  each = All-nil (IsTokenOf text);
  accepted = All-nil (IsAccepted text);
  separated = gap;
}

-- a gap before tokens
gap_before : (text : List ℕ) (at n end : ℕ) (tokens : List Token) → past_gap false (drop at text) ≡ past_gap false (drop (at + n) text) → AreTokens text (at + n) end tokens → AreTokens text at end tokens
gap_before text at n end tokens same are = record {
  spans = spans_earlier at (at + n) end tokens (omega arith) are.spans;
  each = are.each;
  accepted = are.accepted;
  separated = separated_earlier text at (at + n) end tokens same are.separated;
}

-- a bad place that tokens reach from another one
record Stops (text : List ℕ) (from line : ℕ) : Type 0 where
  pub at : ℕ
  pub tokens : List Token
  pub inside : at < length text
  pub before : AreTokens text from at tokens
  pub bad : BeginsNothing (drop at text) ⊎ BeginsRefused text at
  pub on : line ≡ line_of text at

-- what is read from a place on
Reads : List ℕ → ℕ → Result (List Token) ℕ → Type 0
Reads text from (Ok tokens) = AreTokens text from (length text) tokens
Reads text from (Err line) = Stops text from line

reads_gap : (text : List ℕ) (at n : ℕ) (read : Result (List Token) ℕ) → past_gap false (drop at text) ≡ past_gap false (drop (at + n) text) → Reads text (at + n) read → Reads text at read
unfolding Reads
reads_gap text at n (Ok tokens) same reads = gap_before text at n (length text) tokens same reads
reads_gap text at n (Err line) same reads = record {
  at = reads.at;
  tokens = reads.tokens;
  inside = reads.inside;
  before = gap_before text at n reads.at reads.tokens same reads.before;
  bad = reads.bad;
  on = reads.on;
}

-- a token at a place, before what is read
module _ (text : List ℕ) (at : ℕ) (found : LongestMatch) (here : past_gap false (drop at text) ≡ drop at text) (some : 0 < found.len) (is : found ≡ longest_match (drop at text))
    (accepted : is_refused found.kind (take found.len (drop at text)) ≡ false) where
  token_before : (end : ℕ) (tokens : List Token) → AreTokens text (at + found.len) end tokens → AreTokens text at end (token_at text at found ∷ tokens)
  unfolding token_at
  token_before end tokens are = record {
    spans = (omega arith, some, are.spans);
    each = All-cons (IsTokenOf text) (token_at text at found) tokens (token_is text at (line_of text at) found some is refl) are.each;
    accepted = All-cons (IsAccepted text) (token_at text at found) tokens accepted are.accepted;
    separated = (here, are.separated);
  }

  reads_token : (read : Result (List Token) ℕ) → Reads text (at + found.len) read → Reads text at (after_token (token_at text at found) read)
  unfolding Reads
  reads_token (Ok tokens) reads = token_before (length text) tokens reads
  reads_token (Err line) reads = record {
    at = reads.at;
    tokens = token_at text at found ∷ reads.tokens;
    inside = reads.inside;
    before = token_before reads.at reads.tokens reads.before;
    bad = reads.bad;
    on = reads.on;
  }

stops_here : (text : List ℕ) (at : ℕ) → at < length text → past_gap false (drop at text) ≡ drop at text → BeginsNothing (drop at text) ⊎ BeginsRefused text at → Stops text at (line_of text at)
stops_here text at inside here bad = record {
  at = at;
  tokens = [];
  inside = inside;
  before = no_tokens text at at (omega arith) here;
  bad = bad;
  on = refl;
}

refused_here : (text : List ℕ) (at : ℕ) → 0 < (longest_match (drop at text)).len → is_refused (longest_match (drop at text)).kind (take (longest_match (drop at text)).len (drop at text)) ≡ true → BeginsRefused text at
unfolding token_at
refused_here text at some refused = record {
  token = token_at text at (longest_match (drop at text));
  is = token_is text at (line_of text at) (longest_match (drop at text)) some refl refl;
  starts = refl;
  refused = refused;
}

positive : (n : ℕ) → n == 0 ≡ false → 0 < n
positive n is = grind (arith, is)

-- what stands at a place, and what is read behind it
reads_piece : (text : List ℕ) (at : ℕ) (more : ℕ → Result (List Token) ℕ) → at < length text → ((n : ℕ) → 0 < n → at + n ≤ length text → Reads text (at + n) (more n)) → Reads text at (after text at (piece_of (drop at text)) more)
unfolding piece_of begun Reads
reads_piece text at more inside reads = cases (gap_len bytes == 0) (found.len == 0) (is_refused found.kind (take found.len bytes)) refl refl refl
  where
    bytes : List ℕ
    bytes = drop at text

    found : LongestMatch
    found = longest_match bytes

    left : length bytes ≡ length text - at
    left = length-drop at text

    cases : (no_gap no_token refused : Bool) → gap_len bytes == 0 ≡ no_gap → found.len == 0 ≡ no_token → is_refused found.kind (take found.len bytes) ≡ refused
        → Reads text at (after text at (cond no_gap (cond (no_token || refused) Bad (Begins found)) (Gap (gap_len bytes))) more)
    cases false no_token refused gap token is =
        let some = positive (gap_len bytes) gap in
        reads_gap text at (gap_len bytes) (more (gap_len bytes)) (past_piece bytes some ∙ ap (past_gap false) (drop-drop (gap_len bytes) at text))
        (reads (gap_len bytes) some (omega (arith, inside, left, gap_within bytes (omega (arith, inside, left)))))
    cases true true refused gap token is =
        stops_here text at inside (past_nothing bytes (eqb-true (gap_len bytes) 0 gap)) (inl (begins_nothing bytes (eqb-true found.len 0 token)))
    cases true false true gap token is =
        stops_here text at inside (past_nothing bytes (eqb-true (gap_len bytes) 0 gap)) (inr (refused_here text at (positive found.len token) is))
    cases true false false gap token is =
        let some = positive found.len token in
        reads_token text at found (past_nothing bytes (eqb-true (gap_len bytes) 0 gap)) some refl is (more found.len)
        (reads found.len some (omega (arith, inside, left, longest_within bytes)))

next : (text : List ℕ) (at b : ℕ) (rest : List ℕ) → b ∷ rest ≡ drop at text → rest ≡ drop (at + 1) text
next text at b rest is = ap (drop 1) is ∙ drop-drop 1 at text

reads_from : (text : List ℕ) (skip at : ℕ) (rest : List ℕ) → rest ≡ drop at text → at + skip ≤ length text → Reads text (at + skip) (tokens_from text skip at rest)
unfolding tokens_from Reads past_gap
reads_from text skip at [] is fits = no_tokens text (at + skip) (length text) fits end
  where
    long : length text ≤ at
    long = omega (arith, ap length is, length-drop at text)

    end : past_gap false (drop (at + skip) text) ≡ drop (length text) text
    end = ap (past_gap false) (drop_all (at + skip) text (omega (arith, long))) ∙ sym (drop_all (length text) text (omega arith))
reads_from text (suc skip) at (b ∷ rest) is fits =
    subst (λ k. Reads text k (tokens_from text skip (at + 1) rest)) (omega arith) (reads_from text skip (at + 1) rest (next text at b rest is) (omega (arith, fits)))
reads_from text zero at (b ∷ rest) is fits =
    subst (λ k. Reads text k (after text at (piece_of (b ∷ rest)) (λ n. tokens_from text (n - 1) (at + 1) rest))) (omega arith)
    (subst (λ xs. Reads text at (after text at (piece_of xs) (λ n. tokens_from text (n - 1) (at + 1) rest))) (sym is)
    (reads_piece text at (λ n. tokens_from text (n - 1) (at + 1) rest) (omega (arith, ap length is, length-drop at text))
    (λ n some within. subst (λ k. Reads text k (tokens_from text (n - 1) (at + 1) rest)) (omega (arith, some))
    (reads_from text (n - 1) (at + 1) rest (next text at b rest is) (omega (arith, some, within))))))

reads : (text : List ℕ) → Reads text 0 (tokens_of text)
unfolding tokens_of
reads text = reads_from text 0 0 text refl (omega arith)

pub tokens_are : (text : List ℕ) (tokens : List Token) → tokens_of text ≡ Ok tokens → AreTokens text 0 (length text) tokens
unfolding Reads
tokens_are text tokens is = subst (Reads text 0) is (reads text)

pub place_is_bad : (text : List ℕ) (line : ℕ) → tokens_of text ≡ Err line → IsBadPlace text line
unfolding Reads
place_is_bad text line is =
    let stops = subst (Reads text 0) is (reads text) in record {
      at = stops.at;
      tokens = stops.tokens;
      inside = stops.inside;
      before = stops.before;
      bad = stops.bad;
      on = stops.on;
    }
