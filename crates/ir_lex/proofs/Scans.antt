-- One step of each scan.
use Rattle.std.proofs.Common.{◌≡◌, ℕ, zero, suc, ◌+◌, ◌-◌, ◌<◌, ◌≤◌, List, [], ◌∷◌, ◌++◌, append-nil, append_assoc, Ok, Err, true, false, ◌==◌, ◌||◌, ap, arith, drop, get_or, length, take, refl, sym, ◌∙◌}
use Rattle.std.specs.List.{list_any}
use Rattle.std.specs.declared.result.Result.{Result}
use Rattle.std.proofs.lemmas.Bool.{eq-eqb, ne_eqb}
use Rattle.std.proofs.lemmas.List.{at_drop_all, at_drop_more, drop-drop, length-drop}
use Rattle.std.proofs.lemmas.List.Sums.{sum_by-append}
use Rattle.std.proofs.Math.Seq.{take-add}
use Rattle.ir_lex.specs.Escapes.{escape_byte, escape_len, unescaped_after}
use Rattle.ir_lex.specs.Splitting.{after, after_token, line_feeds, line_of, longer, longest_of, piece_of, token_at, tokens_from, tokens_of}
use Rattle.ir_lex.specs.declared.longest_match.LongestMatch.{LongestMatch}
use Rattle.ir_lex.specs.declared.kind.Kind.{Kind}
use Rattle.ir_lex.specs.declared.kind.Token.{Token}
use Rattle.ir_lex.specs.declared.piece.Piece.TheVariants.{Gap, Begins, Bad}

pub longest_step : (all : List Kind) (best : LongestMatch) (bytes : List ℕ) (i : ℕ) (d : Kind) → i < length all → longest_of (drop i all) best bytes ≡ longest_of (drop (i + 1) all) (longer best (get_or all i d) bytes) bytes
unfolding longest_of
longest_step all best bytes i d l = at_drop_more (λ ks. longest_of ks best bytes) all i d l

drop_past : (n b : ℕ) (rest : List ℕ) → 0 < n → drop (n - 1) rest ≡ drop n (b ∷ rest)
drop_past zero b rest h = absurd (omega arith)
drop_past (suc n) b rest h = ap (λ k. drop k rest) (omega arith)

-- what is passed over is as if it weren't there
unescaped_past : (n : ℕ) (bytes : List ℕ) → unescaped_after n bytes ≡ unescaped_after 0 (drop n bytes)
unfolding unescaped_after
unescaped_past zero bytes = refl
unescaped_past (suc n) [] = refl
unescaped_past (suc n) (b ∷ bytes) = unescaped_past n bytes

pub unescaped_step : (bytes : List ℕ) → 0 < length bytes → 0 < escape_len bytes → unescaped_after 0 bytes ≡ escape_byte bytes ∷ unescaped_after 0 (drop (escape_len bytes) bytes)
unfolding unescaped_after
unescaped_step [] some more = absurd (omega arith)
unescaped_step (b ∷ bytes) some more =
    ap (λ xs. escape_byte (b ∷ bytes) ∷ xs) (unescaped_past (escape_len (b ∷ bytes) - 1) bytes
    ∙ ap (λ xs. unescaped_after 0 xs) (drop_past (escape_len (b ∷ bytes)) b bytes more))

-- whether a byte 0 stands at the start, or further on
pub zero_now : (bytes : List ℕ) → 0 < length bytes → escape_byte bytes ≡ 0 → list_any (λ b. b == 0) (unescaped_after 0 bytes) ≡ true
unfolding unescaped_after
zero_now [] some is = absurd (omega arith)
zero_now (b ∷ bytes) some is =
    ap (λ t. t || list_any (λ b. b == 0) (unescaped_after (escape_len (b ∷ bytes) - 1) bytes)) (eq-eqb _ _ is)

pub zero_later : (text : List ℕ) (at : ℕ) → at < length text → 0 < escape_len (drop at text) → (escape_byte (drop at text) ≡ 0 → ⊥)
    → list_any (λ b. b == 0) (unescaped_after 0 (drop at text)) ≡ list_any (λ b. b == 0) (unescaped_after 0 (drop (at + escape_len (drop at text)) text))
zero_later text at inside some is =
    ap (list_any (λ b. b == 0)) (unescaped_step (drop at text) (omega (arith, length-drop at text)) some)
    ∙ ap (λ t. t || list_any (λ b. b == 0) (unescaped_after 0 (drop (escape_len (drop at text)) (drop at text)))) (ne_eqb _ _ is)
    ∙ ap (λ xs. list_any (λ b. b == 0) (unescaped_after 0 xs)) (drop-drop (escape_len (drop at text)) at text)

pub zero_never : (text : List ℕ) (at : ℕ) → length text ≤ at → list_any (λ b. b == 0) (unescaped_after 0 (drop at text)) ≡ false
unfolding unescaped_after
zero_never text at end = at_drop_all (λ xs. list_any (λ b. b == 0) (unescaped_after 0 xs)) text at end

tokens_past : (text : List ℕ) (n at : ℕ) (rest : List ℕ) → n ≤ length rest → tokens_from text n at rest ≡ tokens_from text 0 (at + n) (drop n rest)
unfolding tokens_from
tokens_past text zero at rest h = ap (λ k. tokens_from text 0 k rest) (omega arith)
tokens_past text (suc n) at [] h = absurd (omega arith)
tokens_past text (suc n) at (b ∷ rest) h =
    tokens_past text n (at + 1) rest (omega arith) ∙ ap (λ k. tokens_from text 0 k (drop n rest)) (omega arith)

tokens_more : (text : List ℕ) (n at b : ℕ) (rest : List ℕ) → 0 < n → n ≤ length (b ∷ rest) → tokens_from text (n - 1) (at + 1) rest ≡ tokens_from text 0 (at + n) (drop n (b ∷ rest))
tokens_more text n at b rest some h =
    tokens_past text (n - 1) (at + 1) rest (omega arith)
    ∙ ap (λ k. tokens_from text 0 k (drop (n - 1) rest)) (omega arith)
    ∙ ap (λ xs. tokens_from text 0 (at + n) xs) (drop_past n b rest some)

pub tokens_gap : (text : List ℕ) (at n : ℕ) (rest : List ℕ) → 0 < n → n ≤ length rest → Gap n ≡ piece_of rest → tokens_from text 0 at rest ≡ tokens_from text 0 (at + n) (drop n rest)
unfolding tokens_from
tokens_gap text at n [] some h is = absurd (omega arith)
tokens_gap text at n (b ∷ rest) some h is =
    ap (λ p. after text at p (λ n. tokens_from text (n - 1) (at + 1) rest)) (sym is) ∙ tokens_more text n at b rest some h

pub tokens_begins : (text : List ℕ) (at : ℕ) (found : LongestMatch) (rest : List ℕ) → 0 < found.len → found.len ≤ length rest → Begins found ≡ piece_of rest → tokens_from text 0 at rest ≡ after_token (token_at text at found) (tokens_from text 0 (at + found.len) (drop found.len rest))
unfolding tokens_from
tokens_begins text at found [] some h is = absurd (omega arith)
tokens_begins text at found (b ∷ rest) some h is =
    ap (λ p. after text at p (λ n. tokens_from text (n - 1) (at + 1) rest)) (sym is)
    ∙ ap (after_token (token_at text at found)) (tokens_more text found.len at b rest some h)

pub tokens_bad : (text : List ℕ) (at : ℕ) (rest : List ℕ) → 0 < length rest → Bad ≡ piece_of rest → tokens_from text 0 at rest ≡ Err (line_of text at)
unfolding tokens_from
tokens_bad text at [] some is = absurd (omega arith)
tokens_bad text at (b ∷ rest) some is =
    ap (λ p. after text at p (λ n. tokens_from text (n - 1) (at + 1) rest)) (sym is)

-- the lines of a stretch
pub line_past : (text : List ℕ) (at n : ℕ) → line_of text (at + n) ≡ line_of text at + line_feeds (take n (drop at text))
unfolding line_of
line_past text at n =
    let split = ap line_feeds (take-add at n text) ∙ sum_by-append _ (take at text) (take n (drop at text)) in
    grind (arith, split)

pub line_kept : (text : List ℕ) (at n line feeds : ℕ) (rest : List ℕ) → rest ≡ drop at text → line ≡ line_of text at → feeds ≡ line_feeds (take n rest) → line + feeds ≡ line_of text (at + n)
line_kept text at n line feeds rest is here more =
    let past = line_past text at n in
    let counted : feeds ≡ line_feeds (take n (drop at text)) = more ∙ ap (λ xs. line_feeds (take n xs)) is in
    grind (arith, past, counted, here)

-- all the tokens, where these came before
unfoldable pub before : List Token → Result (List Token) ℕ → Result (List Token) ℕ
before tokens (Ok more) = Ok (tokens ++ more)
before tokens (Err line) = Err line

pub before_all : (text : List ℕ) → before [] (tokens_from text 0 0 text) ≡ tokens_of text
unfolding tokens_of before
before_all text = none (tokens_from text 0 0 text)
  where
    none : (read : Result (List Token) ℕ) → before [] read ≡ read
    none (Ok more) = refl
    none (Err line) = refl

before_push : (tokens : List Token) (token : Token) (read : Result (List Token) ℕ) → before (tokens ++ token ∷ []) read ≡ before tokens (after_token token read)
unfolding before
before_push tokens token (Ok more) = ap (λ ts. Ok ts) (append_assoc tokens (token ∷ []) more)
before_push tokens token (Err line) = refl

pub all_gap : (text : List ℕ) (tokens : List Token) (at n : ℕ) → at < length text → 0 < n → n ≤ length (drop at text) → Gap n ≡ piece_of (drop at text)
    → before tokens (tokens_from text 0 (at + n) (drop (at + n) text)) ≡ before tokens (tokens_from text 0 at (drop at text))
all_gap text tokens at n inside some fits is =
    ap (λ xs. before tokens (tokens_from text 0 (at + n) xs)) (sym (drop-drop n at text))
    ∙ ap (before tokens) (sym (tokens_gap text at n (drop at text) some fits is))

pub all_begins : (text : List ℕ) (tokens : List Token) (at : ℕ) (found : LongestMatch) → at < length text → 0 < found.len → found.len ≤ length (drop at text) → Begins found ≡ piece_of (drop at text)
    → before (tokens ++ token_at text at found ∷ []) (tokens_from text 0 (at + found.len) (drop (at + found.len) text)) ≡ before tokens (tokens_from text 0 at (drop at text))
all_begins text tokens at found inside some fits is =
    ap (λ xs. before (tokens ++ token_at text at found ∷ []) (tokens_from text 0 (at + found.len) xs)) (sym (drop-drop found.len at text))
    ∙ before_push tokens (token_at text at found) (tokens_from text 0 (at + found.len) (drop found.len (drop at text)))
    ∙ ap (before tokens) (sym (tokens_begins text at found (drop at text) some fits is))

pub all_bad : (text : List ℕ) (tokens : List Token) (at : ℕ) → at < length text → Bad ≡ piece_of (drop at text) → before tokens (tokens_from text 0 at (drop at text)) ≡ Err (line_of text at)
unfolding before
all_bad text tokens at inside is =
    ap (before tokens) (tokens_bad text at (drop at text) (omega (arith, length-drop at text)) is)

pub all_read : (text : List ℕ) (tokens : List Token) (at : ℕ) → length text ≤ at → before tokens (tokens_from text 0 at (drop at text)) ≡ Ok tokens
unfolding before tokens_from
all_read text tokens at end =
    at_drop_all (λ xs. before tokens (tokens_from text 0 at xs)) text at end ∙ ap (λ ts. Ok ts) (append-nil tokens)
