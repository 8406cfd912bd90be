-- A text has one list of tokens, or one bad place.
use Rattle.std.proofs.Common.{◌≡◌, ℕ, zero, suc, ◌+◌, ◌≤◌, ◌⊎◌, inl, inr, List, [], ◌∷◌, Ok, Err, ap, arith, drop, length, subst, sym, take, refl, ◌∙◌}
use Rattle.std.specs.declared.result.Result.{Result}
use Rattle.std.proofs.lemmas.Bool.{both_ways}
use Rattle.std.proofs.lemmas.List.{length-drop, length-take, take-append-drop}
use Rattle.std.proofs.lemmas.List.Elements.{All-head, All-tail}
use Rattle.ir_lex.specs.BadPlaces.{AreTokens, BeginsNothing, BeginsRefused, IsAccepted, IsBadPlace, is_refused_in}
use Rattle.ir_lex.specs.Spelling.{Spells}
use Rattle.ir_lex.specs.Splitting.{AreSpans, IsTokenOf, is_refused, line_of, tokens_of}
use Rattle.ir_lex.specs.declared.kind.Token.{Token}
use Rattle.ir_lex.proofs.Nothing.{some_spelled}
use Rattle.ir_lex.proofs.OneKind.{one_kind}
use Rattle.ir_lex.proofs.Reading.{place_is_bad, tokens_are}

bytes_of : List ℕ → Token → List ℕ
bytes_of text token = take token.len (drop token.start text)

same_take : (a b : ℕ) (xs : List ℕ) → length (take a xs) ≤ b → length (take b xs) ≤ a → take a xs ≡ take b xs
same_take zero zero xs few more = refl
same_take zero (suc b) [] few more = refl
same_take zero (suc b) (x ∷ xs) few more = absurd (omega (arith, more))
same_take (suc a) zero [] few more = refl
same_take (suc a) zero (x ∷ xs) few more = absurd (omega (arith, few))
same_take (suc a) (suc b) [] few more = refl
same_take (suc a) (suc b) (x ∷ xs) few more = ap (λ ys. x ∷ ys) (same_take a b xs (omega (arith, few)) (omega (arith, more)))

-- the longest at one place are one
no_longer : (text : List ℕ) (this that : Token) → IsTokenOf text this → IsTokenOf text that → this.start ≡ that.start → length (bytes_of text that) ≤ this.len
unfolding bytes_of
no_longer text this that is other same =
    is.longest that.kind (take that.len (drop that.start text)) (drop that.len (drop that.start text))
    (ap (λ k. drop k text) same ∙ sym (take-append-drop that.len (drop that.start text))) other.spelled

module _ (text : List ℕ) (this that : Token) (is : IsTokenOf text this) (other : IsTokenOf text that) (same : this.start ≡ that.start) where
  same_bytes : bytes_of text this ≡ bytes_of text that
  unfolding bytes_of
  same_bytes =
      let moved : take that.len (drop that.start text) ≡ take that.len (drop this.start text) = ap (λ k. take that.len (drop k text)) (sym same) in
      same_take this.len that.len (drop this.start text) (no_longer text that this other is (sym same))
      (omega (arith, ap length moved, no_longer text this that is other same)) ∙ sym moved

  same_kind : this.kind ≡ that.kind
  unfolding bytes_of
  same_kind = one_kind this.kind that.kind (bytes_of text this) is.spelled (subst (Spells that.kind) (sym same_bytes) other.spelled)

  same_refusal : is_refused_in text this ≡ is_refused_in text that
  unfolding bytes_of
  same_refusal = ap (λ k. is_refused k (bytes_of text this)) same_kind ∙ ap (is_refused that.kind) same_bytes

  same_len : this.start + this.len ≤ length text → that.start + that.len ≤ length text → this.len ≡ that.len
  unfolding bytes_of
  same_len fits fits_too =
      omega (arith, ap length same_bytes, fits, fits_too, length-take this.len (drop this.start text), length-take that.len (drop that.start text), length-drop this.start text, length-drop that.start text)

  same_line : this.line ≡ that.line
  same_line = is.line ∙ ap (line_of text) same ∙ sym other.line

  same_token : this.start + this.len ≤ length text → that.start + that.len ≤ length text → this ≡ that
  same_token fits fits_too =
      ap (λ k. record { kind = k; start = this.start; len = this.len; line = this.line }) same_kind
      ∙ ap (λ n. record { kind = that.kind; start = n; len = this.len; line = this.line }) same
      ∙ ap (λ n. record { kind = that.kind; start = that.start; len = n; line = this.line }) (same_len fits fits_too)
      ∙ ap (λ n. record { kind = that.kind; start = that.start; len = that.len; line = n }) same_line

-- no token is accepted at a place
Ends : List ℕ → ℕ → Type 0
Ends text at = (token : Token) → IsTokenOf text token → token.start ≡ at → IsAccepted text token → ⊥

ends_text : (text : List ℕ) → Ends text (length text)
unfolding Ends
ends_text text token is starts accepted =
    omega (arith, some_spelled token.kind (take token.len (drop token.start text)) is.spelled, length-take token.len (drop token.start text), length-drop token.start text, starts)

ends_bad : (text : List ℕ) (at : ℕ) → BeginsNothing (drop at text) ⊎ BeginsRefused text at → Ends text at
unfolding Ends
ends_bad text at (inl nothing) token is starts accepted =
    nothing token.kind (take token.len (drop token.start text)) (drop token.len (drop token.start text))
    (ap (λ k. drop k text) (sym starts) ∙ sym (take-append-drop token.len (drop token.start text))) is.spelled
ends_bad text at (inr bad) token is starts accepted =
    both_ways (is_refused_in text token) accepted (same_refusal text token bad.token is bad.is (starts ∙ sym bad.starts) ∙ bad.refused)

same_place : (text : List ℕ) (a b : ℕ) → a ≤ length text → b ≤ length text → drop a text ≡ drop b text → a ≡ b
same_place text a b fits fits_too same = omega (arith, fits, fits_too, ap length same, length-drop a text, length-drop b text)

spans_bound : (from end : ℕ) (tokens : List Token) → AreSpans from end tokens → from ≤ end
spans_bound from end [] spans = spans
spans_bound from end (token ∷ tokens) spans = omega (arith, spans.0, spans_bound (token.start + token.len) end tokens spans.2)

behind : (text : List ℕ) (from end : ℕ) (token : Token) (tokens : List Token) → AreTokens text from end (token ∷ tokens) → AreTokens text (token.start + token.len) end tokens
behind text from end token tokens are = record {
  spans = are.spans.2;
  each = All-tail (IsTokenOf text) token tokens are.each;
  accepted = All-tail (IsAccepted text) token tokens are.accepted;
  separated = are.separated.1;
}

-- a token where others end
module _ (text : List ℕ) (from end other : ℕ) (token : Token) (tokens : List Token) (fits : end ≤ length text) (fits_too : other ≤ length text) (ends : Ends text other)
    (are : AreTokens text from end (token ∷ tokens)) (none : AreTokens text from other []) where
  never : ⊥
  unfolding Ends
  never =
      let bound = spans_bound (token.start + token.len) end tokens are.spans.2 in
      ends token (All-head (IsTokenOf text) token tokens are.each)
      (same_place text token.start other (omega (arith, bound, fits)) fits_too (sym are.separated.0 ∙ none.separated))
      (All-head (IsAccepted text) token tokens are.accepted)

module _ (text : List ℕ) (end other : ℕ) (fits : end ≤ length text) (fits_too : other ≤ length text) (ends : Ends text end) (ends_too : Ends text other) where
  one_split : (from : ℕ) (these those : List Token) → AreTokens text from end these → AreTokens text from other those → (these ≡ those) × (end ≡ other)
  one_split from [] [] are are_too = (refl, same_place text end other fits fits_too (sym are.separated ∙ are_too.separated))
  one_split from [] (that ∷ those) are are_too = absurd (never text from other end that those fits_too fits ends are_too are)
  one_split from (this ∷ these) [] are are_too = absurd (never text from end other this these fits fits_too ends_too are are_too)
  one_split from (this ∷ these) (that ∷ those) are are_too =
      let bound = spans_bound (this.start + this.len) end these are.spans.2 in
      let bound_too = spans_bound (that.start + that.len) other those are_too.spans.2 in
      let same : this ≡ that =
      same_token text this that (All-head (IsTokenOf text) this these are.each) (All-head (IsTokenOf text) that those are_too.each)
      (same_place text this.start that.start (omega (arith, bound, fits)) (omega (arith, bound_too, fits_too)) (sym are.separated.0 ∙ are_too.separated.0))
      (omega (arith, bound, fits)) (omega (arith, bound_too, fits_too)) in
      let later = one_split (this.start + this.len) these those (behind text from end this these are)
      (subst (λ t. AreTokens text (t.start + t.len) other those) (sym same) (behind text from other that those are_too)) in
      (ap (λ t. t ∷ these) same ∙ ap (λ ts. that ∷ ts) later.0, later.1)

-- a bad place is no end of the text
never_bad : (text : List ℕ) (tokens : List Token) (line : ℕ) → AreTokens text 0 (length text) tokens → IsBadPlace text line → ⊥
never_bad text tokens line are bad =
    let same = one_split text (length text) bad.at (omega arith) (omega (arith, bad.inside)) (ends_text text) (ends_bad text bad.at bad.bad) 0 tokens bad.tokens are bad.before in
    omega (arith, same.1, bad.inside)

pub tokens_only : (text : List ℕ) (tokens : List Token) → AreTokens text 0 (length text) tokens → tokens_of text ≡ Ok tokens
tokens_only text tokens are = cases (tokens_of text) refl
  where
    cases : (read : Result (List Token) ℕ) → tokens_of text ≡ read → tokens_of text ≡ Ok tokens
    cases (Ok others) is =
        is ∙ ap (λ ts. Ok ts) (one_split text (length text) (length text) (omega arith) (omega arith) (ends_text text) (ends_text text) 0 others tokens (tokens_are text others is) are).0
    cases (Err line) is = absurd (never_bad text tokens line are (place_is_bad text line is))

pub bad_place_only : (text : List ℕ) (line : ℕ) → IsBadPlace text line → tokens_of text ≡ Err line
bad_place_only text line bad = cases (tokens_of text) refl
  where
    cases : (read : Result (List Token) ℕ) → tokens_of text ≡ read → tokens_of text ≡ Err line
    cases (Ok tokens) is = absurd (never_bad text tokens line (tokens_are text tokens is) bad)
    cases (Err other) is =
        let first = place_is_bad text other is in
        let same = one_split text first.at bad.at (omega (arith, first.inside)) (omega (arith, bad.inside)) (ends_bad text first.at first.bad) (ends_bad text bad.at bad.bad) 0 first.tokens bad.tokens first.before bad.before in
        is ∙ ap (λ n. Err n) (first.on ∙ ap (line_of text) same.1 ∙ sym bad.on)
