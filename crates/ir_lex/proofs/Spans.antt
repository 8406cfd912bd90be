-- The longest token at a place is a token of the text.
use Rattle.std.proofs.Common.{◌≡◌, ap, ℕ, ◌<◌, List, arith, drop, subst, sym, take}
use Rattle.ir_lex.specs.Spelling.{Spells}
use Rattle.ir_lex.specs.Splitting.{IsTokenOf, longest_match, line_of}
use Rattle.ir_lex.specs.declared.longest_match.LongestMatch.{LongestMatch}
use Rattle.ir_lex.proofs.Longest.{len_is_own}
use Rattle.ir_lex.proofs.ReachesAll.{reaches}
use Rattle.ir_lex.proofs.SpelledKinds.{spelled}

-- the longest token at the start is spelled as its kind says
pub longest_spelled : (bytes : List ℕ) (found : LongestMatch) → 0 < found.len → found ≡ longest_match bytes → Spells found.kind (take found.len bytes)
longest_spelled bytes found some is =
    let some : 0 < (longest_match bytes).len = subst (λ f. 0 < f.len) is some in
    let own = len_is_own bytes some in
    subst (λ f. Spells f.kind (take f.len bytes)) (sym is)
    (subst (λ n. Spells (longest_match bytes).kind (take n bytes)) own
    (spelled (longest_match bytes).kind bytes (subst (λ n. 0 < n) (sym own) some)))

-- the longest token at a place is a token of the text
pub token_is : (text : List ℕ) (at line : ℕ) (found : LongestMatch) → 0 < found.len → found ≡ longest_match (drop at text) → line ≡ line_of text at → IsTokenOf text (record { kind = found.kind; start = at; len = found.len; line = line })
token_is text at line found some is here = record {
  spelled = longest_spelled (drop at text) found some is;
  longest = λ kind first rest split spells.
      omega (arith, reaches kind first rest spells, ap (λ f. f.len) is, ap (λ xs. (longest_match xs).len) split);
  line = here;
}
