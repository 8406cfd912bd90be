-- Pieces, counted one by one.
use Rattle.std.proofs.Common.{arith, ◌≡◌, ap, ℕ, suc, ◌+◌, true, nat_lt, if◌then◌else◌, ◌∙◌, sym}
use Rattle.ir_call_rules.specs.Pieces.{piece_at, pieces_from}

-- a piece stands at an offset that is not the end
one_more : (most align size offset : ℕ) → nat_lt offset size ≡ true → pieces_from (suc most) align size offset ≡ suc (pieces_from most align size (offset + piece_at align size offset))
one_more most align size offset on = ap (λ b. if b then suc (pieces_from most align size (offset + piece_at align size offset)) else 0) on

-- what is counted from an offset on is one more than from behind its piece
pub stepped : (count left most align size offset piece total : ℕ) → left ≡ suc most → nat_lt offset size ≡ true → piece ≡ piece_at align size offset → count + pieces_from left align size offset ≡ total → count + 1 + pieces_from most align size (offset + piece) ≡ total
stepped count left most align size offset piece total more on is counted =
    let behind = pieces_from most align size (offset + piece) in
    let all : pieces_from left align size offset ≡ suc behind =
    ap (λ n. pieces_from n align size offset) more ∙ one_more most align size offset on ∙ ap (λ p. suc (pieces_from most align size (offset + p))) (sym is) in
    added count behind ∙ sym (ap (λ n. count + n) all) ∙ counted
  where
    added : (count behind : ℕ) → count + 1 + behind ≡ count + suc behind
    added count behind = omega arith
