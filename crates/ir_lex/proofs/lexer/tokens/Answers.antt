use Rattle.std.proofs.Common.{◌≡◌, ap, length, subst, sym, take, ◌+◌, ◌<◌, ◌≤◌, ◌∙◌, Ok, Err}
use Rattle.ir_lex.specs.Splitting.{HasBytes, line_feeds, piece_len, piece_of}
use Rattle.ir_lex.specs.declared.piece.Piece.TheVariants.{Begins, Gap}
use Rattle.ir_lex.proofs.Keeping.{Kept, kept_begins, kept_blank, kept_first, kept_gap}
use Rattle.ir_lex.proofs.Reading.{place_is_bad, tokens_are}
use Rattle.ir_lex.proofs.Scans.{all_bad, all_read}
use Rattle.ir_lex.proofs.lexer.tokens.Goals as goal
use Rattle.ir_lex.proofs.lexer.tokens.Goals.{in-Gap, in-Begins+in-Ok}

pub loop-at-init : goal.loop-at-init
loop-at-init c = subst (Kept c.args.bytes.now 0 1) (sym c.new-tokens.ensures.items) (kept_first c.args.bytes.now)

pub loop-at-preserved-then-bytes-at-eq32 : goal.loop-at-preserved-then-bytes-at-eq32
loop-at-preserved-then-bytes-at-eq32 c =
    kept_blank c.args.bytes.now c.loop-at.at c.loop-at.line c.loop-at.tokens.items c.loop-at.invariant c.loop-at-test.true c.if-bytes-at-eq32.true

pub returns-in-Bad-clause-value : goal.returns-in-Bad-clause-value
returns-in-Bad-clause-value c =
    sym c.loop-at.invariant.left
    ∙ all_bad c.args.bytes.now c.loop-at.tokens.items c.loop-at.at c.loop-at-test.true
    (sym c.in-Bad.is ∙ c.piece_of-piece.ensures.value ∙ ap piece_of c.tail_of-rest.ensures)
    ∙ ap (λ line. Err line) (sym c.loop-at.invariant.here)

pub loop-at-preserved : goal.loop-at-preserved
loop-at-preserved c =
    let text = c.args.bytes.now in
    let at = c.loop-at.at in
    let rest = c.tail_of-rest.result.now in
    let piece = c.piece_of-piece.result in
    let feeds = c.feeds_of-line.result in
    let n = c.match-piece.len in
    elim c.match-piece.branch [
      | in-Gap w ↦
          let is : piece ≡ Gap n = w.in-Gap.is ∙ ap (λ k. Gap k) (sym w.len-is) in
          subst (λ ts. Kept text (at + n) (c.loop-at.line + feeds) ts.items) (sym w.tokens-is)
          (kept_gap text at c.loop-at.line feeds n c.loop-at.tokens.items rest c.loop-at.invariant c.loop-at-test.true
          (subst HasBytes is c.piece_of-piece.ensures.some) c.tail_of-rest.ensures
          (subst (λ p. piece_len p ≤ length rest) is c.piece_of-piece.ensures.within)
          (c.feeds_of-line.ensures.value ∙ ap (λ p. line_feeds (take (piece_len p) rest)) (w.piece-is ∙ ap (λ k. Gap k) (sym w.len-is)))
          (subst (λ p. feeds ≤ piece_len p) (w.piece-is ∙ ap (λ k. Gap k) (sym w.len-is)) c.feeds_of-line.ensures.within)
          (sym is ∙ c.piece_of-piece.ensures.value))
      | in-Begins+in-Ok w ↦
          let found = w.in-Begins.found in
          let is : piece ≡ Begins found = w.in-Begins.is in
          let len : found.len ≡ n = sym w.len-is in
          subst (Kept text (at + n) (c.loop-at.line + feeds)) (sym (ap (λ ts. ts.items) w.tokens-is ∙ w.in-Ok.ensures.items))
          (kept_begins text at c.loop-at.line feeds n c.loop-at.tokens.items rest c.loop-at.invariant c.loop-at-test.true
          (subst (λ k. 0 < k) len (subst HasBytes is c.piece_of-piece.ensures.some)) c.tail_of-rest.ensures
          (subst (λ k. k ≤ length rest) len (subst (λ p. piece_len p ≤ length rest) is c.piece_of-piece.ensures.within))
          (c.feeds_of-line.ensures.value ∙ ap (λ p. line_feeds (take (piece_len p) rest)) w.piece-is ∙ ap (λ k. line_feeds (take k rest)) len)
          (subst (λ k. feeds ≤ k) len (subst (λ p. feeds ≤ piece_len p) w.piece-is c.feeds_of-line.ensures.within))
          found len (sym is ∙ c.piece_of-piece.ensures.value))
    ]

pub returns-clause-value : goal.returns-clause-value
returns-clause-value c =
    sym c.loop-at.invariant.left
    ∙ all_read c.args.bytes.now c.loop-at.tokens.items c.loop-at.at c.loop-at-test.false
    ∙ ap (λ ts. Ok ts) (sym c.from_vec.ensures)

pub returns-in-Bad-clause-lex : goal.returns-in-Bad-clause-lex
returns-in-Bad-clause-lex c = place_is_bad c.args.bytes.now c.loop-at.line (returns-in-Bad-clause-value c)

pub returns-clause-spans : goal.returns-clause-spans
returns-clause-spans c = (tokens_are c.args.bytes.now c.from_vec.result (returns-clause-value c)).spans

pub returns-clause-each : goal.returns-clause-each
returns-clause-each c = (tokens_are c.args.bytes.now c.from_vec.result (returns-clause-value c)).each

pub returns-clause-accepted : goal.returns-clause-accepted
returns-clause-accepted c = (tokens_are c.args.bytes.now c.from_vec.result (returns-clause-value c)).accepted

pub returns-clause-separated : goal.returns-clause-separated
returns-clause-separated c = (tokens_are c.args.bytes.now c.from_vec.result (returns-clause-value c)).separated
