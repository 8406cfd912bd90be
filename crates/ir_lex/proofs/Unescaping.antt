-- What the bytes of a name in quotes stand for, a byte at a time.
use Rattle.std.proofs.Common.{◌≡◌, refl, ap, sym, ◌∙◌, ℕ, ◌+◌, ◌<◌, ◌≤◌, List, [], ◌∷◌, arith, drop, length, subst}
use Rattle.std.proofs.lemmas.List.{at_drop_all, drop-drop, length-drop}
use Rattle.ir_lex.specs.Escapes.{escape_byte, escape_len, unescaped, unescaped_after}
use Rattle.ir_lex.proofs.Scans.{unescaped_step}

-- what the bytes from a place on stand for
abbrev pub left_of : List ℕ → ℕ → List ℕ
left_of quoted at = unescaped_after 0 (drop at quoted)

pub left_first : (quoted : List ℕ) → left_of quoted 0 ≡ unescaped quoted
unfolding unescaped
left_first quoted = refl

pub left_step : (quoted : List ℕ) (at byte step : ℕ) → at < length quoted → byte ≡ escape_byte (drop at quoted) → step ≡ escape_len (drop at quoted) → 0 < step
    → left_of quoted at ≡ byte ∷ left_of quoted (at + step)
left_step quoted at byte step inside b s some =
    unescaped_step (drop at quoted) (omega (arith, inside, length-drop at quoted)) (subst (λ n. 0 < n) s some)
    ∙ ap (λ xs. escape_byte (drop at quoted) ∷ unescaped_after 0 xs) (drop-drop (escape_len (drop at quoted)) at quoted)
    ∙ ap (λ n. escape_byte (drop at quoted) ∷ unescaped_after 0 (drop (at + n) quoted)) (sym s)
    ∙ ap (λ n. n ∷ left_of quoted (at + step)) (sym b)

pub none_left : (quoted : List ℕ) (at : ℕ) → length quoted ≤ at → left_of quoted at ≡ []
unfolding unescaped_after
none_left quoted at end = at_drop_all (λ xs. unescaped_after 0 xs) quoted at end
