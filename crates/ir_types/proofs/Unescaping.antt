-- A name in quotes, read into a list of its bytes.
use Rattle.std.proofs.Common.{◌≡◌, ℕ, ◌+◌, ◌<◌, ◌≤◌, List, [], ◌∷◌, ◌++◌, ap, append_assoc, drop, length, sym, ◌∙◌}
use Rattle.std.proofs.lemmas.List.{append-nil}
use Rattle.ir_lex.specs.Escapes.{escape_byte, escape_len}
use Rattle.ir_lex.proofs.Unescaping.{left_of, left_step, none_left}

pub one_byte_more : (quoted prefix more all : List ℕ) (at byte step : ℕ) → at < length quoted → more ≡ prefix ++ byte ∷ []
    → byte ≡ escape_byte (drop at quoted) → step ≡ escape_len (drop at quoted) → 0 < step
    → prefix ++ left_of quoted at ≡ all → more ++ left_of quoted (at + step) ≡ all
one_byte_more quoted prefix more all at byte step inside is b s some kept =
    ap (λ xs. xs ++ left_of quoted (at + step)) is
    ∙ append_assoc prefix (byte ∷ []) (left_of quoted (at + step))
    ∙ ap (λ xs. prefix ++ xs) (sym (left_step quoted at byte step inside b s some))
    ∙ kept

pub all_bytes : (quoted prefix all : List ℕ) (at : ℕ) → length quoted ≤ at → prefix ++ left_of quoted at ≡ all → prefix ≡ all
all_bytes quoted prefix all at end kept =
    sym (append-nil prefix) ∙ ap (λ xs. prefix ++ xs) (sym (none_left quoted at end)) ∙ kept
