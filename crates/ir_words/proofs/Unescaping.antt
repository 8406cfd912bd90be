-- The first bytes that a name in quotes stands for, written into an array.
use Rattle.std.proofs.Common.{◌≡◌, ap, sym, ◌∙◌, ℕ, ◌+◌, ◌<◌, ◌≤◌, List, [], ◌∷◌, ◌++◌, arith, drop, length, set, subst, take}
use Rattle.std.proofs.lemmas.List.{append_assoc, append-nil, length-take, length-take-le, take_all, take-append-le, take_more_set}
use Rattle.ir_lex.specs.Escapes.{escape_byte, escape_len}
use Rattle.ir_lex.proofs.Unescaping.{left_of, left_step, none_left}

pub one_more : (quoted name all : List ℕ) (at len byte step : ℕ) → at < length quoted → len < length name → byte ≡ escape_byte (drop at quoted) → step ≡ escape_len (drop at quoted) → 0 < step
    → take len name ++ left_of quoted at ≡ all
    → take (len + 1) (set name len byte) ++ left_of quoted (at + step) ≡ all
one_more quoted name all at len byte step inside room b s some kept =
    ap (λ xs. xs ++ left_of quoted (at + step)) (take_more_set name len byte room)
    ∙ append_assoc (take len name) (byte ∷ []) (left_of quoted (at + step))
    ∙ ap (λ xs. take len name ++ xs) (sym (left_step quoted at byte step inside b s some))
    ∙ kept

pub at_end : (quoted name all : List ℕ) (at len : ℕ) → length quoted ≤ at → len ≤ 40 → take len name ++ left_of quoted at ≡ all → take len name ≡ take 40 all
at_end quoted name all at len end room kept =
    let whole : take len name ≡ all = sym (append-nil (take len name)) ∙ ap (λ xs. take len name ++ xs) (sym (none_left quoted at end)) ∙ kept in
    let short : length (take len name) ≤ 40 = omega (arith, length-take len name, room) in
    whole ∙ sym (take_all 40 all (subst (λ xs. length xs ≤ 40) whole short))

pub full : (quoted name all : List ℕ) (at len : ℕ) → 40 ≤ len → len ≤ 40 → length name ≡ 40 → take len name ++ left_of quoted at ≡ all → take len name ≡ take 40 all
full quoted name all at len more room size kept =
    let size : length (take len name) ≡ len = length-take-le len name (omega (arith, room, size)) in
    sym (take_all 40 (take len name) (omega (arith, size, room)))
    ∙ sym (take-append-le 40 (take len name) (left_of quoted at) (omega (arith, size, more)))
    ∙ ap (λ xs. take 40 xs) kept
