-- Where no token begins, no kind spells a prefix.
use Rattle.std.proofs.Common.{◌≡◌, ℕ, ◌<◌, inl, inr, List, [], ◌∷◌, ◌++◌, ap, arith, length, length-append}
use Rattle.ir_lex.specs.BadPlaces.{BeginsNothing}
use Rattle.ir_lex.specs.Spelling.{Spells}
use Rattle.ir_lex.specs.Splitting.{longest_match}
use Rattle.ir_lex.specs.declared.kind.Kind.{Kind}
use Rattle.ir_lex.specs.declared.kind.Kind.TheVariants.{Label, Int, Real, Word, Str, CStr, Global, Local, Meta, Attr, Equal, Comma, Star, OpenRound, CloseRound, OpenSquare, CloseSquare, OpenCurly, CloseCurly, OpenPacked, ClosePacked, Less, Greater, Bar, Bang, Ellipsis}
use Rattle.ir_lex.proofs.Reaches.{string_some}
use Rattle.ir_lex.proofs.ReachesAll.{reaches}

pub some_spelled : (kind : Kind) (text : List ℕ) → Spells kind text → 0 < length text
some_spelled Label text is = omega (arith, ap length is.2, length-append is.0 (58 ∷ []))
some_spelled Int text is = elim is.2 [
  | inl plain ↦ omega (arith, ap length plain, is.1.some)
  | inr minus ↦ omega (arith, ap length minus)
]
some_spelled Real text (inl is) = omega (arith, ap length is.is, length-append is.whole (46 ∷ (is.digits ++ is.exponent)))
some_spelled Real text (inr is) = omega (arith, ap length is.is)
some_spelled Word text is = is.run.some
some_spelled Str text is = string_some text is
some_spelled CStr text is = omega (arith, ap length is.2)
some_spelled Global text is = omega (arith, ap length is.2)
some_spelled Local text is = omega (arith, ap length is.2)
some_spelled Meta text is = omega (arith, ap length is.2)
some_spelled Attr text is = omega (arith, ap length is.2)
some_spelled Equal text is = omega (arith, ap length is)
some_spelled Comma text is = omega (arith, ap length is)
some_spelled Star text is = omega (arith, ap length is)
some_spelled OpenRound text is = omega (arith, ap length is)
some_spelled CloseRound text is = omega (arith, ap length is)
some_spelled OpenSquare text is = omega (arith, ap length is)
some_spelled CloseSquare text is = omega (arith, ap length is)
some_spelled OpenCurly text is = omega (arith, ap length is)
some_spelled CloseCurly text is = omega (arith, ap length is)
some_spelled OpenPacked text is = omega (arith, ap length is)
some_spelled ClosePacked text is = omega (arith, ap length is)
some_spelled Less text is = omega (arith, ap length is)
some_spelled Greater text is = omega (arith, ap length is)
some_spelled Bar text is = omega (arith, ap length is)
some_spelled Bang text is = omega (arith, ap length is)
some_spelled Ellipsis text is = omega (arith, ap length is)

pub begins_nothing : (bytes : List ℕ) → (longest_match bytes).len ≡ 0 → BeginsNothing bytes
begins_nothing bytes none = λ kind prefix rest split spells.
    absurd (omega (arith, none, some_spelled kind prefix spells, reaches kind prefix rest spells, ap (λ xs. (longest_match xs).len) split))
