-- What a loop has read so far.
use Rattle.std.specs.Prelude.{List, ◌++◌, Ok}
use Rattle.ir_words.specs.Lexemes.{Lexeme}
use Rattle.ir_rules.specs.Rules.{Answer, ◌>>=◌}

-- an answer, its tree made into another one
abbrev pub into : {A B : Type 0} → (A → B) → Answer A → Answer B
into {A} {B} f o = o >>= (λ (p : A × List Lexeme). Ok (f p.0, p.1))

-- an answer behind these items
abbrev pub prefixed : {A : Type 0} → List A → Answer (List A) → Answer (List A)
prefixed {A} prefix o = into (λ (xs : List A). prefix ++ xs) o
