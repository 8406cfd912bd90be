-- What is told of the bytes that a source has left and that a sink was given, over whole calls. Each is an
-- `Option`: what is not told meets all of these facts.
use Rattle.std.specs.Prelude.{◌≡◌, ℕ, ◌<◌, ◌≤◌, List, ◌++◌, length, IfSome}
use Rattle.std.specs.declared.option.Option.{Option}
use Rattle.std.specs.Io.KnownBytes.{Consumes, Appends, IsAtEnd}

-- the source gave exactly these bytes, and has come to its end
pub record GivesAll (old new : Option (List ℕ)) (bytes : List ℕ) : Type 0 where
  pub given : Consumes old new bytes
  pub ended : IsAtEnd new

-- exactly n bytes were taken from the source
pub record TakesExactly (n : ℕ) (old new : Option (List ℕ)) : Type 0 where
  pub bytes : List ℕ
  pub taken : Consumes old new bytes
  pub count : length bytes ≡ n

-- at most n bytes were taken from the source
pub record TakesAtMost (n : ℕ) (old new : Option (List ℕ)) : Type 0 where
  pub bytes : List ℕ
  pub taken : Consumes old new bytes
  pub count : length bytes ≤ n

-- the source has at most n bytes left
abbrev pub HasAtMost : ℕ → Option (List ℕ) → Type 0
HasAtMost n left = IfSome left (λ bytes. length bytes ≤ n)

-- of the bytes that were due, the sink got a prefix that is not all of them
pub record AppendsProperPrefix (old new : Option (List ℕ)) (due : List ℕ) : Type 0 where
  pub prefix : List ℕ
  pub rest : List ℕ
  pub split : due ≡ prefix ++ rest
  pub proper : 0 < length rest
  pub appended : Appends old new prefix
