-- What is told of the source and the sink in memory.
use Rattle.std.specs.Prelude.{ℕ, ◌-◌, List, length}

-- the bytes that a source has left, the most that one read gives, the numbers of the reads that fail, and how many
-- reads there were and failed
pub record SourceState : Type 0 where
  pub left : List ℕ
  pub piece : ℕ
  pub fails : List ℕ
  pub calls : ℕ
  pub faults : ℕ

-- the bytes that a sink was given, the most that it holds, the numbers of the writes that fail, and how many writes
-- there were and failed
pub record SinkState : Type 0 where
  pub written : List ℕ
  pub room : ℕ
  pub fails : List ℕ
  pub calls : ℕ
  pub faults : ℕ

-- how many bytes a sink still holds
abbrev pub room_left : SinkState → ℕ
room_left sink = sink.room - length sink.written
