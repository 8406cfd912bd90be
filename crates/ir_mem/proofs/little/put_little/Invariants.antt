use Rattle.std.proofs.Common.{◌≡◌, ◌-◌, ◌++◌, length, take}
use Rattle.ir_mem.specs.Bytes.{to_little}
use Rattle.ir_mem.proofs.little.put_little.Given as goal

abbrev pub invariant-loop-place : goal.invariant-loop-place
invariant-loop-place l = record {
  long : length l.bytes ≡ length l.fn.bytes;
  written : take l.place l.bytes ++ to_little (length l.fn.bytes - l.place) l.rest ≡ to_little (length l.fn.bytes) l.number;
}
