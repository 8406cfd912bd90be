use Rattle.std.proofs.Common.{◌≡◌, ◌-◌, ◌<◌, ◌≤◌, ◌^◌, drop, length}
use Rattle.ir_mem.specs.Bytes.{from_little}
use Rattle.ir_mem.proofs.little.little.Given as goal

abbrev pub invariant-loop-place : goal.invariant-loop-place
invariant-loop-place l = record {
  within : l.place ≤ length l.bytes;
  value : l.number ≡ from_little (drop l.place l.bytes);
  small : l.number < 256 ^ (length l.bytes - l.place);
}
