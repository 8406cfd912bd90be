use Rattle.std.specs.Prelude.{◌≡◌, ◌+◌, ◌*◌, ◌-◌, ◌^◌, ◌<◌}
use Rattle.cg_num.specs.Functions.{swapped}
use Rattle.cg_num.proofs.applying.swapped.Given as goal

abbrev pub invariant-loop : goal.invariant-loop
invariant-loop l = record {
  within : l.result < 256 ^ l.counter;
  is : swapped l.bytes l.a ≡ l.result * 256 ^ (l.bytes - l.counter) + swapped (l.bytes - l.counter) l.rest;
}
