-- The numbers of registers, by their names in the calling convention (RISC-V ABIs Specification, "Integer Register
-- Convention").
use Rattle.std.specs.Prelude.{ℕ}

-- the return address
abbrev pub ra : ℕ
ra = 1

-- the stack pointer
abbrev pub sp : ℕ
sp = 2

-- temporaries
abbrev pub t0 : ℕ
t0 = 5

abbrev pub t1 : ℕ
t1 = 6

-- the first argument and the result, the second argument, and the number of a call of the environment
abbrev pub a0 : ℕ
a0 = 10

abbrev pub a1 : ℕ
a1 = 11

abbrev pub a7 : ℕ
a7 = 17
