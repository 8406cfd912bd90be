-- The code of the runtime is of the table, and its words are those of its lines.
use Rattle.std.proofs.Common.{◌≡◌, ◌%◌, ◌<◌, ◌≤◌, ℕ, ◌^◌, pos, List, All, map, ap, arith, refl}
use Rattle.std.proofs.lemmas.List.Elements.{All-from_recursion, All-append}
use Rattle.std.proofs.lemmas.Int.{ints}
use Rattle.rv_isa.specs.Encoding.{IsInst, IsSigned12, IsUnsigned20, encoded}
use Rattle.rv_isa.proofs.Formats.{extended-12}
use Rattle.obj_link.specs.Words.{high_part, line_word, moved}
use Rattle.obj_link.specs.Runtime.{runtime_words}
use Rattle.std.specs.Prelude.{codes}
use Rattle.rv_isa.specs.Instructions.{addi}
use Rattle.cg_part.proofs.Programs.{load_high, call_low, start_code, host_code, runtime_code}
use Rattle.rv_isa.specs.Instructions.{ecall}
use Rattle.cg_part.proofs.InstructionLemmas.{addi_formed, move_formed, return_formed}

unsigned_20 : (n : ℕ) → n < 0x100000 → IsUnsigned20 (pos n)
unsigned_20 n fits = grind (arith, ints)

-- these are instructions of the table, whatever the address

pub load_formed : (rd address : ℕ) → rd < 32 → IsInst (load_high rd address)
load_formed rd address low =
    let fits : high_part address < 0x100000 = omega arith in
    let unsigned : IsUnsigned20 (pos (high_part address)) = unsigned_20 (high_part address) fits in
    record { rd = low; rs1 = omega arith; rs2 = omega arith; row = (refl, refl, unsigned) }

pub call_formed : (rd address : ℕ) → rd < 32 → IsInst (call_low rd address)
call_formed rd address low =
    let signed = extended-12 (address % 0x1000) (omega arith) in
    record { rd = low; rs1 = low; rs2 = omega arith; row = (refl, signed.0) }

pub ecall_formed : IsInst ecall
ecall_formed = record { rd = omega arith; rs1 = omega arith; rs2 = omega arith; row = (refl, refl, refl, refl) }

-- loads the number of an environment call into a7
pub number_formed : (number : ℕ) → number ≤ 2047 → IsInst (addi 17 0 (pos number))
number_formed number small =
    let signed : IsSigned12 (pos number) = grind (arith, ints) in
    addi_formed 17 0 (pos number) (omega arith) (omega arith) signed

pub start_formed : (address : ℕ) → All IsInst (start_code address)
start_formed address =
    All-from_recursion IsInst (start_code address) (
      move_formed 10 0 (omega arith) (omega arith),
      (
        move_formed 11 0 (omega arith) (omega arith),
        (load_formed 1 address (omega arith), (call_formed 1 address (omega arith), (number_formed 93 (omega arith), (ecall_formed, tt)))),
      ),
    )

host_formed : All IsInst host_code
host_formed =
    All-from_recursion IsInst host_code (
      number_formed 1 (omega arith),
      (
        ecall_formed,
        (return_formed, (number_formed 2 (omega arith), (ecall_formed, (return_formed, tt)))),
      ),
    )

pub runtime_formed : (address : ℕ) → All IsInst (runtime_code address)
runtime_formed address = All-append IsInst (start_code address) host_code (start_formed address) host_formed

-- the runtime's words are those of its code, by the address of `main`
pub runtime_encoded : (address : List ℕ → ℕ) → address (codes "main") < 2 ^ 64
    → map (line_word address) runtime_words ≡ map encoded (runtime_code (address (codes "main")))
runtime_encoded address small =
    let same : moved (address (codes "main")) (pos 0) ≡ address (codes "main") = omega arith in
    ap (λ main. map encoded (runtime_code main)) same
