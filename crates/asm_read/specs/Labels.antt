-- Where labels are, and what is made of the branches and jumps that go to them.
use Rattle.std.specs.Prelude.{◌*◌, ◌+◌, ◌-ℤ◌, ◌&&◌, ℕ, pos, Bool, false, not, nat_le, nat_lt, Option, Some, None, List, [], ◌∷◌, ◌++◌, length, take, slice_index_or, if◌then◌else◌}
use Rattle.std.specs.List.{flat_map}
use Rattle.std.specs.Str.{bytes_eq}
use Rattle.rv_isa.specs.Table.{shape}
use Rattle.rv_isa.specs.declared.inst.Inst.{Inst}
use Rattle.rv_isa.specs.declared.inst.Line.{Line}
use Rattle.rv_isa.specs.declared.inst.Line.TheVariants.{Plain}
use Rattle.rv_isa.specs.declared.shape.Shape.{Shape}
use Rattle.rv_isa.specs.declared.shape.Shape.TheVariants.{Branch}
use Rattle.rv_isa.specs.declared.statement.Statement.{Statement}
use Rattle.rv_isa.specs.declared.statement.Statement.TheVariants.{Text, ToLabel}
use Rattle.asm_line.specs.Statements.{code, labelled}

-- the test of what is there, and false where there is nothing
abbrev pub is_some_and : {A : Type 0} → (A → Bool) → Option A → Bool
is_some_and test None = false
is_some_and test (Some x) = test x

-- the statement is the label
abbrev pub labels : List ℕ → Statement → Bool
labels name statement = is_some_and (bytes_eq name) (labelled statement)

-- The number of instructions before a label, the last one of its name; `found` tells it of the statements before, which
-- have so many instructions.
abbrev pub place_after : List ℕ → Option ℕ → ℕ → List Statement → Option ℕ
place_after name found before [] = found
place_after name found before (statement ∷ statements) =
    place_after name (if labels name statement then Some before else found) (before + length (code statement)) statements

abbrev pub place : List Statement → List ℕ → Option ℕ
place statements name = place_after name None 0 statements

-- how many instructions
abbrev pub size : List Statement → ℕ
size statements = length (flat_map code statements)

-- A branch reaches 4096 bytes back and fewer than so many forward, which are 1024 instructions, and a jump 256 times as many.
abbrev pub reach : Shape → ℕ
reach Branch = 0x400
reach other = 0x40000

-- an instruction after so many others reaches the one after so many others
abbrev pub reaches : Inst → ℕ → ℕ → Bool
reaches inst here there = nat_le here (there + reach (shape inst.op)) && nat_lt there (here + reach (shape inst.op))

-- with its distance in bytes
abbrev pub going : Inst → ℕ → ℕ → Inst
going inst here there = record inst { imm = pos (4 * there) -ℤ pos (4 * here) }

-- a branch or a jump to a label that has a place here, out of its reach
abbrev pub misses : (List ℕ → Option ℕ) → ℕ → Statement → Bool
misses place here (ToLabel inst name) = is_some_and (λ there. not (reaches inst here there)) (place name)
misses place here other = false

-- statement k is one
abbrev pub is_far : List Statement → ℕ → Bool
is_far statements k = misses (place statements) (size (take k statements)) (slice_index_or statements k Text)

abbrev pub aimed_at : Inst → ℕ → Option ℕ → Inst
aimed_at inst here None = inst
aimed_at inst here (Some there) = going inst here there

-- the code of a statement after so many instructions, by the places of labels
abbrev pub code_at : (List ℕ → Option ℕ) → ℕ → Statement → List Line
code_at place here (ToLabel inst name) = Plain (aimed_at inst here (place name)) ∷ []
code_at place here other = code other

abbrev pub words_after : (List ℕ → Option ℕ) → ℕ → List Statement → List Line
words_after place before [] = []
words_after place before (statement ∷ statements) =
    code_at place before statement ++ words_after place (before + length (code statement)) statements

-- the instructions in their order, branches and jumps with their distances
abbrev pub words : List Statement → List Line
words statements = words_after (place statements) 0 statements
