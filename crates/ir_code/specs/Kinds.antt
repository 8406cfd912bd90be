-- Kinds of instructions.
use Rattle.ir_syntax.specs.declared.instr.Op.{Op}
use Rattle.ir_syntax.specs.declared.instr.Op.TheVariants.{Wrapping, Exact, Bitwise, Icmp, Select, Cast, Gep, Call}

-- an operation on two numbers
abbrev pub IsArithmetic : Op → Type 0
IsArithmetic (Wrapping op nuw nsw ty left right) = Unit {0}
IsArithmetic (Exact op exact ty left right) = Unit {0}
IsArithmetic (Bitwise op ty left right) = Unit {0}
IsArithmetic other = ⊥

-- one that gives a value by those of a fixed number of operands
abbrev pub IsFixed : Op → Type 0
IsFixed (Wrapping op nuw nsw ty left right) = Unit {0}
IsFixed (Exact op exact ty left right) = Unit {0}
IsFixed (Bitwise op ty left right) = Unit {0}
IsFixed (Icmp pred ty left right) = Unit {0}
IsFixed (Select condition_ty condition then_ty then_value else_ty else_value) = Unit {0}
IsFixed (Cast op from value to) = Unit {0}
IsFixed other = ⊥

-- one with a fixed number of operands
abbrev pub IsPlain : Op → Type 0
IsPlain (Gep inbounds ty base_ty base indices) = ⊥
IsPlain (Call result params callee args) = ⊥
IsPlain other = Unit {0}
