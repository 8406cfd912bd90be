-- What a call does, by the function that it finds.
use Rattle.std.proofs.Common.{◌≡◌, ◌∙◌, ℕ, Option, None, Some, List, refl, ap, sym, subst, slice_get}
use Rattle.std.specs.Option.{option_and_then}
use Rattle.ir_aliases.specs.Ends.{called_function}
use Rattle.ir_ident.specs.Names.{name_bytes}
use Rattle.ir_ident.specs.declared.name.Name.{Name}
use Rattle.ir_mem.specs.declared.block.Block.{Block}
use Rattle.ir_sem.specs.Addresses.{Loaded}
use Rattle.ir_sem.specs.Instructions.{callee, callee_action}
use Rattle.ir_sem.specs.Intrinsics.{declared_action}
use Rattle.ir_sem.specs.declared.argument.Argument.{Argument}
use Rattle.ir_syntax.specs.declared.function.Function.{Function}

-- the callee is the function at its place
pub callee_at : (l : Loaded) (name : Name) (called : Option ℕ) (place : ℕ) (found : Option Function)
    → called ≡ called_function l.text name → called ≡ Some place → slice_get l.text.functions place ≡ found → callee l name ≡ found
callee_at l name called place found is at there = ap (option_and_then (slice_get l.text.functions)) (sym is ∙ at) ∙ there

-- a function without blocks is known by its name
pub declared_callee : (blocks : List Block) (f : Function) (arguments : List Argument) → f.blocks ≡ None
    → callee_action blocks (Some f) arguments ≡ declared_action blocks (name_bytes f.name) arguments
declared_callee blocks f arguments none =
    subst (λ b. callee_action blocks (Some (record f { blocks = b })) arguments ≡ declared_action blocks (name_bytes f.name) arguments) (sym none) refl
