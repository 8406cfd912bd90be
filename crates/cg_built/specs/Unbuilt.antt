-- What of a module is not built today, by its lines.
use Rattle.std.specs.Prelude.{◌≡◌, ℕ, ◌&&◌, ◌||◌, ◌==◌, Bool, true, false, not, nat_le, is_some, min, Option, None, Some, List, [], ◌∷◌, ◌++◌, length, map, if◌then◌else◌}
use Rattle.std.specs.List.{flat_map, list_all, reduce}
use Rattle.ir_check.specs.Checks.{IsChecked}
use Rattle.ir_syntax.specs.Lines.{line_if}
use Rattle.ir_ident.specs.Names.{name_bytes}
use Rattle.ir_syntax.specs.Types.{TextTree, int}
use Rattle.ir_syntax.specs.declared.block.Block.{Block}
use Rattle.ir_syntax.specs.declared.function.Function.{Function}
use Rattle.ir_syntax.specs.declared.function.Param.{Param}
use Rattle.ir_syntax.specs.declared.linkage.Visibility.{Visibility}
use Rattle.ir_syntax.specs.declared.linkage.Visibility.TheVariants.{Default}
use Rattle.ir_syntax.specs.declared.literal.Literal.{Literal}
use Rattle.ir_syntax.specs.declared.module.Module.{Module}
use Rattle.ir_syntax.specs.declared.operand.Operand.{Operand}
use Rattle.ir_syntax.specs.declared.operand.Operand.TheVariants.{Local, Int}
use Rattle.ir_syntax.specs.declared.term.Term.{Term}
use Rattle.ir_syntax.specs.declared.term.Term.TheVariants.{Ret}
use Rattle.rv_isa.specs.Symbol.{is_bare}
use Rattle.cg_built.specs.Params.{place_of}
pub use Rattle.ir_sem.specs.Mains.{is_external}

abbrev pub is_default : Visibility → Bool
is_default Default = true
is_default other = false

-- the width of an integer type, 0 of another
abbrev pub bits_of : Option TextTree → ℕ
bits_of (Some (int bits)) = bits
bits_of other = 0

abbrev pub is_32_or_64 : ℕ → Bool
is_32_or_64 bits = bits == 32 || bits == 64

-- what stands before the body: seen by every part, a name without quotes, and up to eight parameters of the type of
-- the result, `i32` or `i64`
abbrev pub is_built_head : Function → Bool
is_built_head f =
    is_external f.linkage && is_default f.visibility && is_bare (name_bytes f.name) && is_32_or_64 (bits_of f.result)
    && list_all (λ p. bits_of p.ty == bits_of f.result) f.params && nat_le (length f.params) 8

-- a number from -2048 to 2047
abbrev pub is_immediate : Literal → Bool
is_immediate l = if l.negative then nat_le l.magnitude 2048 else nat_le l.magnitude 2047

abbrev pub is_built_operand : List Param → Operand → Bool
is_built_operand params (Local used) = is_some (place_of used.name params)
is_built_operand params (Int literal) = is_immediate literal
is_built_operand params other = false

-- a parameter or a number is returned, as a value of the result's type
abbrev pub is_built_term : Function → Term → Bool
is_built_term f (Ret line ty value) = bits_of (Some ty) == bits_of f.result && is_built_operand f.params value
is_built_term f other = false

abbrev pub is_empty : {A : Type 0} → List A → Bool
is_empty [] = true
is_empty (x ∷ xs) = false

-- a terminator alone
abbrev pub is_built_block : Function → Block → Bool
is_built_block f b = is_empty b.phis && is_empty b.instrs && is_built_term f b.term

-- one block
abbrev pub is_built_body : Function → Block → List Block → Bool
is_built_body f first more = is_empty more && is_built_block f first

-- the lines of a function that is not built: that of its `define`, and that of its first block
abbrev pub unbuilt_by : Function → Option (List Block) → List ℕ
unbuilt_by f None = []
unbuilt_by f (Some []) = f.line ∷ []
unbuilt_by f (Some (first ∷ more)) = line_if (not (is_built_head f)) f.line ++ line_if (not (is_built_body f first more)) first.line

abbrev pub unbuilt_in : Function → List ℕ
unbuilt_in f = unbuilt_by f f.blocks

-- the lines of what is not built: variables and aliases, and functions of another form
abbrev pub unbuilt_lines : Module → List ℕ
unbuilt_lines m = map (λ g. g.line) m.globals ++ (map (λ a. a.line) m.aliases ++ flat_map unbuilt_in m.functions)

-- the first of these lines; none where all is built
abbrev pub first_unbuilt : Module → Option ℕ
first_unbuilt m = reduce min (unbuilt_lines m)

-- a module that passed the checks, and of which all is built
pub record IsBuilt (m : Module) : Type 0 where
  pub checked : IsChecked m
  pub built : first_unbuilt m ≡ None
