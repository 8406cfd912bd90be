-- The function that a run begins with.
use Rattle.std.specs.Prelude.{◌&&◌, ◌||◌, Bool, true, false, find, is_some, Option, Some, List, [], ◌∷◌}
use Rattle.std.specs.Option.{option_map_or}
use Rattle.ir_check.specs.Hosts.{is_i32, takes_none}
use Rattle.ir_syntax.specs.Types.{TextTree, ptr}
use Rattle.ir_syntax.specs.declared.function.Function.{Function}
use Rattle.ir_syntax.specs.declared.function.Param.{Param}
use Rattle.ir_syntax.specs.declared.module.Module.{Module}
pub use Rattle.ir_sem.specs.Mains.{is_main}

abbrev pub is_ptr : Option TextTree → Bool
is_ptr (Some ptr) = true
is_ptr other = false

-- a number of words, and where they are
abbrev pub takes_words : List Param → Bool
takes_words (count ∷ words ∷ []) = is_i32 count.ty && is_ptr words.ty
takes_words other = false

-- of type `i32 ()` or `i32 (i32, ptr)`
abbrev pub fits_main : Function → Bool
fits_main f = is_i32 f.result && (takes_none f.params || takes_words f.params)

-- the first `main` that is defined and that other modules see
abbrev pub the_main : Module → Option Function
the_main m = find is_main m.functions

-- there is one
abbrev pub defines_main : Module → Bool
defines_main m = is_some (the_main m)

-- there is one, of a type that a run can call
abbrev pub has_main : Module → Bool
has_main m = option_map_or fits_main (the_main m) false
