-- The function that a run begins with.
use Rattle.std.proofs.Common.{◌≡◌, false, true, Option, Some, None, refl}
use Rattle.std.specs.Option.{option_map_or}
use Rattle.cg_built.specs.Main.{fits_main, has_main, the_main}
use Rattle.cg_part.specs.Meaning.{IsMain}
use Rattle.ir_syntax.specs.declared.function.Function.{Function}
use Rattle.ir_syntax.specs.declared.module.Module.{Module}

-- a module that has a `main` has one of the meaning
pub main_is : (m : Module) → has_main m ≡ true → (f : Function) × IsMain m f
main_is m has = by (the_main m) refl has
  where
    by : (found : Option Function) → the_main m ≡ found → option_map_or fits_main found false ≡ true → (f : Function) × IsMain m f
    by None is fits = absurd (cc)
    by (Some f) is fits = (f, record { found = is; fits = fits })
