-- The first duplicate and the first undefined name of one object, as searches.
use Rattle.std.proofs.Common.{◌≡◌, ◌&&◌, ◌||◌, not, List, find, option_map, slice_get}
use Rattle.obj_link.specs.Names.{defines, is_global, duplicates_of, undefined_of}
use Rattle.obj_link.proofs.Lists.{first-map-filter, first-filter}
use Rattle.asm_read.specs.declared.object.Object.{Object}

pub first-duplicates_of : (before : List Object) (object : Object)
    → slice_get (duplicates_of before object) 0 ≡ option_map (λ s. s.name) (find (λ s. s.global && is_global before s.name) object.symbols)
first-duplicates_of before object =
    first-map-filter (λ s. s.name) (λ s. s.global && is_global before s.name) object.symbols

pub first-undefined_of : (objects : List Object) (object : Object)
    → slice_get (undefined_of objects object) 0 ≡ find (λ name. not (defines object name || is_global objects name)) object.needs
first-undefined_of objects object =
    first-filter (λ name. not (defines object name || is_global objects name)) object.needs
