-- What global names stand for (LangRef, "Identifiers").
use Rattle.std.specs.Prelude.{Option, option_map}
use Rattle.ir_ident.specs.NameMaps.{or_else}
use Rattle.ir_ident.specs.Places.{place_by}
use Rattle.ir_ident.specs.declared.name.Name.{Name}
use Rattle.ir_syntax.specs.declared.module.Module.{Module}
use Rattle.ir_scope.specs.declared.item.GlobalItem.{GlobalItem}
use Rattle.ir_scope.specs.declared.item.GlobalItem.TheVariants.{Variable, Function, Alias}

-- the first variable of a name, or else the first function of it, or else the first alias
abbrev pub global_item : Module → Name → Option GlobalItem
global_item m name =
    or_else (option_map Variable (place_by (λ g. g.name) m.globals name))
    (or_else (option_map Function (place_by (λ f. f.name) m.functions name))
    (option_map Alias (place_by (λ a. a.name) m.aliases name)))
