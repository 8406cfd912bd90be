use Rattle.std.proofs.Common.{◌≡◌, Option, Some, None, is_some, ap, refl, ◌∙◌, Bor}
use Rattle.std.specs.List.{list_any}
use Rattle.std.specs.Option.{option_copied}
use Rattle.std.specs.Str.{bytes_eq}
use Rattle.asm_read.specs.declared.object.ObjectSymbol.{ObjectSymbol}
use Rattle.obj_link.proofs.Needs.{is_some-find}
use Rattle.obj_link.proofs.names.defines.Goals as goal

copied_some : (found : Option (Bor ObjectSymbol)) → is_some found ≡ is_some (option_copied found)
copied_some (Some symbol) = refl
copied_some None = refl

pub returns : goal.returns
returns c =
    c.is_some.ensures ∙ copied_some c.own_symbol.result ∙ ap is_some c.own_symbol.ensures
    ∙ is_some-find (λ s. bytes_eq s.name c.args.name.now) c.as_slice.result.now
    ∙ ap (list_any (λ s. bytes_eq s.name c.args.name.now)) c.as_slice.ensures
