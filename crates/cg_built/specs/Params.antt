-- The parameters of a function.
use Rattle.std.specs.Prelude.{ℕ, Option, List, position}
use Rattle.ir_ident.specs.Names.{same_name}
use Rattle.ir_ident.specs.declared.name.Name.{Name}
use Rattle.ir_syntax.specs.declared.function.Param.{Param}

-- the place of a parameter among those of its function
abbrev pub place_of : Name → List Param → Option ℕ
place_of name params = position (λ p. same_name p.name name) params
