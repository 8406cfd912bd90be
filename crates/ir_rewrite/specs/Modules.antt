-- A whole module with its types and its constant addresses replaced. The definitions of types stay as they are.
use Rattle.ir_rewrite.specs.Inits.{rewritten_init}
use Rattle.ir_rewrite.specs.Rewritten.{Rewriting, each, maybe, rewritten_function, rewritten_type}
use Rattle.ir_syntax.specs.declared.alias.Alias.{Alias}
use Rattle.ir_syntax.specs.declared.alias.AliasBase.{AliasBase}
use Rattle.ir_syntax.specs.declared.alias.AliasBase.TheVariants as base
use Rattle.ir_syntax.specs.declared.global.Global.{Global}
use Rattle.ir_syntax.specs.declared.module.Module.{Module}

abbrev pub rewritten_global : Rewriting Global
rewritten_global ty_of gep_of g = record g { ty = ty_of g.ty; init = maybe rewritten_init ty_of gep_of g.init }

-- a global name stays
abbrev pub rewritten_base : Rewriting AliasBase
rewritten_base ty_of gep_of (base.Global name) = base.Global name
rewritten_base ty_of gep_of (base.Gep gep) = base.Gep (gep_of gep)

abbrev pub rewritten_alias : Rewriting Alias
rewritten_alias ty_of gep_of a = record a {
  result = maybe rewritten_type ty_of gep_of a.result;
  params = maybe (each rewritten_type) ty_of gep_of a.params;
  base = rewritten_base ty_of gep_of a.base;
}

abbrev pub rewritten_module : Rewriting Module
rewritten_module ty_of gep_of m = record m {
  globals = each rewritten_global ty_of gep_of m.globals;
  functions = each rewritten_function ty_of gep_of m.functions;
  aliases = each rewritten_alias ty_of gep_of m.aliases;
}
