-- What a module writes whose types and constant addresses are replaced: the types that replace its own.
use Rattle.std.proofs.Common.{◌≡◌, ◌∙◌, Bool, true, false, Option, None, Some, List, [], ◌∷◌, ◌++◌, flat_map, map, ◌||◌, if◌then◌else◌, is_some, refl, sym, ap}
use Rattle.std.specs.List.{list_any}
use Rattle.std.proofs.lemmas.Grind.{flat_map-append}
use Rattle.std.proofs.lemmas.List.{map-append}
use Rattle.ir_mentions.specs.Mentions.{body_by, function_types, global_types, written_types}
use Rattle.ir_mentions.specs.PartTypes.{block_types, part_types}
use Rattle.ir_mentions.specs.declared.which.Which.TheVariants.{Every}
use Rattle.ir_rewrite.specs.Inits.{rewritten_init}
use Rattle.ir_rewrite.specs.Modules.{rewritten_global, rewritten_module}
use Rattle.ir_rewrite.specs.Rewritten.{Rewriting, each, maybe, rewritten_arg, rewritten_block, rewritten_case, rewritten_entry, rewritten_function, rewritten_instr, rewritten_literal, rewritten_op, rewritten_param, rewritten_phi, rewritten_term, rewritten_type, rewritten_typed}
use Rattle.ir_syntax.specs.Definitions.{has_body}
use Rattle.ir_syntax.specs.Types.{TextTree}
use Rattle.ir_syntax.specs.declared.block.Block.{Block}
use Rattle.ir_syntax.specs.declared.function.Function.{Function}
use Rattle.ir_syntax.specs.declared.function.Param.{Param}
use Rattle.ir_syntax.specs.declared.global.Global.{Global}
use Rattle.ir_syntax.specs.declared.instr.Instr.{Instr}
use Rattle.ir_syntax.specs.declared.instr.Op.{Op}
use Rattle.ir_syntax.specs.declared.instr.Op.TheVariants.{Wrapping, Exact, Bitwise, Icmp, Select, Cast, Freeze, Gep, Load, Store, Alloca, Call}
use Rattle.ir_syntax.specs.declared.module.Module.{Module}
use Rattle.ir_syntax.specs.declared.operand.GepParts.{GepParts}
use Rattle.ir_syntax.specs.declared.phi.Phi.{Phi}
use Rattle.ir_syntax.specs.declared.term.Term.{Term}
use Rattle.ir_syntax.specs.declared.term.Term.TheVariants.{ReturnVoid, Ret, Br, CondBr, Switch, Unreachable}
use Rattle.ir_walk.specs.Parts.{Part, arg_parts, block_parts, callee_part, case_parts, entry_parts, instr_parts, literal_parts, maybe_parts, op_parts, param_parts, phi_parts, signature_parts, term_parts, type_parts, typed_parts}

module _ (ty_of : TextTree → TextTree) (gep_of : GepParts → GepParts) where
  abbrev types : List Part → List TextTree
  types parts = flat_map part_types parts

  -- these parts have the types that replace those of the others
  abbrev Replaces : List Part → List Part → Type 0
  Replaces new old = types new ≡ map ty_of (types old)

  both : (new old new' old' : List Part) → Replaces new old → Replaces new' old' → Replaces (new ++ new') (old ++ old')
  both new old new' old' is is' =
      flat_map-append part_types new new'
      ∙ (λ k. is k ++ is' k)
      ∙ sym (map-append ty_of (types old) (types old'))
      ∙ ap (map ty_of) (sym (flat_map-append part_types old old'))

  all : {A : Type 0} (parts : A → List Part) (rewritten : Rewriting A) → ((x : A) → Replaces (parts (rewritten ty_of gep_of x)) (parts x)) →
      (xs : List A) → Replaces (flat_map parts (each rewritten ty_of gep_of xs)) (flat_map parts xs)
  all parts rewritten is [] = refl
  all parts rewritten is (x ∷ xs) = both (parts (rewritten ty_of gep_of x)) (parts x) _ (flat_map parts xs) (is x) (all parts rewritten is xs)

  some : {A : Type 0} (parts : A → List Part) (rewritten : Rewriting A) → ((x : A) → Replaces (parts (rewritten ty_of gep_of x)) (parts x)) →
      (x : Option A) → Replaces (maybe_parts parts (maybe rewritten ty_of gep_of x)) (maybe_parts parts x)
  some parts rewritten is None = refl
  some parts rewritten is (Some x) = is x

  all_types : (tys : List TextTree) → Replaces (flat_map type_parts (each rewritten_type ty_of gep_of tys)) (flat_map type_parts tys)
  all_types = all type_parts rewritten_type (λ ty. refl)

  of_op : (op : Op) → Replaces (op_parts (rewritten_op ty_of gep_of op)) (op_parts op)
  of_op (Wrapping op nuw nsw ty left right) = refl
  of_op (Exact op exact ty left right) = refl
  of_op (Bitwise op ty left right) = refl
  of_op (Icmp pred ty left right) = refl
  of_op (Select condition_ty condition then_ty then_value else_ty else_value) = refl
  of_op (Cast op from value to) = refl
  of_op (Freeze ty value) = refl
  of_op (Gep inbounds ty base_ty base indices) =
      ap (λ rest. ty_of ty ∷ ty_of base_ty ∷ rest) (all typed_parts rewritten_typed (λ o. refl) indices)
  of_op (Load ty address_ty address align) = refl
  of_op (Store ty value address_ty address align) = refl
  of_op (Alloca ty count align) = ap (λ rest. ty_of ty ∷ rest) (some literal_parts rewritten_literal (λ l. refl) count)
  of_op (Call result params callee args) =
      both (maybe_parts type_parts (maybe rewritten_type ty_of gep_of result)) (maybe_parts type_parts result) _ _
      (some type_parts rewritten_type (λ ty. refl) result)
      (both (maybe_parts (flat_map type_parts) (maybe (each rewritten_type) ty_of gep_of params)) (maybe_parts (flat_map type_parts) params)
      (callee_part callee ∷ flat_map arg_parts (each rewritten_arg ty_of gep_of args)) (callee_part callee ∷ flat_map arg_parts args)
      (some (flat_map type_parts) (each rewritten_type) all_types params)
      (all arg_parts rewritten_arg (λ a. refl) args))

  of_instr : (i : Instr) → Replaces (instr_parts (rewritten_instr ty_of gep_of i)) (instr_parts i)
  of_instr i = of_op i.op

  of_phi : (p : Phi) → Replaces (phi_parts (rewritten_phi ty_of gep_of p)) (phi_parts p)
  of_phi p = ap (λ rest. ty_of p.ty ∷ rest) (all entry_parts rewritten_entry (λ e. refl) p.entries)

  of_term : (t : Term) → Replaces (term_parts (rewritten_term ty_of gep_of t)) (term_parts t)
  of_term (ReturnVoid line) = refl
  of_term (Ret line ty value) = refl
  of_term (Br line target) = refl
  of_term (CondBr line ty condition then_target else_target) = refl
  of_term (Switch line ty value default cases) = ap (λ rest. ty_of ty ∷ rest) (all case_parts rewritten_case (λ c. refl) cases)
  of_term (Unreachable line) = refl

  of_block : (b : Block) → Replaces (block_parts (rewritten_block ty_of gep_of b)) (block_parts b)
  of_block b =
      both (flat_map phi_parts (each rewritten_phi ty_of gep_of b.phis)) (flat_map phi_parts b.phis) _ _ (all phi_parts rewritten_phi of_phi b.phis)
      (both (flat_map instr_parts (each rewritten_instr ty_of gep_of b.instrs)) (flat_map instr_parts b.instrs) _ _
      (all instr_parts rewritten_instr of_instr b.instrs) (of_term b.term))

  of_param : (p : Param) → Replaces (param_parts (rewritten_param ty_of gep_of p)) (param_parts p)
  of_param p = some type_parts rewritten_type (λ ty. refl) p.ty

  of_signature : (f : Function) → Replaces (signature_parts (rewritten_function ty_of gep_of f)) (signature_parts f)
  of_signature f =
      both (maybe_parts type_parts (maybe rewritten_type ty_of gep_of f.result)) (maybe_parts type_parts f.result) _ _
      (some type_parts rewritten_type (λ ty. refl) f.result) (all param_parts rewritten_param of_param f.params)

  -- what items write, where each of them writes the types that replace its own
  of_items : {A : Type 0} (written : A → List TextTree) (rewritten : A → A) → ((x : A) → written (rewritten x) ≡ map ty_of (written x)) →
      (xs : List A) → flat_map written (map rewritten xs) ≡ map ty_of (flat_map written xs)
  of_items written rewritten is [] = refl
  of_items written rewritten is (x ∷ xs) = (λ k. is x k ++ of_items written rewritten is xs k) ∙ sym (map-append ty_of (written x) (flat_map written xs))

  of_body : (signature : List TextTree) (body : Option (List Block)) →
      (if is_some (maybe (each rewritten_block) ty_of gep_of body) then map ty_of signature ++ flat_map block_types (body_by Every (maybe (each rewritten_block) ty_of gep_of body)) else [])
      ≡ map ty_of (if is_some body then signature ++ flat_map block_types (body_by Every body) else [])
  of_body signature None = refl
  of_body signature (Some blocks) =
      ap (λ rest. map ty_of signature ++ rest) (of_items block_types (rewritten_block ty_of gep_of) of_block blocks)
      ∙ sym (map-append ty_of signature (flat_map block_types blocks))

  of_function : (f : Function) → function_types Every (rewritten_function ty_of gep_of f) ≡ map ty_of (function_types Every f)
  of_function f =
      ap (λ signature. if is_some (maybe (each rewritten_block) ty_of gep_of f.blocks) then signature ++ flat_map block_types (body_by Every (maybe (each rewritten_block) ty_of gep_of f.blocks)) else [])
      (of_signature f)
      ∙ of_body (types (signature_parts f)) f.blocks

  still_some : {A : Type 0} (rewritten : Rewriting A) (x : Option A) → is_some (maybe rewritten ty_of gep_of x) ≡ is_some x
  still_some rewritten None = refl
  still_some rewritten (Some x) = refl

  of_global : (g : Global) → global_types (rewritten_global ty_of gep_of g) ≡ map ty_of (global_types g)
  of_global g = (λ k. if still_some rewritten_init g.init k then ty_of g.ty ∷ [] else []) ∙ by (is_some g.init)
    where
      by : (defined : Bool) → (if defined then ty_of g.ty ∷ [] else []) ≡ map ty_of (if defined then g.ty ∷ [] else [])
      by true = refl
      by false = refl

  pub written_types-rewritten : (m : Module) → written_types Every (rewritten_module ty_of gep_of m) ≡ map ty_of (written_types Every m)
  written_types-rewritten m =
      (λ k. of_items global_types (rewritten_global ty_of gep_of) of_global m.globals k
      ++ of_items (function_types Every) (rewritten_function ty_of gep_of) of_function m.functions k)
      ∙ sym (map-append ty_of (flat_map global_types m.globals) (flat_map (function_types Every) m.functions))

  -- functions are defined as before
  pub any_defined-rewritten : (functions : List Function) → list_any has_body (each rewritten_function ty_of gep_of functions) ≡ list_any has_body functions
  any_defined-rewritten [] = refl
  any_defined-rewritten (f ∷ functions) = λ k. still_some (each rewritten_block) f.blocks k || any_defined-rewritten functions k
