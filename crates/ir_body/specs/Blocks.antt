-- Basic blocks (LangRef, "Functions").
use Rattle.std.specs.Prelude.{ℕ, Option, Some, None, List, [], ◌∷◌, ◌++◌, Bool, false, true, filter_map, unwrap_or, if◌then◌else◌}
use Rattle.ir_syntax.specs.declared.block.Block.{Block}
use Rattle.ir_syntax.specs.declared.instr.Instr.{Instr}
use Rattle.ir_syntax.specs.declared.instr.Op.{Op}
use Rattle.ir_syntax.specs.declared.instr.Op.TheVariants as operation
use Rattle.ir_ident.specs.declared.name.Name.{Name}
use Rattle.ir_ident.specs.declared.name.Name.TheVariants.{Implicit}
use Rattle.ir_syntax.specs.declared.phi.Phi.{Phi}
use Rattle.ir_syntax.specs.declared.term.Term.{Term}
use Rattle.ir_body.specs.declared.statement.PhiOrOp.{PhiOrOp}
use Rattle.ir_body.specs.declared.statement.PhiOrOp.TheVariants as form
use Rattle.ir_body.specs.declared.statement.Place.{Place}
use Rattle.ir_body.specs.declared.statement.Place.TheVariants as place
use Rattle.ir_body.specs.declared.statement.Statement.{Statement}
use Rattle.ir_body.specs.declared.statement.Statement.TheVariants as statement
use Rattle.ir_words.specs.declared.class.Class.{Class}
use Rattle.ir_words.specs.declared.class.Class.TheVariants as class
use Rattle.ir_rules.specs.Leaves.{leaf, lined}
use Rattle.ir_rules.specs.Rules.{Rule, ◌▷◌, ◌◁◌, chain, either, made, option, seq, within}
use Rattle.ir_types.specs.Names.{label_name}
use Rattle.ir_ops.specs.Operations.{entry_ops, op_firsts, op_flast, plain_ops}
use Rattle.ir_terms.specs.Phis.{PhiParts, phis}
use Rattle.ir_terms.specs.Terms.{term_firsts, terms}
use Rattle.ir_types.specs.Types.{local_names}

-- whether an operation gives a result
abbrev pub gives_result : Op → Bool
gives_result (operation.Store ty value address_ty address align) = false
gives_result (operation.Call None params callee args) = false
gives_result op = true

-- the name of an operation's result: the written one; or none is written, and it has one or not
abbrev pub result_name : Option Name → Op → Option Name
result_name (Some name) op = Some name
result_name None op = if gives_result op then Some Implicit else None

-- a statement on a line, behind a name or none
abbrev pub statement_of : ℕ × (Option Name × PhiOrOp) → Statement
statement_of z = at z.0 z.1.0 z.1.1
  where
    at : ℕ → Option Name → PhiOrOp → Statement
    at line name (form.Phi ty entries) = statement.Phi (record { line = line; result = unwrap_or name Implicit; ty = ty; entries = entries })
    at line name (form.Op None) = statement.Dropped
    at line name (form.Op (Some op)) = statement.Instr (record { line = line; result = result_name name op; op = op })

-- LOCAL =
abbrev pub results : Rule Name
results = local_names ◁ class.Equal

abbrev pub phi_or_op_firsts : List Class
phi_or_op_firsts = class.Phi ∷ class.Alloca ∷ op_firsts

-- "phi" .. | op without alloca
unfoldable pub phi_or_op_forms : Rule PhiOrOp
phi_or_op_forms = either (made (λ (p : PhiParts). form.Phi p.0 p.1) phis) (made (λ (op : Option Op). form.Op op) plain_ops)

abbrev pub phi_or_op : Rule PhiOrOp
phi_or_op = within phi_or_op_firsts op_flast false phi_or_op_forms

-- In the first block no phi stands, in the others no alloca, and no phi behind an instruction.
unfoldable pub phi_or_ops : Place → Rule PhiOrOp
phi_or_ops place.Entry = within phi_or_op_firsts op_flast false (made (λ (op : Option Op). form.Op op) entry_ops)
phi_or_ops place.PhisOnly = phi_or_op
phi_or_ops place.AfterPhis = within phi_or_op_firsts op_flast false (made (λ (op : Option Op). form.Op op) plain_ops)

-- [LOCAL =] ("phi" .. | op) md*
unfoldable pub statement_forms : Place → Rule Statement
statement_forms at = made statement_of (lined (seq (option results) (phi_or_ops at)))

abbrev pub statement_firsts : List Class
statement_firsts = class.Local ∷ phi_or_op_firsts

abbrev pub statements : Place → Rule Statement
statements at = within statement_firsts op_flast false (statement_forms at)

abbrev pub after_statement : Place → Statement → Place
after_statement place.Entry s = place.Entry
after_statement place.AfterPhis s = place.AfterPhis
after_statement place.PhisOnly (statement.Phi p) = place.PhisOnly
after_statement place.PhisOnly (statement.Instr i) = place.AfterPhis
after_statement place.PhisOnly statement.Dropped = place.AfterPhis

-- phi* instr*
unfoldable pub statement_lists : Place → Rule (List Statement)
statement_lists at = chain statement_firsts op_flast statements after_statement at

abbrev pub phi_in : Statement → Option Phi
phi_in (statement.Phi p) = Some p
phi_in (statement.Instr i) = None
phi_in statement.Dropped = None

abbrev pub instr_in : Statement → Option Instr
instr_in (statement.Phi p) = None
instr_in (statement.Instr i) = Some i
instr_in statement.Dropped = None

-- the phis and the instructions of a block
abbrev pub parts_in : List Statement → List Phi × List Instr
parts_in found = (filter_map phi_in found, filter_map instr_in found)

abbrev pub block_parts : Place → Rule (List Phi × List Instr)
block_parts at = made parts_in (statement_lists at)

abbrev pub block_of : ℕ × (Option Name × ((List Phi × List Instr) × Term)) → Block
block_of z = record {
  line = z.0;
  label = unwrap_or z.1.0 Implicit;
  phis = z.1.1.0.0;
  instrs = z.1.1.0.1;
  term = z.1.1.1;
}

-- LABEL
abbrev pub labels : Rule Name
labels = leaf (class.Label ∷ []) (λ (text : List ℕ). Some (label_name text))

abbrev pub first_place : Bool → Place
first_place true = place.Entry
first_place false = place.PhisOnly

-- [LABEL] phi* instr* term
unfoldable pub block_forms : Bool → Rule Block
block_forms first = made block_of (lined (seq (option labels) (seq (block_parts (first_place first)) terms)))

abbrev pub block_firsts : List Class
block_firsts = class.Label ∷ (term_firsts ++ statement_firsts)

-- a block; the first one of a function or another
abbrev pub blocks : Bool → Rule Block
blocks first = within block_firsts (class.Comma ∷ []) false (block_forms first)
