use Rattle.std.proofs.Common.{subst, sym, ◌∙◌, inl, inr}
use Rattle.asm_inst.specs.Readings.{Finds}
use Rattle.asm_inst.specs.Targets.{HasOperands}
use Rattle.asm_inst.proofs.target.open_fields.Goals as goal

pub returns-in-AddImmediate : goal.returns-in-AddImmediate
returns-in-AddImmediate c = elim c.in-AddImmediate.is [
  | inl e ↦ subst (λ s. Finds (HasOperands s c.args.op c.args.operands.now) c.open_immediate.result) (sym e ∙ c.shape_of.ensures) c.open_immediate.ensures
  | inr e ↦ subst (λ s. Finds (HasOperands s c.args.op c.args.operands.now) c.open_immediate.result) (sym e ∙ c.shape_of.ensures) c.open_immediate.ensures
]

pub returns-in-Load : goal.returns-in-Load
returns-in-Load c = elim c.in-Load.is [
  | inl e ↦ subst (λ s. Finds (HasOperands s c.args.op c.args.operands.now) c.open_address.result) (sym e ∙ c.shape_of.ensures) c.open_address.ensures
  | inr e ↦ subst (λ s. Finds (HasOperands s c.args.op c.args.operands.now) c.open_address.result) (sym e ∙ c.shape_of.ensures) c.open_address.ensures
]

pub returns-in-Branch : goal.returns-in-Branch
returns-in-Branch c =
    subst (λ s. Finds (HasOperands s c.args.op c.args.operands.now) c.open_branch.result) (sym c.in-Branch.is ∙ c.shape_of.ensures) c.open_branch.ensures

pub returns-in-Upper : goal.returns-in-Upper
returns-in-Upper c = elim c.in-Upper.is [
  | inl e ↦ subst (λ s. Finds (HasOperands s c.args.op c.args.operands.now) c.open_upper.result) (sym e ∙ c.shape_of.ensures) c.open_upper.ensures
  | inr e ↦ subst (λ s. Finds (HasOperands s c.args.op c.args.operands.now) c.open_upper.result) (sym e ∙ c.shape_of.ensures) c.open_upper.ensures
]
