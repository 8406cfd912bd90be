use Rattle.std.proofs.Common.{◌≡◌, ◌∷◌, [], ℕ, List, rules, sym, subst}
use Rattle.asm_print.specs.Resolving.{Resolves}
use Rattle.cg_built.proofs.UnbuiltLemmas.{is_program}
use Rattle.cg_part.specs.Text.{declared_symbols, defined_symbols, part_text}
use Rattle.cg_part.proofs.AssemblingLemmas.{part_resolves}
use Rattle.cg_part.proofs.text.text_of.Goals as goal

pub push_functions-requires : goal.push_functions-requires
push_functions-requires c = rw c.as_slice.ensures (is_program c.args.m.now c.requires).functions

pub returns : goal.returns
unfolding part_text
returns c =
    let is : c.push_functions.new.out.items ≡ part_text c.args.m.now = search rules in
    record {
      text = is;
      resolves = subst (λ (text : List ℕ). Resolves (defined_symbols c.args.m.now) (declared_symbols c.args.m.now) (text ∷ [])) (sym is)
          (part_resolves c.args.m.now (is_program c.args.m.now c.requires));
    }
