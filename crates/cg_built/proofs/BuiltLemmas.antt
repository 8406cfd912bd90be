-- A function that passes the tests is of the built set.
use Rattle.std.proofs.Common.{◌≡◌, ◌∷◌, [], ℕ, pos, List, Option, Some, None, Bool, true, false, cond, ◌&&◌, ◌⊎◌, inl, inr, length, refl, ap, sym, ◌∙◌, subst, arith}
use Rattle.std.specs.Prelude.{◌==◌, nat_le, neg_ℤ}
use Rattle.std.specs.List.{list_all, AllByRecursion as ByRecursion}
use Rattle.std.proofs.lemmas.Bool.{and_parts, eq-eqb, eqb-true, leb-true, or_cases}
use Rattle.std.proofs.lemmas.Bool.Decides.{nat_tests}
use Rattle.std.proofs.lemmas.Int.{ints}
use Rattle.std.proofs.lemmas.List.Elements.{All-from_recursion}
use Rattle.ir_ident.specs.Names.{name_bytes}
use Rattle.ir_syntax.specs.Types.{TextTree, int}
use Rattle.ir_syntax.specs.declared.block.Block.{Block}
use Rattle.ir_syntax.specs.declared.function.Function.{Function}
use Rattle.ir_syntax.specs.declared.function.Param.{Param}
use Rattle.ir_syntax.specs.declared.linkage.Linkage.{Linkage}
use Rattle.ir_syntax.specs.declared.linkage.Linkage.TheVariants.{External}
use Rattle.ir_syntax.specs.declared.linkage.Visibility.{Visibility}
use Rattle.ir_syntax.specs.declared.linkage.Visibility.TheVariants.{Default}
use Rattle.ir_syntax.specs.declared.operand.Operand.{Operand}
use Rattle.ir_syntax.specs.declared.operand.Operand.TheVariants.{Local, Int}
use Rattle.ir_syntax.specs.declared.term.Term.{Term}
use Rattle.ir_syntax.specs.declared.term.Term.TheVariants.{Ret}
use Rattle.ir_naming.specs.Reserved.{is_reserved}
use Rattle.rv_isa.specs.Encoding.{IsSigned12}
use Rattle.rv_isa.specs.Symbol.{is_bare}
use Rattle.cg_built.specs.Built.{GivesType, IsBuiltBody, IsBuiltFunction, IsBuiltOperand, IsBuiltTerm, IsBuiltType, IsTypedBody}
use Rattle.cg_built.specs.Unbuilt.{bits_of, is_built_body, is_built_head, is_built_operand, is_built_term, is_default, is_external, is_empty, is_32_or_64}
use Rattle.cg_built.proofs.BareNames.{built_name}

external : (l : Linkage) → is_external l ≡ true → l ≡ External
external External passes = refl
external other passes = absurd (cc)

default : (v : Visibility) → is_default v ≡ true → v ≡ Default
default Default passes = refl
default other passes = absurd (cc)

none_left : {A : Type 0} (xs : List A) → is_empty xs ≡ true → xs ≡ []
none_left [] passes = refl
none_left (x ∷ xs) passes = absurd (cc)

no_width : (bits : ℕ) → is_32_or_64 bits ≡ true → (0 == bits) ≡ true → ⊥
no_width bits word same = grind (arith, nat_tests, word, same)

-- a type of the width of a word is the integer type of this width
word_type : (ty : Option TextTree) (bits : ℕ) → is_32_or_64 bits ≡ true → (bits_of ty == bits) ≡ true → ty ≡ Some (int bits)
word_type (Some (int own)) bits word same = ap (λ n. Some (int n)) (eqb-true own bits same)
word_type (Some other) bits word same = absurd (no_width bits word same)
word_type None bits word same = absurd (no_width bits word same)

built_type : (bits : ℕ) → is_32_or_64 bits ≡ true → IsBuiltType (Some (int bits))
built_type bits word = either (or_cases (bits == 32) (bits == 64) word)
  where
    either : ((bits == 32) ≡ true) ⊎ ((bits == 64) ≡ true) → (int bits ≡ int 32) ⊎ (int bits ≡ int 64)
    either (inl half) = inl (ap int (eqb-true bits 32 half))
    either (inr whole) = inr (ap int (eqb-true bits 64 whole))

param_types : (bits : ℕ) (result : Option TextTree) (params : List Param) → is_32_or_64 bits ≡ true → result ≡ Some (int bits) →
    list_all (λ p. bits_of p.ty == bits) params ≡ true → ByRecursion (λ p. p.ty ≡ result) params
param_types bits result [] word is all = tt
param_types bits result (p ∷ params) word is all =
    let parts = and_parts (bits_of p.ty == bits) (list_all (λ q. bits_of q.ty == bits) params) all in
    (word_type p.ty bits word parts.0 ∙ sym is, param_types bits result params word is parts.1)

signed : (negative : Bool) (magnitude : ℕ) → cond negative (nat_le magnitude 2048) (nat_le magnitude 2047) ≡ true →
    IsSigned12 (cond negative (neg_ℤ (pos magnitude)) (pos magnitude))
signed true magnitude small = grind (arith, ints, nat_tests, small)
signed false magnitude small = grind (arith, ints, nat_tests, small)

operand_built : (params : List Param) (operand : Operand) → is_built_operand params operand ≡ true → IsBuiltOperand params operand
operand_built params (Local used) passes = passes
operand_built params (Int literal) passes = signed literal.negative literal.magnitude passes
operand_built params other passes = absurd (cc)

-- what a terminator that passes returns
record Returning (f : Function) (term : Term) : Type 0 where
  built : IsBuiltTerm f.params term
  typed : GivesType f.result term

term_built : (f : Function) (term : Term) → is_32_or_64 (bits_of f.result) ≡ true → f.result ≡ Some (int (bits_of f.result)) →
    is_built_term f term ≡ true → Returning f term
term_built f (Ret line ty value) word is passes =
    let parts = and_parts (bits_of (Some ty) == bits_of f.result) (is_built_operand f.params value) passes in
    record { built = operand_built f.params value parts.1; typed = is ∙ sym (word_type (Some ty) (bits_of f.result) word parts.0) }
term_built f other word is passes = absurd (cc)

-- what a body that passes has
record HasOneBlock (f : Function) (blocks : Option (List Block)) : Type 0 where
  body : IsBuiltBody f.params blocks
  typed : IsTypedBody f.result blocks

body_built : (f : Function) (first : Block) (more : List Block) → is_32_or_64 (bits_of f.result) ≡ true → f.result ≡ Some (int (bits_of f.result)) →
    is_built_body f first more ≡ true → HasOneBlock f (Some (first ∷ more))
body_built f first [] word is passes =
    let parts = and_parts (is_empty first.phis && is_empty first.instrs) (is_built_term f first.term) passes in
    let prefix = and_parts (is_empty first.phis) (is_empty first.instrs) parts.0 in
    let term = term_built f first.term word is parts.1 in
    record {
      body = record { phis = none_left first.phis prefix.0; instrs = none_left first.instrs prefix.1; term = term.built };
      typed = term.typed;
    }
body_built f first (next ∷ more) word is passes = absurd (cc)

-- what the parts of a head that passes are
record Heading (f : Function) : Type 0 where
  name : is_bare (name_bytes f.name) ≡ true
  linkage : is_external f.linkage ≡ true
  visibility : is_default f.visibility ≡ true
  word : is_32_or_64 (bits_of f.result) ≡ true
  params : list_all (λ p. bits_of p.ty == bits_of f.result) f.params ≡ true
  arguments : nat_le (length f.params) 8 ≡ true

heading : (f : Function) → is_built_head f ≡ true → Heading f
heading f passes =
    let count = and_parts _ (nat_le (length f.params) 8) passes in
    let types = and_parts _ (list_all (λ p. bits_of p.ty == bits_of f.result) f.params) count.0 in
    let word = and_parts _ (is_32_or_64 (bits_of f.result)) types.0 in
    let name = and_parts _ (is_bare (name_bytes f.name)) word.0 in
    let seen = and_parts (is_external f.linkage) (is_default f.visibility) name.0 in
    record {
      name = name.1;
      linkage = seen.0;
      visibility = seen.1;
      word = word.1;
      params = types.1;
      arguments = count.1;
    }

pub function_built : (f : Function) (first : Block) (more : List Block) → f.blocks ≡ Some (first ∷ more) → is_reserved (name_bytes f.name) ≡ false →
    is_built_head f ≡ true → is_built_body f first more ≡ true → IsBuiltFunction f
function_built f first more blocks free head body =
    let bits : ℕ = bits_of f.result in
    let parts = heading f head in
    let result : f.result ≡ Some (int bits) = word_type f.result bits parts.word (eq-eqb bits bits refl) in
    let ending = body_built f first more parts.word result body in
    record {
      name = built_name (name_bytes f.name) parts.name free;
      linkage = external f.linkage parts.linkage;
      visibility = default f.visibility parts.visibility;
      result = subst IsBuiltType (sym result) (built_type bits parts.word);
      params = All-from_recursion (λ p. p.ty ≡ f.result) f.params (param_types bits f.result f.params parts.word result parts.params);
      arguments = leb-true (length f.params) 8 parts.arguments;
      body = subst (λ all. IsBuiltBody f.params all) (sym blocks) ending.body;
      typed = subst (λ all. IsTypedBody f.result all) (sym blocks) ending.typed;
    }
