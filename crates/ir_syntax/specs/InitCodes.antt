-- Operands and initialisers as trees of numbers, and back: so two initialisers can be told apart.
use Rattle.std.proofs.Common.{◌≡◌, ◌∙◌, zero, suc, List, [], ◌∷◌, refl, sym, ap}
use base.Stored.{Gv, gnil, gnum, gcons, Coded}
use Rattle.ir_syntax.specs.declared.literal.Literal.{Literal}
use Rattle.ir_syntax.specs.declared.operand.ConstantGep.{ConstantGep}
use Rattle.ir_syntax.specs.declared.operand.Operand.{Operand}
use Rattle.ir_syntax.specs.declared.operand.Operand.TheVariants.{Local, Global, Int, True, False, Null, Undef, Poison, Gep}
use Rattle.ir_syntax.specs.declared.operand.TypedLiteral.{TypedLiteral}
use Rattle.ir_ident.specs.Codes.{first, second, number_back, bool_code, bool_back, bool_back_code, bytes_code, bytes_back, bytes_back_code, use_code, use_back, use_back_code}
use Rattle.ir_syntax.specs.Inits.{InitText, value, zeros, bytes, array, struct, packed, InitTexts, end, more}
use Rattle.ir_syntax.specs.TypeCodes.{to_code, from_code, tree_back_code}

abbrev pub literal_code : Literal → Gv
literal_code l = gcons (bool_code l.negative) (gnum l.magnitude)

abbrev pub literal_back : Gv → Literal
literal_back g = record { negative = bool_back (first g); magnitude = number_back (second g) }

abbrev pub literal_back_code : (l : Literal) → literal_back (literal_code l) ≡ l
literal_back_code l = ap (λ negative. record { negative = negative; magnitude = l.magnitude }) (bool_back_code l.negative)

abbrev pub typed_code : TypedLiteral → Gv
typed_code t = gcons (to_code t.ty) (literal_code t.value)

abbrev pub typed_back : Gv → TypedLiteral
typed_back g = record { ty = from_code (first g); value = literal_back (second g) }

abbrev pub typed_back_code : (t : TypedLiteral) → typed_back (typed_code t) ≡ t
typed_back_code t = λ i. record { ty = tree_back_code t.ty i; value = literal_back_code t.value i }

abbrev pub indices_code : List TypedLiteral → Gv
indices_code [] = gnil
indices_code (t ∷ ts) = gcons (typed_code t) (indices_code ts)

abbrev pub indices_back : Gv → List TypedLiteral
indices_back gnil = []
indices_back (gnum n) = []
indices_back (gcons a b) = typed_back a ∷ indices_back b

abbrev pub indices_back_code : (ts : List TypedLiteral) → indices_back (indices_code ts) ≡ ts
indices_back_code [] = refl
indices_back_code (t ∷ ts) = λ i. typed_back_code t i ∷ indices_back_code ts i

abbrev pub gep_code : ConstantGep → Gv
gep_code g = gcons (bool_code g.inbounds) (gcons (to_code g.ty) (gcons (use_code g.base) (indices_code g.indices)))

abbrev pub gep_back : Gv → ConstantGep
gep_back g = record {
  inbounds = bool_back (first g);
  ty = from_code (first (second g));
  base = use_back (first (second (second g)));
  indices = indices_back (second (second (second g)));
}

abbrev pub gep_back_code : (g : ConstantGep) → gep_back (gep_code g) ≡ g
gep_back_code g = λ i. record {
  inbounds = bool_back_code g.inbounds i;
  ty = tree_back_code g.ty i;
  base = use_back_code g.base i;
  indices = indices_back_code g.indices i;
}

-- the kinds of operands, by their numbers
abbrev pub operand_code : Operand → Gv
operand_code (Local name) = gcons (gnum 0) (use_code name)
operand_code (Global name) = gcons (gnum 1) (use_code name)
operand_code (Int literal) = gcons (gnum 2) (literal_code literal)
operand_code (Gep gep) = gcons (gnum 3) (gep_code gep)
operand_code True = gnum 0
operand_code False = gnum 1
operand_code Null = gnum 2
operand_code Undef = gnum 3
operand_code Poison = gnum 4

abbrev pub operand_back : Gv → Operand
operand_back (gcons (gnum zero) b) = Local (use_back b)
operand_back (gcons (gnum (suc zero)) b) = Global (use_back b)
operand_back (gcons (gnum (suc (suc zero))) b) = Int (literal_back b)
operand_back (gcons (gnum (suc (suc (suc n)))) b) = Gep (gep_back b)
operand_back (gcons gnil b) = Poison
operand_back (gcons (gcons x y) b) = Poison
operand_back (gnum zero) = True
operand_back (gnum (suc zero)) = False
operand_back (gnum (suc (suc zero))) = Null
operand_back (gnum (suc (suc (suc zero)))) = Undef
operand_back (gnum (suc (suc (suc (suc n))))) = Poison
operand_back gnil = Poison

abbrev pub operand_back_code : (o : Operand) → operand_back (operand_code o) ≡ o
operand_back_code (Local name) = ap Local (use_back_code name)
operand_back_code (Global name) = ap Global (use_back_code name)
operand_back_code (Int literal) = ap Int (literal_back_code literal)
operand_back_code (Gep gep) = ap Gep (gep_back_code gep)
operand_back_code True = refl
operand_back_code False = refl
operand_back_code Null = refl
operand_back_code Undef = refl
operand_back_code Poison = refl

abbrev mutual
  pub to_init_code : InitText → Gv
  to_init_code zeros = gnil
  to_init_code (value operand) = gcons (gnum 0) (operand_code operand)
  to_init_code (bytes text) = gcons (gnum 1) (bytes_code text)
  to_init_code (array parts) = gcons (gnum 2) (parts_code parts)
  to_init_code (struct parts) = gcons (gnum 3) (parts_code parts)
  to_init_code (packed parts) = gcons (gnum 4) (parts_code parts)

  pub parts_code : InitTexts → Gv
  parts_code end = gnil
  parts_code (more ty init tail) = gcons (to_code ty) (gcons (to_init_code init) (parts_code tail))

abbrev mutual
  pub from_init_code : Gv → InitText
  from_init_code gnil = zeros
  from_init_code (gnum n) = zeros
  from_init_code (gcons gnil b) = zeros
  from_init_code (gcons (gcons x y) b) = zeros
  from_init_code (gcons (gnum zero) b) = value (operand_back b)
  from_init_code (gcons (gnum (suc zero)) b) = bytes (bytes_back b)
  from_init_code (gcons (gnum (suc (suc zero))) b) = array (parts_back b)
  from_init_code (gcons (gnum (suc (suc (suc zero)))) b) = struct (parts_back b)
  from_init_code (gcons (gnum (suc (suc (suc (suc n))))) b) = packed (parts_back b)

  pub parts_back : Gv → InitTexts
  parts_back gnil = end
  parts_back (gnum n) = end
  parts_back (gcons a gnil) = end
  parts_back (gcons a (gnum n)) = end
  parts_back (gcons a (gcons b c)) = more (from_code a) (from_init_code b) (parts_back c)

abbrev mutual
  pub init_back_code : (init : InitText) → from_init_code (to_init_code init) ≡ init
  init_back_code zeros = refl
  init_back_code (value operand) = ap value (operand_back_code operand)
  init_back_code (bytes text) = ap bytes (bytes_back_code text)
  init_back_code (array parts) = ap array (parts_back_code parts)
  init_back_code (struct parts) = ap struct (parts_back_code parts)
  init_back_code (packed parts) = ap packed (parts_back_code parts)

  pub parts_back_code : (parts : InitTexts) → parts_back (parts_code parts) ≡ parts
  parts_back_code end = refl
  parts_back_code (more ty init tail) = λ i. more (tree_back_code ty i) (init_back_code init i) (parts_back_code tail i)

abbrev pub init_code : Coded InitText
init_code = record { code = to_init_code; inj = λ x y p. sym (init_back_code x) ∙ ap from_init_code p ∙ init_back_code y }
