-- The rule of balanced brackets is lawful.
use Rattle.std.proofs.Common.{◌≡◌, suc, Bool, true, false, List, [], ◌∷◌, ◌++◌, Ok, Err, Some, None, ap, append_assoc, if◌then◌else◌, length, refl, subst, sym, ◌∙◌}
use Rattle.ir_lex.specs.declared.kind.Kind.TheVariants as kind
use Rattle.ir_words.specs.Classes.{class_of, same}
use Rattle.ir_words.specs.Lexemes.{Lexeme}
use Rattle.ir_words.proofs.Numbers.{same_is}
use Rattle.ir_rules.specs.Laws.{Lawful, Splits, head}
use Rattle.ir_rules.specs.Balance.{AreBalanced, Parts, enclosed, is_closed_by, opener, role_of, skip_on, skip_to, tokens_of}
use Rattle.ir_rules.specs.Balance.Parts.{none, plain, pair}
use Rattle.ir_rules.specs.Rules.{Answer, ◌>>=◌, has, one_read}
use Rattle.ir_rules.specs.declared.bracket.Bracket.{Bracket}
use Rattle.ir_rules.specs.declared.bracket.Bracket.TheVariants.{Round, Square, Curly, Packed}
use Rattle.ir_rules.specs.declared.bracket.Role.{Role}
use Rattle.ir_rules.specs.declared.bracket.Role.TheVariants.{Opens, Closes, Plain}
use Rattle.ir_rules.proofs.Laws.{sample}

-- tokens that close all these, the innermost first
abbrev Close : List Bracket → List Lexeme → Type 0
Close [] ts = ts ≡ []
Close (b ∷ bs) ts =
    (inside : Parts) × (closing : Lexeme) × (after : List Lexeme) × (ts ≡ tokens_of inside ++ closing ∷ after) × AreBalanced inside
    × (role_of (class_of closing) ≡ Closes b) × Close bs after

abbrev closer : Bracket → Lexeme
closer Round = sample kind.CloseRound []
closer Square = sample kind.CloseSquare []
closer Curly = sample kind.CloseCurly []
closer Packed = sample kind.ClosePacked []

closer_is : (b : Bracket) → role_of (class_of (closer b)) ≡ Closes b
closer_is Round = refl
closer_is Square = refl
closer_is Curly = refl
closer_is Packed = refl

abbrev closers : List Bracket → List Lexeme
closers [] = []
closers (b ∷ bs) = closer b ∷ closers bs

closers_close : (bs : List Bracket) → Close bs (closers bs)
closers_close [] = refl
closers_close (b ∷ bs) = (none, closer b, closers bs, refl, tt, closer_is b, closers_close bs)

same_bracket : (a b : Bracket) → is_closed_by a b ≡ true → a ≡ b
same_bracket Round Round e = refl
same_bracket Square Square e = refl
same_bracket Curly Curly e = refl
same_bracket Packed Packed e = refl
same_bracket Round Square e = absurd (cc)
same_bracket Round Curly e = absurd (cc)
same_bracket Round Packed e = absurd (cc)
same_bracket Square Round e = absurd (cc)
same_bracket Square Curly e = absurd (cc)
same_bracket Square Packed e = absurd (cc)
same_bracket Curly Round e = absurd (cc)
same_bracket Curly Square e = absurd (cc)
same_bracket Curly Packed e = absurd (cc)
same_bracket Packed Round e = absurd (cc)
same_bracket Packed Square e = absurd (cc)
same_bracket Packed Curly e = absurd (cc)

own_bracket : (b : Bracket) → is_closed_by b b ≡ true
own_bracket Round = refl
own_bracket Square = refl
own_bracket Curly = refl
own_bracket Packed = refl

-- what an answer says, of the open brackets
abbrev Skips : List Bracket → List Lexeme → Answer (Unit {0}) → Type 0
Skips bs ts (Ok p) =
    (us : List Lexeme) × (ts ≡ us ++ p.1) × Close bs us × ((vs : List Lexeme) → head p.1 ≡ head vs → skip_to bs (us ++ vs) ≡ Ok (tt, vs))
Skips bs ts (Err n) =
    (us : List Lexeme) × (bad : List Lexeme) × (more : List Lexeme) × (ts ≡ us ++ bad) × (n ≡ length bad) × Close bs (us ++ more)
    × ((vs : List Lexeme) → head bad ≡ head vs → skip_to bs (us ++ vs) ≡ Err (length vs))

-- one token more: what closes the brackets after it closes those before it with it
abbrev Steps : Lexeme → List Bracket → List Bracket → Type 0
Steps t bs cs = ((us : List Lexeme) → Close cs us → Close bs (t ∷ us)) × ((ts : List Lexeme) → skip_to bs (t ∷ ts) ≡ skip_to cs ts)

step_skips : (t : Lexeme) (bs cs : List Bracket) (ts : List Lexeme) (o : Answer (Unit {0})) → Steps t bs cs → Skips cs ts o → Skips bs (t ∷ ts) o
step_skips t bs cs ts (Ok p) s w = (t ∷ w.0, ap (λ l. t ∷ l) w.1, s.0 w.0 w.2, λ vs h. s.1 (w.0 ++ vs) ∙ w.3 vs h)
step_skips t bs cs ts (Err n) s w = (t ∷ w.0, w.1, w.2, ap (λ l. t ∷ l) w.3, w.4, s.0 (w.0 ++ w.2) w.5, λ vs h. s.1 (w.0 ++ vs) ∙ w.6 vs h)

opens : (t : Lexeme) (a b : Bracket) (bs : List Bracket) → role_of (class_of t) ≡ Opens a → Steps t (b ∷ bs) (a ∷ b ∷ bs)
opens t a b bs e = (
  λ us w. (
    pair t w.0 w.1 w.6.0,
    w.6.1,
    w.6.2,
    ap (λ l. t ∷ l) (w.3 ∙ ap (λ l. tokens_of w.0 ++ w.1 ∷ l) w.6.3 ∙ sym (append_assoc (tokens_of w.0) (w.1 ∷ tokens_of w.6.0) (w.6.1 ∷ w.6.2))),
    ((a, e, w.5), w.4, w.6.4),
    w.6.5,
    w.6.6,
  ),
  λ ts. ap (λ r. skip_on r b bs (suc (length ts)) (λ stack. skip_to stack ts)) e,
)

closes : (t : Lexeme) (b : Bracket) (bs : List Bracket) → role_of (class_of t) ≡ Closes b → Steps t (b ∷ bs) bs
closes t b bs e = (
  λ us w. (none, t, us, refl, tt, e, w),
  λ ts. ap (λ r. skip_on r b bs (suc (length ts)) (λ stack. skip_to stack ts)) e
      ∙ ap (λ c. if c then skip_to bs ts else Err (suc (length ts))) (own_bracket b),
)

plainly : (t : Lexeme) (b : Bracket) (bs : List Bracket) → role_of (class_of t) ≡ Plain → Steps t (b ∷ bs) (b ∷ bs)
plainly t b bs e = (λ us w. (plain t w.0, w.1, w.2, ap (λ l. t ∷ l) w.3, (e, w.4), w.5, w.6), λ ts. ap (λ r. skip_on r b bs (suc (length ts)) (λ stack. skip_to stack ts)) e)

-- a bracket that closes no open one
refused : (t : Lexeme) (a b : Bracket) (bs : List Bracket) (ts : List Lexeme) → role_of (class_of t) ≡ Closes a → is_closed_by b a ≡ false
    → Skips (b ∷ bs) (t ∷ ts) (Err (suc (length ts)))
refused t a b bs ts e f = ([], t ∷ ts, closers (b ∷ bs), refl, refl, closers_close (b ∷ bs), λ vs h. again vs h)
  where
    again : (vs : List Lexeme) → head (t ∷ ts) ≡ head vs → skip_to (b ∷ bs) vs ≡ Err (length vs)
    again [] h = absurd (cc)
    again (v ∷ vs) h =
        ap (λ r. skip_on r b bs (suc (length vs)) (λ stack. skip_to stack vs)) (ap (λ (l : Lexeme). role_of (class_of l)) same_one ∙ e)
        ∙ ap (λ c. if c then skip_to bs vs else Err (suc (length vs))) f
      where
        same_one : v ≡ t
        same_one = cc

skips_by : (t : Lexeme) (b : Bracket) (bs : List Bracket) (ts : List Lexeme) (r : Role) → role_of (class_of t) ≡ r
    → ((cs : List Bracket) → Skips cs ts (skip_to cs ts)) → Skips (b ∷ bs) (t ∷ ts) (skip_on r b bs (suc (length ts)) (λ stack. skip_to stack ts))
skips_by t b bs ts (Opens a) e ih = step_skips t (b ∷ bs) (a ∷ b ∷ bs) ts (skip_to (a ∷ b ∷ bs) ts) (opens t a b bs e) (ih (a ∷ b ∷ bs))
skips_by t b bs ts (Closes a) e ih = go (is_closed_by b a) refl
  where
    go : (c : Bool) → is_closed_by b a ≡ c → Skips (b ∷ bs) (t ∷ ts) (if c then skip_to bs ts else Err (suc (length ts)))
    go true f = step_skips t (b ∷ bs) bs ts (skip_to bs ts) (closes t b bs (e ∙ ap (λ x. Closes x) (sym (same_bracket b a f)))) (ih bs)
    go false f = refused t a b bs ts e f
skips_by t b bs ts Plain e ih = step_skips t (b ∷ bs) (b ∷ bs) ts (skip_to (b ∷ bs) ts) (plainly t b bs e) (ih (b ∷ bs))

skips : (ts : List Lexeme) (bs : List Bracket) → Skips bs ts (skip_to bs ts)
skips [] [] = ([], refl, refl, λ vs h. refl)
skips (t ∷ ts) [] = ([], refl, refl, λ vs h. refl)
skips [] (b ∷ bs) = ([], [], closers (b ∷ bs), refl, refl, closers_close (b ∷ bs), λ vs h. again vs h)
  where
    again : (vs : List Lexeme) → head [] ≡ head vs → skip_to (b ∷ bs) vs ≡ Err (length vs)
    again [] h = refl
    again (v ∷ vs) h = absurd (cc)
skips (t ∷ ts) (b ∷ bs) = skips_by t b bs ts (role_of (class_of t)) refl (λ cs. skips ts cs)

-- balanced tokens leave what is open as it is
through : (parts : Parts) (b : Bracket) (bs : List Bracket) (ts : List Lexeme) → AreBalanced parts → skip_to (b ∷ bs) (tokens_of parts ++ ts) ≡ skip_to (b ∷ bs) ts
through none b bs ts w = refl
through (plain t rest) b bs ts w = (plainly t b bs w.0).1 (tokens_of rest ++ ts) ∙ through rest b bs ts w.1
through (pair opening inside closing rest) b bs ts w =
    let a : Bracket = w.0.0 in
    (opens opening a b bs w.0.1).1 ((tokens_of inside ++ closing ∷ tokens_of rest) ++ ts)
    ∙ ap (skip_to (a ∷ b ∷ bs)) (append_assoc (tokens_of inside) (closing ∷ tokens_of rest) ts)
    ∙ through inside a (b ∷ bs) (closing ∷ (tokens_of rest ++ ts)) w.1
    ∙ (closes closing a (b ∷ bs) w.0.2).1 (tokens_of rest ++ ts)
    ∙ through rest b bs ts w.2

abbrev enter : Bracket → List Lexeme → Bool → Answer (Unit {0})
enter b ts c = one_read (if c then Some tt else None) ts (suc (length ts)) >>= (λ (p : Unit {0} × List Lexeme). skip_to (b ∷ []) p.1)

enter_read : (t : Lexeme) (b : Bracket) → class_of t ≡ opener b → (ts : List Lexeme) → (enclosed b).read (t ∷ ts) ≡ skip_to (b ∷ []) ts
enter_read t b e ts = ap (λ c. enter b ts (same (opener b) c)) e ∙ ap (enter b ts) (own_bracket b)

enter_text : (t : Lexeme) (b : Bracket) → class_of t ≡ opener b → (us : List Lexeme) → Close (b ∷ []) us → (x : Unit {0}) → (enclosed b).text (t ∷ us) x
enter_text t b e us w x = (t, w.0, w.1, ap (λ l. t ∷ l) (w.3 ∙ ap (λ l. tokens_of w.0 ++ w.1 ∷ l) w.6), w.4, e, w.5)

enter_splits : (t : Lexeme) (b : Bracket) (ts : List Lexeme) (o : Answer (Unit {0})) → class_of t ≡ opener b → Skips (b ∷ []) ts o → Splits (enclosed b) (t ∷ ts) o
enter_splits t b ts (Ok p) e w = (t ∷ w.0, ap (λ l. t ∷ l) w.1, enter_text t b e w.0 w.2 tt, λ vs h. enter_read t b e (w.0 ++ vs) ∙ w.3 vs h)
enter_splits t b ts (Err n) e w =
    (t ∷ w.0, w.1, w.2, tt, ap (λ l. t ∷ l) w.3, w.4, enter_text t b e (w.0 ++ w.2) w.5 tt, λ vs h. enter_read t b e (w.0 ++ vs) ∙ w.6 vs h)

abbrev opening_of : Bracket → Lexeme
opening_of Round = sample kind.OpenRound []
opening_of Square = sample kind.OpenSquare []
opening_of Curly = sample kind.OpenCurly []
opening_of Packed = sample kind.OpenPacked []

opening_is : (b : Bracket) → class_of (opening_of b) ≡ opener b
opening_is Round = refl
opening_is Square = refl
opening_is Curly = refl
opening_is Packed = refl

opener_firsts : (b : Bracket) → has (opener b ∷ []) (opener b) ≡ true
opener_firsts Round = refl
opener_firsts Square = refl
opener_firsts Curly = refl
opener_firsts Packed = refl

at_end : (b : Bracket) → (enclosed b).read [] ≡ Err 0
at_end Round = refl
at_end Square = refl
at_end Curly = refl
at_end Packed = refl

example : (b : Bracket) (x : Unit {0}) → (enclosed b).text (opening_of b ∷ closer b ∷ []) x
example b x = enter_text (opening_of b) b (opening_is b) (closer b ∷ []) (closers_close (b ∷ [])) x

no_bracket : (t : Lexeme) (b : Bracket) (ts : List Lexeme) → same (opener b) (class_of t) ≡ false → Splits (enclosed b) (t ∷ ts) (Err (suc (length ts)))
no_bracket t b ts f = ([], t ∷ ts, opening_of b ∷ closer b ∷ [], tt, refl, refl, example b tt, λ vs h. again vs h)
  where
    again : (vs : List Lexeme) → head (t ∷ ts) ≡ head vs → (enclosed b).read vs ≡ Err (length vs)
    again [] h = absurd (cc)
    again (v ∷ vs) h = ap (λ (l : Lexeme). enter b vs (same (opener b) (class_of l))) same_one ∙ ap (enter b vs) f
      where
        same_one : v ≡ t
        same_one = cc

enclosed_splits : (b : Bracket) (ts : List Lexeme) → Splits (enclosed b) ts ((enclosed b).read ts)
enclosed_splits b [] = subst (Splits (enclosed b) []) (sym (at_end b)) ([], [], opening_of b ∷ closer b ∷ [], tt, refl, refl, example b tt, λ vs h. again vs h)
  where
    again : (vs : List Lexeme) → head [] ≡ head vs → (enclosed b).read vs ≡ Err (length vs)
    again [] h = at_end b
    again (v ∷ vs) h = absurd (cc)
enclosed_splits b (t ∷ ts) = go (same (opener b) (class_of t)) refl
  where
    go : (c : Bool) → same (opener b) (class_of t) ≡ c → Splits (enclosed b) (t ∷ ts) (enter b ts c)
    go true e = enter_splits t b ts (skip_to (b ∷ []) ts) (sym (same_is (opener b) (class_of t) e)) (skips ts (b ∷ []))
    go false e = no_bracket t b ts e

pub enclosed_lawful : (b : Bracket) → Lawful (enclosed b)
enclosed_lawful b = record {
  splits = enclosed_splits b;
  complete = λ us vs x w g.
      ap (λ us. (enclosed b).read (us ++ vs)) w.3
      ∙ enter_read w.0 b w.5 ((tokens_of w.1 ++ w.2 ∷ []) ++ vs)
      ∙ ap (skip_to (b ∷ [])) (append_assoc (tokens_of w.1) (w.2 ∷ []) vs)
      ∙ through w.1 b [] (w.2 ∷ vs) w.4
      ∙ (closes w.2 b [] w.6).1 vs
      ∙ done vs;
  some = (opening_of b ∷ closer b ∷ [], tt, example b tt);
  first = λ t ts x w. ap (has (opener b ∷ [])) (ap (λ (l : Lexeme). class_of l) (same_head t ts w.0 _ w.3) ∙ w.5) ∙ opener_firsts b;
  may_be_empty = λ x w. absurd (none_there w.0 _ w.3);
}
  where
    done : (vs : List Lexeme) → skip_to [] vs ≡ Ok (tt, vs)
    done [] = refl
    done (v ∷ vs) = refl

    same_head : (t : Lexeme) (ts : List Lexeme) (u : Lexeme) (us : List Lexeme) → t ∷ ts ≡ u ∷ us → t ≡ u
    same_head t ts u us e = cc

    none_there : (u : Lexeme) (us : List Lexeme) → [] ≡ u ∷ us → ⊥
    none_there u us e = cc
