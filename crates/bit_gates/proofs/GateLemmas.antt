-- What the clauses of a gate say of its output.
use Rattle.std.proofs.Common.{◌≡◌, ℕ, ◌+◌, ◌<◌, Bool, true, false, not, cond, ◌&&◌, ◌||◌, eqb, List, [], ◌∷◌, ◌++◌, zero, suc, refl, sym, ◌∙◌, ap, subst, inl, inr, arith}
use Rattle.std.proofs.lemmas.Bool.{eq-eqb, ne_eqb, cond-true, cond-false}
use Rattle.std.proofs.lemmas.List.Elements.{All-nil, All-cons, All-append}
use Rattle.clause_store.specs.declared.lit.Lit.{Lit}
use Rattle.clause_store.specs.Literals.{Assignment, opposite, literal_value, IsTrueUnder, Satisfies}
use Rattle.clause_store.specs.UnitRule.{Partial, MakesTrue, MakesFalse, IsGiven, IsAtRest, AllAtRest}
use Rattle.clause_store.specs.Formula.{Formula, AllKnown, Extension}
use Rattle.clause_store.proofs.Members.{All-right}
use Rattle.clause_store.proofs.Rest.{decided, rest-decided, given-decided, given-opposite, one_value, not-not, literal_value-opposite, last_of_two, last_of_three}
use Rattle.clause_store.proofs.Agreement.{literal_value-agree, alike}
use Rattle.bit_gates.specs.Gate.{both, either, joined, chosen, IsGate, BothGive, OneGives, ChosenGives}
use Rattle.bit_gates.specs.Fixed.{and_clauses, mux_clauses}

-- The clauses fix the literal as a value of the first variables.
pub record Fixes (vars : ℕ) (fixed : List (List Lit)) (value : Assignment → Bool) (out : Lit) : Type 0 where
  pub sound : (w : Assignment) → Satisfies w fixed → literal_value w out ≡ value w
  pub complete : (w : Assignment) → literal_value w out ≡ value w → Satisfies w fixed
  pub of_inputs : (w u : Assignment) → ((x : ℕ) → x < vars → u x ≡ w x) → value u ≡ value w

abbrev pub output_of : Formula → Lit
output_of f = record { var = f.vars; positive = true }

abbrev pub with_output : Formula → List (List Lit) → Formula
with_output f fixed = record { vars = f.vars + 1; clauses = f.clauses ++ fixed }

-- an assignment with another value of one variable
with_value : Assignment → ℕ → Bool → Assignment
with_value w var b x = cond (eqb x var) b (w x)

with_value-same : (w : Assignment) (var : ℕ) (b : Bool) → with_value w var b var ≡ b
unfolding with_value
with_value-same w var b = cond-true (eqb var var) b (w var) (eq-eqb var var refl)

with_value-below : (w : Assignment) (var : ℕ) (b : Bool) (x : ℕ) → x < var → with_value w var b x ≡ w x
unfolding with_value
with_value-below w var b x below = cond-false (eqb x var) b (w x) (ne_eqb x var (λ e. omega (arith, below, e)))

gate_extends : (old : Formula) → AllKnown old → (fixed : List (List Lit)) (value : Assignment → Bool) → Fixes old.vars fixed value (output_of old)
    → (w : Assignment) → Satisfies w old.clauses → Extension old.vars w (old.clauses ++ fixed)
gate_extends old known fixed value fixes w sat =
    let u : Assignment = with_value w old.vars (value w) in
    let agrees : (x : ℕ) → x < old.vars → u x ≡ w x = λ x below. with_value-below w old.vars (value w) x below in
    record {
      extended = u;
      agrees = agrees;
      satisfies =
          All-append (IsTrueUnder u) old.clauses fixed (alike old w u known agrees sat)
          (fixes.complete u (with_value-same w old.vars (value w) ∙ sym (fixes.of_inputs w u agrees)));
    }

gate_from : (old : Formula) → AllKnown old → (fixed : List (List Lit)) (value : Assignment → Bool) → Fixes old.vars fixed value (output_of old)
    → IsGate old (with_output old fixed) value (output_of old)
gate_from old known fixed value fixes =
    record {
      fresh = refl;
      vars = refl;
      more = fixed;
      clauses = refl;
      has_value = λ w sat. fixes.sound w (All-right (IsTrueUnder w) old.clauses fixed sat);
      extends = gate_extends old known fixed value fixes;
    }

-- A fresh variable, and then the clauses that fix it.
pub gate_made : (old between new : Formula) (out : Lit) (fixed : Lit → List (List Lit)) (value : Assignment → Bool) → AllKnown old
    → Fixes old.vars (fixed (output_of old)) value (output_of old)
    → out ≡ output_of old → between ≡ record old { vars = old.vars + 1 } → new ≡ record between { clauses = between.clauses ++ fixed out }
    → IsGate old new value out
gate_made old between new out fixed value known fixes is_output is_between is_new =
    subst (λ (f : Formula). IsGate old f value out) (sym is_new)
    (subst (λ (f : Formula). IsGate old (record { vars = f.vars; clauses = f.clauses ++ fixed out }) value out) (sym is_between)
    (subst (λ (l : Lit). IsGate old (with_output old (fixed l)) value l) (sym is_output) (gate_from old known (fixed (output_of old)) value fixes)))

-- a clause's value, computed

clause_value : Assignment → List Lit → Bool
clause_value w [] = false
clause_value w (l ∷ clause) = literal_value w l || clause_value w clause

true_from_value : (w : Assignment) (clause : List Lit) → clause_value w clause ≡ true → IsTrueUnder w clause
unfolding clause_value
true_from_value w [] e = cc
true_from_value w (l ∷ clause) e = go (literal_value w l) refl (true_from_value w clause)
  where
    go : (b : Bool) → literal_value w l ≡ b → (clause_value w clause ≡ true → IsTrueUnder w clause) → IsTrueUnder w (l ∷ clause)
    go true holds _ = (zero, l, omega arith, refl, holds)
    go false fails tail =
        let some : IsTrueUnder w clause = tail (ap (λ (b : Bool). b || clause_value w clause) (sym fails) ∙ e) in
        (suc some.0, some.1, omega (arith, some.2), some.3, some.4)

-- what is at rest on the new clauses is at rest on those that fix the output
pub rest_of_fixed : (between new : Formula) (fixed : List (List Lit)) → new ≡ record between { clauses = between.clauses ++ fixed }
    → (v : Partial) → AllAtRest v new.clauses → AllAtRest v fixed
rest_of_fixed between new fixed is_new v rest =
    All-right (IsAtRest v) between.clauses fixed (subst (λ (f : Formula). AllAtRest v f.clauses) is_new rest)

-- AND

and_first : (a b out : Lit) (v : Partial) → AllAtRest v (and_clauses a b out) → MakesFalse v a → MakesFalse v out
and_first a b out v rest f = last_of_two v a (opposite out) (rest 0 [] (omega arith)) f

and_second : (a b out : Lit) (v : Partial) → AllAtRest v (and_clauses a b out) → MakesFalse v b → MakesFalse v out
and_second a b out v rest f = last_of_two v b (opposite out) (rest 1 [] (omega arith)) f

pub and_settled : (a b out : Lit) → OneGives false (and_clauses a b out) a b out
and_settled a b out v rest (inl f) = and_first a b out v rest f
and_settled a b out v rest (inr f) = and_second a b out v rest f

pub and_given : (a b out : Lit) → BothGive both (and_clauses a b out) a b out
and_given a b out v true true rest ga gb =
    last_of_three v (opposite a) (opposite b) out (rest 2 [] (omega arith)) (given-opposite v a true ga) (given-opposite v b true gb)
and_given a b out v true false rest ga gb = and_second a b out v rest gb
and_given a b out v false q rest ga gb = and_first a b out v rest ga

and_true : (a b : Bool) → (a || (not (a && b) || false) ≡ true) × (b || (not (a && b) || false) ≡ true) × (not a || (not b || ((a && b) || false)) ≡ true)
and_true true true = (refl, refl, refl)
and_true true false = (refl, refl, refl)
and_true false true = (refl, refl, refl)
and_true false false = (refl, refl, refl)

pub and_fixes : (vars : ℕ) (a b out : Lit) → a.var < vars → b.var < vars → Fixes vars (and_clauses a b out) (joined both a b) out
unfolding clause_value
and_fixes vars a b out a_known b_known =
    record {
      sound =
          λ w sat.
          let given : IsGiven (decided w) out (joined both a b w) =
          and_given a b out (decided w) (literal_value w a) (literal_value w b) (rest-decided w (and_clauses a b out) sat) (given-decided w a) (given-decided w b)
          in
          one_value (decided w) out (literal_value w out) (joined both a b w) (given-decided w out) given;
      complete =
          λ w e.
          let holds = and_true (literal_value w a) (literal_value w b) in
          All-cons (IsTrueUnder w) (a ∷ opposite out ∷ []) ((b ∷ opposite out ∷ []) ∷ (opposite a ∷ opposite b ∷ out ∷ []) ∷ [])
          (true_from_value w (a ∷ opposite out ∷ []) (rw (literal_value-opposite w out, e) holds.0))
          (All-cons (IsTrueUnder w) (b ∷ opposite out ∷ []) ((opposite a ∷ opposite b ∷ out ∷ []) ∷ [])
          (true_from_value w (b ∷ opposite out ∷ []) (rw (literal_value-opposite w out, e) holds.1))
          (All-cons (IsTrueUnder w) (opposite a ∷ opposite b ∷ out ∷ []) []
          (true_from_value w (opposite a ∷ opposite b ∷ out ∷ []) (rw (literal_value-opposite w a, literal_value-opposite w b, e) holds.2))
          (All-nil (IsTrueUnder w))));
      of_inputs =
          λ w u agrees.
          ap (λ (p : Bool). p && literal_value u b) (literal_value-agree w u a (agrees a.var a_known))
          ∙ ap (λ (q : Bool). literal_value w a && q) (literal_value-agree w u b (agrees b.var b_known));
    }

-- the choice of a third literal

pub mux_given : (when then_lit else_lit out : Lit) → ChosenGives (mux_clauses when then_lit else_lit out) when then_lit else_lit out
mux_given when then_lit else_lit out =
    record {
      on_true = λ v p rest t g. on_true v p rest t g;
      on_false = λ v p rest f g. on_false v p rest f g;
    }
  where
    on_true : (v : Partial) (p : Bool) → AllAtRest v (mux_clauses when then_lit else_lit out) → MakesTrue v when → IsGiven v then_lit p → IsGiven v out p
    on_true v true rest t g =
        last_of_three v (opposite when) (opposite then_lit) out (rest 0 [] (omega arith)) (given-opposite v when true t) (given-opposite v then_lit true g)
    on_true v false rest t g = last_of_three v (opposite when) then_lit (opposite out) (rest 1 [] (omega arith)) (given-opposite v when true t) g

    on_false : (v : Partial) (p : Bool) → AllAtRest v (mux_clauses when then_lit else_lit out) → MakesFalse v when → IsGiven v else_lit p → IsGiven v out p
    on_false v true rest f g = last_of_three v when (opposite else_lit) out (rest 2 [] (omega arith)) f (given-opposite v else_lit true g)
    on_false v false rest f g = last_of_three v when else_lit (opposite out) (rest 3 [] (omega arith)) f g

-- the same of a formula that ends in these clauses
pub chosen_gives : (between new : Formula) (when then_lit else_lit out : Lit) → new ≡ record between { clauses = between.clauses ++ mux_clauses when then_lit else_lit out }
    → ChosenGives new.clauses when then_lit else_lit out
chosen_gives between new when then_lit else_lit out is_new =
    let given : ChosenGives (mux_clauses when then_lit else_lit out) when then_lit else_lit out = mux_given when then_lit else_lit out in
    let fixed_rest : (v : Partial) → AllAtRest v new.clauses → AllAtRest v (mux_clauses when then_lit else_lit out) =
    λ v rest. rest_of_fixed between new (mux_clauses when then_lit else_lit out) is_new v rest
    in
    record {
      on_true = λ v p rest t g. given.on_true v p (fixed_rest v rest) t g;
      on_false = λ v p rest f g. given.on_false v p (fixed_rest v rest) f g;
    }

abbrev choice : Bool → Bool → Bool → Bool
choice c p q = cond c p q

mux_true : (c p q : Bool)
    → (not c || (not p || (choice c p q || false)) ≡ true) × (not c || (p || (not (choice c p q) || false)) ≡ true)
    × (c || (not q || (choice c p q || false)) ≡ true) × (c || (q || (not (choice c p q) || false)) ≡ true)
mux_true true true q = (refl, refl, refl, refl)
mux_true true false q = (refl, refl, refl, refl)
mux_true false p true = (refl, refl, refl, refl)
mux_true false p false = (refl, refl, refl, refl)

chosen_given : (when then_lit else_lit out : Lit) (v : Partial) (c p q : Bool) → AllAtRest v (mux_clauses when then_lit else_lit out)
    → IsGiven v when c → IsGiven v then_lit p → IsGiven v else_lit q → IsGiven v out (choice c p q)
chosen_given when then_lit else_lit out v true p q rest gc gp gq = (mux_given when then_lit else_lit out).on_true v p rest gc gp
chosen_given when then_lit else_lit out v false p q rest gc gp gq = (mux_given when then_lit else_lit out).on_false v q rest gc gq

pub mux_fixes : (vars : ℕ) (when then_lit else_lit out : Lit) → when.var < vars → then_lit.var < vars → else_lit.var < vars
    → Fixes vars (mux_clauses when then_lit else_lit out) (chosen when then_lit else_lit) out
unfolding clause_value
mux_fixes vars when then_lit else_lit out when_known then_known else_known =
    record {
      sound =
          λ w sat.
          let given : IsGiven (decided w) out (chosen when then_lit else_lit w) =
          chosen_given when then_lit else_lit out (decided w) (literal_value w when) (literal_value w then_lit) (literal_value w else_lit)
          (rest-decided w (mux_clauses when then_lit else_lit out) sat)
          (given-decided w when) (given-decided w then_lit) (given-decided w else_lit)
          in
          one_value (decided w) out (literal_value w out) (chosen when then_lit else_lit w) (given-decided w out) given;
      complete =
          λ w e.
          let holds = mux_true (literal_value w when) (literal_value w then_lit) (literal_value w else_lit) in
          let c0 : List Lit = opposite when ∷ opposite then_lit ∷ out ∷ [] in
          let c1 : List Lit = opposite when ∷ then_lit ∷ opposite out ∷ [] in
          let c2 : List Lit = when ∷ opposite else_lit ∷ out ∷ [] in
          let c3 : List Lit = when ∷ else_lit ∷ opposite out ∷ [] in
          All-cons (IsTrueUnder w) c0 (c1 ∷ c2 ∷ c3 ∷ [])
          (true_from_value w c0 (rw (literal_value-opposite w when, literal_value-opposite w then_lit, e) holds.0))
          (All-cons (IsTrueUnder w) c1 (c2 ∷ c3 ∷ [])
          (true_from_value w c1 (rw (literal_value-opposite w when, literal_value-opposite w out, e) holds.1))
          (All-cons (IsTrueUnder w) c2 (c3 ∷ [])
          (true_from_value w c2 (rw (literal_value-opposite w else_lit, e) holds.2))
          (All-cons (IsTrueUnder w) c3 []
          (true_from_value w c3 (rw (literal_value-opposite w out, e) holds.3))
          (All-nil (IsTrueUnder w)))));
      of_inputs =
          λ w u agrees.
          ap (λ (c : Bool). choice c (literal_value u then_lit) (literal_value u else_lit)) (literal_value-agree w u when (agrees when.var when_known))
          ∙ ap (λ (p : Bool). choice (literal_value w when) p (literal_value u else_lit)) (literal_value-agree w u then_lit (agrees then_lit.var then_known))
          ∙ ap (λ (q : Bool). choice (literal_value w when) (literal_value w then_lit) q) (literal_value-agree w u else_lit (agrees else_lit.var else_known));
    }

-- OR by AND

or_from_and : (p q : Bool) → not (not p && not q) ≡ p || q
or_from_and true q = refl
or_from_and false q = not-not q

pub or_given : (clauses : List (List Lit)) (a b neither : Lit) → BothGive both clauses (opposite a) (opposite b) neither → BothGive either clauses a b (opposite neither)
or_given clauses a b neither given v p q rest ga gb =
    subst (λ (r : Bool). IsGiven v (opposite neither) r) (or_from_and p q)
    (given-opposite v neither (not p && not q) (given v (not p) (not q) rest (given-opposite v a p ga) (given-opposite v b q gb)))
