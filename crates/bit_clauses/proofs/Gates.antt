-- Gates as circuits.
use Rattle.std.proofs.Common.{◌≡◌, Bool, true, false, cond, not, Option, Some, None, List, refl, sym, ◌∙◌, ap, subst, arith}
use Rattle.std.specs.Prelude.{IsSome}
use Rattle.std.proofs.lemmas.Bool.{false≢true}
use Rattle.clause_store.specs.declared.lit.Lit.{Lit}
use Rattle.clause_store.specs.Literals.{Assignment, literal_value}
use Rattle.clause_store.specs.Formula.{Formula}
use Rattle.clause_store.specs.UnitRule.{Partial, AllAtRest, IsGiven}
use Rattle.bit_gates.specs.Gate.{IsGate, BothGive, ChosenGives, joined, chosen, both}
use Rattle.bit_clauses.specs.Circuit.{IsCircuit, Decides}

-- a literal that isn't open has a value
pub given : (v : Partial) (l : Lit) → Decides v l → (p : Bool) × IsGiven v l p
given v l decided = by_value (v l.var) refl l.positive refl
  where
    by_value : (o : Option Bool) → v l.var ≡ o → (b : Bool) → l.positive ≡ b → (p : Bool) × IsGiven v l p
    by_value None e b f = absurd (false≢true (subst IsSome e decided))
    by_value (Some true) e true f = (true, e ∙ ap (λ (q : Bool). Some q) (sym f))
    by_value (Some false) e false f = (true, e ∙ ap (λ (q : Bool). Some q) (sym f))
    by_value (Some true) e false f = (false, e ∙ ap (λ (q : Bool). Some (not q)) (sym f))
    by_value (Some false) e true f = (false, e ∙ ap (λ (q : Bool). Some (not q)) (sym f))

open_given : (v : Partial) (l : Lit) (p : Bool) → IsGiven v l p → Decides v l
open_given v l true e = subst IsSome (sym e) refl
open_given v l false e = subst IsSome (sym e) refl

output : (old new : Formula) (Given : Partial → Type 0) (value : Assignment → Bool) (out : Lit) → IsGate old new value out
    → ((v : Partial) → AllAtRest v new.clauses → Given v → Decides v out)
    → IsCircuit old new Given (λ v. Decides v out) (λ w. literal_value w out ≡ value w)
output old new Given value out is decided = record {
  grows = record { vars = omega (arith, is.vars); more = is.more; clauses = is.clauses };
  means = is.has_value;
  extends = is.extends;
  gives = decided;
  decides = λ v r g x low high.
      let e : out.var ≡ x = omega (arith, is.fresh, is.vars) in
      subst (λ n. IsSome (v n)) e (decided v r g);
}

pub by_gate : (old new : Formula) (gate : Bool → Bool → Bool) (a b out : Lit) → IsGate old new (joined gate a b) out → BothGive gate new.clauses a b out
    → IsCircuit old new (λ v. Decides v a × Decides v b) (λ v. Decides v out) (λ w. literal_value w out ≡ gate (literal_value w a) (literal_value w b))
by_gate old new gate a b out is both = output old new (λ v. Decides v a × Decides v b) (joined gate a b) out is
    (λ v r g. let p = given v a g.0 in let q = given v b g.1 in open_given v out (gate p.0 q.0) (both v p.0 q.0 r p.1 q.1))

mux_decides : (clauses : List (List Lit)) (when one other out : Lit) → ChosenGives clauses when one other out → (v : Partial) → AllAtRest v clauses → Decides v one → Decides v other
    → (p : Bool) → IsGiven v when p → Decides v out
mux_decides clauses when one other out gives v r g h true e = let q = given v one g in open_given v out q.0 (gives.on_true v q.0 r e q.1)
mux_decides clauses when one other out gives v r g h false e = let q = given v other h in open_given v out q.0 (gives.on_false v q.0 r e q.1)

pub by_mux : (old new : Formula) (when one other out : Lit) → IsGate old new (chosen when one other) out → ChosenGives new.clauses when one other out
    → IsCircuit old new (λ v. Decides v when × Decides v one × Decides v other) (λ v. Decides v out) (λ w. literal_value w out ≡ cond (literal_value w when) (literal_value w one) (literal_value w other))
by_mux old new when one other out is gives = output old new (λ v. Decides v when × Decides v one × Decides v other) (chosen when one other) out is
    (λ v r g. let p = given v when g.0 in mux_decides new.clauses when one other out gives v r g.1 g.2 p.0 p.1)
