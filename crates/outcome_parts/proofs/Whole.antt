-- The clauses of a built store-conditional are a part.
use Rattle.std.specs.Prelude.{◌≡◌, ◌↔◌, ℕ, zero, suc, ◌<◌, ◌≤◌, Bool, true, false, IsSome, List, [], ◌∷◌, ◌++◌, All, length, Some}
use Rattle.std.proofs.Common.{sym, ◌∙◌, subst, refl, inl, inr, arith}
use Rattle.std.proofs.lemmas.Bool.{cases_lt, false≢true}
use Rattle.std.proofs.lemmas.List.Elements.{All-cons, All-contains, All-from_get_or, All-nil, Contains-append_cases}
use Rattle.bv_terms.specs.Values.{Assignment as TermAssignment}
use Rattle.clause_store.specs.declared.lit.Lit.{Lit}
use Rattle.clause_store.specs.Formula.{Extension}
use Rattle.clause_store.specs.Literals.{Assignment}
use Rattle.clause_store.specs.UnitRule.{Partial, AllAtRest}
use Rattle.clause_store.proofs.Growth.{older_at_rest}
use Rattle.clause_store.proofs.Members.{Contains-cons_cases, Contains-head, Contains-nil}
use Rattle.clause_store.proofs.Rest.{true_not_false}
use Rattle.order_clauses.specs.declared.order_lit.OrderLit.{OrderLit}
use Rattle.order_clauses.specs.declared.order_lit.OrderLit.TheVariants as order_lit
use Rattle.source_clauses.specs.Conditions.{IsDecided}
use Rattle.outcome_clauses.specs.declared.store_conditional.Ender.{Ender}
use Rattle.outcome_clauses.specs.Contract.{HasValue, IsPlaced}
use Rattle.bit_clauses.specs.Bits.{Agrees, TermExtension, run}
use Rattle.bit_clauses.specs.Circuit.{DecidesAll}
use Rattle.bit_clauses.specs.Nodes.{lits_at}
use Rattle.bit_clauses.proofs.Blasted.{keeps_none, run_known, spelled_agrees}
use Rattle.bit_clauses.proofs.Sure.{known_later}
use Rattle.encoder.specs.declared.encoder.Encoder.{Encoder}
use Rattle.encoder.specs.Encodes.{AllVariablesDecided, Keeps}
use Rattle.encoder.proofs.Encoding.{keeps_then, one_of, terms_same, variables_same}
use Rattle.term_sources.specs.Sees.{SucceedsAt, guard_value}
use Rattle.read_clauses.specs.Conditionals.{ender_at}
use Rattle.formula_parts.specs.Facts.{AreGiven, Gives, Holds, IsGivenAccess, IsGivenBits, IsGivenFact, IsGivenTerm, IsReady, Succeeds}
use Rattle.formula_parts.specs.Parts.{Adds, AtRest, SpellsAll}
use Rattle.formula_parts.proofs.Composing.{all_older, order_extended, ready_older, spells_later}
use Rattle.reader_parts.proofs.Testing.{one_literal}
use Rattle.outcome_parts.specs.declared.rival.Rival.{Rival}
use Rattle.outcome_parts.specs.Outcomes.{OutcomesAreParts}
use Rattle.outcome_parts.specs.Rivals.{address_parts, conditional_parts, first_literal, rival_at, rival_parts, touch_parts}
use Rattle.outcome_parts.proofs.Succeeding.{Scene, Told, acc, guard_one, inside, outcome_by_terms, rival, rival_is}

abbrev new_of : Scene → Encoder
new_of s = record s.mid { clauses = s.after }

mid_to_new : (s : Scene) → Keeps s.mid (new_of s)
mid_to_new s = record {
  known = known_later s.mid.blaster s.mid.pool s.mid.pool s.mid.clauses s.after (terms_same s.mid.pool) s.adds.grows s.encodes.keeps.known;
  terms = terms_same s.mid.pool;
  variables = variables_same s.mid.pool;
  bits = keeps_none s.mid.blaster;
  grows = s.adds.grows;
}

-- ---- what is said

same_some : (a b : ℕ) → Some a ≡ Some b → a ≡ b
same_some a b e = cc

-- the access looks back to one load-reserved
to_fact : (s : Scene) (t : TermAssignment) (lt : ℕ → ℕ → Bool)
    → ((guard_value t s.setting.nodes (acc s s.x) ≡ 1) ↔ SucceedsAt t s.setting.nodes s.setting.accesses lt s.lr s.x) → Holds s.setting t lt (Succeeds s.x)
to_fact s t lt has other link =
    let same : s.lr ≡ other = same_some s.lr other (sym s.can.link ∙ link) in
    subst (λ (n : ℕ). (guard_value t s.setting.nodes (acc s s.x) ≡ 1) ↔ SucceedsAt t s.setting.nodes s.setting.accesses lt n s.x) same has

abbrev told_of : (s : Scene) (w : Assignment) (t : TermAssignment) (lt : ℕ → ℕ → Bool) → SpellsAll s.setting (new_of s) t w lt → Told s
told_of s w t lt spells = record { w = w; t = t; lt = lt; spells = spells_later s.setting s.mid (new_of s) t w lt (mid_to_new s) spells }

sound : (s : Scene) (w : Assignment) (t : TermAssignment) (lt : ℕ → ℕ → Bool) → SpellsAll s.setting (new_of s) t w lt → Holds s.setting t lt (Succeeds s.x)
sound s w t lt spells = to_fact s t lt ((outcome_by_terms s (told_of s w t lt spells)).0 (s.adds.sound w spells.spells.satisfies))

agrees_on : (s : Scene) (t : TermAssignment) (w u : Assignment) → ((x : ℕ) → x < s.mid.clauses.vars → u x ≡ w x) → Agrees s.mid.blaster t w → Agrees s.mid.blaster t u
agrees_on s t w u same agrees width number first found =
    spelled_agrees w u s.mid.clauses.vars (run first width) same (run_known first width s.mid.clauses.vars (s.encodes.keeps.known.variables width number first found))
    ∙ agrees width number first found

extends : (s : Scene) (w : Assignment) (t : TermAssignment) (lt : ℕ → ℕ → Bool) → SpellsAll s.setting s.old t w lt → Holds s.setting t lt (Succeeds s.x)
    → TermExtension s.mid.blaster t s.old.clauses.vars w s.after.clauses
extends s w t lt spells holds =
    let e : TermExtension s.mid.blaster t s.old.clauses.vars w s.mid.clauses.clauses = s.encodes.extends w t spells.spells in
    let told : Told s = record {
      w = e.extended;
      t = t;
      lt = lt;
      spells = record {
        spells = record { satisfies = e.satisfies; agrees = e.spells };
        is_order = spells.is_order;
        order = order_extended s.setting s.old w e.extended lt s.can.stands e.agrees spells.order;
      };
    } in
    let f : Extension s.mid.clauses.vars e.extended s.after.clauses = s.adds.extends e.extended e.satisfies ((outcome_by_terms s told).1 (holds s.lr s.can.link)) in
    let more = s.encodes.keeps.grows.vars in record {
      extended = f.extended;
      agrees = λ (x : ℕ) (below : x < s.old.clauses.vars). f.agrees x (omega (arith, below, more)) ∙ e.agrees x below;
      satisfies = f.satisfies;
      spells = agrees_on s t e.extended f.extended f.agrees e.spells;
    }

-- ---- what is given

-- a condition has one value
decided_one : (v : Partial) (condition : OrderLit) (b : Bool) → IsDecided v condition true → IsDecided v condition b → b ≡ true
decided_one v order_lit.Always b first second = second
decided_one v order_lit.Never b first second = absurd (false≢true (sym first))
decided_one v (order_lit.Is l) true first second = refl
decided_one v (order_lit.Is l) false first second = absurd (true_not_false v l first second)

pub record Rests (s : Scene) : Type 0 where
  pub v : Partial
  pub lt : ℕ → ℕ → Bool
  pub rest : AtRest s.setting (new_of s) v lt
  pub ready : IsReady s.setting s.mid v lt s.x

rest_mid : (s : Scene) (r : Rests s) → AllAtRest r.v s.mid.clauses.clauses
rest_mid s r = older_at_rest s.mid.clauses s.after r.v s.adds.grows r.rest.rest

three_given : (encoder : Encoder) (v : Partial) (a b c : ℕ) → IsGivenTerm encoder v a → IsGivenTerm encoder v b → IsGivenTerm encoder v c → AllVariablesDecided encoder v (a ∷ b ∷ c ∷ [])
three_given encoder v a b c of_a of_b of_c id listed = elim (Contains-cons_cases a (b ∷ c ∷ []) id listed) [
  | inl e ↦ subst (IsGivenTerm encoder v) e of_a
  | inr more ↦ elim (Contains-cons_cases b (c ∷ []) id more) [
    | inl e ↦ subst (IsGivenTerm encoder v) e of_b
    | inr last ↦ elim (Contains-cons_cases c [] id last) [
      | inl e ↦ subst (IsGivenTerm encoder v) e of_c
      | inr none ↦ absurd (Contains-nil id none)
    ]
  ]
]

two_given : (encoder : Encoder) (v : Partial) (a b : ℕ) → IsGivenTerm encoder v a → IsGivenTerm encoder v b → AllVariablesDecided encoder v (a ∷ b ∷ [])
two_given encoder v a b of_a of_b id listed = elim (Contains-cons_cases a (b ∷ []) id listed) [
  | inl e ↦ subst (IsGivenTerm encoder v) e of_a
  | inr more ↦ elim (Contains-cons_cases b [] id more) [
    | inl e ↦ subst (IsGivenTerm encoder v) e of_b
    | inr none ↦ absurd (Contains-nil id none)
  ]
]

reserved_given : (s : Scene) (r : Rests s) → IsGivenAccess s.mid r.v (acc s s.lr)
reserved_given s r = r.ready.older s.lr s.can.reserved (s.can.earlier r.lt r.rest.is_order)

abbrev ender : Scene → ℕ → Ender
ender s k = ender_at s.sc.enders k

after_decided : (s : Scene) (r : Rests s) (k : ℕ) → k < length s.sc.enders → IsDecided r.v (ender s k).after (r.lt s.lr (rival s k).access)
after_decided s r k less =
    subst (λ (o : OrderLit). IsDecided r.v o (r.lt s.lr (rival s k).access)) (sym (s.built.enders.each k (inside s k less)).after)
    ((rival_is s k (inside s k less)).after.decided r.v r.lt r.rest.is_order r.rest.order)

before_decided : (s : Scene) (r : Rests s) (k : ℕ) → k < length s.sc.enders → IsDecided r.v (ender s k).before (r.lt (rival s k).access s.x)
before_decided s r k less =
    subst (λ (o : OrderLit). IsDecided r.v o (r.lt (rival s k).access s.x)) (sym (s.built.enders.each k (inside s k less)).before)
    ((rival_is s k (inside s k less)).before.decided r.v r.lt r.rest.is_order r.rest.order)

ender_placed : (s : Scene) (r : Rests s) (k : ℕ) → k < length s.sc.enders → IsPlaced r.v (ender s k)
ender_placed s r k less = record {
  after = (r.lt s.lr (rival s k).access, after_decided s r k less);
  before = λ (after : IsDecided r.v (ender s k).after true). (r.lt (rival s k).access s.x, before_decided s r k less);
  hit = λ (after : IsDecided r.v (ender s k).after true) (before : IsDecided r.v (ender s k).before true).
      let stands : r.lt (rival s k).access s.x ≡ true = decided_one r.v (ender s k).before (r.lt (rival s k).access s.x) before (before_decided s r k less) in
      let given = r.ready.older (rival s k).access (rival_is s k (inside s k less)).there stands in
      (s.built.enders.each k (inside s k less)).hit.decided r.v (rest_mid s r)
      (three_given s.mid r.v (acc s (rival s k).access).guard.number (acc s (rival s k).access).address.number (acc s s.lr).address.number given.guard given.address
      (reserved_given s r).address);
}

all_placed : (s : Scene) (r : Rests s) → All (IsPlaced r.v) s.sc.enders
all_placed s r =
    All-from_get_or (IsPlaced r.v) s.sc.enders (record { after = order_lit.Always; before = order_lit.Always; hit = order_lit.Always })
    (λ (k : ℕ) (less : k < length s.sc.enders). ender_placed s r k less)

same_given : (s : Scene) (r : Rests s) → HasValue r.v s.sc.same
same_given s r =
    s.built.same.decided r.v (rest_mid s r)
    (two_given s.mid r.v (acc s s.lr).address.number (acc s s.x).address.number (reserved_given s r).address r.ready.address)

outcome_given : (s : Scene) (r : Rests s) → IsGivenBits (new_of s) r.v (acc s s.x).guard.number
outcome_given s r =
    let lits = lits_at s.mid.blaster.terms (acc s s.x).guard.number in
    let value : IsSome (r.v (first_literal s.mid (acc s s.x).guard.number).var) =
    subst (λ (l : Lit). IsSome (r.v l.var)) s.built.outcome (s.adds.settles r.v r.rest.rest (all_placed s r) (same_given s r)) in record {
      built = s.built.guard;
      decided = subst (λ (xs : List Lit). DecidesAll r.v xs) (sym (one_literal lits (guard_one s)))
          (All-cons (λ (l : Lit). IsSome (r.v l.var)) (first_literal s.mid (acc s s.x).guard.number) [] value (All-nil (λ (l : Lit). IsSome (r.v l.var))));
    }

gives : (s : Scene) (v : Partial) (lt : ℕ → ℕ → Bool) → AtRest s.setting (new_of s) v lt → Gives s.setting (new_of s) v lt (Succeeds s.x)
gives s v lt rest lr link ready =
    outcome_given s (record { v = v; lt = lt; rest = rest; ready = ready_older s.setting s.mid (new_of s) v lt s.x (mid_to_new s) ready })

-- ---- what is decided

rivals_given : (s : Scene) (v : Partial) → AreGiven s.setting s.mid v → (rivals : List Rival)
    → ((k : ℕ) → k < length rivals → (rival_at rivals k).access < length s.setting.accesses) → AllVariablesDecided s.mid v (rival_parts s.setting.accesses s.lr rivals)
rivals_given s v given [] there id listed = absurd (Contains-nil id listed)
rivals_given s v given (one ∷ more) there id listed =
    let writer = given one.access (there zero (omega arith)) in
    elim (Contains-append_cases (touch_parts (acc s one.access) (acc s s.lr)) (rival_parts s.setting.accesses s.lr more) id listed) [
      | inl here ↦ three_given s.mid v (acc s one.access).guard.number (acc s one.access).address.number (acc s s.lr).address.number writer.guard writer.address
          (given s.lr s.can.reserved).address id here
      | inr later ↦ rivals_given s v given more (λ (k : ℕ) (less : k < length more). there (suc k) (omega (arith, less))) id later
    ]

parts_given : (s : Scene) (v : Partial) → AreGiven s.setting s.mid v → AllVariablesDecided s.mid v (conditional_parts s.setting.accesses s.lr s.x s.rivals)
parts_given s v given id listed =
    let addresses = address_parts (acc s s.lr) (acc s s.x) in
    elim (Contains-append_cases (rival_parts s.setting.accesses s.lr s.rivals) (addresses ++ (acc s s.x).guard.number ∷ []) id listed) [
      | inl of_rivals ↦ rivals_given s v given s.rivals (λ (k : ℕ) (less : k < length s.rivals). (rival_is s k less).there) id of_rivals
      | inr rest ↦ elim (Contains-append_cases addresses ((acc s s.x).guard.number ∷ []) id rest) [
        | inl two ↦ two_given s.mid v (acc s s.lr).address.number (acc s s.x).address.number (given s.lr s.can.reserved).address (given s.x s.can.there).address id two
        | inr guard ↦ subst (IsGivenTerm s.mid v) (one_of (acc s s.x).guard.number id guard) (given s.x s.can.there).guard
      ]
    ]

decides : (s : Scene) (v : Partial) (lt : ℕ → ℕ → Bool) → AtRest s.setting (new_of s) v lt → AreGiven s.setting (new_of s) v → (x : ℕ) → s.old.clauses.vars ≤ x → x < s.after.vars → IsSome (v x)
decides s v lt rest given x from below =
    let earlier : AreGiven s.setting s.mid v = all_older s.setting s.mid (new_of s) v (mid_to_new s) given in
    let ready : IsReady s.setting s.mid v lt s.x = record {
      older = λ (y : ℕ) (there : y < length s.setting.accesses) (before : lt y s.x ≡ true). earlier y there;
      address = (earlier s.x s.can.there).address;
    } in
    elim (cases_lt x s.mid.clauses.vars) [
      | inl less ↦ s.encodes.decides v (older_at_rest s.mid.clauses s.after v s.adds.grows rest.rest) (parts_given s v earlier) x from less
      | inr above ↦ s.adds.decides v rest.rest (all_placed s (record { v = v; lt = lt; rest = rest; ready = ready })) x above below
    ]

whole : (s : Scene) → Adds s.setting s.old (new_of s) (Succeeds s.x ∷ [])
whole s = record {
  keeps = keeps_then s.old s.mid (new_of s) s.encodes.keeps (mid_to_new s);
  sound = λ (w : Assignment) (t : TermAssignment) (lt : ℕ → ℕ → Bool) (spells : SpellsAll s.setting (new_of s) t w lt).
      All-cons (Holds s.setting t lt) (Succeeds s.x) [] (sound s w t lt spells) (All-nil (Holds s.setting t lt));
  extends = λ (w : Assignment) (t : TermAssignment) (lt : ℕ → ℕ → Bool) (spells : SpellsAll s.setting s.old t w lt) (holds : All (Holds s.setting t lt) (Succeeds s.x ∷ [])).
      extends s w t lt spells (All-contains (Holds s.setting t lt) (Succeeds s.x ∷ []) (Succeeds s.x) holds (Contains-head (Succeeds s.x) []));
  gives = λ (v : Partial) (lt : ℕ → ℕ → Bool) (rest : AtRest s.setting (new_of s) v lt).
      All-cons (Gives s.setting (new_of s) v lt) (Succeeds s.x) [] (gives s v lt rest) (All-nil (Gives s.setting (new_of s) v lt));
  decides = λ (v : Partial) (lt : ℕ → ℕ → Bool) (rest : AtRest s.setting (new_of s) v lt) (given : AreGiven s.setting (new_of s) v)
      (each : All (IsGivenFact (new_of s) v) (Succeeds s.x ∷ [])) (x : ℕ) (from : s.old.clauses.vars ≤ x) (below : x < s.after.vars). decides s v lt rest given x from below;
}

pub outcomes_whole : OutcomesAreParts
outcomes_whole setting old mid after lr x rivals sc can encodes built adds = whole (record {
  setting = setting;
  old = old;
  mid = mid;
  after = after;
  lr = lr;
  x = x;
  rivals = rivals;
  sc = sc;
  can = can;
  encodes = encodes;
  built = built;
  adds = adds;
})
