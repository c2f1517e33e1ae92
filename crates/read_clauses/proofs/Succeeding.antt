-- A store-conditional has its outcome by literals exactly where it has it by terms.
use Rattle.std.specs.Prelude.{◌≡◌, ◌≢◌, ◌↔◌, ℕ, ◌<◌, Bool, true, false, List, length, refl}
use Rattle.std.proofs.Common.{sym, ◌∙◌, ap, eq-eqb}
use Rattle.std.proofs.lemmas.Bool.{eqb-true, false≢true}
use Rattle.std.proofs.lemmas.List.Elements.{All-from_get_or}
use Rattle.bv_terms.specs.Values.{Assignment as TermAssignment}
use Rattle.clause_store.specs.Literals.{Assignment, literal_value}
use Rattle.order_clauses.specs.declared.order_lit.OrderLit.TheVariants as order_lit
use Rattle.outcome_clauses.specs.declared.store_conditional.Ender.{Ender}
use Rattle.outcome_clauses.specs.declared.store_conditional.StoreConditional.{StoreConditional}
use Rattle.outcome_clauses.specs.Succeeds.{Ends, HasOutcome, Succeeds}
use Rattle.encoder.specs.declared.encoder.Encoder.{Encoder}
use Rattle.encoder.specs.Encodes.{Spells}
use Rattle.thread_terms.specs.declared.access.Access.{Access}
use Rattle.term_sources.specs.Sees.{SucceedsAt, access_at, address_value, guard_value}
use Rattle.read_clauses.specs.Conditionals.{ConditionalsSucceedByTerms, HasEnders, IsConditionalOf, IsEnder, SpellsEnders, ender_at, touches_at}

not_true : (b : Bool) → (b ≡ true → ⊥) → b ≡ false
not_true true never = absurd (never refl)
not_true false never = refl

abbrev no_ender : Ender
no_ender = record { after = order_lit.Always; before = order_lit.Always; hit = order_lit.Always }

pub record Scene : Type 0 where
  pub encoder : Encoder
  pub accesses : List Access
  pub lr : ℕ
  pub x : ℕ
  pub sc : StoreConditional
  pub w : Assignment
  pub t : TermAssignment
  pub lt : ℕ → ℕ → Bool
  pub is : IsConditionalOf encoder accesses lr x sc
  pub spells : Spells encoder t w
  pub order : SpellsEnders w sc is.access lr x lt
  pub all : HasEnders t encoder accesses is.access (length sc.enders) lr x lt

abbrev SucceedsHere : Scene → Type 0
SucceedsHere s = SucceedsAt s.t s.encoder.pool s.accesses s.lt s.lr s.x

succeeds_to : (s : Scene) → Succeeds s.w s.sc → SucceedsHere s
succeeds_to s succeeds = record {
  same = eqb-true (address_value s.t s.encoder.pool (access_at s.accesses s.lr)) (address_value s.t s.encoder.pool (access_at s.accesses s.x))
      (sym (s.is.same s.w s.t s.spells) ∙ succeeds.same);
  undisturbed = λ (y : ℕ) (there : y < length s.accesses) (differs : (access_at s.accesses y).pos.thread ≢ (access_at s.accesses s.x).pos.thread)
      (after : s.lt s.lr y ≡ true) (before : s.lt y s.x ≡ true).
      not_true (touches_at s.t s.encoder s.accesses y s.lr) (λ (touched : touches_at s.t s.encoder s.accesses y s.lr ≡ true).
      let found : (k : ℕ) × (k < length s.sc.enders) × (s.is.access k ≡ y) = s.all y there differs after before touched in
      succeeds.kept found.0 no_ender found.1 (record {
        between = record {
          after = s.order.after found.0 found.1 ∙ ap (λ (z : ℕ). s.lt s.lr z) found.2 ∙ after;
          before = s.order.before found.0 found.1 ∙ ap (λ (z : ℕ). s.lt z s.x) found.2 ∙ before;
        };
        hits = (s.is.enders found.0 found.1).hit s.w s.t s.spells ∙ ap (λ (z : ℕ). touches_at s.t s.encoder s.accesses z s.lr) found.2 ∙ touched;
      }));
}

succeeds_from : (s : Scene) → SucceedsHere s → Succeeds s.w s.sc
succeeds_from s succeeds = record {
  same = s.is.same s.w s.t s.spells
      ∙ eq-eqb (address_value s.t s.encoder.pool (access_at s.accesses s.lr)) (address_value s.t s.encoder.pool (access_at s.accesses s.x)) succeeds.same;
  kept = All-from_get_or (λ (ender : Ender). Ends s.w ender → ⊥) s.sc.enders no_ender (λ (k : ℕ) (less : k < length s.sc.enders) (ends : Ends s.w (ender_at s.sc.enders k)).
      let one : IsEnder s.encoder s.accesses s.lr s.x (ender_at s.sc.enders k) (s.is.access k) = s.is.enders k less in
      false≢true (sym (succeeds.undisturbed (s.is.access k) one.there one.other (sym (s.order.after k less) ∙ ends.between.after) (sym (s.order.before k less) ∙ ends.between.before))
      ∙ sym (one.hit s.w s.t s.spells) ∙ ends.hits));
}

guard_to : (s : Scene) → literal_value s.w s.sc.outcome ≡ true → guard_value s.t s.encoder.pool (access_at s.accesses s.x) ≡ 1
guard_to s e = eqb-true (guard_value s.t s.encoder.pool (access_at s.accesses s.x)) 1 (sym (s.is.outcome s.w s.t s.spells) ∙ e)

guard_from : (s : Scene) → guard_value s.t s.encoder.pool (access_at s.accesses s.x) ≡ 1 → literal_value s.w s.sc.outcome ≡ true
guard_from s e = s.is.outcome s.w s.t s.spells ∙ eq-eqb (guard_value s.t s.encoder.pool (access_at s.accesses s.x)) 1 e

by_terms : (s : Scene) → HasOutcome s.w s.sc ↔ ((guard_value s.t s.encoder.pool (access_at s.accesses s.x) ≡ 1) ↔ SucceedsHere s)
by_terms s = (
  λ (has : HasOutcome s.w s.sc). (
    λ (one : guard_value s.t s.encoder.pool (access_at s.accesses s.x) ≡ 1). succeeds_to s (has.0 (guard_from s one)),
    λ (succeeds : SucceedsHere s). guard_to s (has.1 (succeeds_from s succeeds)),
  ),
  λ (has : (guard_value s.t s.encoder.pool (access_at s.accesses s.x) ≡ 1) ↔ SucceedsHere s). (
    λ (e : literal_value s.w s.sc.outcome ≡ true). succeeds_from s (has.0 (guard_to s e)),
    λ (succeeds : Succeeds s.w s.sc). guard_from s (has.1 (succeeds_to s succeeds)),
  ),
)

pub conditionals_succeed : ConditionalsSucceedByTerms
conditionals_succeed encoder accesses lr x sc w t lt is spells order all = by_terms (record {
  encoder = encoder;
  accesses = accesses;
  lr = lr;
  x = x;
  sc = sc;
  w = w;
  t = t;
  lt = lt;
  is = is;
  spells = spells;
  order = order;
  all = all;
})
