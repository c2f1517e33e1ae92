-- A built store-conditional has its outcome exactly where it has it by the values of terms.
use Rattle.std.specs.Prelude.{◌≡◌, ◌≢◌, ◌↔◌, ℕ, ◌<◌, Bool, true, nat_eq, List, length}
use Rattle.std.proofs.Common.{sym, ◌∙◌, ap, arith}
use Rattle.bv_terms.specs.Shapes.{Shape}
use Rattle.bv_terms.specs.Values.{KeepsTerms}
use Rattle.bv_terms.specs.Values.{Assignment as TermAssignment}
use Rattle.clause_store.specs.Formula.{Formula}
use Rattle.clause_store.specs.Literals.{Assignment, literal_value}
use Rattle.order_clauses.specs.Literals.{spelled}
use Rattle.outcome_clauses.specs.declared.store_conditional.StoreConditional.{StoreConditional}
use Rattle.outcome_clauses.specs.Contract.{AddsOutcome}
use Rattle.outcome_clauses.specs.Succeeds.{HasOutcome}
use Rattle.bit_clauses.specs.Bits.{HasBits}
use Rattle.bit_clauses.specs.Nodes.{lits_at}
use Rattle.encoder.specs.declared.encoder.Encoder.{Encoder}
use Rattle.encoder.specs.Encodes.{Encodes, Spells}
use Rattle.encoder.proofs.Encoding.{terms_then}
use Rattle.thread_terms.specs.declared.access.Access.{Access}
use Rattle.hit_terms.specs.Hits.{is_touch}
use Rattle.term_sources.specs.Sees.{SucceedsAt, access_at, address_value, guard_value}
use Rattle.read_clauses.specs.Conditionals.{HasEnders, IsConditionalOf, IsEnder, SpellsEnders, ender_at}
use Rattle.read_clauses.proofs.Succeeding.{conditionals_succeed}
use Rattle.formula_parts.specs.Order.{Setting}
use Rattle.formula_parts.specs.Parts.{SpellsAll}
use Rattle.reader_parts.specs.Conditions.{HasTerms}
use Rattle.reader_parts.proofs.Candidates.{terms_of}
use Rattle.reader_parts.proofs.Testing.{literal_test}
use Rattle.outcome_parts.specs.declared.rival.Rival.{Rival}
use Rattle.outcome_parts.specs.Outcomes.{CanSucceed, IsRival}
use Rattle.outcome_parts.specs.Rivals.{IsBuiltConditional, conditional_parts, rival_at, touches}

pub record Scene : Type 0 where
  pub setting : Setting
  pub old : Encoder
  pub mid : Encoder
  pub after : Formula
  pub lr : ℕ
  pub x : ℕ
  pub rivals : List Rival
  pub sc : StoreConditional
  pub can : CanSucceed setting old lr x rivals
  pub encodes : Encodes old mid (conditional_parts setting.accesses lr x rivals)
  pub built : IsBuiltConditional old.pool mid setting.accesses lr x rivals sc
  pub adds : AddsOutcome mid.clauses after sc

abbrev pub acc : Scene → ℕ → Access
acc s y = access_at s.setting.accesses y

abbrev pub rival : Scene → ℕ → Rival
rival s k = rival_at s.rivals k

pub has_at : (s : Scene) (y : ℕ) → y < length s.setting.accesses → HasTerms s.setting.nodes (acc s y)
has_at s y there = terms_of s.setting.nodes s.setting.accesses y s.can.terms there

pub keeps_old : (s : Scene) → KeepsTerms s.setting.nodes s.old.pool
keeps_old s = s.can.stands.terms

pub keeps_mid : (s : Scene) → KeepsTerms s.setting.nodes s.mid.pool
keeps_mid s = terms_then s.setting.nodes s.old.pool s.mid.pool (keeps_old s) s.encodes.keeps.terms

-- ---- values of accesses among other nodes

address_same : (s : Scene) (nodes : List Shape) (t : TermAssignment) (y : ℕ) → KeepsTerms s.setting.nodes nodes → y < length s.setting.accesses
    → address_value t nodes (acc s y) ≡ address_value t s.setting.nodes (acc s y)
address_same s nodes t y keeps there = keeps.value t (acc s y).address.number (has_at s y there).address.inside

guard_same : (s : Scene) (nodes : List Shape) (t : TermAssignment) (y : ℕ) → KeepsTerms s.setting.nodes nodes → y < length s.setting.accesses
    → guard_value t nodes (acc s y) ≡ guard_value t s.setting.nodes (acc s y)
guard_same s nodes t y keeps there = keeps.value t (acc s y).guard.number (has_at s y there).guard.inside

touches_same : (s : Scene) (nodes : List Shape) (t : TermAssignment) (y : ℕ) → KeepsTerms s.setting.nodes nodes → y < length s.setting.accesses
    → touches t nodes (acc s y) (acc s s.lr) ≡ touches t s.setting.nodes (acc s y) (acc s s.lr)
touches_same s nodes t y keeps there =
    let many = length (acc s y).writes in
    ap (λ (g : ℕ). is_touch g many (address_value t nodes (acc s y)) (address_value t nodes (acc s s.lr))) (guard_same s nodes t y keeps there)
    ∙ ap (λ (a : ℕ). is_touch (guard_value t s.setting.nodes (acc s y)) many a (address_value t nodes (acc s s.lr))) (address_same s nodes t y keeps there)
    ∙ ap (λ (b : ℕ). is_touch (guard_value t s.setting.nodes (acc s y)) many (address_value t s.setting.nodes (acc s y)) b) (address_same s nodes t s.lr keeps s.can.reserved)

-- ---- the store-conditional by terms

pub rival_is : (s : Scene) (k : ℕ) → k < length s.rivals → IsRival s.setting s.old.clauses.vars s.lr s.x (rival s k)
rival_is s k less = s.can.each k less

pub inside : (s : Scene) (k : ℕ) → k < length s.sc.enders → k < length s.rivals
inside s k less = let many = s.built.enders.count in omega (arith, less, many)

pub guard_bits : (s : Scene) → HasBits s.mid.blaster s.mid.pool s.mid.clauses (acc s s.x).guard.number
guard_bits s = s.encodes.keeps.known.terms (acc s s.x).guard.number s.built.guard

pub guard_one : (s : Scene) → length (lits_at s.mid.blaster.terms (acc s s.x).guard.number) ≡ 1
guard_one s =
    let has = has_at s s.x s.can.there in
    (guard_bits s).count ∙ (keeps_mid s).width (acc s s.x).guard.number has.guard.inside ∙ has.guard.width

outcome_is : (s : Scene) (w : Assignment) (t : TermAssignment) → Spells s.mid t w → literal_value w s.sc.outcome ≡ nat_eq (guard_value t s.mid.pool (acc s s.x)) 1
outcome_is s w t spells =
    ap (literal_value w) s.built.outcome
    ∙ literal_test w (lits_at s.mid.blaster.terms (acc s s.x).guard.number) (guard_value t s.mid.pool (acc s s.x)) (guard_one s) ((guard_bits s).value w t spells.satisfies spells.agrees)

same_is : (s : Scene) (w : Assignment) (t : TermAssignment) → Spells s.mid t w
    → spelled w s.sc.same ≡ nat_eq (address_value t s.mid.pool (acc s s.lr)) (address_value t s.mid.pool (acc s s.x))
same_is s w t spells =
    s.built.same.tells w t spells
    ∙ ap (λ (n : ℕ). nat_eq n (address_value t s.old.pool (acc s s.x)))
    (address_same s s.old.pool t s.lr (keeps_old s) s.can.reserved ∙ sym (address_same s s.mid.pool t s.lr (keeps_mid s) s.can.reserved))
    ∙ ap (λ (n : ℕ). nat_eq (address_value t s.mid.pool (acc s s.lr)) n)
    (address_same s s.old.pool t s.x (keeps_old s) s.can.there ∙ sym (address_same s s.mid.pool t s.x (keeps_mid s) s.can.there))

ender_is : (s : Scene) (k : ℕ) → k < length s.sc.enders → IsEnder s.mid s.setting.accesses s.lr s.x (ender_at s.sc.enders k) (rival s k).access
ender_is s k less = let is = rival_is s k (inside s k less) in record {
  there = is.there;
  other = is.other;
  hit = λ (w : Assignment) (t : TermAssignment) (spells : Spells s.mid t w).
      (s.built.enders.each k (inside s k less)).hit.tells w t spells
      ∙ touches_same s s.old.pool t (rival s k).access (keeps_old s) is.there ∙ sym (touches_same s s.mid.pool t (rival s k).access (keeps_mid s) is.there);
}

abbrev is_conditional : (s : Scene) → IsConditionalOf s.mid s.setting.accesses s.lr s.x s.sc
is_conditional s = record {
  outcome = outcome_is s;
  same = same_is s;
  access = λ (k : ℕ). (rival s k).access;
  enders = ender_is s;
}

-- ---- assignments

pub record Told (s : Scene) : Type 0 where
  pub w : Assignment
  pub t : TermAssignment
  pub lt : ℕ → ℕ → Bool
  pub spells : SpellsAll s.setting s.mid t w lt

enders_spelled : (s : Scene) (told : Told s) → SpellsEnders told.w s.sc (λ k. (rival s k).access) s.lr s.x told.lt
enders_spelled s told = record {
  after = λ (k : ℕ) (less : k < length s.sc.enders).
      ap (spelled told.w) (s.built.enders.each k (inside s k less)).after ∙ (rival_is s k (inside s k less)).after.tells told.w told.lt told.spells.is_order told.spells.order;
  before = λ (k : ℕ) (less : k < length s.sc.enders).
      ap (spelled told.w) (s.built.enders.each k (inside s k less)).before ∙ (rival_is s k (inside s k less)).before.tells told.w told.lt told.spells.is_order told.spells.order;
}

enders_all : (s : Scene) (told : Told s) → HasEnders told.t s.mid s.setting.accesses (λ k. (rival s k).access) (length s.sc.enders) s.lr s.x told.lt
enders_all s told y there other after before touched =
    let moved : touches told.t s.setting.nodes (acc s y) (acc s s.lr) ≡ true = sym (touches_same s s.mid.pool told.t y (keeps_mid s) there) ∙ touched in
    let found = s.can.enough told.t told.lt told.spells.is_order y there other after before moved in
    let less = found.1 in let many = s.built.enders.count in (found.0, omega (arith, less, many), found.2)

-- the outcome over the nodes of accesses
abbrev pub Succeeding : (s : Scene) → Told s → Type 0
Succeeding s told = (guard_value told.t s.setting.nodes (acc s s.x) ≡ 1) ↔ SucceedsAt told.t s.setting.nodes s.setting.accesses told.lt s.lr s.x

succeeds_on : (s : Scene) (told : Told s) → SucceedsAt told.t s.mid.pool s.setting.accesses told.lt s.lr s.x → SucceedsAt told.t s.setting.nodes s.setting.accesses told.lt s.lr s.x
succeeds_on s told at = record {
  same = sym (address_same s s.mid.pool told.t s.lr (keeps_mid s) s.can.reserved) ∙ at.same ∙ address_same s s.mid.pool told.t s.x (keeps_mid s) s.can.there;
  undisturbed = λ (y : ℕ) (there : y < length s.setting.accesses) (other : (acc s y).pos.thread ≢ (acc s s.x).pos.thread) (after : told.lt s.lr y ≡ true) (before : told.lt y s.x ≡ true).
      sym (touches_same s s.mid.pool told.t y (keeps_mid s) there) ∙ at.undisturbed y there other after before;
}

succeeds_back : (s : Scene) (told : Told s) → SucceedsAt told.t s.setting.nodes s.setting.accesses told.lt s.lr s.x → SucceedsAt told.t s.mid.pool s.setting.accesses told.lt s.lr s.x
succeeds_back s told at = record {
  same = address_same s s.mid.pool told.t s.lr (keeps_mid s) s.can.reserved ∙ at.same ∙ sym (address_same s s.mid.pool told.t s.x (keeps_mid s) s.can.there);
  undisturbed = λ (y : ℕ) (there : y < length s.setting.accesses) (other : (acc s y).pos.thread ≢ (acc s s.x).pos.thread) (after : told.lt s.lr y ≡ true) (before : told.lt y s.x ≡ true).
      touches_same s s.mid.pool told.t y (keeps_mid s) there ∙ at.undisturbed y there other after before;
}

pub outcome_by_terms : (s : Scene) (told : Told s) → HasOutcome told.w s.sc ↔ Succeeding s told
outcome_by_terms s told =
    let law = conditionals_succeed s.mid s.setting.accesses s.lr s.x s.sc told.w told.t told.lt (is_conditional s) told.spells.spells (enders_spelled s told) (enders_all s told) in
    let guard = guard_same s s.mid.pool told.t s.x (keeps_mid s) s.can.there in (
      λ (has : HasOutcome told.w s.sc). (
        λ (one : guard_value told.t s.setting.nodes (acc s s.x) ≡ 1). succeeds_on s told ((law.0 has).0 (guard ∙ one)),
        λ (at : SucceedsAt told.t s.setting.nodes s.setting.accesses told.lt s.lr s.x). sym guard ∙ (law.0 has).1 (succeeds_back s told at),
      ),
      λ (has : Succeeding s told). law.1 (
        λ (one : guard_value told.t s.mid.pool (acc s s.x) ≡ 1). succeeds_back s told (has.0 (sym guard ∙ one)),
        λ (at : SucceedsAt told.t s.mid.pool s.setting.accesses told.lt s.lr s.x). guard ∙ has.1 (succeeds_on s told at),
      ),
    )
