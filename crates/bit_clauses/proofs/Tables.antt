-- The byte of a table that a term picks.
use Rattle.std.proofs.Common.{◌≡◌, ℕ, ◌+◌, ◌-◌, ◌%◌, ◌^◌, ◌<◌, ◌≤◌, Bool, true, false, cond, List, [], length, get_or, take, nat_eq, nat_lt, refl, sym, ◌∙◌, ap, subst, arith, inl, inr}
use Rattle.std.specs.Prelude.{All, IsSome, replicate}
use Rattle.std.proofs.Math.Nat.{mod-eq_of_lt}
use Rattle.std.proofs.lemmas.Bool.{cases_lt}
use Rattle.std.proofs.lemmas.Bool.Decides.{nat_tests}
use Rattle.std.proofs.lemmas.List.{take_all, length-take-le, get_or-take, get_or_past, length-replicate}
use Rattle.std.proofs.lemmas.List.Elements.{All-replicate, All-weaker}
use Rattle.bv_terms.specs.BitVectors.{byte_value}
use Rattle.clause_store.specs.declared.lit.Lit.{Lit}
use Rattle.clause_store.specs.Literals.{Assignment, literal_value, opposite}
use Rattle.clause_store.specs.Formula.{Formula, IsKnown}
use Rattle.clause_store.specs.UnitRule.{Partial}
use Rattle.bit_clauses.specs.Circuit.{IsCircuit, Decides, DecidesAll}
use Rattle.bit_clauses.specs.Operation.{Spells, SpellsOf}
use Rattle.bit_clauses.specs.Spelled.{spelled}
use Rattle.bit_clauses.proofs.Adders.{known_later}
use Rattle.bit_clauses.proofs.Circuits.{chained, no_circuit, said}
use Rattle.bit_clauses.proofs.Numbers.{spelled_small}
use Rattle.bit_clauses.proofs.Operations.{nil_false, nil_decided, nil_known}
use Rattle.bit_clauses.proofs.Products.{spelled-replicate}

shut_byte : (first index : ℕ) (bytes : List ℕ) → index < first → byte_value first bytes index ≡ 0
shut_byte first index bytes h =
    let e : nat_lt index first ≡ true = grind (arith, nat_tests, h) in
    ap (λ b. cond b 0 (get_or bytes (index - first) 0 % 2 ^ 8)) e

open_byte : (first index : ℕ) (bytes : List ℕ) → first ≤ index → byte_value first bytes index ≡ get_or bytes (index - first) 0 % 2 ^ 8
open_byte first index bytes h =
    let e : nat_lt index first ≡ false = grind (arith, nat_tests, h) in
    ap (λ b. cond b 0 (get_or bytes (index - first) 0 % 2 ^ 8)) e

elsewhere : (index place byte other : ℕ) → (index ≡ place → ⊥) → cond (nat_eq index place) byte other ≡ other
elsewhere index place byte other h =
    let e : nat_eq index place ≡ false = grind (arith, nat_tests, h) in
    ap (λ b. cond b byte other) e

past_all : (n j : ℕ) (bytes : List ℕ) → n ≤ length bytes → n ≤ j → get_or (take n bytes) j 0 ≡ 0
past_all n j bytes h k = get_or_past (take n bytes) j 0 (omega (arith, k, length-take-le n bytes h))

-- one entry more of a table
byte_step : (first i index byte : ℕ) (bytes : List ℕ) → i < length bytes → byte ≡ get_or bytes i 0 → byte < 2 ^ 8
    → cond (nat_eq index (first + i)) byte (byte_value first (take i bytes) index) ≡ byte_value first (take (i + 1) bytes) index
byte_step first i index byte bytes h e small = elim (cases_lt index first) [
  | inl low ↦
      elsewhere index (first + i) byte (byte_value first (take i bytes) index) (λ p. omega (arith, p, low))
      ∙ shut_byte first index (take i bytes) low ∙ sym (shut_byte first index (take (i + 1) bytes) low)
  | inr high ↦ elim (cases_lt index (first + i)) [
    | inl below ↦
        elsewhere index (first + i) byte (byte_value first (take i bytes) index) (λ p. omega (arith, p, below))
        ∙ open_byte first index (take i bytes) high
        ∙ ap (λ n. n % 2 ^ 8) (get_or-take i bytes (index - first) 0 (omega (arith, below, high)) ∙ sym (get_or-take (i + 1) bytes (index - first) 0 (omega (arith, below, high))))
        ∙ sym (open_byte first index (take (i + 1) bytes) high)
    | inr above ↦ elim (cases_lt (first + i) index) [
      | inl past ↦
          elsewhere index (first + i) byte (byte_value first (take i bytes) index) (λ p. omega (arith, p, past))
          ∙ open_byte first index (take i bytes) high
          ∙ ap (λ n. n % 2 ^ 8) (past_all i (index - first) bytes (omega (arith, h)) (omega (arith, past)) ∙ sym (past_all (i + 1) (index - first) bytes (omega (arith, h)) (omega (arith, past))))
          ∙ sym (open_byte first index (take (i + 1) bytes) high)
      | inr within ↦
          let at : index ≡ first + i = omega (arith, above, within) in
          let here : index - first ≡ i = omega (arith, at) in
          let t : nat_eq index (first + i) ≡ true = grind (arith, nat_tests, at) in
          ap (λ b. cond b byte (byte_value first (take i bytes) index)) t
          ∙ sym (mod-eq_of_lt small)
          ∙ ap (λ n. n % 2 ^ 8) (e ∙ sym (get_or-take (i + 1) bytes i 0 (omega arith)) ∙ ap (λ k. get_or (take (i + 1) bytes) k 0) (sym here))
          ∙ sym (open_byte first index (take (i + 1) bytes) high)
    ]
  ]
]

byte_none : (first index : ℕ) → byte_value first [] index ≡ 0
byte_none first index = by_test (nat_lt index first)
  where
    by_test : (b : Bool) → cond b 0 (0 % 2 ^ 8) ≡ 0
    by_test true = refl
    by_test false = refl

-- ---- one entry

pub same_decided : (v : Partial) (lits : List Lit) (sure : Lit) → All (λ (l : Lit). l.var ≡ sure.var) lits → Decides v sure → DecidesAll v lits
same_decided v lits sure all d = All-weaker (λ (l : Lit). l.var ≡ sure.var) (Decides v) (λ l e. subst (λ n. IsSome (v n)) (sym e) d) lits all

pub same_known : (n : ℕ) (lits : List Lit) (sure : Lit) → All (λ (l : Lit). l.var ≡ sure.var) lits → sure.var < n → IsKnown n lits
same_known n lits sure all h = All-weaker (λ (l : Lit). l.var ≡ sure.var) (λ (l : Lit). l.var < n) (λ l e. omega (arith, e, h)) lits all

-- an entry that no index of this width can reach
pub entry_none : (f : Formula) (index other : List Lit) (sure : Lit) (place byte : ℕ) → length other ≡ 8 → IsKnown f.vars other → (place < 2 ^ length index → ⊥)
    → Spells f f (λ v. DecidesAll v index × DecidesAll v other) sure 8 (λ w. cond (nat_eq (spelled w index) place) byte (spelled w other)) other
entry_none f index other sure place byte count known far = record {
  count = count;
  known = known;
  circuit = no_circuit f (λ v. (DecidesAll v index × DecidesAll v other) × Decides v sure) (λ v. DecidesAll v other)
      (λ w. literal_value w sure ≡ true → spelled w other ≡ cond (nat_eq (spelled w index) place) byte (spelled w other))
      (λ v g. g.0.1)
      (λ w t. sym (elsewhere (spelled w index) place byte (spelled w other) (λ e. far (subst (λ n. n < 2 ^ length index) e (spelled_small w index)))));
}

pub entry_one : (f0 f1 f2 : Formula) (index other wanted bits out : List Lit) (sure here : Lit) (place byte : ℕ)
    → All (λ (l : Lit). l.var ≡ sure.var) wanted → ((w : Assignment) → literal_value w sure ≡ true → spelled w wanted ≡ place)
    → All (λ (l : Lit). l.var ≡ sure.var) bits → ((w : Assignment) → literal_value w sure ≡ true → spelled w bits ≡ byte)
    → IsCircuit f0 f1 (λ v. DecidesAll v index × DecidesAll v wanted × Decides v sure) (λ v. Decides v here)
    (λ w. literal_value w sure ≡ true → literal_value w here ≡ nat_eq (spelled w index) (spelled w wanted))
    → IsCircuit f1 f2 (λ v. Decides v here × DecidesAll v bits × DecidesAll v other) (λ v. DecidesAll v out)
    (λ w. spelled w out ≡ cond (literal_value w here) (spelled w bits) (spelled w other))
    → length out ≡ 8 → IsKnown f2.vars out
    → Spells f0 f2 (λ v. DecidesAll v index × DecidesAll v other) sure 8 (λ w. cond (nat_eq (spelled w index) place) byte (spelled w other)) out
entry_one f0 f1 f2 index other wanted bits out sure here place byte wanted_same wanted_is bits_same bits_are one two count known = record {
  count = count;
  known = known;
  circuit = chained f0 f1 f2 (λ v. (DecidesAll v index × DecidesAll v other) × Decides v sure) (λ v. Decides v here)
      (λ v. Decides v here × DecidesAll v bits × DecidesAll v other) (λ v. DecidesAll v out) (λ v. DecidesAll v out)
      (λ w. literal_value w sure ≡ true → literal_value w here ≡ nat_eq (spelled w index) (spelled w wanted))
      (λ w. spelled w out ≡ cond (literal_value w here) (spelled w bits) (spelled w other))
      (λ w. literal_value w sure ≡ true → spelled w out ≡ cond (nat_eq (spelled w index) place) byte (spelled w other))
      (said f0 f1 (λ v. (DecidesAll v index × DecidesAll v other) × Decides v sure) (λ v. DecidesAll v index × DecidesAll v wanted × Decides v sure) (λ v. Decides v here) (λ v. Decides v here)
      (λ w. literal_value w sure ≡ true → literal_value w here ≡ nat_eq (spelled w index) (spelled w wanted))
      (λ w. literal_value w sure ≡ true → literal_value w here ≡ nat_eq (spelled w index) (spelled w wanted))
      one (λ v g. (g.0.0, same_decided v wanted sure wanted_same g.1, g.1)) (λ v g h. h) (λ w m. m))
      two (λ v g h. (h, same_decided v bits sure bits_same g.1, g.0.1)) (λ v g h k. k)
      (λ w p q t.
      q ∙ ap (λ b. cond b (spelled w bits) (spelled w other)) (p t ∙ ap (λ n. nat_eq (spelled w index) n) (wanted_is w t))
      ∙ ap (λ n. cond (nat_eq (spelled w index) place) n (spelled w other)) (bits_are w t));
}

-- ---- all entries

-- the first i entries of the table have been gone through
pub record IsPicked (old new : Formula) (first : ℕ) (bytes : List ℕ) (index chosen : List Lit) (sure : Lit) (i : ℕ) : Type 0 where
  pub picked : SpellsOf old new index sure 8 (λ a. byte_value first (take i bytes) a.value) chosen
  pub index_known : IsKnown new.vars index
  pub sure_known : sure.var < new.vars

pub picked-none : (f : Formula) (first : ℕ) (bytes : List ℕ) (index chosen : List Lit) (sure nil : Lit) → nil ≡ opposite sure → chosen ≡ replicate 8 nil
    → IsKnown f.vars index → sure.var < f.vars → IsPicked f f first bytes index chosen sure 0
picked-none f first bytes index chosen sure nil e s h k = subst (λ (l : List Lit). IsPicked f f first bytes index l sure 0) (sym s) (record {
  picked = record {
    count = length-replicate 8 nil;
    known = All-replicate (λ (l : Lit). l.var < f.vars) 8 nil (nil_known f.vars sure nil e k);
    circuit = no_circuit f (λ v. DecidesAll v index × Decides v sure) (λ v. DecidesAll v (replicate 8 nil))
        (λ w. literal_value w sure ≡ true → spelled w (replicate 8 nil) ≡ byte_value first [] (spelled w index))
        (λ v g. All-replicate (Decides v) 8 nil (nil_decided v sure nil e g.1))
        (λ w t. spelled-replicate w 8 nil (nil_false w sure nil e t) ∙ sym (byte_none first (spelled w index)));
  };
  index_known = h;
  sure_known = k;
})

pub picked-more : (old mid new : Formula) (first : ℕ) (bytes : List ℕ) (index chosen after : List Lit) (sure : Lit) (i place byte : ℕ)
    → i < length bytes → place ≡ first + i → byte ≡ get_or bytes i 0 → byte < 2 ^ 8
    → IsPicked old mid first bytes index chosen sure i
    → Spells mid new (λ v. DecidesAll v index × DecidesAll v chosen) sure 8 (λ w. cond (nat_eq (spelled w index) place) byte (spelled w chosen)) after
    → IsPicked old new first bytes index after sure (i + 1)
picked-more old mid new first bytes index chosen after sure i place byte h at e small before step = record {
  picked = record {
    count = step.count;
    known = step.known;
    circuit = chained old mid new (λ v. DecidesAll v index × Decides v sure) (λ v. DecidesAll v chosen)
        (λ v. (DecidesAll v index × DecidesAll v chosen) × Decides v sure) (λ v. DecidesAll v after) (λ v. DecidesAll v after)
        (λ w. literal_value w sure ≡ true → spelled w chosen ≡ byte_value first (take i bytes) (spelled w index))
        (λ w. literal_value w sure ≡ true → spelled w after ≡ cond (nat_eq (spelled w index) place) byte (spelled w chosen))
        (λ w. literal_value w sure ≡ true → spelled w after ≡ byte_value first (take (i + 1) bytes) (spelled w index))
        before.picked.circuit step.circuit (λ v g k. ((g.0, k), g.1)) (λ v g k l. l)
        (λ w p q t.
        q t ∙ ap (λ n. cond (nat_eq (spelled w index) n) byte (spelled w chosen)) at
        ∙ ap (λ n. cond (nat_eq (spelled w index) (first + i)) byte n) (p t)
        ∙ byte_step first i (spelled w index) byte bytes h e small);
  };
  index_known = known_later mid.vars new.vars index step.circuit.grows.vars before.index_known;
  sure_known = omega (arith, before.sure_known, step.circuit.grows.vars);
}

pub picked-all : (old new : Formula) (first : ℕ) (bytes : List ℕ) (index chosen : List Lit) (sure : Lit) (i : ℕ) → length bytes ≤ i
    → IsPicked old new first bytes index chosen sure i → SpellsOf old new index sure 8 (λ a. byte_value first bytes a.value) chosen
picked-all old new first bytes index chosen sure i h done =
    subst (λ (l : List ℕ). SpellsOf old new index sure 8 (λ a. byte_value first l a.value) chosen) (take_all i bytes h) done.picked
