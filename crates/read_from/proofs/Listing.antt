-- The facts that were added are all facts of the accesses and the constraints.
use Rattle.std.specs.Prelude.{◌≡◌, ℕ, zero, suc, ◌+◌, ◌<◌, List, [], ◌∷◌, ◌++◌, All, Contains, length, Option, Some, None}
use Rattle.std.proofs.Common.{sym, subst, refl, inl, inr, arith}
use Rattle.std.proofs.lemmas.Bool.{cases_lt}
use Rattle.std.proofs.lemmas.List.Elements.{All-append, All-nil, All-push, Contains-append_left, Contains-append_right, Contains-push}
use Rattle.clause_store.proofs.Members.{Contains-head}
use Rattle.bv_terms.specs.declared.node.TermId.{TermId}
use Rattle.thread_terms.specs.declared.access.Access.{Access}
use Rattle.term_sources.specs.Sees.{access_at}
use Rattle.formula_parts.specs.Order.{Setting}
use Rattle.formula_parts.specs.Facts.{Is, Reads, Succeeds}
use Rattle.read_parts.specs.Reads.{reads_from}
use Rattle.stands_for.specs.Whole.{AreAllFacts, IsFactOf}
use Rattle.formula_facts.specs.All.{all_facts}
use Rattle.formula_facts.specs.Constraints.{facts_of}
use Rattle.formula_facts.specs.Known.{all_outcomes, all_reads, outcome_by, outcome_of_access, reads_of_access}

-- ---- each fact is there

byte_listed : (x count i : ℕ) → i < count → Contains (reads_from x 0 count) (Reads x i)
byte_listed x zero i less = absurd (omega (arith, less))
byte_listed x (suc count) i less = elim (cases_lt i count) [
  | inl before ↦ Contains-append_left (reads_from x 0 count) (Reads x (0 + count) ∷ []) (Reads x i) (byte_listed x count i before)
  | inr past ↦ (let last : 0 + count ≡ i = omega (arith, less, past) in
      subst (λ (n : ℕ). Contains (reads_from x 0 count ++ Reads x (0 + count) ∷ []) (Reads x n)) last (Contains-push (reads_from x 0 count) (Reads x (0 + count))))
]

read_listed : (accesses : List Access) (count x i : ℕ) → x < count → i < length (access_at accesses x).reads → Contains (all_reads accesses count) (Reads x i)
read_listed accesses zero x i less within = absurd (omega (arith, less))
read_listed accesses (suc count) x i less within = elim (cases_lt x count) [
  | inl before ↦ Contains-append_left (all_reads accesses count) (reads_of_access accesses count) (Reads x i) (read_listed accesses count x i before within)
  | inr past ↦ (let last : count ≡ x = omega (arith, less, past) in
      Contains-append_right (all_reads accesses count) (reads_of_access accesses count) (Reads x i)
      (subst (λ (n : ℕ). Contains (reads_of_access accesses n) (Reads x i)) (sym last) (byte_listed x (length (access_at accesses x).reads) i within)))
]

outcome_listed : (accesses : List Access) (count x lr : ℕ) → x < count → (access_at accesses x).link ≡ Some lr → Contains (all_outcomes accesses count) (Succeeds x)
outcome_listed accesses zero x lr less link = absurd (omega (arith, less))
outcome_listed accesses (suc count) x lr less link = elim (cases_lt x count) [
  | inl before ↦ Contains-append_left (all_outcomes accesses count) (outcome_of_access accesses count) (Succeeds x) (outcome_listed accesses count x lr before link)
  | inr past ↦ (let last : count ≡ x = omega (arith, less, past) in
      Contains-append_right (all_outcomes accesses count) (outcome_of_access accesses count) (Succeeds x)
      (subst (λ (n : ℕ). Contains (outcome_of_access accesses n) (Succeeds x)) (sym last)
      (subst (λ (o : Option ℕ). Contains (outcome_by o x) (Succeeds x)) (sym link) (Contains-head (Succeeds x) []))))
]

constraint_listed : (constraints : List TermId) (id : TermId) → Contains constraints id → Contains (facts_of constraints) (Is id.number)
constraint_listed [] id (k, less, e) = absurd (omega (arith, less))
constraint_listed (first ∷ more) id (zero, less, e) = subst (λ (t : TermId). Contains (Is first.number ∷ facts_of more) (Is t.number)) e (Contains-head (Is first.number) (facts_of more))
constraint_listed (first ∷ more) id (suc k, less, e) =
    Contains-append_right (Is first.number ∷ []) (facts_of more) (Is id.number) (constraint_listed more id (k, omega (arith, less), e))

-- ---- and nothing else

bytes_only : (setting : Setting) (constraints : List TermId) (x count : ℕ) → x < length setting.accesses
    → ((i : ℕ) → i < count → i < length (access_at setting.accesses x).reads) → All (IsFactOf setting constraints) (reads_from x 0 count)
bytes_only setting constraints x zero there within = All-nil (IsFactOf setting constraints)
bytes_only setting constraints x (suc count) there within =
    All-push (IsFactOf setting constraints) (reads_from x 0 count) (Reads x (0 + count))
    (bytes_only setting constraints x count there (λ (i : ℕ) (less : i < count). within i (omega (arith, less))))
    (there, subst (λ (n : ℕ). n < length (access_at setting.accesses x).reads) (let same : count ≡ 0 + count = omega arith in same) (within count (omega arith)))

reads_only : (setting : Setting) (constraints : List TermId) (count : ℕ) → ((x : ℕ) → x < count → x < length setting.accesses)
    → All (IsFactOf setting constraints) (all_reads setting.accesses count)
reads_only setting constraints zero within = All-nil (IsFactOf setting constraints)
reads_only setting constraints (suc count) within =
    All-append (IsFactOf setting constraints) (all_reads setting.accesses count) (reads_of_access setting.accesses count)
    (reads_only setting constraints count (λ (x : ℕ) (less : x < count). within x (omega (arith, less))))
    (bytes_only setting constraints count (length (access_at setting.accesses count).reads) (within count (omega arith)) (λ (i : ℕ) less. less))

outcome_only : (setting : Setting) (constraints : List TermId) (x : ℕ) (link : Option ℕ) → x < length setting.accesses → All (IsFactOf setting constraints) (outcome_by link x)
outcome_only setting constraints x None there = All-nil (IsFactOf setting constraints)
outcome_only setting constraints x (Some lr) there = All-push (IsFactOf setting constraints) [] (Succeeds x) (All-nil (IsFactOf setting constraints)) there

outcomes_only : (setting : Setting) (constraints : List TermId) (count : ℕ) → ((x : ℕ) → x < count → x < length setting.accesses)
    → All (IsFactOf setting constraints) (all_outcomes setting.accesses count)
outcomes_only setting constraints zero within = All-nil (IsFactOf setting constraints)
outcomes_only setting constraints (suc count) within =
    All-append (IsFactOf setting constraints) (all_outcomes setting.accesses count) (outcome_of_access setting.accesses count)
    (outcomes_only setting constraints count (λ (x : ℕ) (less : x < count). within x (omega (arith, less))))
    (outcome_only setting constraints count (access_at setting.accesses count).link (within count (omega arith)))

constraints_only : (setting : Setting) (constraints some : List TermId) → ((id : TermId) → Contains some id → Contains constraints id)
    → All (IsFactOf setting constraints) (facts_of some)
constraints_only setting constraints [] within = All-nil (IsFactOf setting constraints)
constraints_only setting constraints (first ∷ more) within =
    All-append (IsFactOf setting constraints) (Is first.number ∷ []) (facts_of more)
    (All-push (IsFactOf setting constraints) [] (Is first.number) (All-nil (IsFactOf setting constraints)) (first, within first (Contains-head first more), refl))
    (constraints_only setting constraints more (λ (id : TermId) (has : Contains more id). within id (Contains-append_right (first ∷ []) more id has)))

pub all_listed : (setting : Setting) (constraints : List TermId) → AreAllFacts setting constraints (all_facts setting.accesses constraints)
all_listed setting constraints =
    let count = length setting.accesses in
    let bytes = all_reads setting.accesses count in
    let outcomes = all_outcomes setting.accesses count in record {
      reads = λ (x i : ℕ) there within.
          Contains-append_left bytes (outcomes ++ facts_of constraints) (Reads x i) (read_listed setting.accesses count x i there within);
      outcomes = λ (x lr : ℕ) there link.
          Contains-append_right bytes (outcomes ++ facts_of constraints) (Succeeds x)
          (Contains-append_left outcomes (facts_of constraints) (Succeeds x) (outcome_listed setting.accesses count x lr there link));
      constraints_are = λ (id : TermId) has.
          Contains-append_right bytes (outcomes ++ facts_of constraints) (Is id.number)
          (Contains-append_right outcomes (facts_of constraints) (Is id.number) (constraint_listed constraints id has));
      only = All-append (IsFactOf setting constraints) bytes (outcomes ++ facts_of constraints) (reads_only setting constraints count (λ (x : ℕ) less. less))
          (All-append (IsFactOf setting constraints) outcomes (facts_of constraints) (outcomes_only setting constraints count (λ (x : ℕ) less. less))
          (constraints_only setting constraints constraints (λ (id : TermId) has. has)));
    }
