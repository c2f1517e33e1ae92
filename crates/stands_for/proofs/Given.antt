-- Along an order of accesses the unit rule gives each its variables.
use Rattle.std.specs.Prelude.{◌≡◌, ℕ, zero, suc, ◌<◌, Bool, true, false, List, All, Contains, length, slice_get, slice_index_or, Option, Some, None, is_some}
use Rattle.std.proofs.Common.{sym, ◌∙◌, ap, subst, refl, inl, inr, arith}
use Rattle.std.proofs.lemmas.Bool.{false≢true}
use Rattle.std.proofs.lemmas.Option.{none-some}
use Rattle.std.proofs.lemmas.List.Elements.{All-contains}
use Rattle.odr_log.specs.declared.log.Pos.{Pos}
use Rattle.rv32_decode.specs.declared.instr.Instr.{Instr}
use Rattle.rv32_decode.specs.declared.instr.Instr.TheVariants as instr
use Rattle.rv_model.specs.declared.state.Note.{Note}
use Rattle.rv_model.specs.declared.state.Note.TheVariants as note
use Rattle.rv_model.specs.RecordedOrder.{RecordedOrder}
use Rattle.odr_log.specs.declared.log.Log.{Log}
use Rattle.rv_model.specs.Walk.{Walk}
use Rattle.bv_terms.specs.declared.node.TermId.{TermId}
use Rattle.odr_log.specs.declared.log.Call.TheVariants as call
use Rattle.bv_terms.specs.Shapes.{Shape, Const, Var}
use Rattle.bv_terms.specs.Values.{KeepsTerms}
use Rattle.bv_terms.specs.Variables.{Occurs}
use Rattle.clause_store.specs.declared.lit.Lit.{Lit}
use Rattle.clause_store.specs.UnitRule.{Partial}
use Rattle.clause_store.proofs.Members.{All-from_contains}
use Rattle.order_clauses.proofs.Counts.{count-lt, count_below}
use Rattle.bit_clauses.specs.Bits.{AreOfVariable, HasBits, first_of, run}
use Rattle.bit_clauses.specs.Circuit.{DecidesAll}
use Rattle.encoder.specs.declared.encoder.Encoder.{Encoder}
use Rattle.encoder.proofs.Encoding.{get_or_any, terms_then}
use Rattle.guided_walk.specs.Told.{noted, told}
use Rattle.thread_terms.specs.declared.access.Access.{Access}
use Rattle.thread_terms.specs.Steps.{HasVariables, IsOf, guard_shape, outcome_shape}
use Rattle.thread_terms.specs.Variables.{byte_number, step_number}
use Rattle.walk_facts.specs.Steps.{instr_of_step}
use Rattle.access_terms.proofs.Own.{of_constant, of_variable}
use Rattle.step_terms.specs.Made.{IsTerm}
use Rattle.walk_orders.proofs.RecordedOrder.{recorded_law}
use Rattle.path_exec.specs.declared.paths.Paths.{Paths}
use Rattle.path_exec.specs.Paths.{IsListed, IsOfEarlier, IsOfEarlierOr, IsOfOne, is_conditional}
use Rattle.term_sources.specs.Sees.{access_at, no_access, no_id}
use Rattle.formula_parts.specs.Order.{Setting}
use Rattle.formula_parts.specs.Facts.{AreGiven, Fact, Gives, Is, IsGivenAccess, IsGivenBits, IsGivenFact, IsGivenTerm, IsReady, Reads, Succeeds}
use Rattle.formula_parts.specs.Parts.{AtRest}
use Rattle.formula_parts.proofs.Composing.{places_later}
use Rattle.stands_for.specs.Decides.{OrderDecidesAll, OrderGivesAccesses}
use Rattle.stands_for.specs.Whole.{IsFactOf, IsWhole}

pub record Scene : Type 0 where
  pub setting : Setting
  pub walk : Walk
  pub paths : Paths
  pub base : Encoder
  pub last : Encoder
  pub facts : List Fact
  pub whole : IsWhole setting walk paths base last facts
  pub v : Partial
  pub lt : ℕ → ℕ → Bool
  pub rest : AtRest setting last v lt

abbrev acc : Scene → ℕ → Access
acc s x = access_at s.setting.accesses x

abbrev count : Scene → ℕ
count s = length s.setting.accesses

pub listed_access : (setting : Setting) (walk : Walk) (paths : Paths) (base last : Encoder) (facts : List Fact) → IsWhole setting walk paths base last facts
    → (x : ℕ) → x < length setting.accesses → IsListed setting.log walk setting.nodes setting.accesses (access_at setting.accesses x)
listed_access setting walk paths base last facts whole x there =
    subst (λ (accesses : List Access). All (IsListed setting.log walk setting.nodes accesses) accesses) (sym whole.accesses_are) whole.paths_are.each x no_access there

listed : (s : Scene) (x : ℕ) → x < count s → IsListed s.setting.log s.walk s.setting.nodes s.setting.accesses (acc s x)
listed s x there = listed_access s.setting s.walk s.paths s.base s.last s.facts s.whole x there

keeps : (s : Scene) → KeepsTerms s.setting.nodes s.last.pool
keeps s = terms_then s.setting.nodes s.base.pool s.last.pool s.whole.stands.terms s.whole.adds.keeps.terms

-- ---- variables of accesses

-- the variable of this width and number has values, if it has literals
abbrev Decided : Scene → (width number : ℕ) → Type 0
Decided s width number = (first : ℕ) → first_of s.last.blaster.variables width number ≡ Some first → DecidesAll s.v (run first width)

-- all variables of an access are decided
abbrev Own : Scene → ℕ → Type 0
Own s x = (width number : ℕ) → IsOf (acc s x) width number → Decided s width number

-- a term whose variables are decided is given
term_given : (s : Scene) (P : ℕ → ℕ → Type 0) (id : ℕ) → id < length s.setting.nodes → HasVariables P s.setting.nodes id
    → ((width number : ℕ) → P width number → Decided s width number) → IsGivenTerm s.last s.v id
term_given s P id inside has each width number first there found =
    each width number (has width number ((places_later s.setting s.base s.last s.whole.adds.keeps s.whole.stands).variables width number id inside there)) first found

-- an access is one of the list
number_of : (s : Scene) (access : Access) → Contains s.setting.accesses access → (y : ℕ) × (y < count s) × (acc s y ≡ access)
number_of s access (y, there, is) = (y, there, get_or_any s.setting.accesses y no_access access there ∙ is)

-- what flows to an access comes from one that stands before it
flows_before : (s : Scene) (x y : ℕ) → x < count s → y < count s → RecordedOrder s.setting.log (acc s y).pos (acc s x).pos → s.lt y x ≡ true
flows_before s x y there in_list recorded = s.rest.is_order.total.agrees y x in_list there recorded

-- all that stands before an access has its variables decided
abbrev Before : Scene → ℕ → Type 0
Before s x = (y : ℕ) → y < count s → s.lt y x ≡ true → Own s y

earlier_decided : (s : Scene) (x : ℕ) → x < count s → Before s x → (width number : ℕ) → IsOfEarlier s.setting.log s.setting.accesses (acc s x).pos width number → Decided s width number
earlier_decided s x there before width number of =
    let found = number_of s of.access of.listed in
    let recorded : RecordedOrder s.setting.log of.access.pos (acc s x).pos =
    (recorded_law s.setting.image s.setting.log s.walk s.whole.is_walk s.whole.fits).flow of.access.pos (acc s x).pos (of.flows (listed s x there).counted) in
    let older : s.lt found.0 x ≡ true = flows_before s x found.0 there found.1 (subst (λ (a : Access). RecordedOrder s.setting.log a.pos (acc s x).pos) (sym found.2) recorded) in
    before found.0 found.1 older width number (subst (λ (a : Access). IsOf a width number) (sym found.2) of.is)

address_given : (s : Scene) (x : ℕ) → x < count s → Before s x → IsGivenTerm s.last s.v (acc s x).address.number
address_given s x there before =
    let is = listed s x there in
    term_given s (IsOfEarlier s.setting.log s.setting.accesses (acc s x).pos) (acc s x).address.number is.address.inside is.address_from (earlier_decided s x there before)

write_given : (s : Scene) (x m : ℕ) → x < count s → m < length (acc s x).writes → Before s x → Own s x → IsGivenTerm s.last s.v (slice_index_or (acc s x).writes m no_id).number
write_given s x m there within before own =
    let is = listed s x there in
    term_given s (IsOfEarlierOr s.setting.log s.setting.accesses (acc s x)) (slice_index_or (acc s x).writes m no_id).number (is.writes m no_id within).inside (is.writes_from m no_id within)
    (λ (width number : ℕ) (of : IsOfEarlierOr s.setting.log s.setting.accesses (acc s x) width number). elim of [
      | inl earlier ↦ earlier_decided s x there before width number earlier
      | inr mine ↦ own width number mine
    ])

-- ---- terms that are variables

-- the literals of a variable's term are the variable's
variable_lits : (s : Scene) (id width number first : ℕ) → id < length s.setting.nodes → slice_get s.setting.nodes id ≡ Some (Var width number) → IsGivenBits s.last s.v id
    → first_of s.last.blaster.variables width number ≡ Some first → DecidesAll s.v (run first width)
variable_lits s id width number first inside node given found =
    let there : slice_get s.last.pool id ≡ Some (Var width number) = (keeps s).node id inside ∙ node in
    let has : HasBits s.last.blaster s.last.pool s.last.clauses id = s.whole.adds.keeps.known.terms id given.built in
    let of : AreOfVariable s.last.blaster width number id = has.variable width number there in
    let same : of.first ≡ first = same_some of.first first (sym of.found ∙ found) in
    subst (λ (n : ℕ). DecidesAll s.v (run n width)) same (subst (λ (lits : List Lit). DecidesAll s.v lits) of.literals given.decided)
  where
    same_some : (a b : ℕ) → Some a ≡ Some b → a ≡ b
    same_some a b e = cc

-- ---- one access

read_variable : (s : Scene) (x i : ℕ) → x < count s → i < length (acc s x).reads
    → slice_get s.setting.nodes (slice_index_or (acc s x).reads i no_id).number ≡ Some (Var 8 (byte_number (acc s x).pos.thread (acc s x).pos.step i))
read_variable s x i there within = ((listed s x there).reads i within).node

-- what is read has the variable of its byte alone
read_given : (s : Scene) (x i : ℕ) → x < count s → i < length (acc s x).reads → Own s x → IsGivenTerm s.last s.v (slice_index_or (acc s x).reads i no_id).number
read_given s x i there within own =
    let id = (slice_index_or (acc s x).reads i no_id).number in
    let is = (listed s x there).reads i within in
    let of_byte = byte_number (acc s x).pos.thread (acc s x).pos.step i in
    term_given s (λ (w n : ℕ). (w ≡ 8) × (n ≡ of_byte)) id is.term.inside
    (λ (w n : ℕ) (occurs : Occurs s.setting.nodes w n id). of_variable s.setting.nodes id 8 of_byte is.node w n occurs)
    (λ (w n : ℕ) (same : (w ≡ 8) × (n ≡ of_byte)). own w n (inl (same.0, (i, within, same.1))))

-- A guard is a constant, or the variable of the outcome of a store-conditional that looks back.
pub data GuardIs (p : Pos) (shape : Shape) : Option ℕ → Type 0 where
  Fixed : (link : Option ℕ) (value : ℕ) → shape ≡ Const 1 value → GuardIs p shape link
  Outcome : (lr : ℕ) → shape ≡ Var 1 (step_number p.thread p.step) → GuardIs p shape (Some lr)

guard_is : (instruction : Instr) (shown : Note) (p : Pos) (link : Option ℕ) → GuardIs p (guard_shape instruction shown p link) link
guard_is (instr.StoreConditional rd rs1 rs2 aq rl) shown p None = Fixed None 0 refl
guard_is (instr.StoreConditional rd rs1 rs2 aq rl) shown p (Some lr) = Outcome lr refl
guard_is (instr.Store op rs1 rs2 offset) shown p link = Fixed link 1 refl
guard_is (instr.Amo op rd rs1 rs2 aq rl) shown p link = Fixed link 1 refl
guard_is (instr.Lui rd imm) shown p link = Fixed link 0 refl
guard_is (instr.Auipc rd imm) shown p link = Fixed link 0 refl
guard_is (instr.Jal rd offset) shown p link = Fixed link 0 refl
guard_is (instr.Jalr rd rs1 offset) shown p link = Fixed link 0 refl
guard_is (instr.Branch op rs1 rs2 offset) shown p link = Fixed link 0 refl
guard_is (instr.Load op rd rs1 offset) shown p link = Fixed link 0 refl
guard_is (instr.Imm op rd rs1 imm) shown p link = Fixed link 0 refl
guard_is (instr.Op op rd rs1 rs2) shown p link = Fixed link 0 refl
guard_is (instr.Fence rd rs1 imm) shown p link = Fixed link 0 refl
guard_is instr.Ebreak shown p link = Fixed link 0 refl
guard_is (instr.LoadReserved rd rs1 aq rl) shown p link = Fixed link 0 refl
guard_is instr.Ecall note.Nothing p link = Fixed link 0 refl
guard_is instr.Ecall (note.Branch taken) p link = Fixed link 0 refl
guard_is instr.Ecall (note.Jump target) p link = Fixed link 0 refl
guard_is instr.Ecall (note.Faulted cause) p link = Fixed link 0 refl
guard_is instr.Ecall (note.Called (call.Exit code)) p link = Fixed link 0 refl
guard_is instr.Ecall (note.Called call.EndThread) p link = Fixed link 0 refl
guard_is instr.Ecall (note.Called (call.Spawn entry child)) p link = Fixed link 0 refl
guard_is instr.Ecall (note.Called (call.Join target ok)) p link = Fixed link 0 refl
guard_is instr.Ecall (note.Called (call.Lock mutex ok)) p link = Fixed link 0 refl
guard_is instr.Ecall (note.Called (call.Unlock mutex ok)) p link = Fixed link 0 refl
guard_is instr.Ecall (note.Called (call.TryLock mutex got)) p link = Fixed link 0 refl
guard_is instr.Ecall (note.Called (call.Write bytes)) p link = Fixed link 0 refl
guard_is instr.Ecall (note.Called call.WriteBad) p link = Fixed link 0 refl
guard_is instr.Ecall (note.Called (call.Read want bytes)) p link = Fixed link 1 refl
guard_is instr.Ecall (note.Called call.ReadBad) p link = Fixed link 0 refl
guard_is instr.Ecall (note.Called call.SelfId) p link = Fixed link 0 refl
guard_is instr.Ecall (note.Called call.Yield) p link = Fixed link 0 refl
guard_is instr.Ecall (note.Called (call.Unknown number)) p link = Fixed link 0 refl

abbrev guard_id : Scene → ℕ → ℕ
guard_id s x = (acc s x).guard.number

abbrev own_number : Scene → ℕ → ℕ
own_number s x = step_number (acc s x).pos.thread (acc s x).pos.step

-- which variable a guard has
guard_has : (s : Scene) (x : ℕ) → x < count s → (link : Option ℕ) (shape : Shape) → (acc s x).link ≡ link → slice_get s.setting.nodes (guard_id s x) ≡ Some shape
    → GuardIs (acc s x).pos shape link → (w n : ℕ) → Occurs s.setting.nodes w n (guard_id s x) → IsOf (acc s x) w n
guard_has s x there link shape is node (Fixed same value e) w n occurs =
    absurd (of_constant s.setting.nodes (guard_id s x) 1 value (node ∙ ap (λ (k : Shape). Some k) e) w n occurs)
guard_has s x there link shape is node (Outcome lr e) w n occurs =
    let same = of_variable s.setting.nodes (guard_id s x) 1 (own_number s x) (node ∙ ap (λ (k : Shape). Some k) e) w n occurs in
    inr (ap (λ (o : Option ℕ). is_some o) is, same)

guard_given : (s : Scene) (x : ℕ) → x < count s → Own s x → IsGivenTerm s.last s.v (guard_id s x)
guard_given s x there own =
    let is = listed s x there in
    term_given s (IsOf (acc s x)) (guard_id s x) is.guard_bit.inside
    (guard_has s x there (acc s x).link (guard_shape (instr_of_step s.walk (acc s x).pos) (noted (told s.setting.log s.walk) (acc s x).pos) (acc s x).pos (acc s x).link) refl is.guard
    (guard_is (instr_of_step s.walk (acc s x).pos) (noted (told s.setting.log s.walk) (acc s x).pos) (acc s x).pos (acc s x).link)) own

access_given : (s : Scene) (y : ℕ) → y < count s → Before s y → Own s y → IsGivenAccess s.last s.v (acc s y)
access_given s y there before own = record {
  address = address_given s y there before;
  guard = guard_given s y there own;
  reads = λ (i : ℕ) (within : i < length (acc s y).reads). read_given s y i there within own;
  writes = λ (m : ℕ) (within : m < length (acc s y).writes). write_given s y m there within before own;
}

ready : (s : Scene) (x : ℕ) → x < count s → Before s x → IsReady s.setting s.last s.v s.lt x
ready s x there before = record {
  older = λ (y : ℕ) (in_list : y < count s) (less : s.lt y x ≡ true).
      access_given s y in_list (λ (z : ℕ) (there_z : z < count s) (up : s.lt z y ≡ true). before z there_z (s.rest.is_order.strict.transitive z y x up less)) (before y in_list less);
  address = address_given s x there before;
}

-- ---- what the parts give

fact_gives : (s : Scene) (fact : Fact) → Contains s.facts fact → Gives s.setting s.last s.v s.lt fact
fact_gives s fact there = All-contains (Gives s.setting s.last s.v s.lt) s.facts fact (s.whole.adds.gives s.v s.lt s.rest) there

read_decided : (s : Scene) (x i w n : ℕ) → x < count s → i < length (acc s x).reads → Before s x → w ≡ 8 → n ≡ byte_number (acc s x).pos.thread (acc s x).pos.step i → Decided s w n
read_decided s x i w n there within before wide same first found =
    let of_byte = byte_number (acc s x).pos.thread (acc s x).pos.step i in
    let given : IsGivenBits s.last s.v (slice_index_or (acc s x).reads i no_id).number = fact_gives s (Reads x i) (s.whole.all.reads x i there within) (ready s x there before) in
    let there_too : first_of s.last.blaster.variables 8 of_byte ≡ Some first =
    sym (ap (λ (k : ℕ). first_of s.last.blaster.variables k of_byte) wide) ∙ sym (ap (λ (k : ℕ). first_of s.last.blaster.variables w k) same) ∙ found in
    subst (λ (k : ℕ). DecidesAll s.v (run first k)) (sym wide)
    (variable_lits s (slice_index_or (acc s x).reads i no_id).number 8 of_byte first ((listed s x there).reads i within).term.inside (read_variable s x i there within) given there_too)

conditional_shape : (instruction : Instr) (shown : Note) (p : Pos) (link : Option ℕ) → is_conditional instruction ≡ true → guard_shape instruction shown p link ≡ outcome_shape p link
conditional_shape (instr.StoreConditional rd rs1 rs2 aq rl) shown p link e = refl
conditional_shape (instr.Store op rs1 rs2 offset) shown p link e = absurd (false≢true e)
conditional_shape (instr.Amo op rd rs1 rs2 aq rl) shown p link e = absurd (false≢true e)
conditional_shape (instr.Lui rd imm) shown p link e = absurd (false≢true e)
conditional_shape (instr.Auipc rd imm) shown p link e = absurd (false≢true e)
conditional_shape (instr.Jal rd offset) shown p link e = absurd (false≢true e)
conditional_shape (instr.Jalr rd rs1 offset) shown p link e = absurd (false≢true e)
conditional_shape (instr.Branch op rs1 rs2 offset) shown p link e = absurd (false≢true e)
conditional_shape (instr.Load op rd rs1 offset) shown p link e = absurd (false≢true e)
conditional_shape (instr.Imm op rd rs1 imm) shown p link e = absurd (false≢true e)
conditional_shape (instr.Op op rd rs1 rs2) shown p link e = absurd (false≢true e)
conditional_shape (instr.Fence rd rs1 imm) shown p link e = absurd (false≢true e)
conditional_shape instr.Ecall shown p link e = absurd (false≢true e)
conditional_shape instr.Ebreak shown p link e = absurd (false≢true e)
conditional_shape (instr.LoadReserved rd rs1 aq rl) shown p link e = absurd (false≢true e)

-- the guard of an access that looks back is its outcome's variable
pub guard_node : (log : Log) (walk : Walk) (nodes : List Shape) (accesses : List Access) (access : Access) (lr : ℕ) → IsListed log walk nodes accesses access
    → access.link ≡ Some lr → slice_get nodes access.guard.number ≡ Some (Var 1 (step_number access.pos.thread access.pos.step))
guard_node log walk nodes accesses access lr is link =
    by_instruction (instr_of_step walk access.pos) (is_conditional (instr_of_step walk access.pos)) refl is.unlinked is.guard
  where
    by_instruction : (instruction : Instr) (b : Bool) → is_conditional instruction ≡ b → (is_conditional instruction ≡ false → access.link ≡ None)
        → slice_get nodes access.guard.number ≡ Some (guard_shape instruction (noted (told log walk) access.pos) access.pos access.link)
        → slice_get nodes access.guard.number ≡ Some (Var 1 (step_number access.pos.thread access.pos.step))
    by_instruction instruction false e unlinked node = absurd (none-some lr (sym (unlinked e) ∙ link))
    by_instruction instruction true e unlinked node =
        node ∙ ap (λ (shape : Shape). Some shape) (conditional_shape instruction (noted (told log walk) access.pos) access.pos access.link e)
        ∙ ap (λ (o : Option ℕ). Some (outcome_shape access.pos o)) link

outcome_node : (s : Scene) (x lr : ℕ) → x < count s → (acc s x).link ≡ Some lr → slice_get s.setting.nodes (guard_id s x) ≡ Some (Var 1 (own_number s x))
outcome_node s x lr there = guard_node s.setting.log s.walk s.setting.nodes s.setting.accesses (acc s x) lr (listed s x there)

outcome_decided : (s : Scene) (x w n : ℕ) → x < count s → Before s x → is_some (acc s x).link ≡ true → w ≡ 1 → n ≡ own_number s x → Decided s w n
outcome_decided s x w n there before linked wide same first found = by_link (acc s x).link refl linked where
  by_link : (link : Option ℕ) → (acc s x).link ≡ link → is_some link ≡ true → DecidesAll s.v (run first w)
  by_link None e none = absurd (false≢true none)
  by_link (Some lr) e some =
      let given : IsGivenBits s.last s.v (guard_id s x) = fact_gives s (Succeeds x) (s.whole.all.outcomes x lr there e) lr e (ready s x there before) in
      let there_too : first_of s.last.blaster.variables 1 (own_number s x) ≡ Some first =
      sym (ap (λ (k : ℕ). first_of s.last.blaster.variables k (own_number s x)) wide) ∙ sym (ap (λ (k : ℕ). first_of s.last.blaster.variables w k) same) ∙ found in
      subst (λ (k : ℕ). DecidesAll s.v (run first k)) (sym wide)
      (variable_lits s (guard_id s x) 1 (own_number s x) first (listed s x there).guard_bit.inside (outcome_node s x lr there e) given there_too)

own_decided : (s : Scene) (x : ℕ) → x < count s → Before s x → Own s x
own_decided s x there before w n (inl (wide, (i, within, same))) = read_decided s x i w n there within before wide same
own_decided s x there before w n (inr (linked, (wide, same))) = outcome_decided s x w n there before linked wide same

-- ---- along the order

-- how many accesses stand before one
abbrev rank : Scene → ℕ → ℕ
rank s x = count_below (count s) (λ (y : ℕ). s.lt y x)

rank_less : (s : Scene) (y x : ℕ) → y < count s → s.lt y x ≡ true → rank s y < rank s x
rank_less s y x there less =
    count-lt (count s) (λ (z : ℕ). s.lt z y) (λ (z : ℕ). s.lt z x) (λ (z : ℕ) (in_list : z < count s) (up : s.lt z y ≡ true). s.rest.is_order.strict.transitive z y x up less)
    y there (s.rest.is_order.strict.irreflexive y) less

by_rank : (s : Scene) (n x : ℕ) → x < count s → rank s x < n → Own s x
by_rank s zero x there below = absurd (omega (arith, below))
by_rank s (suc n) x there below =
    own_decided s x there (λ (y : ℕ) (in_list : y < count s) (less : s.lt y x ≡ true). by_rank s n y in_list (let lower = rank_less s y x in_list less in omega (arith, lower, below)))

all_own : (s : Scene) (x : ℕ) → x < count s → Own s x
all_own s x there = by_rank s (suc (rank s x)) x there (omega arith)

all_given : (s : Scene) → AreGiven s.setting s.last s.v
all_given s x there = access_given s x there (λ (y : ℕ) (in_list : y < count s) (less : s.lt y x ≡ true). all_own s y in_list) (all_own s x there)

-- ---- all variables

constraint_given : (s : Scene) (id : TermId) → Contains s.paths.constraints id → IsGivenTerm s.last s.v id.number
constraint_given s id there =
    let bit = All-contains (λ (k : TermId). IsTerm s.setting.nodes 1 k.number) s.paths.constraints id s.whole.paths_are.bits there in
    let from = All-contains (λ (k : TermId). HasVariables (IsOfOne s.paths.accesses) s.setting.nodes k.number) s.paths.constraints id s.whole.paths_are.constraints_from there in
    term_given s (IsOfOne s.paths.accesses) id.number bit.inside from
    (λ (w n : ℕ) (of : IsOfOne s.paths.accesses w n).
    let found = number_of s of.access (subst (λ (accesses : List Access). Contains accesses of.access) (sym s.whole.accesses_are) of.listed) in
    all_own s found.0 found.1 w n (subst (λ (a : Access). IsOf a w n) (sym found.2) of.is))

fact_given : (s : Scene) (fact : Fact) → IsFactOf s.setting s.paths.constraints fact → IsGivenFact s.last s.v fact
fact_given s (Reads x i) of = tt
fact_given s (Succeeds x) of = tt
fact_given s (Is term) of = subst (IsGivenTerm s.last s.v) of.2 (constraint_given s of.0 of.1)

facts_given : (s : Scene) → All (IsGivenFact s.last s.v) s.facts
facts_given s =
    All-from_contains (IsGivenFact s.last s.v) s.facts
    (λ (fact : Fact) (there : Contains s.facts fact). fact_given s fact (All-contains (IsFactOf s.setting s.paths.constraints) s.facts fact s.whole.all.only there))

abbrev scene_of : (setting : Setting) (walk : Walk) (paths : Paths) (base last : Encoder) (facts : List Fact) → IsWhole setting walk paths base last facts
    → (v : Partial) (lt : ℕ → ℕ → Bool) → AtRest setting last v lt → Scene
scene_of setting walk paths base last facts whole v lt rest = record {
  setting = setting;
  walk = walk;
  paths = paths;
  base = base;
  last = last;
  facts = facts;
  whole = whole;
  v = v;
  lt = lt;
  rest = rest;
}

pub gives_accesses : OrderGivesAccesses
gives_accesses setting walk paths base last facts whole v lt rest = all_given (scene_of setting walk paths base last facts whole v lt rest)

pub decides_all : OrderDecidesAll
decides_all setting walk paths base last facts whole v lt rest =
    let s = scene_of setting walk paths base last facts whole v lt rest in
    whole.adds.decides v lt rest (all_given s) (facts_given s)
