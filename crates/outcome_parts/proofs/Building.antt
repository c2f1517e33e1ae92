-- Store-conditionals that are built one thing after another.
use Rattle.std.specs.Prelude.{◌≡◌, ℕ, ◌+◌, ◌<◌, ◌≤◌, nat_eq, List, [], ◌∷◌, ◌++◌, All, length}
use Rattle.std.proofs.Common.{sym, ◌∙◌, ap, subst, refl, inl, inr, arith}
use Rattle.std.proofs.lemmas.Bool.{cases_lt}
use Rattle.std.proofs.lemmas.List.{append_assoc, get_or_append_left, get_or-append-add, length-append}
use Rattle.std.proofs.lemmas.List.Elements.{All-contains, All-from_get_or}
use Rattle.bv_terms.specs.Shapes.{Shape}
use Rattle.bv_terms.specs.Values.{KeepsTerms}
use Rattle.bv_terms.specs.Values.{Assignment as TermAssignment}
use Rattle.clause_store.specs.declared.lit.Lit.{Lit}
use Rattle.clause_store.specs.Formula.{Formula}
use Rattle.clause_store.specs.UnitRule.{Partial}
use Rattle.order_clauses.specs.declared.order_lit.OrderLit.{OrderLit}
use Rattle.order_clauses.specs.declared.order_lit.OrderLit.TheVariants as order_lit
use Rattle.order_clauses.specs.Grid.{IsKnownOrder}
use Rattle.outcome_clauses.specs.declared.store_conditional.Ender.{Ender}
use Rattle.outcome_clauses.specs.declared.store_conditional.StoreConditional.{StoreConditional}
use Rattle.outcome_clauses.specs.Contract.{AddsOutcome, KnowsConditional, KnowsEnder}
use Rattle.bit_clauses.specs.Bits.{HasBits, IsBuilt}
use Rattle.bit_clauses.specs.Nodes.{lits_at}
use Rattle.encoder.specs.declared.encoder.Encoder.{Encoder}
use Rattle.encoder.specs.Encodes.{AllVariablesDecided, Encodes, IsKnown, Keeps}
use Rattle.encoder.proofs.Encoding.{encodes_none, encodes_then}
use Rattle.thread_terms.specs.declared.access.Access.{Access}
use Rattle.hit_terms.specs.Hits.{is_touch}
use Rattle.term_sources.specs.Sees.{access_at, address_value, guard_value}
use Rattle.read_clauses.specs.Conditionals.{ender_at}
use Rattle.formula_parts.specs.Order.{Setting}
use Rattle.formula_parts.specs.Facts.{Succeeds}
use Rattle.formula_parts.specs.Parts.{Adds}
use Rattle.reader_parts.specs.Conditions.{HasTerms, IsCondition}
use Rattle.reader_parts.proofs.Candidates.{terms_of}
use Rattle.reader_parts.proofs.Later.{condition_later, condition_reworded}
use Rattle.reader_parts.proofs.Testing.{first_listed}
use Rattle.outcome_parts.specs.declared.rival.Rival.{Rival}
use Rattle.outcome_parts.specs.Outcomes.{CanSucceed}
use Rattle.outcome_parts.specs.Rivals.{AreEndersOf, IsBuiltConditional, IsEnderOf, KnowsRival, address_parts, conditional_parts, first_literal, have_same_address, rival_at, rival_parts, touch_parts, touches}
use Rattle.outcome_parts.proofs.Whole.{outcomes_whole}

abbrev pub no_rival : Rival
no_rival = record { access = 0; after = order_lit.Always; before = order_lit.Always }

abbrev pub no_ender : Ender
no_ender = record { after = order_lit.Always; before = order_lit.Always; hit = order_lit.Always }

-- ---- values of accesses by earlier terms

touches_earlier : (old new : List Shape) (writer reserved : Access) (t : TermAssignment) → KeepsTerms old new → HasTerms old writer → HasTerms old reserved
    → touches t new writer reserved ≡ touches t old writer reserved
touches_earlier old new writer reserved t keeps of_writer of_reserved =
    let many = length writer.writes in
    ap (λ (g : ℕ). is_touch g many (address_value t new writer) (address_value t new reserved)) (keeps.value t writer.guard.number of_writer.guard.inside)
    ∙ ap (λ (a : ℕ). is_touch (guard_value t old writer) many a (address_value t new reserved)) (keeps.value t writer.address.number of_writer.address.inside)
    ∙ ap (λ (b : ℕ). is_touch (guard_value t old writer) many (address_value t old writer) b) (keeps.value t reserved.address.number of_reserved.address.inside)

same_earlier : (old new : List Shape) (first second : Access) (t : TermAssignment) → KeepsTerms old new → HasTerms old first → HasTerms old second
    → have_same_address t new first second ≡ have_same_address t old first second
same_earlier old new first second t keeps of_first of_second =
    ap (λ (a : ℕ). nat_eq a (address_value t new second)) (keeps.value t first.address.number of_first.address.inside)
    ∙ ap (λ (b : ℕ). nat_eq (address_value t old first) b) (keeps.value t second.address.number of_second.address.inside)

-- ---- enders

ender_later : (nodes : List Shape) (old new : Encoder) (accesses : List Access) (lr : ℕ) (rival : Rival) (ender : Ender) → Keeps old new
    → IsEnderOf nodes old accesses lr rival ender → IsEnderOf nodes new accesses lr rival ender
ender_later nodes old new accesses lr rival ender keeps is = record {
  after = is.after;
  before = is.before;
  hit = condition_later old new (touch_parts (access_at accesses rival.access) (access_at accesses lr))
      (λ t. touches t nodes (access_at accesses rival.access) (access_at accesses lr)) ender.hit keeps is.hit;
}

enders_later : (nodes : List Shape) (old new : Encoder) (accesses : List Access) (lr : ℕ) (rivals : List Rival) (enders : List Ender) → Keeps old new
    → AreEndersOf nodes old accesses lr rivals enders → AreEndersOf nodes new accesses lr rivals enders
enders_later nodes old new accesses lr rivals enders keeps are = record {
  count = are.count;
  each = λ (k : ℕ) (less : k < length rivals). ender_later nodes old new accesses lr (rival_at rivals k) (ender_at enders k) keeps (are.each k less);
}

ender_earlier : (old mid : List Shape) (encoder : Encoder) (accesses : List Access) (lr : ℕ) (rival : Rival) (ender : Ender) → KeepsTerms old mid
    → HasTerms old (access_at accesses rival.access) → HasTerms old (access_at accesses lr)
    → IsEnderOf mid encoder accesses lr rival ender → IsEnderOf old encoder accesses lr rival ender
ender_earlier old mid encoder accesses lr rival ender keeps of_writer of_reserved is =
    let writer = access_at accesses rival.access in let reserved = access_at accesses lr in record {
      after = is.after;
      before = is.before;
      hit = condition_reworded encoder (touch_parts writer reserved) (touch_parts writer reserved) (λ t. touches t mid writer reserved) (λ t. touches t old writer reserved) ender.hit
          (λ (t : TermAssignment). touches_earlier old mid writer reserved t keeps of_writer of_reserved)
          (λ (v : Partial) (all : AllVariablesDecided encoder v (touch_parts writer reserved)). all) is.hit;
    }

-- an ender whose accesses were looked up
pub ender_made : (old new : Encoder) (accesses : List Access) (lr : ℕ) (rival : Rival) (writer reserved : Access) (hit : OrderLit)
    → writer ≡ access_at accesses rival.access → reserved ≡ access_at accesses lr → Encodes old new (touch_parts writer reserved)
    → IsCondition new (touch_parts writer reserved) (λ t. touches t old.pool writer reserved) hit
    → Encodes old new (touch_parts (access_at accesses rival.access) (access_at accesses lr))
    × IsEnderOf old.pool new accesses lr rival (record { after = rival.after; before = rival.before; hit = hit })
ender_made old new accesses lr rival writer reserved hit is_writer is_reserved encodes condition =
    let r = access_at accesses lr in (
      subst (λ (a : Access). Encodes old new (touch_parts a r)) is_writer (subst (λ (b : Access). Encodes old new (touch_parts writer b)) is_reserved encodes),
      record {
        after = refl;
        before = refl;
        hit = subst (λ (a : Access). IsCondition new (touch_parts a r) (λ t. touches t old.pool a r) hit) is_writer
            (subst (λ (b : Access). IsCondition new (touch_parts writer b) (λ t. touches t old.pool writer b) hit) is_reserved condition);
      },
    )

-- the enders of the first rivals
pub record SoFar (old now : Encoder) (accesses : List Access) (lr : ℕ) (rivals : List Rival) (enders : List Ender) : Type 0 where
  pub encodes : Encodes old now (rival_parts accesses lr rivals)
  pub are : AreEndersOf old.pool now accesses lr rivals enders

pub none_yet : (old : Encoder) (accesses : List Access) (lr : ℕ) → IsKnown old → SoFar old old accesses lr [] []
none_yet old accesses lr known = record {
  encodes = encodes_none old [] known;
  are = record { count = refl; each = λ (k : ℕ) (less : k < 0). absurd (omega (arith, less)) };
}

parts_push : (accesses : List Access) (lr : ℕ) (rivals : List Rival) (rival : Rival)
    → rival_parts accesses lr (rivals ++ rival ∷ []) ≡ rival_parts accesses lr rivals ++ touch_parts (access_at accesses rival.access) (access_at accesses lr)
parts_push accesses lr [] rival = refl
parts_push accesses lr (first ∷ more) rival =
    let own = touch_parts (access_at accesses first.access) (access_at accesses lr) in
    ap (λ (xs : List ℕ). own ++ xs) (parts_push accesses lr more rival)
    ∙ sym (append_assoc own (rival_parts accesses lr more) (touch_parts (access_at accesses rival.access) (access_at accesses lr)))

pub one_more : (old now new : Encoder) (accesses : List Access) (lr : ℕ) (rivals : List Rival) (rival : Rival) (enders : List Ender) (ender : Ender)
    → All (HasTerms old.pool) accesses → rival.access < length accesses → lr < length accesses → SoFar old now accesses lr rivals enders
    → Encodes now new (touch_parts (access_at accesses rival.access) (access_at accesses lr)) → IsEnderOf now.pool new accesses lr rival ender
    → SoFar old new accesses lr (rivals ++ rival ∷ []) (enders ++ ender ∷ [])
one_more old now new accesses lr rivals rival enders ender terms there reserved so_far encodes is =
    let many = so_far.are.count in record {
      encodes = subst (Encodes old new) (sym (parts_push accesses lr rivals rival))
          (encodes_then old now new (rival_parts accesses lr rivals) (touch_parts (access_at accesses rival.access) (access_at accesses lr)) so_far.encodes encodes);
      are = record {
        count = let long = length-append enders (ender ∷ []) in let wide = length-append rivals (rival ∷ []) in omega (arith, long, wide, many);
        each = λ (k : ℕ) (less : k < length (rivals ++ rival ∷ [])). elim (cases_lt k (length rivals)) [
          | inl inside ↦
              subst (λ (r : Rival). IsEnderOf old.pool new accesses lr r (ender_at (enders ++ ender ∷ []) k)) (sym (get_or_append_left rivals (rival ∷ []) no_rival k inside))
              (subst (IsEnderOf old.pool new accesses lr (rival_at rivals k)) (sym (get_or_append_left enders (ender ∷ []) (ender_at [] 0) k (omega (arith, inside, many))))
              (ender_later old.pool now new accesses lr (rival_at rivals k) (ender_at enders k) encodes.keeps (so_far.are.each k inside)))
          | inr above ↦
              let wide = length-append rivals (rival ∷ []) in
              let here : k ≡ length rivals + 0 = omega (arith, less, above, wide) in
              let there_too : k ≡ length enders + 0 = omega (arith, less, above, wide, many) in
              subst (λ (r : Rival). IsEnderOf old.pool new accesses lr r (ender_at (enders ++ ender ∷ []) k))
              (sym (ap (rival_at (rivals ++ rival ∷ [])) here ∙ get_or-append-add rivals (rival ∷ []) 0 no_rival))
              (subst (IsEnderOf old.pool new accesses lr rival)
              (sym (ap (ender_at (enders ++ ender ∷ [])) there_too ∙ get_or-append-add enders (ender ∷ []) 0 (ender_at [] 0)))
              (ender_earlier old.pool now.pool new accesses lr rival ender so_far.encodes.keeps.terms (terms_of old.pool accesses rival.access terms there)
              (terms_of old.pool accesses lr terms reserved) is))
        ];
      };
    }

-- ---- the store-conditional

-- what was built of one, with the accesses that were looked up
pub record Built : Type 0 where
  pub old : Encoder
  pub one : Encoder
  pub two : Encoder
  pub new : Encoder
  pub accesses : List Access
  pub lr : ℕ
  pub x : ℕ
  pub rivals : List Rival
  pub enders : List Ender
  pub same : OrderLit
  pub outcome : Lit
  pub terms : All (HasTerms old.pool) accesses
  pub reserved_there : lr < length accesses
  pub there : x < length accesses
  pub reserved : Access
  pub reserved_is : reserved ≡ access_at accesses lr
  pub access : Access
  pub access_is : access ≡ access_at accesses x
  pub first : Encodes old one (rival_parts accesses lr rivals)
  pub are : AreEndersOf old.pool one accesses lr rivals enders
  pub second : Encodes one two (address_parts reserved access)
  pub condition : IsCondition two (address_parts reserved access) (λ t. have_same_address t one.pool reserved access) same
  pub third : Encodes two new (access.guard.number ∷ [])
  pub guard : IsBuilt new.blaster access.guard.number
  pub literal : outcome ≡ first_literal new access.guard.number

abbrev reserved_at : Built → Access
reserved_at b = access_at b.accesses b.lr

abbrev access_of : Built → Access
access_of b = access_at b.accesses b.x

second_is : (b : Built) → Encodes b.one b.two (address_parts (reserved_at b) (access_of b))
second_is b =
    subst (λ (r : Access). Encodes b.one b.two (address_parts r (access_of b))) b.reserved_is
    (subst (λ (a : Access). Encodes b.one b.two (address_parts b.reserved a)) b.access_is b.second)

third_is : (b : Built) → Encodes b.two b.new ((access_of b).guard.number ∷ [])
third_is b = subst (λ (a : Access). Encodes b.two b.new (a.guard.number ∷ [])) b.access_is b.third

rest_is : (b : Built) → Encodes b.one b.new (address_parts (reserved_at b) (access_of b) ++ (access_of b).guard.number ∷ [])
rest_is b = encodes_then b.one b.two b.new (address_parts (reserved_at b) (access_of b)) ((access_of b).guard.number ∷ []) (second_is b) (third_is b)

pub conditional_encodes : (b : Built) → Encodes b.old b.new (conditional_parts b.accesses b.lr b.x b.rivals)
conditional_encodes b =
    encodes_then b.old b.one b.new (rival_parts b.accesses b.lr b.rivals) (address_parts (reserved_at b) (access_of b) ++ (access_of b).guard.number ∷ []) b.first (rest_is b)

condition_is : (b : Built) → IsCondition b.two (address_parts (reserved_at b) (access_of b)) (λ t. have_same_address t b.one.pool (reserved_at b) (access_of b)) b.same
condition_is b =
    subst (λ (r : Access). IsCondition b.two (address_parts r (access_of b)) (λ t. have_same_address t b.one.pool r (access_of b)) b.same) b.reserved_is
    (subst (λ (a : Access). IsCondition b.two (address_parts b.reserved a) (λ t. have_same_address t b.one.pool b.reserved a) b.same) b.access_is b.condition)

same_is : (b : Built) → IsCondition b.new (address_parts (reserved_at b) (access_of b)) (λ t. have_same_address t b.old.pool (reserved_at b) (access_of b)) b.same
same_is b =
    let parts = address_parts (reserved_at b) (access_of b) in
    condition_later b.two b.new parts (λ t. have_same_address t b.old.pool (reserved_at b) (access_of b)) b.same (third_is b).keeps
    (condition_reworded b.two parts parts (λ t. have_same_address t b.one.pool (reserved_at b) (access_of b)) (λ t. have_same_address t b.old.pool (reserved_at b) (access_of b)) b.same
    (λ (t : TermAssignment). same_earlier b.old.pool b.one.pool (reserved_at b) (access_of b) t b.first.keeps.terms
    (terms_of b.old.pool b.accesses b.lr b.terms b.reserved_there) (terms_of b.old.pool b.accesses b.x b.terms b.there))
    (λ (v : Partial) (all : AllVariablesDecided b.two v parts). all) (condition_is b))

pub conditional_built : (b : Built) → IsBuiltConditional b.old.pool b.new b.accesses b.lr b.x b.rivals (record { same = b.same; enders = b.enders; outcome = b.outcome })
conditional_built b = record {
  same = same_is b;
  enders = enders_later b.old.pool b.one b.new b.accesses b.lr b.rivals b.enders (rest_is b).keeps b.are;
  guard = subst (λ (a : Access). IsBuilt b.new.blaster a.guard.number) b.access_is b.guard;
  outcome = b.literal ∙ ap (λ (a : Access). first_literal b.new a.guard.number) b.access_is;
}

-- ---- its clauses

-- the literal of a guard is known
pub first_known : (encoder : Encoder) (id : ℕ) → IsKnown encoder → IsBuilt encoder.blaster id → length (lits_at encoder.blaster.terms id) ≡ 1
    → (first_literal encoder id).var < encoder.clauses.vars
first_known encoder id known built one =
    All-contains (λ (l : Lit). l.var < encoder.clauses.vars) (lits_at encoder.blaster.terms id) (first_literal encoder id) (known.terms id built).known
    (first_listed (lits_at encoder.blaster.terms id) one)

known_later : (vars more : ℕ) (condition : OrderLit) → vars ≤ more → IsKnownOrder vars condition → IsKnownOrder more condition
known_later vars more condition grows known l e = let less = known l e in omega (arith, less, grows)

ender_known : (old new : Encoder) (accesses : List Access) (lr : ℕ) (rival : Rival) (ender : Ender) → Keeps old new → KnowsRival old.clauses.vars (length accesses) rival
    → IsEnderOf old.pool new accesses lr rival ender → KnowsEnder new.clauses.vars ender
ender_known old new accesses lr rival ender keeps knows is = record {
  after = subst (IsKnownOrder new.clauses.vars) (sym is.after) (known_later old.clauses.vars new.clauses.vars rival.after keeps.grows.vars knows.after);
  before = subst (IsKnownOrder new.clauses.vars) (sym is.before) (known_later old.clauses.vars new.clauses.vars rival.before keeps.grows.vars knows.before);
  hit = is.hit.known;
}

pub conditional_known : (old new : Encoder) (accesses : List Access) (lr x : ℕ) (rivals : List Rival) (sc : StoreConditional) → All (HasTerms old.pool) accesses → x < length accesses
    → All (KnowsRival old.clauses.vars (length accesses)) rivals → Encodes old new (conditional_parts accesses lr x rivals)
    → IsBuiltConditional old.pool new accesses lr x rivals sc → KnowsConditional new.clauses.vars sc
conditional_known old new accesses lr x rivals sc terms there knows encodes built =
    let guard = (access_at accesses x).guard.number in
    let has = terms_of old.pool accesses x terms there in
    let bits : HasBits new.blaster new.pool new.clauses guard = encodes.keeps.known.terms guard built.guard in
    let many = built.enders.count in record {
      same = built.same.known;
      enders = All-from_get_or (KnowsEnder new.clauses.vars) sc.enders no_ender
          (λ (k : ℕ) (less : k < length sc.enders).
          let inside : k < length rivals = omega (arith, less, many) in
          ender_known old new accesses lr (rival_at rivals k) (ender_at sc.enders k) encodes.keeps (knows k no_rival inside) (built.enders.each k inside));
      outcome = subst (λ (l : Lit). l.var < new.clauses.vars) (sym built.outcome)
          (first_known new guard encodes.keeps.known built.guard (bits.count ∙ encodes.keeps.terms.width guard has.guard.inside ∙ has.guard.width));
    }

-- what was built is said of the accesses of a setting
pub success_added : (setting : Setting) (old mid : Encoder) (after : Formula) (accesses : List Access) (lr x : ℕ) (rivals : List Rival) (sc : StoreConditional)
    → setting.accesses ≡ accesses → CanSucceed setting old lr x rivals → Encodes old mid (conditional_parts accesses lr x rivals)
    → IsBuiltConditional old.pool mid accesses lr x rivals sc → AddsOutcome mid.clauses after sc
    → Adds setting old (record mid { clauses = after }) (Succeeds x ∷ [])
success_added setting old mid after accesses lr x rivals sc same can encodes built adds =
    outcomes_whole setting old mid after lr x rivals sc can
    (subst (λ (own : List Access). Encodes old mid (conditional_parts own lr x rivals)) (sym same) encodes)
    (subst (λ (own : List Access). IsBuiltConditional old.pool mid own lr x rivals sc) (sym same) built) adds
