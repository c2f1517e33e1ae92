-- What is gathered of a store-conditional's rivals says what its clauses need.
use Rattle.std.specs.Prelude.{◌≡◌, ◌≢◌, ◌⊎◌, ℕ, ◌<◌, Bool, true, List, length, Option, Some, None, is_some, Contains, refl}
use Rattle.std.proofs.Common.{sym, ◌∙◌, ap, subst, inl, inr, arith}
use Rattle.std.proofs.lemmas.Bool.{false≢true}
use Rattle.odr_log.specs.declared.log.Log.{Log}
use Rattle.odr_log.specs.declared.log.Pos.{Pos}
use Rattle.rv_model.specs.RecordedOrder.{Counted, InThread, IsOpen, One, RecordedOrder}
use Rattle.bv_terms.specs.Values.{Assignment as TermAssignment}
use Rattle.clause_store.specs.declared.lit.Lit.{Lit}
use Rattle.clause_store.specs.Literals.{Assignment}
use Rattle.clause_store.specs.UnitRule.{Partial}
use Rattle.happens_before.specs.declared.table.ThreadCalls.{ThreadCalls}
use Rattle.happens_before.specs.Table.{IsOrderOf}
use Rattle.order_clauses.specs.declared.order_lit.OrderLit.{OrderLit}
use Rattle.order_clauses.specs.declared.order_lit.OrderLit.TheVariants as order_lit
use Rattle.order_clauses.specs.declared.table.Table.{Table}
use Rattle.order_clauses.specs.Grid.{lit_in}
use Rattle.order_vars.specs.Chosen.{ChosenOrder}
use Rattle.race_set.specs.declared.shape.AccessShape.{AccessShape}
use Rattle.race_set.specs.Accesses.{AreCounted, shape_at}
use Rattle.race_set.specs.Bytes.{may_write_word}
use Rattle.race_set.specs.Races.{HasOpenOutcome, IsOpenPair}
use Rattle.race_set.proofs.Numbers.{listed_at, no_shape}
use Rattle.thread_terms.specs.declared.access.Access.{Access}
use Rattle.term_sources.specs.Sees.{access_at}
use Rattle.fixed_reads.specs.Shapes.{IsShapeOf}
use Rattle.formula_parts.specs.Order.{ArePlaces, DecidesOrder, IsOrder, Setting, SpellsOrder, lit_between}
use Rattle.outcome_parts.specs.declared.rival.Rival.{Rival}
use Rattle.outcome_parts.specs.Outcomes.{IsBefore, IsRival}
use Rattle.outcome_parts.specs.Rivals.{rival_at, touches}
use Rattle.read_spots.specs.Spots.{place_in}
use Rattle.rivals.specs.Between.{AreRivals, AreRivalsBelow, IsConditionalIn, IsConditionOf, IsLiteralOf, IsRecorded, IsRivalOf, MayEnd, Placed, placed}
use Rattle.rivals.proofs.Touching.{may_touch}

-- what is known of a store-conditional
pub record Scene : Type 0 where
  pub setting : Setting
  pub order : List ThreadCalls
  pub shapes : List AccessShape
  pub places : List (Option ℕ)
  pub vars : ChosenOrder
  pub count : ℕ
  pub lr : ℕ
  pub x : ℕ
  pub lr_there : lr < length shapes
  pub x_there : x < length shapes
  pub is : IsConditionalIn setting order shapes places vars lr x
  pub known : ArePlaces (length setting.accesses) count setting.places

abbrev here : Scene → ℕ → Access
here s y = access_at s.setting.accesses y

abbrev shape : Scene → ℕ → AccessShape
shape s y = shape_at s.shapes y

abbrev many : Scene → ℕ
many s = length s.setting.accesses

abbrev placed_of : Scene → Placed
placed_of s = placed s.setting.log s.shapes s.places s.vars.ordered.table

abbrev IsOrderIn : Scene → (ℕ → ℕ → Bool) → Type 0
IsOrderIn s lt = IsOrder s.setting.log s.setting.accesses lt

abbrev Recorded : Scene → ℕ → ℕ → Type 0
Recorded s a b = IsRecorded s.setting.log s.shapes a b

shape_is : (s : Scene) (y : ℕ) → y < many s → IsShapeOf s.setting.nodes (here s y) (shape s y)
shape_is s y less = s.is.are.each y less

in_shapes : (s : Scene) (y : ℕ) → y < many s → y < length s.shapes
in_shapes s y less = let same : length s.shapes ≡ length s.setting.accesses = s.is.are.count in omega (arith, less, same)

in_accesses : (s : Scene) (y : ℕ) → y < length s.shapes → y < many s
in_accesses s y less = let same : length s.shapes ≡ length s.setting.accesses = s.is.are.count in omega (arith, less, same)

lr_in : (s : Scene) → s.lr < many s
lr_in s = in_accesses s s.lr s.lr_there

x_in : (s : Scene) → s.x < many s
x_in s = in_accesses s s.x s.x_there

listed : (s : Scene) (y : ℕ) → y < many s → Contains s.shapes (shape s y)
listed s y less = listed_at s.shapes y (in_shapes s y less)

-- ---- the recorded order

agrees : (s : Scene) (lt : ℕ → ℕ → Bool) → IsOrderIn s lt → (a b : ℕ) → a < many s → b < many s → Recorded s a b → lt a b ≡ true
agrees s lt is_order a b a_in b_in r =
    is_order.total.agrees a b a_in b_in
    (subst (λ (p : Pos). RecordedOrder s.setting.log p (here s b).pos) (shape_is s a a_in).pos
    (subst (RecordedOrder s.setting.log (shape s a).pos) (shape_is s b b_in).pos r))

never_back : (s : Scene) (lt : ℕ → ℕ → Bool) → IsOrderIn s lt → (a b : ℕ) → a < many s → b < many s → lt a b ≡ true → Recorded s b a → ⊥
never_back s lt is_order a b a_in b_in less r =
    false≢true (sym (is_order.strict.irreflexive a) ∙ is_order.strict.transitive a b a less (agrees s lt is_order b a b_in a_in r))

counted_at : (s : Scene) (y : ℕ) → y < length s.shapes → Counted s.setting.log (shape s y).pos
counted_at s y less = s.is.counted y no_shape less

lr_before : (s : Scene) → Recorded s s.lr s.x
lr_before s = One (record {
  from = counted_at s s.lr s.lr_there;
  to = counted_at s s.x s.x_there;
  edge = InThread s.is.back.thread s.is.back.step;
})

earlier : (s : Scene) (lt : ℕ → ℕ → Bool) → IsOrderIn s lt → lt s.lr s.x ≡ true
earlier s lt is_order = agrees s lt is_order s.lr s.x (lr_in s) (x_in s) (lr_before s)

-- ---- the accesses that have places

-- an access is the store-conditional, the load-reserved, or may write to the word
abbrev HasPart : Scene → ℕ → Type 0
HasPart s z = (shape s z ≡ shape s s.x) ⊎ ((shape s z ≡ shape s s.lr) ⊎ (may_write_word (shape s s.lr).place (shape s z) ≡ true))

-- an access is open with the store-conditional or with the load-reserved
abbrev IsUnordered : Scene → ℕ → Type 0
IsUnordered s y = IsOpen s.setting.log (shape s y).pos (shape s s.x).pos ⊎ IsOpen s.setting.log (shape s y).pos (shape s s.lr).pos

chosen_by : (s : Scene) (y z : ℕ) → y < many s → may_write_word (shape s s.lr).place (shape s y) ≡ true → IsUnordered s y
    → z < many s → HasPart s z → s.setting.places.chosen z ≡ true
chosen_by s y z y_in writes unordered z_in part =
    let pair : IsOpenPair s.setting.log s.shapes (shape s s.x) (shape s s.lr) = record {
      conditional_listed = listed s s.x (x_in s);
      reserved_listed = listed s s.lr (lr_in s);
      link = s.is.back.link;
      other = shape s y;
      other_listed = listed s y y_in;
      writes = writes;
      unordered = unordered;
    } in
    let outcome : HasOpenOutcome s.setting.log s.shapes (shape s z) = record {
      conditional = shape s s.x;
      reserved = shape s s.lr;
      pair = pair;
      part = part;
    } in
    s.is.ordered z z_in (record {
      access = shape s z;
      listed = listed s z z_in;
      is = (shape_is s z z_in).pos;
      needs = inr (inr outcome);
    })

open_after : (s : Scene) (y : ℕ) → MayEnd s.setting.log s.shapes s.lr s.x y → (Recorded s s.lr y → ⊥) → IsUnordered s y
open_after s y may none = inr (record {
  apart = λ (e : (shape s y).pos.thread ≡ (shape s s.lr).pos.thread). may.other (e ∙ s.is.back.thread);
  unordered = may.late;
  unordered_back = none;
})

open_before : (s : Scene) (y : ℕ) → MayEnd s.setting.log s.shapes s.lr s.x y → (Recorded s y s.x → ⊥) → IsUnordered s y
open_before s y may none = inl (record {
  apart = may.other;
  unordered = none;
  unordered_back = may.early;
})

-- ---- conditions

some_place : (o : Option ℕ) → is_some o ≡ true → (n : ℕ) × (o ≡ Some n)
some_place None e = absurd (false≢true e)
some_place (Some n) e = (n, refl)

place_of : (s : Scene) (y : ℕ) → y < many s → s.setting.places.chosen y ≡ true → (i : ℕ) × (place_in s.places y ≡ Some i)
place_of s y y_in chosen = some_place (place_in s.places y) (sym (s.is.has.chosen y y_in) ∙ chosen)

literal_is : (s : Scene) (a b : ℕ) (condition : OrderLit) → a < many s → b < many s → s.setting.places.chosen a ≡ true → s.setting.places.chosen b ≡ true
    → IsLiteralOf (placed_of s) a b condition → lit_between s.setting.places a b ≡ condition
literal_is s a b condition a_in b_in a_chosen b_chosen literal =
    let i = place_of s a a_in a_chosen in
    let j = place_of s b b_in b_chosen in
    ap (λ (n : ℕ). lit_in s.setting.places.table n (s.setting.places.place b)) (s.is.has.place a i.0 i.1)
    ∙ ap (λ (n : ℕ). lit_in s.setting.places.table i.0 n) (s.is.has.place b j.0 j.1)
    ∙ ap (λ (table : Table). lit_in table i.0 j.0) s.is.table
    ∙ sym (literal i.0 j.0 i.1 j.1)

always_before : (s : Scene) (a b : ℕ) → a < many s → b < many s → Recorded s a b → IsBefore s.setting s.count a b order_lit.Always
always_before s a b a_in b_in r = record {
  known = λ (l : Lit) (e : order_lit.Always ≡ order_lit.Is l). absurd (let h : order_lit.Always ≡ order_lit.Is l = e in cc);
  tells = λ (w : Assignment) (lt : ℕ → ℕ → Bool) (is_order : IsOrderIn s lt) (order : SpellsOrder w s.setting.places lt). sym (agrees s lt is_order a b a_in b_in r);
  decided = λ (v : Partial) (lt : ℕ → ℕ → Bool) (is_order : IsOrderIn s lt) (order : DecidesOrder v s.setting.places lt). agrees s lt is_order a b a_in b_in r;
}

between : (s : Scene) (a b : ℕ) → s.setting.places.chosen a ≡ true → s.setting.places.chosen b ≡ true → a ≢ b
    → IsBefore s.setting s.count a b (lit_between s.setting.places a b)
between s a b a_chosen b_chosen differ = record {
  known = s.known.known (s.setting.places.place a) (s.setting.places.place b) (s.known.within a a_chosen) (s.known.within b b_chosen);
  tells = λ (w : Assignment) (lt : ℕ → ℕ → Bool) (is_order : IsOrderIn s lt) (order : SpellsOrder w s.setting.places lt). order a b a_chosen b_chosen differ;
  decided = λ (v : Partial) (lt : ℕ → ℕ → Bool) (is_order : IsOrderIn s lt) (order : DecidesOrder v s.setting.places lt). order a b a_chosen b_chosen differ;
}

condition_is : (s : Scene) (a b : ℕ) (condition : OrderLit) → a < many s → b < many s → a ≢ b
    → ((Recorded s a b → ⊥) → s.setting.places.chosen a ≡ true) → ((Recorded s a b → ⊥) → s.setting.places.chosen b ≡ true)
    → IsConditionOf (placed_of s) a b condition → IsBefore s.setting s.count a b condition
condition_is s a b condition a_in b_in differ a_chosen b_chosen (inl always) =
    subst (IsBefore s.setting s.count a b) (sym always.1) (always_before s a b a_in b_in always.0)
condition_is s a b condition a_in b_in differ a_chosen b_chosen (inr literal) =
    subst (IsBefore s.setting s.count a b)
    (literal_is s a b condition a_in b_in (a_chosen literal.0) (b_chosen literal.0) literal.1)
    (between s a b (a_chosen literal.0) (b_chosen literal.0) differ)

-- ---- rivals

rival_is : (s : Scene) (rival : Rival) → rival.access < many s → IsRivalOf (placed_of s) s.lr s.x rival → IsRival s.setting s.count s.lr s.x rival
rival_is s rival y_in is =
    record {
      there = y_in;
      other = λ (e : (here s rival.access).pos.thread ≡ (here s s.x).pos.thread).
          is.may.other (ap (λ (p : Pos). p.thread) (shape_is s rival.access y_in).pos ∙ e ∙ ap (λ (p : Pos). p.thread) (sym (shape_is s s.x (x_in s)).pos));
      after = condition_is s s.lr rival.access rival.after (lr_in s) y_in
          (λ (e : s.lr ≡ rival.access). is.may.other (ap (λ (n : ℕ). (shape s n).pos.thread) (sym e) ∙ s.is.back.thread))
          (λ (none : Recorded s s.lr rival.access → ⊥). chosen_by s rival.access s.lr y_in is.may.writes (open_after s rival.access is.may none) (lr_in s) (inr (inl refl)))
          (λ (none : Recorded s s.lr rival.access → ⊥). chosen_by s rival.access rival.access y_in is.may.writes (open_after s rival.access is.may none) y_in (inr (inr is.may.writes)))
          is.after;
      before = condition_is s rival.access s.x rival.before y_in (x_in s)
          (λ (e : rival.access ≡ s.x). is.may.other (ap (λ (n : ℕ). (shape s n).pos.thread) e))
          (λ (none : Recorded s rival.access s.x → ⊥). chosen_by s rival.access rival.access y_in is.may.writes (open_before s rival.access is.may none) y_in (inr (inr is.may.writes)))
          (λ (none : Recorded s rival.access s.x → ⊥). chosen_by s rival.access s.x y_in is.may.writes (open_before s rival.access is.may none) (x_in s) (inl refl))
          is.before;
    }

may_end : (s : Scene) (t : TermAssignment) (lt : ℕ → ℕ → Bool) → IsOrderIn s lt → (y : ℕ) → y < many s → (here s y).pos.thread ≢ (here s s.x).pos.thread
    → lt s.lr y ≡ true → lt y s.x ≡ true → touches t s.setting.nodes (here s y) (here s s.lr) ≡ true → MayEnd s.setting.log s.shapes s.lr s.x y
may_end s t lt is_order y y_in other after before touched = record {
  other = λ (e : (shape s y).pos.thread ≡ (shape s s.x).pos.thread).
      other (ap (λ (p : Pos). p.thread) (sym (shape_is s y y_in).pos) ∙ e ∙ ap (λ (p : Pos). p.thread) (shape_is s s.x (x_in s)).pos);
  writes = may_touch s.setting.nodes t (here s y) (here s s.lr) (shape s y) (shape s s.lr) (shape_is s y y_in) (shape_is s s.lr (lr_in s)) (s.is.are.few y y_in) touched;
  late = never_back s lt is_order s.lr y (lr_in s) y_in after;
  early = never_back s lt is_order y s.x y_in (x_in s) before;
}

are_rivals : (s : Scene) (rivals : List Rival) → AreRivalsBelow (placed_of s) s.lr s.x (length s.shapes) rivals → AreRivals s.setting s.count s.lr s.x rivals
are_rivals s rivals are = record {
  earlier = earlier s;
  each = λ (k : ℕ) (less : k < length rivals). rival_is s (rival_at rivals k) (in_accesses s (rival_at rivals k).access (are.below k less)) (are.only k less);
  enough = λ (t : TermAssignment) (lt : ℕ → ℕ → Bool) (is_order : IsOrderIn s lt) (y : ℕ) (y_in : y < many s) (other : (here s y).pos.thread ≢ (here s s.x).pos.thread)
      (after : lt s.lr y ≡ true) (before : lt y s.x ≡ true) (touched : touches t s.setting.nodes (here s y) (here s s.lr) ≡ true).
      are.each y (in_shapes s y y_in) (may_end s t lt is_order y y_in other after before touched);
}

pub rivals_in : (setting : Setting) (order : List ThreadCalls) (shapes : List AccessShape) (places : List (Option ℕ)) (vars : ChosenOrder) (count lr x : ℕ)
    (rivals : List Rival) → lr < length shapes → x < length shapes
    → ((log : Log) → IsOrderOf order log → AreCounted log shapes → AreRivalsBelow (placed log shapes places vars.ordered.table) lr x (length shapes) rivals)
    → IsConditionalIn setting order shapes places vars lr x → ArePlaces (length setting.accesses) count setting.places
    → AreRivals setting count lr x rivals
rivals_in setting order shapes places vars count lr x rivals lr_there x_there exact is known =
    are_rivals (record {
      setting = setting;
      order = order;
      shapes = shapes;
      places = places;
      vars = vars;
      count = count;
      lr = lr;
      x = x;
      lr_there = lr_there;
      x_there = x_there;
      is = is;
      known = known;
    }) rivals (exact setting.log is.order_of is.counted)
