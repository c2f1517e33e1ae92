-- Chosen steps merged into the calls of a log: before each chosen step stand the calls that are recorded before it.
use Rattle.std.specs.Prelude.{◌≡◌, ℕ, ◌≤◌, ◌⊎◌, Bool, true, false, ◌||◌, cond, List, [], ◌∷◌, ◌++◌, map, nat_eq, nat_le, Some, if◌then◌else◌, refl}
use Rattle.std.proofs.Common.{sym, ◌∙◌, ap, subst, arith, inl, inr, eqb-true}
use Rattle.std.proofs.lemmas.Bool.{cases_lt, and_parts, leb-true, false≢true}
use Rattle.odr_log.specs.declared.log.Call.{Call}
use Rattle.odr_log.specs.declared.log.Call.TheVariants as call
use Rattle.odr_log.specs.declared.log.CallRec.{CallRec}
use Rattle.odr_log.specs.declared.log.Log.{Log}
use Rattle.odr_log.specs.declared.log.Pos.{Pos}
use Rattle.rv_model.specs.Walk.{makes}
use Rattle.rv_model.specs.RecordedOrder.{Closure, One, More, Counted, InThread, BySpawn, RecordedOrder}
use Rattle.guided_walk.specs.Told.{place_of}
use Rattle.guided_walk.specs.Orders.{In, Keeps}
use Rattle.guided_walk.proofs.Table.{same_pos}
use Rattle.guided_walk.proofs.Records.{Among, rec}
use Rattle.guided_walk.proofs.Facts.{made_by_call}
use Rattle.guided_walk.proofs.NeedsOrder.{among_contains}
use Rattle.guided_walk.proofs.Placing.{in-append}
use Rattle.walk_orders.specs.RecordedTest.{up_to, leads, passes}
use Rattle.walk_orders.specs.Total.{AreCounted}
use Rattle.walk_orders.proofs.Weave.{First}

-- ---- the recorded order

pub closure_then : {edge : Pos → Pos → Type 0} {p q r : Pos} → Closure edge p q → Closure edge q r → Closure edge p r
closure_then (One e) later = More e later
closure_then (More e between) later = More e (closure_then between later)

abbrev pub UpTo : Log → Pos → Pos → Type 0
UpTo log p q = (p ≡ q) ⊎ RecordedOrder log p q

pub up_to_then : (log : Log) (p q r : Pos) → UpTo log p q → UpTo log q r → UpTo log p r
up_to_then log p q r (inl e) other = subst (λ (x : Pos). UpTo log x r) (sym e) other
up_to_then log p q r (inr one) (inl e) = inr (subst (λ (x : Pos). RecordedOrder log p x) e one)
up_to_then log p q r (inr one) (inr other) = inr (closure_then one other)

pub up_to_before : (log : Log) (p q r : Pos) → UpTo log p q → RecordedOrder log q r → RecordedOrder log p r
up_to_before log p q r (inl e) order = subst (λ (x : Pos). RecordedOrder log x r) (sym e) order
up_to_before log p q r (inr first) order = closure_then first order

abbrev pub NoRing : Log → Type 0
NoRing log = (p : Pos) → RecordedOrder log p p → ⊥

-- no step is before one up to which it stands
pub no_cycle : (log : Log) → NoRing log → (p q r : Pos) → UpTo log p q → UpTo log q r → RecordedOrder log r p → ⊥
no_cycle log ring p q r one other back = ring p (up_to_before log p r p (up_to_then log p q r one other) back)

pub in_thread : (log : Log) (z q : Pos) → Counted log z → Counted log q → up_to z q ≡ true → UpTo log q z
in_thread log z q to from e =
    let parts : (nat_eq q.thread z.thread ≡ true) × (nat_le q.step z.step ≡ true) = and_parts _ _ e in
    let same : q.thread ≡ z.thread = eqb-true q.thread z.thread parts.0 in
    let le : q.step ≤ z.step = leb-true q.step z.step parts.1 in
    elim (cases_lt q.step z.step) [
      | inl less ↦ inr (One (record { from = from; to = to; edge = InThread same less }))
      | inr past ↦ inl (same_pos q z (sym same) (let at : z.step ≡ q.step = omega (arith, le, past) in at))
    ]

not_up_to_by : (log : Log) (z q : Pos) → Counted log z → Counted log q → (UpTo log q z → ⊥) → (b : Bool) → up_to z q ≡ b → b ≡ false
not_up_to_by log z q to from never true e = absurd (never (in_thread log z q to from e))
not_up_to_by log z q to from never false e = refl

pub not_up_to : (log : Log) (z q : Pos) → Counted log z → Counted log q → (UpTo log q z → ⊥) → up_to z q ≡ false
not_up_to log z q to from never = not_up_to_by log z q to from never (up_to z q) refl

-- ---- calls that lead to a step

-- a record of the log, of a counted step
pub record IsCall (log : Log) (r : CallRec) : Type 0 where
  pub among : Among r log.calls
  pub counted : Counted log (place_of r)

leads_by : (log : Log) (p : Pos) (r : CallRec) → Counted log p → IsCall log r → (b : Bool) → up_to p (place_of r) ≡ b → (b || makes p.thread r.call) ≡ true → UpTo log (place_of r) p
leads_by log p r to is true e passes = in_thread log p (place_of r) to is.counted e
leads_by log p r to is false e passes =
    let spawns : (entry : ℕ) × (r.call ≡ call.Spawn entry (Some p.thread)) = made_by_call p.thread r.call passes in
    let has : Among (rec r.tid r.at (call.Spawn spawns.0 (Some p.thread))) log.calls = subst (λ (c : Call). Among (rec r.tid r.at c) log.calls) spawns.1 is.among in
    inr (One (record { from = is.counted; to = to; edge = BySpawn {entry = spawns.0} (among_contains log.calls (rec r.tid r.at (call.Spawn spawns.0 (Some p.thread))) has) }))

pub leads_up_to : (log : Log) (p : Pos) (r : CallRec) → Counted log p → IsCall log r → leads p r ≡ true → UpTo log (place_of r) p
leads_up_to log p r to is passes = leads_by log p r to is (up_to p (place_of r)) refl passes

-- ---- records up to the last that passes a test, and the others

abbrev pub take_to : (CallRec → Bool) → List CallRec → List CallRec
take_to test [] = []
take_to test (r ∷ rs) = if passes test (r ∷ rs) then r ∷ take_to test rs else []

abbrev pub drop_to : (CallRec → Bool) → List CallRec → List CallRec
drop_to test [] = []
drop_to test (r ∷ rs) = if passes test (r ∷ rs) then drop_to test rs else r ∷ rs

-- each record is recorded before those after it
abbrev pub Chain : Log → List CallRec → Type 0
Chain log [] = Unit {0}
Chain log (r ∷ rs) = ((s : CallRec) → Among s rs → RecordedOrder log (place_of r) (place_of s)) × Chain log rs

found_by : (test : CallRec → Bool) (r : CallRec) (rs : List CallRec) → (b : Bool) → test r ≡ b → (b || passes test rs) ≡ true
    → (passes test rs ≡ true → (c : CallRec) × Among c rs × (test c ≡ true)) → (c : CallRec) × Among c (r ∷ rs) × (test c ≡ true)
found_by test r rs true e h rest = (r, inl refl, e)
found_by test r rs false e h rest = let c : (c : CallRec) × Among c rs × (test c ≡ true) = rest h in (c.0, inr c.1, c.2)

pub found : (test : CallRec → Bool) (rs : List CallRec) → passes test rs ≡ true → (c : CallRec) × Among c rs × (test c ≡ true)
found test [] e = absurd (false≢true e)
found test (r ∷ rs) e = found_by test r rs (test r) refl e (found test rs)

pub passes_by : (test : CallRec → Bool) (rs : List CallRec) (c : CallRec) → Among c rs → test c ≡ true → passes test rs ≡ true
passes_by test [] c has e = absurd has
passes_by test (r ∷ rs) c (inl same) e = ap (λ (b : Bool). b || passes test rs) (ap test same ∙ e)
passes_by test (r ∷ rs) c (inr has) e = or_true (test r) (passes test rs) (passes_by test rs c has e) where
  or_true : (b d : Bool) → d ≡ true → (b || d) ≡ true
  or_true true d h = refl
  or_true false d h = h

among_split_by : (test : CallRec → Bool) (r : CallRec) (rs : List CallRec) (x : CallRec) → Among x (r ∷ rs) → (b : Bool)
    → (Among x rs → Among x (take_to test rs) ⊎ Among x (drop_to test rs)) → Among x (cond b (r ∷ take_to test rs) []) ⊎ Among x (cond b (drop_to test rs) (r ∷ rs))
among_split_by test r rs x (inl e) true rest = inl (inl e)
among_split_by test r rs x (inr has) true rest = elim (rest has) [ inl t ↦ inl (inr t) | inr d ↦ inr d ]
among_split_by test r rs x has false rest = inr has

pub among_split : (test : CallRec → Bool) (rs : List CallRec) (x : CallRec) → Among x rs → Among x (take_to test rs) ⊎ Among x (drop_to test rs)
among_split test [] x has = absurd has
among_split test (r ∷ rs) x has = among_split_by test r rs x has (passes test (r ∷ rs)) (among_split test rs x)

taken_by : (test : CallRec → Bool) (r : CallRec) (rs : List CallRec) (x : CallRec) → (b : Bool) → Among x (cond b (r ∷ take_to test rs) []) → (Among x (take_to test rs) → Among x rs) → Among x (r ∷ rs)
taken_by test r rs x true (inl e) rest = inl e
taken_by test r rs x true (inr t) rest = inr (rest t)
taken_by test r rs x false t rest = absurd t

pub taken : (test : CallRec → Bool) (rs : List CallRec) (x : CallRec) → Among x (take_to test rs) → Among x rs
taken test [] x t = absurd t
taken test (r ∷ rs) x t = taken_by test r rs x (passes test (r ∷ rs)) t (taken test rs x)

left_by : (test : CallRec → Bool) (r : CallRec) (rs : List CallRec) (x : CallRec) → (b : Bool) → Among x (cond b (drop_to test rs) (r ∷ rs)) → (Among x (drop_to test rs) → Among x rs) → Among x (r ∷ rs)
left_by test r rs x true d rest = inr (rest d)
left_by test r rs x false d rest = d

pub left : (test : CallRec → Bool) (rs : List CallRec) (x : CallRec) → Among x (drop_to test rs) → Among x rs
left test [] x d = absurd d
left test (r ∷ rs) x d = left_by test r rs x (passes test (r ∷ rs)) d (left test rs x)

-- none that is left passes
left_none_by : (test : CallRec → Bool) (r : CallRec) (rs : List CallRec) (x : CallRec) → test x ≡ true → (b : Bool) → passes test (r ∷ rs) ≡ b → Among x (cond b (drop_to test rs) (r ∷ rs))
    → (Among x (drop_to test rs) → ⊥) → ⊥
left_none_by test r rs x e true h d rest = rest d
left_none_by test r rs x e false h d rest = false≢true (sym h ∙ passes_by test (r ∷ rs) x d e)

pub left_none : (test : CallRec → Bool) (rs : List CallRec) (x : CallRec) → Among x (drop_to test rs) → test x ≡ true → ⊥
left_none test [] x d e = d
left_none test (r ∷ rs) x d e = left_none_by test r rs x e (passes test (r ∷ rs)) refl d (λ (h : Among x (drop_to test rs)). left_none test rs x h e)

-- what is taken is recorded before what is left
taken_first_by : (log : Log) (test : CallRec → Bool) (r : CallRec) (rs : List CallRec) (x y : CallRec) → Chain log (r ∷ rs) → (b : Bool) → Among x (cond b (r ∷ take_to test rs) [])
    → Among y (cond b (drop_to test rs) (r ∷ rs)) → (Among x (take_to test rs) → Among y (drop_to test rs) → RecordedOrder log (place_of x) (place_of y)) → RecordedOrder log (place_of x) (place_of y)
taken_first_by log test r rs x y chain true (inl e) d rest =
    subst (λ (z : CallRec). RecordedOrder log (place_of z) (place_of y)) e (chain.0 y (left test rs y d))
taken_first_by log test r rs x y chain true (inr t) d rest = rest t d
taken_first_by log test r rs x y chain false t d rest = absurd t

pub taken_first : (log : Log) (test : CallRec → Bool) (rs : List CallRec) (x y : CallRec) → Chain log rs → Among x (take_to test rs) → Among y (drop_to test rs)
    → RecordedOrder log (place_of x) (place_of y)
taken_first log test [] x y chain t d = absurd t
taken_first log test (r ∷ rs) x y chain t d = taken_first_by log test r rs x y chain (passes test (r ∷ rs)) t d (taken_first log test rs x y chain.1)

chain_take_by : (log : Log) (test : CallRec → Bool) (r : CallRec) (rs : List CallRec) → Chain log (r ∷ rs) → (b : Bool) → Chain log (take_to test rs) → Chain log (cond b (r ∷ take_to test rs) [])
chain_take_by log test r rs chain true rest = (λ (s : CallRec) (t : Among s (take_to test rs)). chain.0 s (taken test rs s t), rest)
chain_take_by log test r rs chain false rest = tt

pub chain_take : (log : Log) (test : CallRec → Bool) (rs : List CallRec) → Chain log rs → Chain log (take_to test rs)
chain_take log test [] chain = tt
chain_take log test (r ∷ rs) chain = chain_take_by log test r rs chain (passes test (r ∷ rs)) (chain_take log test rs chain.1)

chain_drop_by : (log : Log) (test : CallRec → Bool) (r : CallRec) (rs : List CallRec) → Chain log (r ∷ rs) → (b : Bool) → Chain log (drop_to test rs) → Chain log (cond b (drop_to test rs) (r ∷ rs))
chain_drop_by log test r rs chain true rest = rest
chain_drop_by log test r rs chain false rest = chain

pub chain_drop : (log : Log) (test : CallRec → Bool) (rs : List CallRec) → Chain log rs → Chain log (drop_to test rs)
chain_drop log test [] chain = tt
chain_drop log test (r ∷ rs) chain = chain_drop_by log test r rs chain (passes test (r ∷ rs)) (chain_drop log test rs chain.1)

-- a record that is taken stands up to one that passes
pub record Reaches (log : Log) (test : CallRec → Bool) (rs : List CallRec) (x : CallRec) : Type 0 where
  pub last : CallRec
  pub among : Among last rs
  pub passes : test last ≡ true
  pub up_to : UpTo log (place_of x) (place_of last)

reaches_first : (log : Log) (test : CallRec → Bool) (r : CallRec) (rs : List CallRec) → Chain log (r ∷ rs) → (c : CallRec) → Among c (r ∷ rs) → test c ≡ true → Reaches log test (r ∷ rs) r
reaches_first log test r rs chain c (inl e) passing = record { last = c; among = inl e; passes = passing; up_to = inl (ap place_of e) }
reaches_first log test r rs chain c (inr has) passing = record { last = c; among = inr has; passes = passing; up_to = inr (chain.0 c has) }

reaches_later : (log : Log) (test : CallRec → Bool) (r : CallRec) (rs : List CallRec) (x : CallRec) → Reaches log test rs x → Reaches log test (r ∷ rs) x
reaches_later log test r rs x h = record { last = h.last; among = inr h.among; passes = h.passes; up_to = h.up_to }

reaches_by : (log : Log) (test : CallRec → Bool) (r : CallRec) (rs : List CallRec) (x : CallRec) → Chain log (r ∷ rs) → (b : Bool) → passes test (r ∷ rs) ≡ b → Among x (cond b (r ∷ take_to test rs) [])
    → (Among x (take_to test rs) → Reaches log test rs x) → Reaches log test (r ∷ rs) x
reaches_by log test r rs x chain true e (inl same) rest =
    let c : (c : CallRec) × Among c (r ∷ rs) × (test c ≡ true) = found test (r ∷ rs) e in
    subst (λ (y : CallRec). Reaches log test (r ∷ rs) y) same (reaches_first log test r rs chain c.0 c.1 c.2)
reaches_by log test r rs x chain true e (inr t) rest = reaches_later log test r rs x (rest t)
reaches_by log test r rs x chain false e t rest = absurd t

pub reaches : (log : Log) (test : CallRec → Bool) (rs : List CallRec) (x : CallRec) → Chain log rs → Among x (take_to test rs) → Reaches log test rs x
reaches log test [] x chain t = absurd t
reaches log test (r ∷ rs) x chain t = reaches_by log test r rs x chain (passes test (r ∷ rs)) refl t (reaches log test rs x chain.1)

-- ---- what is first

pub first_left : (p q : Pos) (xs ys : List Pos) → First xs p q → First (xs ++ ys) p q
first_left p q [] ys f = absurd f
first_left p q (x ∷ xs) ys (e, inl same) = (e, inl same)
first_left p q (x ∷ xs) ys (e, inr f) = (e, inr (first_left p q xs ys f))

pub first_right : (p q : Pos) (xs ys : List Pos) → ((z : Pos) → In z xs → up_to z q ≡ false) → First ys p q → First (xs ++ ys) p q
first_right p q [] ys none f = f
first_right p q (x ∷ xs) ys none f = (none x (inl refl), inr (first_right p q xs ys (λ (z : Pos) (i : In z xs). none z (inr i)) f))

pub first_of_all : (p q : Pos) (xs : List Pos) → In p xs → ((z : Pos) → In z xs → up_to z q ≡ false) → First xs p q
first_of_all p q [] i none = absurd i
first_of_all p q (x ∷ xs) (inl e) none = (none x (inl refl), inl e)
first_of_all p q (x ∷ xs) (inr i) none = (none x (inl refl), inr (first_of_all p q xs i (λ (z : Pos) (j : In z xs). none z (inr j))))

pub in_places : (z : Pos) (rs : List CallRec) → In z (map place_of rs) → (r : CallRec) × Among r rs × (place_of r ≡ z)
in_places z [] i = absurd i
in_places z (r ∷ rs) (inl e) = (r, inl refl, e)
in_places z (r ∷ rs) (inr i) = let found : (r : CallRec) × Among r rs × (place_of r ≡ z) = in_places z rs i in (found.0, inr found.1, found.2)

-- ---- the merged list

abbrev pub merge : List CallRec → List Pos → List Pos
merge records [] = map place_of records
merge records (a ∷ chosen) = map place_of (take_to (leads a) records) ++ a ∷ merge (drop_to (leads a) records) chosen

pub in_merge : (chosen : List Pos) (rs : List CallRec) (z : Pos) → In z (merge rs chosen) → ((r : CallRec) × Among r rs × (place_of r ≡ z)) ⊎ In z chosen
in_merge [] rs z i = inl (in_places z rs i)
in_merge (a ∷ chosen) rs z i = elim (in-append z (map place_of (take_to (leads a) rs)) (a ∷ merge (drop_to (leads a) rs) chosen) i) [
  | inl t ↦ (let r : (r : CallRec) × Among r (take_to (leads a) rs) × (place_of r ≡ z) = in_places z (take_to (leads a) rs) t in inl (r.0, taken (leads a) rs r.0 r.1, r.2))
  | inr later ↦ elim later [
    | inl e ↦ inr (inl e)
    | inr j ↦ elim (in_merge chosen (drop_to (leads a) rs) z j) [
      | inl d ↦ inl (d.0, left (leads a) rs d.0 d.1, d.2)
      | inr c ↦ inr (inr c)
    ]
  ]
]

abbrev pub AreCalls : Log → List CallRec → Type 0
AreCalls log rs = (r : CallRec) → Among r rs → IsCall log r

-- a call that is recorded before a step is first among calls
pub call_first : (log : Log) → NoRing log → (rs : List CallRec) (x : CallRec) (q : Pos) → Chain log rs → AreCalls log rs → Counted log q → Among x rs → RecordedOrder log (place_of x) q
    → First (map place_of rs) (place_of x) q
call_first log ring [] x q chain are counted has order = absurd has
call_first log ring (r ∷ rs) x q chain are counted has order = (
  not_up_to log (place_of r) q (are r (inl refl)).counted counted
      (λ (up : UpTo log q (place_of r)). no_cycle log ring q (place_of r) (place_of x) up (up_from has) order),
  elim has [
    | inl e ↦ inl (ap place_of e)
    | inr later ↦ inr (call_first log ring rs x q chain.1 (λ (s : CallRec) (t : Among s rs). are s (inr t)) counted later order)
  ],
) where
  up_from : Among x (r ∷ rs) → UpTo log (place_of r) (place_of x)
  up_from (inl e) = inl (ap place_of e)
  up_from (inr later) = inr (chain.0 x later)

-- a call that leads to a step, and stands at or after another one
pub record LedTo (log : Log) (rs : List CallRec) (x : CallRec) (a : Pos) : Type 0 where
  pub by : CallRec
  pub among : Among by rs
  pub leads_on : leads a by ≡ true
  pub from : UpTo log (place_of x) (place_of by)

-- with a call that is left, the call by which it leads on is left too
led_left : (log : Log) → NoRing log → (test : CallRec → Bool) (rs : List CallRec) (x : CallRec) (a : Pos) → Chain log rs → Among x (drop_to test rs) → LedTo log rs x a → LedTo log (drop_to test rs) x a
led_left log ring test rs x a chain d led = elim (among_split test rs led.by led.among) [
  | inl t ↦ absurd (no_cycle log ring (place_of x) (place_of led.by) (place_of led.by) led.from (inl refl) (taken_first log test rs led.by x chain t d))
  | inr l ↦ record { by = led.by; among = l; leads_on = led.leads_on; from = led.from }
]

-- a call that is recorded before a step is first where it leads to each chosen step that stands at the step or after it
pub merge_call : (log : Log) → NoRing log → (chosen : List Pos) (rs : List CallRec) (x : CallRec) (q : Pos) → Chain log rs → AreCalls log rs → AreCounted log chosen → Counted log q
    → Among x rs → RecordedOrder log (place_of x) q → ((a : Pos) → In a chosen → up_to a q ≡ true → LedTo log rs x a) → First (merge rs chosen) (place_of x) q
merge_call log ring [] rs x q chain are among counted has order led = call_first log ring rs x q chain are counted has order
merge_call log ring (a ∷ chosen) rs x q chain are among counted has order led =
    let take : List CallRec = take_to (leads a) rs in
    let drop : List CallRec = drop_to (leads a) rs in
    let later : List Pos = a ∷ merge drop chosen in
    elim (among_split (leads a) rs x has) [
      | inl t ↦ first_left (place_of x) q (map place_of take) later
          (call_first log ring take x q (chain_take log (leads a) rs chain) (λ (s : CallRec) (h : Among s take). are s (taken (leads a) rs s h)) counted t order)
      | inr d ↦ first_right (place_of x) q (map place_of take) later
          (λ (z : Pos) (i : In z (map place_of take)).
          let r : (r : CallRec) × Among r take × (place_of r ≡ z) = in_places z take i in
          subst (λ (y : Pos). up_to y q ≡ false) r.2
          (not_up_to log (place_of r.0) q (are r.0 (taken (leads a) rs r.0 r.1)).counted counted
          (λ (up : UpTo log q (place_of r.0)). no_cycle log ring q (place_of r.0) (place_of x) up (inr (taken_first log (leads a) rs r.0 x chain r.1 d)) order))) (
            not_here (up_to a q) refl d,
            inr (merge_call log ring chosen drop x q (chain_drop log (leads a) rs chain) (λ (s : CallRec) (h : Among s drop). are s (left (leads a) rs s h))
                (λ (p : Pos) (i : In p chosen). among p (inr i)) counted d order
                (λ (b : Pos) (i : In b chosen) (e : up_to b q ≡ true). led_left log ring (leads a) rs x b chain d (led b (inr i) e))),
          )
    ] where
      not_here : (b : Bool) → up_to a q ≡ b → Among x (drop_to (leads a) rs) → b ≡ false
      not_here true e d =
          let l : LedTo log (drop_to (leads a) rs) x a = led_left log ring (leads a) rs x a chain d (led a (inl refl) e) in
          absurd (left_none (leads a) rs l.by l.among l.leads_on)
      not_here false e d = refl

-- a chosen step is first of those after it
pub merge_chosen : (log : Log) (R : Pos → Pos → Type 0) (chosen : List Pos) (rs : List CallRec) (a b : Pos) → Chain log rs → AreCalls log rs → AreCounted log chosen → Counted log b
    → Keeps R chosen → In a chosen → (R a a → ⊥) → ((x : Pos) → In x chosen → UpTo log b x → R a x) → First (merge rs chosen) a b
merge_chosen log R [] rs a b chain are among counted keeps i once after = absurd i
merge_chosen log R (x ∷ chosen) rs a b chain are among counted keeps i once after =
    let take : List CallRec = take_to (leads x) rs in
    let drop : List CallRec = drop_to (leads x) rs in
    first_right a b (map place_of take) (x ∷ merge drop chosen)
    (λ (z : Pos) (j : In z (map place_of take)).
    let r : (r : CallRec) × Among r take × (place_of r ≡ z) = in_places z take j in
    let on : Reaches log (leads x) rs r.0 = reaches log (leads x) rs r.0 chain r.1 in
    let up : UpTo log (place_of r.0) x =
    up_to_then log (place_of r.0) (place_of on.last) x on.up_to (leads_up_to log x on.last (among x (inl refl)) (are on.last on.among) on.passes) in
    subst (λ (y : Pos). up_to y b ≡ false) r.2
    (not_up_to log (place_of r.0) b (are r.0 (taken (leads x) rs r.0 r.1)).counted counted (λ (h : UpTo log b (place_of r.0)). never i (up_to_then log b (place_of r.0) x h up)))) (
      not_up_to log x b (among x (inl refl)) counted (never i),
      elim i [
        | inl e ↦ inl e
        | inr j ↦ inr (merge_chosen log R chosen drop a b (chain_drop log (leads x) rs chain) (λ (s : CallRec) (h : Among s drop). are s (left (leads x) rs s h))
            (λ (p : Pos) (k : In p chosen). among p (inr k)) counted keeps.1 j once (λ (y : Pos) (k : In y chosen). after y (inr k)))
      ],
    ) where
      never : In a (x ∷ chosen) → UpTo log b x → ⊥
      never (inl e) up = once (subst (λ (y : Pos). R a y) e (after x (inl refl) up))
      never (inr j) up = keeps.0 a j (after x (inl refl) up)
