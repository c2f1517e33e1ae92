-- Links and reservations of a guided walk, by the load-reserveds and store-conditionals of the log's walk.
use Rattle.std.specs.Prelude.{◌≡◌, ◌≢◌, ◌↔◌, ℕ, zero, suc, ◌<◌, ◌≤◌, Bool, true, false, cond, List, [], ◌∷◌, length, nat_eq, Option, option_map, Some, None, Result, refl}
use Rattle.std.proofs.Common.{sym, ◌∙◌, ap, subst, arith, inl, inr, get_or, eqb, eq-eqb}
use Rattle.std.proofs.lemmas.Bool.{cases_lt, eqb-true, false≢true, ne_eqb}
use Rattle.std.proofs.lemmas.Option.{none-some, same_Some}
use Rattle.elf_image.specs.declared.write.Write.{Write}
use Rattle.elf_image.specs.Layout.{Layout}
use Rattle.rv32_decode.specs.declared.instr.Instr.{Instr}
use Rattle.rv32_decode.specs.declared.instr.Instr.TheVariants as instr
use Rattle.odr_log.specs.declared.log.Cause.{Cause}
use Rattle.odr_log.specs.declared.log.Log.{Log}
use Rattle.odr_log.specs.declared.log.Pos.{Pos}
use Rattle.rv_model.specs.declared.hearing.Outcome.{Outcome}
use Rattle.rv_model.specs.declared.hearing.Outcome.TheVariants.{Faults, Goes}
use Rattle.rv_model.specs.declared.state.Local.{Local}
use Rattle.rv_model.specs.declared.state.Note.{Note}
use Rattle.rv_model.specs.declared.state.Note.TheVariants as note
use Rattle.rv_model.specs.declared.walk.Place.{Place}
use Rattle.rv_model.specs.Instruction.{access_at, access_of, reserving, reserving_at, wins}
use Rattle.rv_model.specs.Noted.{note_in, writes_in}
use Rattle.rv_model.specs.RecordedOrder.{Counted}
use Rattle.rv_model.specs.Thread.{surviving, touches}
use Rattle.rv_model.specs.Walk.{IsWalk, Walk, notes_of, places_of}
use Rattle.guided_walk.specs.Fits.{reserved}
use Rattle.guided_walk.specs.Guided.{Given, IsGuided, Seen, Visits, at, instr_of, seen_before, went}
use Rattle.guided_walk.specs.Orders.{In, Stands}
use Rattle.guided_walk.specs.Schedules.{count, next_of}
use Rattle.guided_walk.specs.Told.{IsPlace, told}
use Rattle.guided_walk.proofs.Along.{Next, count_own}
use Rattle.guided_walk.proofs.Facts.{noted_step}
use Rattle.guided_walk.proofs.NeedsOrder.{counted_place}
use Rattle.guided_walk.proofs.Table.{same_pos}
use Rattle.guided_walk.proofs.Whole.{not_fault, place_kind}
use Rattle.walk_facts.specs.Law.{LinkLaw, ReservedLaw}
use Rattle.walk_facts.specs.Links.{AreNext, HasReserved, IsLinkedTo, IsUntouched, LooksBackLaw, access_address, back_in, instr_in, is_linking, is_reserving, link_address, link_after, looks_back}
use Rattle.walk_facts.specs.Steps.{instr_of_step, step_of}
use Rattle.walk_facts.proofs.Addresses.{counted_is_place, instr_is, seen_is}

-- ---- what an instruction does to a link

record Reserves (i : Instr) : Type 0 where
  reserving_is : (l : Local) (r : Option ℕ) → reserving l i r ≡ Some (access_of l i).address
  link_is : (k : ℕ) (back : Option ℕ) → link_after i k back ≡ Some k
  reserves : is_reserving i ≡ true
  links : is_linking i ≡ true

record Ends (i : Instr) : Type 0 where
  reserving_is : (l : Local) (r : Option ℕ) → reserving l i r ≡ None
  link_is : (k : ℕ) (back : Option ℕ) → link_after i k back ≡ None
  reserves : is_reserving i ≡ false
  links : is_linking i ≡ true

record Keeps (i : Instr) : Type 0 where
  reserving_is : (l : Local) (r : Option ℕ) → reserving l i r ≡ r
  link_is : (k : ℕ) (back : Option ℕ) → link_after i k back ≡ back
  reserves : is_reserving i ≡ false
  links : is_linking i ≡ false

data Linking (i : Instr) : Type 0 where
  IsReserve : Reserves i → Linking i
  IsEnd : Ends i → Linking i
  IsKeep : Keeps i → Linking i

linking : (i : Instr) → Linking i
unfolding reserving access_of link_after
linking (instr.LoadReserved rd rs1 aq rl) =
    IsReserve (record { reserving_is = λ (l : Local) (r : Option ℕ). refl; link_is = λ (k : ℕ) (back : Option ℕ). refl; reserves = refl; links = refl })
linking (instr.StoreConditional rd rs1 rs2 aq rl) =
    IsEnd (record { reserving_is = λ (l : Local) (r : Option ℕ). refl; link_is = λ (k : ℕ) (back : Option ℕ). refl; reserves = refl; links = refl })
linking (instr.Lui rd imm) =
    IsKeep (record { reserving_is = λ (l : Local) (r : Option ℕ). refl; link_is = λ (k : ℕ) (back : Option ℕ). refl; reserves = refl; links = refl })
linking (instr.Auipc rd imm) =
    IsKeep (record { reserving_is = λ (l : Local) (r : Option ℕ). refl; link_is = λ (k : ℕ) (back : Option ℕ). refl; reserves = refl; links = refl })
linking (instr.Jal rd offset) =
    IsKeep (record { reserving_is = λ (l : Local) (r : Option ℕ). refl; link_is = λ (k : ℕ) (back : Option ℕ). refl; reserves = refl; links = refl })
linking (instr.Jalr rd rs1 offset) =
    IsKeep (record { reserving_is = λ (l : Local) (r : Option ℕ). refl; link_is = λ (k : ℕ) (back : Option ℕ). refl; reserves = refl; links = refl })
linking (instr.Branch op rs1 rs2 offset) =
    IsKeep (record { reserving_is = λ (l : Local) (r : Option ℕ). refl; link_is = λ (k : ℕ) (back : Option ℕ). refl; reserves = refl; links = refl })
linking (instr.Load op rd rs1 offset) =
    IsKeep (record { reserving_is = λ (l : Local) (r : Option ℕ). refl; link_is = λ (k : ℕ) (back : Option ℕ). refl; reserves = refl; links = refl })
linking (instr.Store op rs1 rs2 offset) =
    IsKeep (record { reserving_is = λ (l : Local) (r : Option ℕ). refl; link_is = λ (k : ℕ) (back : Option ℕ). refl; reserves = refl; links = refl })
linking (instr.Imm op rd rs1 imm) =
    IsKeep (record { reserving_is = λ (l : Local) (r : Option ℕ). refl; link_is = λ (k : ℕ) (back : Option ℕ). refl; reserves = refl; links = refl })
linking (instr.Op op rd rs1 rs2) =
    IsKeep (record { reserving_is = λ (l : Local) (r : Option ℕ). refl; link_is = λ (k : ℕ) (back : Option ℕ). refl; reserves = refl; links = refl })
linking (instr.Fence rd rs1 imm) =
    IsKeep (record { reserving_is = λ (l : Local) (r : Option ℕ). refl; link_is = λ (k : ℕ) (back : Option ℕ). refl; reserves = refl; links = refl })
linking instr.Ecall =
    IsKeep (record { reserving_is = λ (l : Local) (r : Option ℕ). refl; link_is = λ (k : ℕ) (back : Option ℕ). refl; reserves = refl; links = refl })
linking instr.Ebreak =
    IsKeep (record { reserving_is = λ (l : Local) (r : Option ℕ). refl; link_is = λ (k : ℕ) (back : Option ℕ). refl; reserves = refl; links = refl })
linking (instr.Amo op rd rs1 rs2 aq rl) =
    IsKeep (record { reserving_is = λ (l : Local) (r : Option ℕ). refl; link_is = λ (k : ℕ) (back : Option ℕ). refl; reserves = refl; links = refl })

-- ---- looking back

linked_here : (places : List Place) (s : ℕ) → Reserves (instr_in places s) → IsLinkedTo places (suc s) s
linked_here places s is = record {
  earlier = omega arith;
  reserves = is.reserves;
  last = λ (k : ℕ) (after : s < k) (before : k < suc s). absurd (omega (arith, after, before));
}

linked_on : (places : List Place) (s lr : ℕ) → Keeps (instr_in places s) → IsLinkedTo places s lr → IsLinkedTo places (suc s) lr
linked_on places s lr kept is = record {
  earlier = omega (arith, is.earlier);
  reserves = is.reserves;
  last = λ (k : ℕ) (after : lr < k) (before : k < suc s). elim (cases_lt k s) [
    | inl less ↦ is.last k after less
    | inr more ↦ (let e : s ≡ k = omega (arith, more, before) in subst (λ (n : ℕ). is_linking (instr_in places n) ≡ false) e kept.links)
  ];
}

linked_by_one : (places : List Place) (s lr : ℕ) → Linking (instr_in places s) → link_after (instr_in places s) s (looks_back places s) ≡ Some lr
    → (looks_back places s ≡ Some lr → IsLinkedTo places s lr) → IsLinkedTo places (suc s) lr
linked_by_one places s lr (IsReserve is) e before =
    subst (IsLinkedTo places (suc s)) (same_Some s lr (sym (is.link_is s (looks_back places s)) ∙ e)) (linked_here places s is)
linked_by_one places s lr (IsEnd is) e before = absurd (none-some lr (sym (is.link_is s (looks_back places s)) ∙ e))
linked_by_one places s lr (IsKeep is) e before = linked_on places s lr is (before (sym (is.link_is s (looks_back places s)) ∙ e))

back_is : (places : List Place) (s lr : ℕ) → looks_back places s ≡ Some lr → IsLinkedTo places s lr
back_is places zero lr e = absurd (none-some lr e)
back_is places (suc s) lr e = linked_by_one places s lr (linking (instr_in places s)) e (back_is places s lr)

back_by_one : (places : List Place) (s lr : ℕ) → Linking (instr_in places s) → IsLinkedTo places (suc s) lr → (IsLinkedTo places s lr → looks_back places s ≡ Some lr)
    → link_after (instr_in places s) s (looks_back places s) ≡ Some lr
back_by_one places s lr (IsReserve is) at before = elim (cases_lt lr s) [
  | inl less ↦ absurd (false≢true (sym (at.last s less (omega arith)) ∙ is.links))
  | inr more ↦ (let e : s ≡ lr = omega (arith, more, at.earlier) in is.link_is s (looks_back places s) ∙ ap (λ (n : ℕ). Some n) e)
]
back_by_one places s lr (IsEnd is) at before = elim (cases_lt lr s) [
  | inl less ↦ absurd (false≢true (sym (at.last s less (omega arith)) ∙ is.links))
  | inr more ↦ (let e : lr ≡ s = omega (arith, more, at.earlier) in
      absurd (false≢true (sym is.reserves ∙ sym (ap (λ (n : ℕ). is_reserving (instr_in places n)) e) ∙ at.reserves)))
]
back_by_one places s lr (IsKeep is) at before = elim (cases_lt lr s) [
  | inl less ↦ (
      let shorter : IsLinkedTo places s lr = record {
        earlier = less;
        reserves = at.reserves;
        last = λ (k : ℕ) (after : lr < k) (inside : k < s). at.last k after (omega (arith, inside));
      } in
      is.link_is s (looks_back places s) ∙ before shorter)
  | inr more ↦ (let e : lr ≡ s = omega (arith, more, at.earlier) in
      absurd (false≢true (sym is.reserves ∙ sym (ap (λ (n : ℕ). is_reserving (instr_in places n)) e) ∙ at.reserves)))
]

is_back : (places : List Place) (s lr : ℕ) → IsLinkedTo places s lr → looks_back places s ≡ Some lr
is_back places zero lr at = absurd (omega (arith, at.earlier))
is_back places (suc s) lr at = back_by_one places s lr (linking (instr_in places s)) at (is_back places s lr)

pub looks_back_law : LooksBackLaw
looks_back_law places s lr = (back_is places s lr, is_back places s lr)

-- ---- the link of a step

link_more : (A : ℕ → ℕ) (l : Local) (i : Instr) (k : ℕ) (back link : Option ℕ) → Linking i → A k ≡ (access_of l i).address → link ≡ option_map A back
    → reserving l i link ≡ option_map A (link_after i k back)
link_more A l i k back link (IsReserve is) here e = is.reserving_is l link ∙ ap (λ (n : ℕ). Some n) (sym here) ∙ sym (ap (option_map A) (is.link_is k back))
link_more A l i k back link (IsEnd is) here e = is.reserving_is l link ∙ sym (ap (option_map A) (is.link_is k back))
link_more A l i k back link (IsKeep is) here e = is.reserving_is l link ∙ e ∙ sym (ap (option_map A) (is.link_is k back))

-- a step that shows no fault goes on
went_link : (image : Layout) (seen : Seen) (o : Outcome) (n : Note) → note_in o ≡ n → ((fault : Cause) → n ≡ note.Faulted fault → ⊥)
    → (went image seen o).link ≡ reserving_at seen.local (instr_of image seen) seen.link
went_link image seen (Faults fault) n shows quiet = absurd (quiet fault (sym shows))
went_link image seen (Goes local writes shown) n shows quiet = refl

-- the address of an access by its instruction
access_by : (image : Layout) (log : Log) (walk : Walk) (given : Given) (v : Visits) → IsWalk image log walk → IsGuided image (told log walk) given v → (p : Pos) → Counted log p
    → access_address image v p ≡ (access_of (at v p).seen.local (instr_of_step walk p)).address
access_by image log walk given v is guided p counted =
    ap (λ (r : Result Instr Cause). (access_at (at v p).seen.local r).address) (instr_is image log walk given v is guided p counted)

link_before : (image : Layout) (log : Log) (walk : Walk) (given : Given) (v : Visits) → IsWalk image log walk → IsGuided image (told log walk) given v
    → (t s : ℕ) → s ≤ length (notes_of walk t) → (seen_before image (told log walk) v t s).link ≡ link_address image walk v t s
link_before image log walk given v is guided t zero few = refl
link_before image log walk given v is guided t (suc s) few =
    let p : Pos = step_of t s in
    let within : s < length (notes_of walk t) = omega (arith, few) in
    let counted : Counted log p = counted_place image log walk is p within in
    let place : IsPlace (told log walk) p = counted_is_place image log walk is p counted in
    let seen : Seen = (at v p).seen in
    let i : Instr = instr_of_step walk p in
    let shows : note_in (at v p).outcome ≡ get_or (notes_of walk t) s note.Nothing = guided.shows p place ∙ noted_step log walk p within in
    let before : seen.link ≡ link_address image walk v t s =
    ap (λ (x : Seen). x.link) (seen_is image log walk given v guided p place) ∙ link_before image log walk given v is guided t s (omega (arith, few)) in
    went_link image seen (at v p).outcome (get_or (notes_of walk t) s note.Nothing) shows (not_fault image log walk is t s within)
    ∙ ap (λ (r : Result Instr Cause). reserving_at seen.local r seen.link) (instr_is image log walk given v is guided p counted)
    ∙ link_more (λ (lr : ℕ). access_address image v (step_of t lr)) seen.local i s (back_in walk t s) seen.link (linking i)
    (access_by image log walk given v is guided p counted) before

pub place_few : (log : Log) (walk : Walk) (p : Pos) → IsPlace (told log walk) p → p.step ≤ length (notes_of walk p.thread)
place_few log walk p place = elim (place_kind log walk p place) [
  | inl within ↦ omega (arith, within)
  | inr fault ↦ omega (arith, fault.at)
]

pub link_law : LinkLaw
link_law image log walk given v p is guided place =
    ap (λ (x : Seen). x.link) (seen_is image log walk given v guided p place)
    ∙ link_before image log walk given v is guided p.thread p.step (place_few log walk p place)

-- ---- reservations

below_next : (done : List Pos) → AreNext done → (q : Pos) → In q done → q.step < count q.thread done
below_next [] next q i = absurd i
below_next (p ∷ older) next q (inl e) =
    subst (λ (r : Pos). r.step < count r.thread (p ∷ older)) e (own (nat_eq p.thread p.thread) (eq-eqb p.thread p.thread refl)) where
      own : (b : Bool) → b ≡ true → p.step < cond b (suc (count p.thread older)) (count p.thread older)
      own true same = omega (arith, next.0)
      own false same = absurd (false≢true same)
below_next (p ∷ older) next q (inr i) = more (nat_eq p.thread q.thread) (below_next older next.1 q i) where
  more : (b : Bool) → q.step < count q.thread older → q.step < cond b (suc (count q.thread older)) (count q.thread older)
  more true less = omega (arith, less)
  more false less = less

next_in_by : (p : Pos) (older : List Pos) (t k : ℕ) (b : Bool) → eqb p.thread t ≡ b → p.step ≡ count p.thread older → k < cond b (suc (count t older)) (count t older)
    → (k < count t older → In (step_of t k) older) → In (step_of t k) (p ∷ older)
next_in_by p older t k true e next less rest = elim (cases_lt k (count t older)) [
  | inl before ↦ inr (rest before)
  | inr more ↦ (
      let same : p.thread ≡ t = eqb-true p.thread t e in
      let at : p.step ≡ k = next ∙ ap (λ (u : ℕ). count u older) same ∙ (let z : count t older ≡ k = omega (arith, less, more) in z) in
      inl (sym (same_pos (step_of t k) p same at)))
]
next_in_by p older t k false e next less rest = inr (rest less)

next_in : (done : List Pos) → AreNext done → (t k : ℕ) → k < count t done → In (step_of t k) done
next_in [] next t k less = absurd (omega (arith, less))
next_in (p ∷ older) next t k less = next_in_by p older t k (eqb p.thread t) refl next.0 less (next_in older next.1 t k)

stands_last : (p q : Pos) (xs : List Pos) → Stands xs p q → In q xs
stands_last p q [] s = absurd s
stands_last p q (x ∷ xs) (inl s) = inr s.1
stands_last p q (x ∷ xs) (inr s) = inr (stands_last p q xs s)

-- what is reserved before and after a step, where the newest stands first
abbrev Is : Layout → Walk → Visits → List Pos → ℕ → Type 0
Is image walk v done u = (a : ℕ) → (reserved image v u done ≡ Some a) ↔ HasReserved image walk v done u a

-- ---- a step of the thread itself

untouched_here : (v : Visits) (older : List Pos) (u a : ℕ) → AreNext older → IsUntouched v (Next u older) (step_of u (count u older)) a
untouched_here v older u a next q ne (inl s) = absurd (ne (ap (λ (x : Pos). x.thread) (sym s.0)))
untouched_here v older u a next q ne (inr s) =
    absurd (omega (arith, below_next older next (step_of u (count u older)) (stands_last q (step_of u (count u older)) older s)))

untouched_own : (v : Visits) (older : List Pos) (u lr a : ℕ) → IsUntouched v older (step_of u lr) a → IsUntouched v (Next u older) (step_of u lr) a
untouched_own v older u lr a is q ne (inl s) = absurd (ne (ap (λ (x : Pos). x.thread) (sym s.0)))
untouched_own v older u lr a is q ne (inr s) = is q ne s

own_forward : (image : Layout) (walk : Walk) (v : Visits) (older : List Pos) (u a : ℕ) (l : Local) → AreNext older
    → access_address image v (step_of u (count u older)) ≡ (access_of l (instr_in (places_of walk u) (count u older))).address
    → Linking (instr_in (places_of walk u) (count u older)) → Is image walk v older u
    → reserving l (instr_in (places_of walk u) (count u older)) (reserved image v u older) ≡ Some a → HasReserved image walk v (Next u older) u a
own_forward image walk v older u a l next at (IsReserve is) before e =
    let k : ℕ = count u older in
    record {
      lr = k;
      back = ap (back_in walk u) (count_own u older) ∙ is.link_is k (back_in walk u k);
      is = at ∙ same_Some _ a (sym (is.reserving_is l (reserved image v u older)) ∙ e);
      untouched = untouched_here v older u a next;
    }
own_forward image walk v older u a l next at (IsEnd is) before e = absurd (none-some a (sym (is.reserving_is l (reserved image v u older)) ∙ e))
own_forward image walk v older u a l next at (IsKeep is) before e =
    let k : ℕ = count u older in
    let has : HasReserved image walk v older u a = (before a).0 (sym (is.reserving_is l (reserved image v u older)) ∙ e) in
    record {
      lr = has.lr;
      back = ap (back_in walk u) (count_own u older) ∙ is.link_is k (back_in walk u k) ∙ has.back;
      is = has.is;
      untouched = untouched_own v older u has.lr a has.untouched;
    }

own_back : (image : Layout) (walk : Walk) (v : Visits) (older : List Pos) (u a : ℕ) (l : Local)
    → access_address image v (step_of u (count u older)) ≡ (access_of l (instr_in (places_of walk u) (count u older))).address
    → Linking (instr_in (places_of walk u) (count u older)) → Is image walk v older u
    → HasReserved image walk v (Next u older) u a → reserving l (instr_in (places_of walk u) (count u older)) (reserved image v u older) ≡ Some a
own_back image walk v older u a l at (IsReserve is) before has =
    let k : ℕ = count u older in
    let same : k ≡ has.lr = same_Some k has.lr (sym (is.link_is k (back_in walk u k)) ∙ sym (ap (back_in walk u) (count_own u older)) ∙ has.back) in
    is.reserving_is l (reserved image v u older)
    ∙ ap (λ (n : ℕ). Some n) (sym at ∙ ap (λ (n : ℕ). access_address image v (step_of u n)) same ∙ has.is)
own_back image walk v older u a l at (IsEnd is) before has =
    let k : ℕ = count u older in
    absurd (none-some has.lr (sym (is.link_is k (back_in walk u k)) ∙ sym (ap (back_in walk u) (count_own u older)) ∙ has.back))
own_back image walk v older u a l at (IsKeep is) before has =
    let k : ℕ = count u older in
    is.reserving_is l (reserved image v u older)
    ∙ (before a).1 (record {
      lr = has.lr;
      back = sym (is.link_is k (back_in walk u k)) ∙ sym (ap (back_in walk u) (count_own u older)) ∙ has.back;
      is = has.is;
      untouched = λ (q : Pos) (ne : q.thread ≢ u) (s : Stands older q (step_of u has.lr)). has.untouched q ne (inr s);
    })

reserved_own : (image : Layout) (v : Visits) (u : ℕ) (older : List Pos)
    → reserved image v u (Next u older) ≡ reserving_at (at v (next_of u older)).seen.local (instr_of image (at v (next_of u older)).seen) (reserved image v u older)
reserved_own image v u older =
    let p : Pos = next_of u older in
    ap (λ (b : Bool). cond b (reserving_at (at v p).seen.local (instr_of image (at v p).seen) (reserved image v u older)) (surviving (writes_in (at v p).outcome) (reserved image v u older)))
    (eq-eqb u u refl)

own_step : (image : Layout) (log : Log) (walk : Walk) (given : Given) (v : Visits) → IsWalk image log walk → IsGuided image (told log walk) given v
    → (older : List Pos) (u : ℕ) → AreNext older → Counted log (next_of u older) → Is image walk v older u → Is image walk v (Next u older) u
own_step image log walk given v is guided older u next counted before a =
    let p : Pos = next_of u older in
    let l : Local = (at v p).seen.local in
    let i : Instr = instr_in (places_of walk u) (count u older) in
    let here : reserved image v u (Next u older) ≡ reserving l i (reserved image v u older) =
    reserved_own image v u older ∙ ap (λ (r : Result Instr Cause). reserving_at l r (reserved image v u older)) (instr_is image log walk given v is guided p counted) in
    let address : access_address image v p ≡ (access_of l i).address = access_by image log walk given v is guided p counted in (
      (λ (e : reserved image v u (Next u older) ≡ Some a). own_forward image walk v older u a l next address (linking i) before (sym here ∙ e)),
      λ (has : HasReserved image walk v (Next u older) u a). here ∙ own_back image walk v older u a l address (linking i) before has,
    )

-- ---- a step of another thread

survives_by : (b : Bool) (r a : ℕ) → cond b None (Some r) ≡ Some a → (Some r ≡ Some a) × (b ≡ false)
survives_by true r a e = absurd (none-some a e)
survives_by false r a e = (e, refl)

surviving_parts : (ws : List Write) (o : Option ℕ) (a : ℕ) → surviving ws o ≡ Some a → (o ≡ Some a) × (touches ws a ≡ false)
surviving_parts ws None a e = absurd (none-some a e)
surviving_parts ws (Some r) a e =
    let parts : (Some r ≡ Some a) × (touches ws r ≡ false) = survives_by (touches ws r) r a e in
    (parts.0, subst (λ (n : ℕ). touches ws n ≡ false) (same_Some r a parts.0) parts.1)

surviving_from : (ws : List Write) (o : Option ℕ) (a : ℕ) → o ≡ Some a → touches ws a ≡ false → surviving ws o ≡ Some a
surviving_from ws o a e quiet = ap (surviving ws) e ∙ ap (λ (b : Bool). cond b None (Some a)) quiet

other_step : (image : Layout) (walk : Walk) (v : Visits) (older : List Pos) (p : Pos) (u : ℕ) → AreNext older → (p.thread ≢ u) → Is image walk v older u → Is image walk v (p ∷ older) u
other_step image walk v older p u next ne before a =
    let apart : nat_eq p.thread u ≡ false = ne_eqb p.thread u ne in
    let ws : List Write = writes_in (at v p).outcome in
    let counts : count u (p ∷ older) ≡ count u older = ap (λ (b : Bool). cond b (suc (count u older)) (count u older)) apart in
    let here : reserved image v u (p ∷ older) ≡ surviving ws (reserved image v u older) =
    ap (λ (b : Bool). cond b (reserving_at (at v p).seen.local (instr_of image (at v p).seen) (reserved image v u older)) (surviving ws (reserved image v u older))) apart in (
      (λ (e : reserved image v u (p ∷ older) ≡ Some a).
          let parts : (reserved image v u older ≡ Some a) × (touches ws a ≡ false) = surviving_parts ws (reserved image v u older) a (sym here ∙ e) in
          let has : HasReserved image walk v older u a = (before a).0 parts.0 in
          record {
            lr = has.lr;
            back = ap (back_in walk u) counts ∙ has.back;
            is = has.is;
            untouched = λ (q : Pos) (other : q.thread ≢ u) (s : Stands (p ∷ older) q (step_of u has.lr)). elim s [
              | inl first ↦ subst (λ (x : Pos). touches (writes_in (at v x).outcome) a ≡ false) first.0 parts.1
              | inr later ↦ has.untouched q other later
            ];
          }),
      λ (has : HasReserved image walk v (p ∷ older) u a).
          let back : back_in walk u (count u older) ≡ Some has.lr = sym (ap (back_in walk u) counts) ∙ has.back in
          let there : In (step_of u has.lr) older = next_in older next u has.lr (back_is (places_of walk u) (count u older) has.lr back).earlier in
          here
          ∙ surviving_from ws (reserved image v u older) a
          ((before a).1 (record {
            lr = has.lr;
            back = back;
            is = has.is;
            untouched = λ (q : Pos) (other : q.thread ≢ u) (s : Stands older q (step_of u has.lr)). has.untouched q other (inr s);
          }))
          (has.untouched p ne (inl (refl, there))),
    )

-- ---- all steps

by_thread : (image : Layout) (log : Log) (walk : Walk) (given : Given) (v : Visits) → IsWalk image log walk → IsGuided image (told log walk) given v
    → (older : List Pos) (p : Pos) (u : ℕ) → AreNext (p ∷ older) → Counted log p → (b : Bool) → eqb p.thread u ≡ b → Is image walk v older u → Is image walk v (p ∷ older) u
by_thread image log walk given v is guided older p u next counted true e before =
    let same : p.thread ≡ u = eqb-true p.thread u e in
    let here : next_of u older ≡ p = same_pos (next_of u older) p same (next.0 ∙ ap (λ (t : ℕ). count t older) same) in
    subst (λ (x : Pos). Is image walk v (x ∷ older) u) here
    (own_step image log walk given v is guided older u next.1 (subst (Counted log) (sym here) counted) before)
by_thread image log walk given v is guided older p u next counted false e before =
    other_step image walk v older p u next.1 (λ (same : p.thread ≡ u). false≢true (sym e ∙ eq-eqb p.thread u same)) before

nothing_first : (image : Layout) (walk : Walk) (v : Visits) (u : ℕ) → Is image walk v [] u
nothing_first image walk v u a = (
  (λ (e : None ≡ Some a). absurd (none-some a e)),
  λ (has : HasReserved image walk v [] u a). absurd (none-some has.lr has.back),
)

reserved_is : (image : Layout) (log : Log) (walk : Walk) (given : Given) (v : Visits) → IsWalk image log walk → IsGuided image (told log walk) given v
    → (done : List Pos) (u : ℕ) → AreNext done → ((p : Pos) → In p done → Counted log p) → Is image walk v done u
reserved_is image log walk given v is guided [] u next counted = nothing_first image walk v u
reserved_is image log walk given v is guided (p ∷ older) u next counted =
    by_thread image log walk given v is guided older p u next (counted p (inl refl)) (eqb p.thread u) refl
    (reserved_is image log walk given v is guided older u next.1 (λ (q : Pos) (i : In q older). counted q (inr i)))

wins_where : (a : ℕ) (o : Option ℕ) → wins (Some a) o ≡ true → o ≡ Some a
wins_where a None e = absurd (false≢true e)
wins_where a (Some r) e = ap (λ (n : ℕ). Some n) (eqb-true r a e)

where_wins : (a : ℕ) (o : Option ℕ) → o ≡ Some a → wins (Some a) o ≡ true
where_wins a o e = ap (wins (Some a)) e ∙ eq-eqb a a refl

pub reserved_law : ReservedLaw
reserved_law image log walk given v done u a is guided next counted =
    let both : Is image walk v done u = reserved_is image log walk given v is guided done u next counted in (
      (λ (e : wins (Some a) (reserved image v u done) ≡ true). (both a).0 (wins_where a (reserved image v u done) e)),
      λ (has : HasReserved image walk v done u a). where_wins a (reserved image v u done) ((both a).1 has),
    )
