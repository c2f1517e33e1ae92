-- Steps in a row along the log of a thread are the thread's walk.
use Rattle.std.specs.Prelude.{◌≡◌, ℕ, zero, suc, ◌+◌, ◌<◌, Bool, true, false, cond, List, [], ◌∷◌, ◌++◌, length, Option, Some, None, All, AllPairs}
use Rattle.std.proofs.Common.{refl, sym, ◌∙◌, ap, subst, arith, eq-eqb}
use Rattle.std.proofs.lemmas.Bool.{false_from_ne_true}
use Rattle.std.proofs.lemmas.List.Kept.{AllPairs-cons}
use Rattle.elf_image.specs.Layout.{Layout}
use Rattle.odr_log.specs.declared.log.CallRec.{CallRec}
use Rattle.odr_log.specs.declared.log.PathItem.{PathItem}
use Rattle.rv_model.specs.declared.state.Note.{Note}
use Rattle.rv_model.specs.declared.walk.Place.{Place}
use Rattle.rv_model.specs.Run.{item_of, cons_some, path_of, record_in, records_of}
use Rattle.rv_model.specs.Walk.{is_last, Leads, events_from}
use Rattle.rv_model.proofs.LogParts.{cons_some-append}
use Rattle.trace_path.specs.Steps.{Stand, Next, next, Walked}
use Rattle.trace_path.proofs.StepLemmas.{Parts, FirstOf, event_at, some_same, next_parts, parts_next}

-- all records are of one thread
abbrev pub AreOf : ℕ → List CallRec → Type 0
AreOf thread [] = Unit {0}
AreOf thread (r ∷ records) = (r.tid ≡ thread) × AreOf thread records

first_of : (thread : ℕ) (records : List CallRec) → AreOf thread records → FirstOf thread records
first_of thread [] are = tt
first_of thread (r ∷ records) are = are.0

rest_of : (thread : ℕ) (o : Option CallRec) (whole records : List CallRec) → whole ≡ cons_some o records → AreOf thread whole → AreOf thread records
rest_of thread None whole records e are = subst (AreOf thread) e are
rest_of thread (Some r) whole records e are = (subst (AreOf thread) e are).1

-- each note but the last is neither an exit nor the end of its thread
abbrev pub End : List Note → Type 0
End = AllPairs (λ (earlier later : Note). is_last earlier ≡ false)

abbrev pub Live : List Note → Type 0
Live = All (λ (shown : Note). is_last shown ≡ false)

pub end_none : End []
end_none i j d before within = absurd (let h : j < 0 = within in omega arith)

pub end_more : (shown : Note) (notes : List Note) → (is_last shown ≡ true → notes ≡ []) → End notes → End (shown ∷ notes)
end_more shown [] goes ends = AllPairs-cons (λ (earlier later : Note). is_last earlier ≡ false) shown [] (λ (k : ℕ) (d : Note) (w : k < 0). absurd (omega arith)) ends
end_more shown (next ∷ notes) goes ends =
    AllPairs-cons (λ (earlier later : Note). is_last earlier ≡ false) shown (next ∷ notes)
    (λ (k : ℕ) (d : Note) (w : k < length (next ∷ notes)). false_from_ne_true (is_last shown) (λ (e : is_last shown ≡ true). let f : next ∷ notes ≡ [] = goes e in cc)) ends

pub end_rest : (shown : Note) (notes : List Note) → End (shown ∷ notes) → End notes
end_rest shown notes ends i j d before within =
    ends (suc i) (suc j) d (omega arith) (let h : j < length notes = within in omega arith)

pub end_first : (shown : Note) (notes : List Note) → End (shown ∷ notes) → is_last shown ≡ true → notes ≡ []
end_first shown [] ends over = refl
end_first shown (next ∷ notes) ends over =
    absurd (let live : is_last shown ≡ false = ends 0 1 shown (omega arith) (omega arith) in let over' : is_last shown ≡ true = over in cc)

pub live_none : Live []
live_none k d within = absurd (let h : k < 0 = within in omega arith)

pub live_more : (shown : Note) (notes : List Note) → is_last shown ≡ false → Live notes → Live (shown ∷ notes)
live_more shown notes here later zero d within = here
live_more shown notes here later (suc k) d within = later k d (let h : suc k < suc (length notes) = within in omega arith)

pub live_first : (shown : Note) (notes : List Note) → Live (shown ∷ notes) → is_last shown ≡ false
live_first shown notes live = live 0 shown (omega arith)

pub live_rest : (shown : Note) (notes : List Note) → Live (shown ∷ notes) → Live notes
live_rest shown notes live k d within = live (suc k) d (let h : k < length notes = within in omega arith)

-- the items and records of a thread's own steps

pub path_own : (thread step : ℕ) (shown : Note) (notes : List Note)
    → path_of thread (events_from thread step (shown ∷ notes)) ≡ cons_some (item_of shown) (path_of thread (events_from thread (step + 1) notes))
path_own thread step shown notes =
    ap (λ (b : Bool). cond b (cons_some (item_of shown) (path_of thread (events_from thread (step + 1) notes))) (path_of thread (events_from thread (step + 1) notes))) (eq-eqb thread thread refl)

-- ---- from steps in a row to a walk

pub record Along (image : Layout) (thread : ℕ) (from : Stand) (places : List Place) (notes : List Note) (to : Stand) : Type 0 where
  pub leads : Leads image from.pc places notes to.pc
  pub path : from.path ≡ path_of thread (events_from thread from.step notes) ++ to.path
  pub records : from.records ≡ records_of (events_from thread from.step notes) ++ to.records
  pub ends : End notes
  pub going : from.over ≡ true → notes ≡ []
  pub live : to.over ≡ false → (from.over ≡ false) × Live notes
  pub stays : from.over ≡ false → Live notes → to.over ≡ false

along_none : (image : Layout) (thread : ℕ) (from to : Stand) → from ≡ to → Along image thread from [] [] to
along_none image thread from to e = record {
  leads = ap (λ (s : Stand). s.pc) e;
  path = ap (λ (s : Stand). s.path) e;
  records = ap (λ (s : Stand). s.records) e;
  ends = end_none;
  going = λ (over : from.over ≡ true). refl;
  live = λ (over : to.over ≡ false). (ap (λ (s : Stand). s.over) e ∙ over, live_none);
  stays = λ (over : from.over ≡ false) (live : Live []). ap (λ (s : Stand). s.over) (sym e) ∙ over;
}

along_more : (image : Layout) (thread : ℕ) (from mid to : Stand) (place : Place) (places : List Place) (shown : Note) (notes : List Note)
    → Parts image thread from place shown mid → Along image thread mid places notes to → Along image thread from (place ∷ places) (shown ∷ notes) to
along_more image thread from mid to place places shown notes p along =
    let path : mid.path ≡ path_of thread (events_from thread (from.step + 1) notes) ++ to.path =
    along.path ∙ ap (λ (s : ℕ). path_of thread (events_from thread s notes) ++ to.path) p.step in
    let records : mid.records ≡ records_of (events_from thread (from.step + 1) notes) ++ to.records =
    along.records ∙ ap (λ (s : ℕ). records_of (events_from thread s notes) ++ to.records) p.step in
    record {
      leads = (p.pc, p.instr, (mid.pc, p.goes, along.leads));
      path =
          p.path
          ∙ ap (cons_some (item_of shown)) path
          ∙ cons_some-append (item_of shown) (path_of thread (events_from thread (from.step + 1) notes)) to.path
          ∙ ap (λ (xs : List PathItem). xs ++ to.path) (sym (path_own thread from.step shown notes));
      records =
          p.records
          ∙ ap (cons_some (record_in (event_at thread from.step shown))) records
          ∙ cons_some-append (record_in (event_at thread from.step shown)) (records_of (events_from thread (from.step + 1) notes)) to.records;
      ends = end_more shown notes (λ (over : is_last shown ≡ true). along.going (p.over ∙ over)) along.ends;
      going = λ (over : from.over ≡ true). absurd (let going : from.over ≡ false = p.going in cc);
      live = λ (over : to.over ≡ false). (p.going, live_more shown notes (sym p.over ∙ (along.live over).0) (along.live over).1);
      stays = λ (over : from.over ≡ false) (live : Live (shown ∷ notes)). along.stays (p.over ∙ live_first shown notes live) (live_rest shown notes live);
    }

pub walked_along : (image : Layout) (thread : ℕ) (from : Stand) (places : List Place) (notes : List Note) (to : Stand) → AreOf thread from.records
    → Walked image from places notes to → Along image thread from places notes to
walked_along image thread from [] [] to are w = along_none image thread from to w
walked_along image thread from (place ∷ places) (shown ∷ notes) to are w =
    let n : Next = record { place = place; shown = shown; stand = w.0 } in
    let p : Parts image thread from place shown w.0 = next_parts image thread from n (first_of thread from.records are) w.1 in
    along_more image thread from w.0 to place places shown notes p
    (walked_along image thread w.0 places notes to (rest_of thread (record_in (event_at thread from.step shown)) from.records w.0.records p.records are) w.2)
walked_along image thread from [] (shown ∷ notes) to are w = absurd w
walked_along image thread from (place ∷ places) [] to are w = absurd w

-- ---- from a walk to steps in a row

-- steps to where the log has nothing more of the thread
pub record UsedUp (image : Layout) (from : Stand) (places : List Place) (notes : List Note) (after : ℕ) : Type 0 where
  pub to : Stand
  pub walked : Walked image from places notes to
  pub pc : to.pc ≡ after
  pub path : to.path ≡ []
  pub records : to.records ≡ []

pub leads_walked : (image : Layout) (thread : ℕ) (from : Stand) (places : List Place) (notes : List Note) (after : ℕ)
    → Leads image from.pc places notes after
    → from.path ≡ path_of thread (events_from thread from.step notes)
    → from.records ≡ records_of (events_from thread from.step notes)
    → End notes → (from.over ≡ true → notes ≡ []) → UsedUp image from places notes after
leads_walked image thread from [] [] after leads path records ends going = record { to = from; walked = refl; pc = leads; path = path; records = records }
leads_walked image thread from (place ∷ places) (shown ∷ notes) after leads path records ends going =
    let mid : Stand = record {
      pc = leads.2.0;
      step = from.step + 1;
      over = is_last shown;
      path = path_of thread (events_from thread (from.step + 1) notes);
      records = records_of (events_from thread (from.step + 1) notes);
    } in
    let p : Parts image thread from place shown mid = record {
      going = false_from_ne_true from.over (λ (over : from.over ≡ true). let f : shown ∷ notes ≡ [] = going over in cc);
      pc = leads.0;
      instr = leads.1;
      goes = leads.2.1;
      step = refl;
      over = refl;
      path = path ∙ path_own thread from.step shown notes;
      records = records;
    } in
    let later : UsedUp image mid places notes after =
    leads_walked image thread mid places notes after leads.2.2 refl refl (end_rest shown notes ends) (end_first shown notes ends) in
    record { to = later.to; walked = (mid, parts_next image thread from place shown mid p, later.walked); pc = later.pc; path = later.path; records = later.records }
leads_walked image thread from [] (shown ∷ notes) after leads path records ends going = absurd leads
leads_walked image thread from (place ∷ places) [] after leads path records ends going = absurd leads

-- ---- steps in a row are determined

pub record Same (places others : List Place) (notes shown : List Note) (to stand : Stand) : Type 0 where
  pub places_same : places ≡ others
  pub notes_same : notes ≡ shown
  pub stands_same : to ≡ stand

pub walked_one : (image : Layout) (from : Stand) (places others : List Place) (notes shown : List Note) (to stand : Stand) → length places ≡ length others
    → Walked image from places notes to → Walked image from others shown stand → Same places others notes shown to stand
walked_one image from [] [] [] [] to stand e w v = record { places_same = refl; notes_same = refl; stands_same = sym w ∙ v }
walked_one image from (p ∷ ps) (q ∷ qs) (n ∷ ns) (m ∷ ms) to stand e w v =
    let same = some_same (record { place = p; shown = n; stand = w.0 }) (record { place = q; shown = m; stand = v.0 }) (sym w.1 ∙ v.1) in
    let mid : w.0 ≡ v.0 = ap (λ (x : Next). x.stand) same in
    let later : Same ps qs ns ms to stand =
    walked_one image v.0 ps qs ns ms to stand (omega arith) (subst (λ (s : Stand). Walked image s ps ns to) mid w.2) v.2 in
    record {
      places_same = ap (λ (x : Next). x.place ∷ ps) same ∙ ap (λ (xs : List Place). q ∷ xs) later.places_same;
      notes_same = ap (λ (x : Next). x.shown ∷ ns) same ∙ ap (λ (xs : List Note). m ∷ xs) later.notes_same;
      stands_same = later.stands_same;
    }
walked_one image from [] (q ∷ qs) notes shown to stand e w v = absurd (let f : 0 ≡ suc (length qs) = e in omega arith)
walked_one image from (p ∷ ps) [] notes shown to stand e w v = absurd (let f : suc (length ps) ≡ 0 = e in omega arith)
walked_one image from [] [] (n ∷ ns) shown to stand e w v = absurd w
walked_one image from [] [] [] (m ∷ ms) to stand e w v = absurd v
walked_one image from (p ∷ ps) (q ∷ qs) [] shown to stand e w v = absurd w
walked_one image from (p ∷ ps) (q ∷ qs) (n ∷ ns) [] to stand e w v = absurd v

-- Where no step is next, there are no further steps.
pub walked_stuck : (image : Layout) (from : Stand) (places others : List Place) (notes shown : List Note) (to stand : Stand) → length places < length others
    → Walked image from places notes to → next image to ≡ None → Walked image from others shown stand → ⊥
walked_stuck image from [] (q ∷ qs) [] (m ∷ ms) to stand less w stuck v =
    let n : Next = record { place = q; shown = m; stand = v.0 } in
    let f : None ≡ Some n = sym stuck ∙ ap (next image) (sym w) ∙ v.1 in cc
walked_stuck image from (p ∷ ps) (q ∷ qs) (n ∷ ns) (m ∷ ms) to stand less w stuck v =
    let same = some_same (record { place = p; shown = n; stand = w.0 }) (record { place = q; shown = m; stand = v.0 }) (sym w.1 ∙ v.1) in
    walked_stuck image v.0 ps qs ns ms to stand (let h : suc (length ps) < suc (length qs) = less in omega arith)
    (subst (λ (s : Stand). Walked image s ps ns to) (ap (λ (x : Next). x.stand) same) w.2) stuck v.2
walked_stuck image from places [] notes shown to stand less w stuck v = absurd (let h : length places < 0 = less in omega arith)
walked_stuck image from [] (q ∷ qs) (n ∷ ns) shown to stand less w stuck v = absurd w
walked_stuck image from [] (q ∷ qs) [] [] to stand less w stuck v = absurd v
walked_stuck image from (p ∷ ps) (q ∷ qs) [] shown to stand less w stuck v = absurd w
walked_stuck image from (p ∷ ps) (q ∷ qs) (n ∷ ns) [] to stand less w stuck v = absurd v

-- one step more
pub walked_more : (image : Layout) (from mid to : Stand) (places : List Place) (notes : List Note) (place : Place) (shown : Note) → Walked image from places notes mid
    → next image mid ≡ Some (record { place = place; shown = shown; stand = to }) → Walked image from (places ++ place ∷ []) (notes ++ shown ∷ []) to
walked_more image from mid to [] [] place shown w e = (to, ap (next image) w ∙ e, refl)
walked_more image from mid to (p ∷ ps) (n ∷ ns) place shown w e = (w.0, w.1, walked_more image w.0 mid to ps ns place shown w.2 e)
walked_more image from mid to [] (n ∷ ns) place shown w e = absurd w
walked_more image from mid to (p ∷ ps) [] place shown w e = absurd w

pub walked_lengths : (image : Layout) (from to : Stand) (places : List Place) (notes : List Note) → Walked image from places notes to → length places ≡ length notes
walked_lengths image from to [] [] w = refl
walked_lengths image from to (p ∷ ps) (n ∷ ns) w = ap suc (walked_lengths image w.0 to ps ns w.2)
walked_lengths image from to [] (n ∷ ns) w = absurd w
walked_lengths image from to (p ∷ ps) [] w = absurd w
