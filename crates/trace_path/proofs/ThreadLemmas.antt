-- The first steps of a thread, one step more, and its whole walk.
use Rattle.std.specs.Prelude.{◌≡◌, ℕ, ◌+◌, ◌^◌, ◌<◌, ◌≤◌, Bool, true, false, cond, List, [], ◌∷◌, ◌++◌, length, drop, nat_eq, Some, None}
use Rattle.std.proofs.Common.{refl, sym, ◌∙◌, ap, subst, arith}
use Rattle.std.proofs.lemmas.Bool.{eqb-true}
use Rattle.std.proofs.lemmas.List.{append-nil, length_push}
use Rattle.elf_image.specs.Layout.{Layout}
use Rattle.odr_log.specs.declared.log.CallRec.{CallRec}
use Rattle.odr_log.specs.declared.log.PathItem.{PathItem}
use Rattle.odr_log.specs.declared.log.Log.{Log}
use Rattle.rv_model.specs.declared.state.Note.{Note}
use Rattle.rv_model.specs.declared.walk.Place.{Place}
use Rattle.rv_model.specs.Run.{logged, path_of, records_of}
use Rattle.rv_model.specs.Walk.{BeginsAt, ThreadWalk, records_by, events_from}
use Rattle.rv_model.specs.Accesses.{is_access, accesses_from}
use Rattle.trace_path.specs.declared.cursor.Cursor.{Cursor}
use Rattle.trace_path.specs.declared.step.Advanced.{Advanced}
use Rattle.trace_path.specs.Shown.{note_of}
use Rattle.trace_path.specs.Steps.{Stand, next, Walked, stand_at, next_by}
use Rattle.trace_path.specs.Followed.{begin, IsFront, IsFollowed}
use Rattle.trace_path.proofs.StartLemmas.{begins_one}
use Rattle.trace_path.proofs.AccessLemmas.{accesses_more}
use Rattle.trace_path.proofs.WalkLemmas.{AreOf, Along, walked_along, UsedUp, leads_walked, Same, walked_one, walked_stuck, walked_more, walked_lengths}

-- the records of a thread are all its own
own_by : (thread : ℕ) (r : CallRec) (records : List CallRec) (b : Bool) → nat_eq r.tid thread ≡ b → AreOf thread records → AreOf thread (cond b (r ∷ records) records)
own_by thread r records true e are = (eqb-true r.tid thread e, are)
own_by thread r records false e are = are

own_records : (thread : ℕ) (records : List CallRec) → AreOf thread (records_by thread records)
own_records thread [] = tt
own_records thread (r ∷ records) = own_by thread r (records_by thread records) (nat_eq r.tid thread) refl (own_records thread records)

at_most_one : (b : Bool) → cond b 1 0 ≤ 1
at_most_one true = omega arith
at_most_one false = omega arith

pub front_more : (image : Layout) (log : Log) (thread start count : ℕ) (places : List Place) (accesses : ℕ) (cursor : Cursor) (advanced : Advanced) (bit : ℕ)
    → IsFront image log thread start count places accesses cursor
    → Some (next_by log thread (count + 1) advanced) ≡ next image (stand_at log thread count cursor)
    → bit ≡ cond (is_access advanced.place.instr (note_of advanced.shown)) 1 0
    → IsFront image log thread start (count + 1) (places ++ advanced.place ∷ []) (accesses + bit) advanced.cursor
front_more image log thread start count places accesses cursor advanced bit front e one = record {
  notes = front.notes ++ note_of advanced.shown ∷ [];
  walked =
      walked_more image (begin log thread start) (stand_at log thread count cursor) (stand_at log thread (count + 1) advanced.cursor) places front.notes
      advanced.place (note_of advanced.shown) front.walked (sym e);
  steps = length_push places advanced.place ∙ ap (λ (n : ℕ). n + 1) front.steps;
  counted =
      ap (λ (n : ℕ). n + bit) front.counted
      ∙ ap (λ (n : ℕ). length (accesses_from thread 0 places front.notes) + n) one
      ∙ sym (accesses_more thread 0 places front.notes advanced.place (note_of advanced.shown)
      (walked_lengths image (begin log thread start) (stand_at log thread count cursor) places front.notes front.walked));
  few =
      let few : accesses ≤ count = front.few in
      let small : cond (is_access advanced.place.instr (note_of advanced.shown)) 1 0 ≤ 1 = at_most_one (is_access advanced.place.instr (note_of advanced.shown)) in omega arith;
}

pub front_stuck : (image : Layout) (log : Log) (thread start count : ℕ) (places : List Place) (accesses : ℕ) (cursor : Cursor)
    → IsFront image log thread start count places accesses cursor → None ≡ next image (stand_at log thread count cursor)
    → (others : List Place) (notes : List Note) (to : Stand) → count < length others → Walked image (begin log thread start) others notes to → ⊥
front_stuck image log thread start count places accesses cursor front e others notes to more walked =
    walked_stuck image (begin log thread start) places others front.notes notes (stand_at log thread count cursor) to
    (let steps : length places ≡ count = front.steps in omega arith) front.walked (sym e) walked

pub thread_used : (image : Layout) (log : Log) (thread : ℕ) (places : List Place) (notes : List Note) (walk : ThreadWalk image log thread places notes)
    → UsedUp image (begin log thread walk.start) places notes walk.after
thread_used image log thread places notes walk =
    leads_walked image thread (begin log thread walk.start) places notes walk.after walk.leads (sym walk.path) (sym walk.calls) walk.ends
    (λ (over : false ≡ true). absurd (cc))

-- a thread has one walk
pub record SameWalks (places others : List Place) (notes shown : List Note) (after stop : ℕ) : Type 0 where
  pub places_same : places ≡ others
  pub notes_same : notes ≡ shown
  pub stops_same : after ≡ stop

pub thread_one : (image : Layout) (log : Log) (thread : ℕ) (places others : List Place) (notes shown : List Note) (walk : ThreadWalk image log thread places notes)
    (other : ThreadWalk image log thread others shown) → SameWalks places others notes shown walk.after other.after
thread_one image log thread places others notes shown walk other =
    let used : UsedUp image (begin log thread walk.start) places notes walk.after = thread_used image log thread places notes walk in
    let again : UsedUp image (begin log thread other.start) others shown other.after = thread_used image log thread others shown other in
    let start : walk.start ≡ other.start = begins_one image log thread walk.start other.start walk.begins other.begins in
    let walked : Walked image (begin log thread other.start) places notes used.to =
    subst (λ (s : ℕ). Walked image (begin log thread s) places notes used.to) start used.walked in
    let same : Same places others notes shown used.to again.to =
    walked_one image (begin log thread other.start) places others notes shown used.to again.to (walk.steps ∙ sym other.steps) walked again.walked in
    record {
      places_same = same.places_same;
      notes_same = same.notes_same;
      stops_same = sym used.pc ∙ ap (λ (s : Stand). s.pc) same.stands_same ∙ again.pc;
    }

pub begun_none : (image : Layout) (log : Log) (thread start : ℕ) → BeginsAt image log thread start
    → ((places : List Place) (notes : List Note) (to : Stand) → length places ≡ (logged log thread).steps → Walked image (begin log thread start) places notes to → ⊥)
    → (places : List Place) (notes : List Note) → ThreadWalk image log thread places notes → ⊥
begun_none image log thread start begins none places notes walk =
    let used : UsedUp image (begin log thread walk.start) places notes walk.after = thread_used image log thread places notes walk in
    let same : walk.start ≡ start = begins_one image log thread walk.start start walk.begins begins in
    none places notes used.to walk.steps (subst (λ (s : ℕ). Walked image (begin log thread s) places notes used.to) same used.walked)

pub left_none : (image : Layout) (log : Log) (thread start : ℕ) (places : List Place) (accesses : ℕ) (cursor : Cursor) → BeginsAt image log thread start
    → IsFront image log thread start (logged log thread).steps places accesses cursor
    → ((drop cursor.items (logged log thread).path ≡ []) × (records_by thread (drop cursor.calls log.calls) ≡ []) → ⊥)
    → (others : List Place) (notes : List Note) → ThreadWalk image log thread others notes → ⊥
left_none image log thread start places accesses cursor begins front left others notes walk =
    let used : UsedUp image (begin log thread walk.start) others notes walk.after = thread_used image log thread others notes walk in
    let same : walk.start ≡ start = begins_one image log thread walk.start start walk.begins begins in
    let walked : Walked image (begin log thread start) others notes used.to = subst (λ (s : ℕ). Walked image (begin log thread s) others notes used.to) same used.walked in
    let stands : Same others places notes front.notes used.to (stand_at log thread (logged log thread).steps cursor) =
    walked_one image (begin log thread start) others places notes front.notes used.to (stand_at log thread (logged log thread).steps cursor)
    (walk.steps ∙ sym front.steps) walked front.walked in
    left (ap (λ (s : Stand). s.path) (sym stands.stands_same) ∙ used.path, ap (λ (s : Stand). s.records) (sym stands.stands_same) ∙ used.records)

pub all_followed : (image : Layout) (log : Log) (thread start : ℕ) (places : List Place) (accesses : ℕ) (cursor : Cursor) → BeginsAt image log thread start
    → IsFront image log thread start (logged log thread).steps places accesses cursor
    → drop cursor.items (logged log thread).path ≡ [] → records_by thread (drop cursor.calls log.calls) ≡ [] → accesses < 2 ^ 32 → thread < 2 ^ 8
    → IsFollowed image log thread (record { places = places; accesses = accesses; stop = record { pc = cursor.pc; over = cursor.over } })
all_followed image log thread start places accesses cursor begins front path records few number =
    let along : Along image thread (begin log thread start) places front.notes (stand_at log thread (logged log thread).steps cursor) =
    walked_along image thread (begin log thread start) places front.notes (stand_at log thread (logged log thread).steps cursor)
    (own_records thread log.calls) front.walked in
    record {
      notes = front.notes;
      stops = record {
        walk = record {
          start = start;
          after = cursor.pc;
          begins = begins;
          leads = along.leads;
          steps = front.steps;
          path =
              sym (along.path
              ∙ ap (λ (rest : List PathItem). path_of thread (events_from thread 0 front.notes) ++ rest) path
              ∙ append-nil (path_of thread (events_from thread 0 front.notes)));
          calls =
              sym (along.records
              ∙ ap (λ (rest : List CallRec). records_of (events_from thread 0 front.notes) ++ rest) records
              ∙ append-nil (records_of (events_from thread 0 front.notes)));
          ends = along.ends;
        };
        pc = refl;
        live = (λ (over : cursor.over ≡ false). (along.live over).1, along.stays refl);
      };
      counted = front.counted;
      few = few;
      number = number;
    }
