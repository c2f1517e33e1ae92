-- A schedule that has a log notes at each of its steps what the log's walk has there.
use Rattle.std.specs.Prelude.{◌≡◌, ◌≢◌, ℕ, zero, suc, ◌+◌, ◌-◌, ◌<◌, ◌≤◌, Bool, true, false, cond, List, [], ◌∷◌, ◌++◌, length, take, nat_eq, slice_get, Option, Some, None, refl}
use Rattle.std.proofs.Common.{sym, ◌∙◌, ap, subst, arith, inl, inr, get_or, ltb, eqb, eq-eqb}
use Rattle.std.proofs.lemmas.Bool.{eqb-true, ltb-true, ltb-false, false≢true}
use Rattle.std.proofs.lemmas.List.{append-nil}
use Rattle.elf_image.specs.declared.write.Write.{Write}
use Rattle.odr_log.specs.declared.log.Call.TheVariants as call
use Rattle.odr_log.specs.declared.log.Log.{Log}
use Rattle.odr_log.specs.declared.log.PathItem.{PathItem}
use Rattle.odr_log.specs.declared.log.Pos.{Pos}
use Rattle.rv_model.specs.declared.state.Local.{Local}
use Rattle.rv_model.specs.declared.state.Thread.{Thread}
use Rattle.rv_model.specs.declared.state.Core.{Core}
use Rattle.rv_model.specs.declared.state.Note.{Note}
use Rattle.rv_model.specs.declared.state.Note.TheVariants as note
use Rattle.rv_model.specs.declared.state.Event.{Event}
use Rattle.rv_model.specs.Thread.{no_thread, losing}
use Rattle.rv_model.specs.Step.{thread_at, child_of, gone}
use Rattle.rv_model.specs.Run.{item_of, cons_some, path_of}
use Rattle.rv_model.specs.Walk.{Walk, notes_of, events_from}
use Rattle.rv_model.proofs.Progress.{own_then, other_then}
use Rattle.rv_model.proofs.Bounds.{beyond}
use Rattle.rv_model.proofs.LogParts.{path_of-append}
use Rattle.guided_walk.specs.Told.{Told, told, noted}
use Rattle.guided_walk.specs.Orders.{In}
use Rattle.guided_walk.specs.Schedules.{count}
use Rattle.guided_walk.proofs.Along.{MakesNext, MakesOne, MakesNone, threads_none, threads_one, After}
use Rattle.guided_walk.proofs.Facts.{noted_step}

-- ---- what the steps so far told

abbrev pub told_event : Told → Pos → Event
told_event told p = record { thread = p.thread; at = p.step; note = noted told p }

-- the events of steps, of which the newest stands first, in their order
abbrev pub events_along : Told → List Pos → List Event
events_along told [] = []
events_along told (p ∷ older) = events_along told older ++ told_event told p ∷ []

-- each step is the next of its thread
abbrev pub Built : List Pos → Type 0
Built [] = Unit {0}
Built (p ∷ older) = (p.step ≡ count p.thread older) × Built older

-- ---- paths

events_more : (u s : ℕ) (notes : List Note) (k : ℕ) → k < length notes
    → events_from u s (take (suc k) notes) ≡ events_from u s (take k notes) ++ record { thread = u; at = s + k; note = get_or notes k note.Nothing } ∷ []
events_more u s [] k less = absurd (omega arith)
events_more u s (n ∷ notes) zero less =
    let z : s ≡ s + 0 = omega arith in
    ap (λ (at : ℕ). let e : Event = record { thread = u; at = at; note = n } in e ∷ []) z
events_more u s (n ∷ notes) (suc k) less =
    let z : s + 1 + k ≡ s + suc k = omega arith in
    let first : Event = record { thread = u; at = s; note = n } in
    ap (λ (es : List Event). first ∷ es) (events_more u (s + 1) notes k (omega arith)
    ∙ ap (λ (at : ℕ). events_from u (s + 1) (take k notes) ++ (let e : Event = record { thread = u; at = at; note = get_or notes k note.Nothing } in e) ∷ []) z)

path_one : (u t at k : ℕ) (n : Note) → (b : Bool) → nat_eq t u ≡ b
    → path_of u ((let e : Event = record { thread = t; at = at; note = n } in e) ∷ []) ≡ cond b (cons_some (item_of n) []) []
path_one u t at k n b e = ap (λ (x : Bool). cond x (cons_some (item_of n) []) []) e

path_own : (u at : ℕ) (n : Note) → path_of u ((let e : Event = record { thread = u; at = at; note = n } in e) ∷ []) ≡ cons_some (item_of n) []
path_own u at n = path_one u u at 0 n true (eq-eqb u u refl)

-- a thread's path so far is that of as many of its notes
abbrev PathSoFar : Log → Walk → ℕ → List Pos → Type 0
PathSoFar log walk u done = path_of u (events_along (told log walk) done) ≡ path_of u (events_from u 0 (take (count u done) (notes_of walk u)))

path_step : (log : Log) (walk : Walk) (u : ℕ) (p : Pos) (older : List Pos) → p.step ≡ count p.thread older → p.step < length (notes_of walk p.thread) → PathSoFar log walk u older
    → (b : Bool) → eqb p.thread u ≡ b → path_of u (events_along (told log walk) older) ++ cond b (cons_some (item_of (noted (told log walk) p)) []) []
    ≡ path_of u (events_from u 0 (take (cond b (suc (count u older)) (count u older)) (notes_of walk u)))
path_step log walk u p older next less before true e =
    let same : p.thread ≡ u = eqb-true p.thread u e in
    let k : ℕ = count u older in
    let step : p.step ≡ k = next ∙ ap (λ (t : ℕ). count t older) same in
    let here : noted (told log walk) p ≡ get_or (notes_of walk u) k note.Nothing =
    noted_step log walk p less ∙ ap (λ (t : ℕ). get_or (notes_of walk t) p.step note.Nothing) same ∙ ap (λ (s : ℕ). get_or (notes_of walk u) s note.Nothing) step in
    let within : k < length (notes_of walk u) = subst (λ (t : ℕ). k < length (notes_of walk t)) same (omega (arith, less, step)) in
    let n : Note = get_or (notes_of walk u) k note.Nothing in
    let one : Event = record { thread = u; at = 0 + k; note = n } in
    ap (λ (xs : List PathItem). xs ++ cons_some (item_of (noted (told log walk) p)) []) before
    ∙ ap (λ (m : Note). path_of u (events_from u 0 (take k (notes_of walk u))) ++ cons_some (item_of m) []) here
    ∙ ap (λ (xs : List PathItem). path_of u (events_from u 0 (take k (notes_of walk u))) ++ xs) (sym (path_own u (0 + k) n))
    ∙ sym (path_of-append u (events_from u 0 (take k (notes_of walk u))) (one ∷ []))
    ∙ sym (ap (path_of u) (events_more u 0 (notes_of walk u) k within))
path_step log walk u p older next less before false e = append-nil (path_of u (events_along (told log walk) older)) ∙ before

pub path_along : (log : Log) (walk : Walk) (u : ℕ) (done : List Pos) → Built done → ((p : Pos) → In p done → p.step < length (notes_of walk p.thread)) → PathSoFar log walk u done
path_along log walk u [] built counted = refl
path_along log walk u (p ∷ older) built counted =
    path_of-append u (events_along (told log walk) older) (told_event (told log walk) p ∷ [])
    ∙ path_step log walk u p older built.0 (counted p (inl refl)) (path_along log walk u older built.1 (λ (q : Pos) (i : In q older). counted q (inr i))) (eqb p.thread u) refl

-- the item of a note stands in the path behind those of the notes before it
item_here : (o : Option PathItem) (x : PathItem) (rest : List PathItem) → o ≡ Some x → slice_get (cons_some o rest) 0 ≡ Some x
item_here o x rest e = ap (λ (p : Option PathItem). slice_get (cons_some p rest) 0) e

item_later : (o : Option PathItem) (x : PathItem) (rest front : List PathItem) → slice_get rest (length front) ≡ Some x → slice_get (cons_some o rest) (length (cons_some o front)) ≡ Some x
item_later None x rest front e = e
item_later (Some y) x rest front e = e

path_cons : (u s : ℕ) (n : Note) (notes : List Note) → path_of u (events_from u s (n ∷ notes)) ≡ cons_some (item_of n) (path_of u (events_from u (s + 1) notes))
path_cons u s n notes =
    ap (λ (b : Bool). cond b (cons_some (item_of n) (path_of u (events_from u (s + 1) notes))) (path_of u (events_from u (s + 1) notes))) (eq-eqb u u refl)

pub path_at : (u s : ℕ) (notes : List Note) (k : ℕ) (x : PathItem) → k < length notes → item_of (get_or notes k note.Nothing) ≡ Some x
    → slice_get (path_of u (events_from u s notes)) (length (path_of u (events_from u s (take k notes)))) ≡ Some x
path_at u s [] k x less e = absurd (omega arith)
path_at u s (n ∷ notes) zero x less e =
    ap (λ (xs : List PathItem). slice_get xs 0) (path_cons u s n notes) ∙ item_here (item_of n) x (path_of u (events_from u (s + 1) notes)) e
path_at u s (n ∷ notes) (suc k) x less e =
    ap (λ (xs : List PathItem). slice_get xs (length (path_of u (events_from u s (n ∷ take k notes))))) (path_cons u s n notes)
    ∙ ap (λ (xs : List PathItem). slice_get (cons_some (item_of n) (path_of u (events_from u (s + 1) notes))) (length xs)) (path_cons u s n (take k notes))
    ∙ item_later (item_of n) x (path_of u (events_from u (s + 1) notes)) (path_of u (events_from u (s + 1) (take k notes)))
    (path_at u (s + 1) notes k x (omega arith) e)

-- ---- the threads after a step

pub each_then : (Q : ℕ → Thread → Type 0) (core : Core) (t : ℕ) (reservation : Option ℕ) (local : Local) (writes : List Write) (shown : Note) → t < length core.threads
    → MakesNext (length core.threads) shown → Q t (After core t reservation local)
    → ((u : ℕ) → u < length core.threads → (u ≡ t → ⊥) → Q u (losing writes (thread_at core u)))
    → ((entry : ℕ) → shown ≡ note.Called (call.Spawn entry (Some (length core.threads))) → Q (length core.threads) (get_or (child_of (thread_at core t).local shown) 0 no_thread))
    → (u : ℕ) → (within : Bool) → ltb u (length core.threads) ≡ within → (same : Bool) → eqb u t ≡ same
    → u < length (gone core t reservation local writes shown).core.threads → Q u (thread_at (gone core t reservation local writes shown).core u)
each_then Q core t reservation local writes shown there makes own other child u true w true s less =
    let one : u ≡ t = eqb-true u t s in
    subst (λ (k : ℕ). Q k (thread_at (gone core t reservation local writes shown).core k)) (sym one)
    (subst (Q t) (sym (own_then t writes core.threads (child_of (thread_at core t).local shown) (After core t reservation local) there)) own)
each_then Q core t reservation local writes shown there makes own other child u true w false s less =
    let ne : u ≢ t = λ (same : u ≡ t). false≢true (sym s ∙ eq-eqb u t same) in
    let in_old : u < length core.threads = ltb-true u (length core.threads) w in
    subst (Q u) (sym (other_then t u writes core.threads (child_of (thread_at core t).local shown) (After core t reservation local) in_old ne)) (other u in_old ne)
each_then Q core t reservation local writes shown there (MakesNone none same) own other child u false w s e less =
    absurd (omega (arith, ltb-false u (length core.threads) w, less, threads_none core t reservation local writes shown (none (thread_at core t).local)))
each_then Q core t reservation local writes shown there (MakesOne {entry = entry} {child = new} is next) own other child u false w s e less =
    let le : length core.threads ≤ u = ltb-false u (length core.threads) w in
    let here : u ≡ length core.threads = omega (arith, le, less, threads_one core t reservation local writes shown entry new is) in
    let named : shown ≡ note.Called (call.Spawn entry (Some (length core.threads))) = is ∙ ap (λ (c : ℕ). note.Called (call.Spawn entry (Some c))) next in
    let there_is : thread_at (gone core t reservation local writes shown).core u ≡ get_or (child_of (thread_at core t).local shown) 0 no_thread =
    beyond t u writes core.threads (child_of (thread_at core t).local shown) (After core t reservation local) le
    ∙ ap (λ (k : ℕ). get_or (child_of (thread_at core t).local shown) k no_thread) (let z : u - length core.threads ≡ 0 = omega (arith, here) in z) in
    subst (Q u) (sym there_is) (subst (λ (k : ℕ). Q k (get_or (child_of (thread_at core t).local shown) 0 no_thread)) (sym here) (child entry named))
