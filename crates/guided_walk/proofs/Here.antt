-- At one step of a run along a guided walk: what the run hears is what the walk hears, as far as the step's outcome shows.
use Rattle.std.specs.Prelude.{◌≡◌, ℕ, ◌+◌, ◌<◌, Bool, true, false, cond, List, map, length, Option, Some, None, Result, refl}
use Rattle.std.specs.List.{range_with_len}
use Rattle.std.proofs.Common.{sym, ◌∙◌, ap, subst, arith}
use Rattle.std.proofs.lemmas.Option.{none-some}
use Rattle.elf_image.specs.declared.write.Write.{Write}
use Rattle.elf_image.specs.Layout.{Layout}
use Rattle.elf_image.specs.Memory.{Cells, opening_cells, cells_after, byte_in, all_readable, bytes_from, load_bytes}
use Rattle.rv32_decode.specs.declared.instr.Instr.{Instr}
use Rattle.odr_log.specs.declared.log.Cause.{Cause}
use Rattle.odr_log.specs.declared.log.Pos.{Pos}
use Rattle.rv_model.specs.declared.state.Calls.{Calls}
use Rattle.rv_model.specs.declared.state.State.{State}
use Rattle.rv_model.specs.declared.hearing.Access.{Access}
use Rattle.rv_model.specs.declared.hearing.Heard.{Heard}
use Rattle.rv_model.specs.declared.hearing.Reach.{Reach}
use Rattle.rv_model.specs.declared.hearing.Outcome.{Outcome}
use Rattle.rv_model.specs.declared.hearing.Outcome.TheVariants.{Faults, Goes}
use Rattle.rv_model.specs.Calls.{reply_to, join_value}
use Rattle.rv_model.specs.Instruction.{asked_at, wins}
use Rattle.rv_model.specs.Noted.{note_in, asked_noted, reply_noted}
use Rattle.rv_model.specs.Step.{memory_of, thread_at}
use Rattle.rv_model.proofs.Acts.{asked_act, told_act, bytes_asked}
use Rattle.guided_walk.specs.Told.{Told, IsPlace, noted}
use Rattle.guided_walk.specs.Guided.{Given, Seen, Visit, Visits, at, instr_of, access_in, conditional_in, linked, hears, joins, joined_from, seen_before, visit}
use Rattle.guided_walk.specs.Orders.{In}
use Rattle.guided_walk.specs.Schedules.{count, next_of}
use Rattle.guided_walk.specs.Fits.{reads_in, conditional_by, byte_address, writes_along, memory_along, reserved, FitsVisit}
use Rattle.guided_walk.specs.Run.{calls_along, value_of, thread_along}
use Rattle.guided_walk.proofs.Acts.{SameHeard, same_act}
use Rattle.guided_walk.proofs.Meeting.{all_writable_after, readable_same, some_cond, bytes_are}
use Rattle.guided_walk.proofs.Along.{Sound, Inv, heard_by, outcome_by}
use Rattle.guided_walk.proofs.Shared.{joined_is}

-- what the walk hears at the next step of a thread
abbrev pub told_here : Layout → Told → Given → Visits → List Pos → ℕ → Heard
told_here image told given v done t =
    hears image told given t (count t done) (seen_before image told v t (count t done)) (joined_from told v (joins (noted told (next_of t done))))

-- what the run hears there
abbrev pub heard_here : Layout → Told → List ℕ → Visits → List Pos → ℕ → Heard
heard_here image told tape v done t =
    heard_by image (memory_along image v done) (calls_along told (value_of v) tape done) t (thread_along image told v done t)

abbrev pub SeenHere : Layout → Told → Visits → List Pos → ℕ → Seen
SeenHere image told v done t = seen_before image told v t (count t done)

-- What an outcome asks of what is given, and what the step asked and was answered.
pub record Heeds (image : Layout) (told : Told) (given : Given) (tape : List ℕ) (v : Visits) (done : List Pos) (t : ℕ) (o : Outcome) : Type 0 where
  pub fits : FitsVisit image given (memory_along image v done) (reserved image v t done) (next_of t done) (record { seen = SeenHere image told v done t; outcome = o })
  pub links : (a : ℕ) → reserved image v t done ≡ Some a → (SeenHere image told v done t).link ≡ Some a
  pub asked : asked_at (SeenHere image told v done t).local (instr_of image (SeenHere image told v done t)) (heard_here image told tape v done t).reach ≡ asked_noted (noted told (next_of t done))
  pub answered : reply_to (calls_along told (value_of v) tape done) t (asked_noted (noted told (next_of t done))) ≡ reply_noted (noted told (next_of t done))
  pub note : joins (note_in o) ≡ joins (noted told (next_of t done))

pub conditional_was : (address : Option ℕ) (o : Outcome) (a : ℕ) → conditional_by address o ≡ Some a → address ≡ Some a
conditional_was address (Faults fault) a e = absurd (none-some a e)
conditional_was address (Goes local writes shown) a e = e

no_link : (reservation : Option ℕ) (a : ℕ) → ((b : ℕ) → reservation ≡ Some b → None ≡ Some b) → wins (Some a) reservation ≡ false
no_link None a links = refl
no_link (Some r) a links = absurd (none-some r (links r refl))

won_same : (address link reservation : Option ℕ) (given : Bool) (o : Outcome) (a : ℕ) → conditional_by address o ≡ Some a
    → ((b : ℕ) → reservation ≡ Some b → link ≡ Some b)
    → ((b l : ℕ) → conditional_by address o ≡ Some b → link ≡ Some l → given ≡ wins (Some b) reservation)
    → wins address reservation ≡ linked address link given
won_same address None reservation given o a e links fits =
    ap (λ (c : Option ℕ). wins c reservation) (conditional_was address o a e) ∙ no_link reservation a links
    ∙ sym (ap (λ (c : Option ℕ). linked c None given) (conditional_was address o a e))
won_same address (Some l) reservation given o a e links fits =
    ap (λ (c : Option ℕ). wins c reservation) (conditional_was address o a e) ∙ sym (fits a l e refl)
    ∙ sym (ap (λ (c : Option ℕ). linked c (Some l) given) (conditional_was address o a e))

bytes_same : (image : Layout) (cells : Cells) (f : ℕ → ℕ) (a n : ℕ) (reads : Bool) (xs ys : List ℕ)
    → ((i : ℕ) → i < cond reads n 0 → f i ≡ byte_in (cells (byte_address a i))) → load_bytes cells a n ≡ Some xs
    → cond (all_readable (opening_cells image) a n) (Some (map f (range_with_len 0 n))) None ≡ Some ys → reads ≡ true → xs ≡ ys
bytes_same image cells f a n reads xs ys fits p q reading =
    let each : (i : ℕ) → i < n → f (0 + i) ≡ byte_in (cells (byte_address a i)) = λ (i : ℕ) (less : i < n).
    ap f (let e : 0 + i ≡ i = omega arith in e) ∙ fits i (subst (λ (b : Bool). i < cond b n 0) (sym reading) less) in
    sym (some_cond (all_readable cells a n) (bytes_from cells a n) xs p)
    ∙ bytes_are cells a n 0 f each
    ∙ some_cond (all_readable (opening_cells image) a n) (map f (range_with_len 0 n)) ys q

pub heard_same : (image : Layout) (told : Told) (given : Given) (tape : List ℕ) (v : Visits) (done : List Pos) (t : ℕ) (o : Outcome)
    → Sound told → ((p : Pos) → In p done → IsPlace told p) → Heeds image told given tape v done t o
    → SameHeard (instr_of image (SeenHere image told v done t)) (conditional_in image (SeenHere image told v done t)) o
    (heard_here image told tape v done t) (told_here image told given v done t)
heard_same image told given tape v done t o sound places heeds =
    let seen : Seen = SeenHere image told v done t in
    let access : Access = access_in image seen in
    let ws : List Write = writes_along v done in
    let p : Pos = next_of t done in
    let calls : Calls = calls_along told (value_of v) tape done in
    record {
      thread = refl;
      writable = all_writable_after (opening_cells image) ws access.address access.count;
      readable = readable_same (opening_cells image) ws access.address access.count (map (given.bytes t (count t done)) (range_with_len 0 access.count));
      bytes = λ (xs ys : List ℕ) (one : load_bytes (memory_along image v done) access.address access.count ≡ Some xs)
          (other : cond (all_readable (opening_cells image) access.address access.count) (Some (map (given.bytes t (count t done)) (range_with_len 0 access.count))) None ≡ Some ys)
          (reads : reads_in (instr_of image seen) o ≡ true).
          bytes_same image (memory_along image v done) (given.bytes t (count t done)) access.address access.count (reads_in (instr_of image seen) o) xs ys heeds.fits.bytes one other reads;
      won = λ (a : ℕ) (e : conditional_by (conditional_in image seen) o ≡ Some a).
          won_same (conditional_in image seen) seen.link (reserved image v t done) (given.won t (count t done)) o a e heeds.links heeds.fits.won;
      reply = ap (reply_to calls t) heeds.asked ∙ heeds.answered;
      joined = λ (target : ℕ) (e : joins (note_in o) ≡ Some target).
          ap (join_value calls) heeds.asked ∙ joined_is told v tape done t target (noted told p) sound places heeds.answered (sym heeds.note ∙ e);
    }

pub swap : (fetched : Result Instr Cause) (address : Option ℕ) (o : Outcome) (one other : Heard) → SameHeard fetched address o one other → SameHeard fetched address o other one
swap fetched address o one other same = record {
  thread = sym same.thread;
  writable = sym same.writable;
  readable = sym same.readable;
  bytes = λ (xs ys : List ℕ) (p : other.reach.bytes ≡ Some xs) (q : one.reach.bytes ≡ Some ys) (reads : reads_in fetched o ≡ true). sym (same.bytes ys xs q p reads);
  won = λ (a : ℕ) (e : conditional_by address o ≡ Some a). sym (same.won a e);
  reply = sym same.reply;
  joined = λ (target : ℕ) (e : joins (note_in o) ≡ Some target). sym (same.joined target e);
}

-- what a step asks of calls in the run is what it asks in the walk
pub asked_same : (image : Layout) (told : Told) (given : Given) (tape : List ℕ) (v : Visits) (done : List Pos) (t : ℕ)
    → asked_at (SeenHere image told v done t).local (instr_of image (SeenHere image told v done t)) (heard_here image told tape v done t).reach
    ≡ asked_at (SeenHere image told v done t).local (instr_of image (SeenHere image told v done t)) (told_here image told given v done t).reach
asked_same image told given tape v done t =
    let seen : Seen = SeenHere image told v done t in
    let access : Access = access_in image seen in
    let run : Reach = (heard_here image told tape v done t).reach in
    let walk : Reach = (told_here image told given v done t).reach in
    ap (λ (w : Bool). let reach : Reach = record { bytes = run.bytes; writable = w } in asked_at seen.local (instr_of image seen) reach)
    (all_writable_after (opening_cells image) (writes_along v done) access.address access.count)
    ∙ bytes_asked seen.local (instr_of image seen) walk run.bytes

-- the outcome of the machine's next step of a thread, by what the walk makes of the steps so far
pub outcome_along : (image : Layout) (told : Told) (tape : List ℕ) (v : Visits) (done : List Pos) (state : State) (t : ℕ) → Inv image told tape v done state → t < length state.core.threads
    → outcome_by image (memory_of image state) state.core.calls t (thread_at state.core t)
    ≡ outcome_by image (memory_along image v done) (calls_along told (value_of v) tape done) t (thread_along image told v done t)
outcome_along image told tape v done state t inv there =
    ap (λ (ws : List Write). outcome_by image (cells_after (opening_cells image) ws) state.core.calls t (thread_at state.core t)) inv.writes
    ∙ ap (λ (c : Calls). outcome_by image (memory_along image v done) c t (thread_at state.core t)) inv.calls
    ∙ ap (outcome_by image (memory_along image v done) (calls_along told (value_of v) tape done) t) (inv.threads t there)

-- ---- from the walk to the run

pub walk_outcome : (image : Layout) (told : Told) (given : Given) (tape : List ℕ) (v : Visits) (done : List Pos) (state : State) (t : ℕ)
    → Sound told → Inv image told tape v done state → t < length state.core.threads
    → at v (next_of t done) ≡ visit image told given v t (count t done)
    → note_in (at v (next_of t done)).outcome ≡ noted told (next_of t done)
    → FitsVisit image given (memory_along image v done) (reserved image v t done) (next_of t done) (at v (next_of t done))
    → reply_to (calls_along told (value_of v) tape done) t (asked_noted (noted told (next_of t done))) ≡ reply_noted (noted told (next_of t done))
    → outcome_by image (memory_of image state) state.core.calls t (thread_at state.core t) ≡ (at v (next_of t done)).outcome
walk_outcome image told given tape v done state t sound inv there solves shows fits answered =
    let p : Pos = next_of t done in
    let seen : Seen = SeenHere image told v done t in
    let o : Outcome = (visit image told given v t (count t done)).outcome in
    let noted_is : note_in o ≡ noted told p = ap (λ (x : Visit). note_in x.outcome) (sym solves) ∙ shows in
    let heeds : Heeds image told given tape v done t o = record {
      fits = subst (FitsVisit image given (memory_along image v done) (reserved image v t done) p) solves fits;
      links = inv.links t;
      asked =
          asked_same image told given tape v done t
          ∙ sym (asked_act seen.local (instr_of image seen) (told_here image told given v done t)) ∙ ap asked_noted noted_is;
      answered = answered;
      note = ap joins noted_is;
    } in
    outcome_along image told tape v done state t inv there
    ∙ same_act seen.local (instr_of image seen) (heard_here image told tape v done t) (told_here image told given v done t)
    (heard_same image told given tape v done t o sound inv.places heeds)
    ∙ ap (λ (x : Visit). x.outcome) (sym solves)

-- ---- from the run to the walk

pub run_answered : (image : Layout) (told : Told) (tape : List ℕ) (v : Visits) (done : List Pos) (state : State) (t : ℕ)
    → Inv image told tape v done state → t < length state.core.threads
    → note_in (outcome_by image (memory_of image state) state.core.calls t (thread_at state.core t)) ≡ noted told (next_of t done)
    → reply_to (calls_along told (value_of v) tape done) t (asked_noted (noted told (next_of t done))) ≡ reply_noted (noted told (next_of t done))
run_answered image told tape v done state t inv there notes =
    let p : Pos = next_of t done in
    let seen : Seen = SeenHere image told v done t in
    let calls : Calls = calls_along told (value_of v) tape done in
    let heard : Heard = heard_here image told tape v done t in
    let noted_is : note_in (outcome_by image (memory_along image v done) calls t (thread_along image told v done t)) ≡ noted told p =
    ap note_in (sym (outcome_along image told tape v done state t inv there)) ∙ notes in
    ap (reply_to calls t) (ap asked_noted (sym noted_is) ∙ asked_act seen.local (instr_of image seen) heard)
    ∙ sym (told_act calls t seen.local (instr_of image seen) heard refl)
    ∙ ap reply_noted noted_is

pub run_outcome : (image : Layout) (told : Told) (given : Given) (tape : List ℕ) (v : Visits) (done : List Pos) (state : State) (t : ℕ)
    → Sound told → Inv image told tape v done state → t < length state.core.threads
    → ((o : Outcome) → FitsVisit image given (memory_along image v done) (reserved image v t done) (next_of t done) (record { seen = SeenHere image told v done t; outcome = o }))
    → note_in (outcome_by image (memory_of image state) state.core.calls t (thread_at state.core t)) ≡ noted told (next_of t done)
    → (visit image told given v t (count t done)).outcome ≡ outcome_by image (memory_of image state) state.core.calls t (thread_at state.core t)
run_outcome image told given tape v done state t sound inv there fits notes =
    let p : Pos = next_of t done in
    let seen : Seen = SeenHere image told v done t in
    let calls : Calls = calls_along told (value_of v) tape done in
    let heard : Heard = heard_here image told tape v done t in
    let o : Outcome = outcome_by image (memory_along image v done) calls t (thread_along image told v done t) in
    let same : outcome_by image (memory_of image state) state.core.calls t (thread_at state.core t) ≡ o = outcome_along image told tape v done state t inv there in
    let noted_is : note_in o ≡ noted told p = ap note_in (sym same) ∙ notes in
    let asks : asked_at seen.local (instr_of image seen) heard.reach ≡ asked_noted (noted told p) =
    sym (asked_act seen.local (instr_of image seen) heard) ∙ ap asked_noted noted_is in
    let heeds : Heeds image told given tape v done t o = record {
      fits = fits o;
      links = inv.links t;
      asked = asks;
      answered = run_answered image told tape v done state t inv there notes;
      note = ap joins noted_is;
    } in
    same_act seen.local (instr_of image seen) (told_here image told given v done t) heard
    (swap (instr_of image seen) (conditional_in image seen) o heard (told_here image told given v done t) (heard_same image told given tape v done t o sound inv.places heeds))
    ∙ sym same
