-- An access is a counted step, and no exit.
use Rattle.std.specs.Prelude.{◌≡◌, ℕ, suc, ◌+◌, ◌<◌, Bool, true, false, cond, List, [], ◌∷◌, length, refl}
use Rattle.std.proofs.Common.{sym, ◌∙◌, ap, subst, arith, inl, inr, get_or}
use Rattle.std.proofs.lemmas.Bool.{false≢true}
use Rattle.elf_image.specs.Layout.{Layout}
use Rattle.rv32_decode.specs.declared.instr.Instr.{Instr}
use Rattle.rv32_decode.specs.declared.instr.Instr.TheVariants as instr
use Rattle.odr_log.specs.declared.log.Call.{Call}
use Rattle.odr_log.specs.declared.log.Call.TheVariants as call
use Rattle.odr_log.specs.declared.log.Pos.{Pos}
use Rattle.rv_model.specs.declared.state.Note.{Note}
use Rattle.rv_model.specs.declared.state.Note.TheVariants as note
use Rattle.rv_model.specs.declared.walk.Place.{Place}
use Rattle.rv_model.specs.Accesses.{is_access, accesses_from, accesses_by}
use Rattle.rv_model.specs.Walk.{places_of, notes_of, transfer_of, Leads, ThreadWalk}
use Rattle.guided_walk.specs.Orders.{In}
use Rattle.guided_walk.specs.Ordered.{IsExit}
use Rattle.guided_walk.proofs.Walks.{Shape, shape}
use Rattle.guided_walk.proofs.Records.{rec}
use Rattle.guided_walk.proofs.Facts.{in_log, CalledAt, called_place}
use Rattle.guided_walk.proofs.NeedsOrder.{counted_place}
use Rattle.guided_walk.proofs.Placing.{in-append}
use Rattle.walk_orders.specs.Law.{AccessesGoOn}
use Rattle.walk_orders.proofs.Exits.{contains_among}

-- an access among the places of a thread
record AccessAt (thread step : ℕ) (places : List Place) (notes : List Note) (p : Pos) : Type 0 where
  pub number : ℕ
  pub within : number < length notes
  pub thread_is : p.thread ≡ thread
  pub step_is : p.step ≡ step + number
  pub no_exit : (image : Layout) (pc after : ℕ) → Leads image pc places notes after → (code : ℕ) → get_or notes number note.Nothing ≡ note.Called (call.Exit code) → ⊥

nothing_called : (c : Call) → note.Called c ≡ note.Nothing → ⊥
nothing_called c e = cc

-- no instruction that is an access exits
never_exits : (pc : ℕ) (i : Instr) (code : ℕ) → is_access i (note.Called (call.Exit code)) ≡ true → Shape (transfer_of pc i) (note.Called (call.Exit code)) → ⊥
unfolding transfer_of
never_exits pc (instr.Load op rd rs1 offset) code e s = nothing_called (call.Exit code) s
never_exits pc (instr.Store op rs1 rs2 offset) code e s = nothing_called (call.Exit code) s
never_exits pc (instr.LoadReserved rd rs1 aq rl) code e s = nothing_called (call.Exit code) s
never_exits pc (instr.StoreConditional rd rs1 rs2 aq rl) code e s = nothing_called (call.Exit code) s
never_exits pc (instr.Amo op rd rs1 rs2 aq rl) code e s = nothing_called (call.Exit code) s
never_exits pc instr.Ecall code e s = false≢true e
never_exits pc (instr.Lui rd imm) code e s = false≢true e
never_exits pc (instr.Auipc rd imm) code e s = false≢true e
never_exits pc (instr.Jal rd offset) code e s = false≢true e
never_exits pc (instr.Jalr rd rs1 offset) code e s = false≢true e
never_exits pc (instr.Branch op rs1 rs2 offset) code e s = false≢true e
never_exits pc (instr.Imm op rd rs1 imm) code e s = false≢true e
never_exits pc (instr.Op op rd rs1 rs2) code e s = false≢true e
never_exits pc (instr.Fence rd rs1 imm) code e s = false≢true e
never_exits pc instr.Ebreak code e s = false≢true e

access_now : (thread step : ℕ) (place : Place) (places : List Place) (shown : Note) (notes : List Note) → is_access place.instr shown ≡ true
    → AccessAt thread step (place ∷ places) (shown ∷ notes) (record { thread = thread; step = step })
access_now thread step place places shown notes e = record {
  number = 0;
  within = omega arith;
  thread_is = refl;
  step_is = omega arith;
  no_exit = λ (image : Layout) (pc after : ℕ) (leads : Leads image pc (place ∷ places) (shown ∷ notes) after) (code : ℕ) (exit : shown ≡ note.Called (call.Exit code)).
      never_exits pc place.instr code (ap (is_access place.instr) (sym exit) ∙ e)
      (subst (Shape (transfer_of pc place.instr)) exit (shape pc (transfer_of pc place.instr) shown leads.2.0 leads.2.1));
}

access_later : (thread step : ℕ) (place : Place) (places : List Place) (shown : Note) (notes : List Note) (p : Pos) → AccessAt thread (step + 1) places notes p
    → AccessAt thread step (place ∷ places) (shown ∷ notes) p
access_later thread step place places shown notes p a = record {
  number = suc a.number;
  within = omega (arith, a.within);
  thread_is = a.thread_is;
  step_is = omega (arith, a.step_is);
  no_exit = λ (image : Layout) (pc after : ℕ) (leads : Leads image pc (place ∷ places) (shown ∷ notes) after).
      a.no_exit image leads.2.0 after leads.2.2;
}

access_by : (thread step : ℕ) (place : Place) (places : List Place) (shown : Note) (notes : List Note) (p : Pos) → (b : Bool) → is_access place.instr shown ≡ b
    → In p (cond b ((let q : Pos = record { thread = thread; step = step } in q) ∷ accesses_from thread (step + 1) places notes) (accesses_from thread (step + 1) places notes))
    → (In p (accesses_from thread (step + 1) places notes) → AccessAt thread (step + 1) places notes p) → AccessAt thread step (place ∷ places) (shown ∷ notes) p
access_by thread step place places shown notes p true e (inl same) rest =
    subst (AccessAt thread step (place ∷ places) (shown ∷ notes)) same (access_now thread step place places shown notes e)
access_by thread step place places shown notes p true e (inr i) rest = access_later thread step place places shown notes p (rest i)
access_by thread step place places shown notes p false e i rest = access_later thread step place places shown notes p (rest i)

access_from : (thread step : ℕ) (places : List Place) (notes : List Note) (p : Pos) → In p (accesses_from thread step places notes) → AccessAt thread step places notes p
access_from thread step [] [] p i = absurd i
access_from thread step [] (shown ∷ notes) p i = absurd i
access_from thread step (place ∷ places) [] p i = absurd i
access_from thread step (place ∷ places) (shown ∷ notes) p i =
    access_by thread step place places shown notes p (is_access place.instr shown) refl i (access_from thread (step + 1) places notes p)

-- an access of one of the threads from a number on
record AccessIn (thread : ℕ) (places : List (List Place)) (notes : List (List Note)) (p : Pos) : Type 0 where
  pub number : ℕ
  pub thread_is : p.thread ≡ thread + number
  pub at : AccessAt p.thread 0 (get_or places number []) (get_or notes number []) p

access_in : (thread : ℕ) (places : List (List Place)) (notes : List (List Note)) (p : Pos) → In p (accesses_by thread places notes) → AccessIn thread places notes p
access_in thread [] [] p i = absurd i
access_in thread [] (shown ∷ others) p i = absurd i
access_in thread (place ∷ more) [] p i = absurd i
access_in thread (place ∷ more) (shown ∷ others) p i = elim (in-append p (accesses_from thread 0 place shown) (accesses_by (thread + 1) more others) i) [
  | inl j ↦ (let a : AccessAt thread 0 place shown p = access_from thread 0 place shown p j in
      record {
        number = 0;
        thread_is = a.thread_is ∙ (let z : thread ≡ thread + 0 = omega arith in z);
        at = subst (λ (t : ℕ). AccessAt t 0 place shown p) (sym a.thread_is) a;
      })
  | inr j ↦ (let a : AccessIn (thread + 1) more others p = access_in (thread + 1) more others p j in
      record { number = suc a.number; thread_is = omega (arith, a.thread_is); at = a.at })
]

pub accesses_go_on : AccessesGoOn
accesses_go_on image log walk p is i =
    let a : AccessIn 0 walk.places walk.notes p = access_in 0 walk.places walk.notes p i in
    let same : a.number ≡ p.thread = omega (arith, a.thread_is) in
    let at : AccessAt p.thread 0 (places_of walk p.thread) (notes_of walk p.thread) p =
    subst (λ (t : ℕ). AccessAt p.thread 0 (get_or walk.places t []) (get_or walk.notes t []) p) same a.at in
    let step : at.number ≡ p.step = omega (arith, at.step_is) in
    let within : p.step < length (notes_of walk p.thread) = omega (arith, at.within, step) in
    let tw : ThreadWalk image log p.thread (places_of walk p.thread) (notes_of walk p.thread) = is.each p.thread (in_log image log walk is p.thread p.step within) in (
      counted_place image log walk is p within,
      λ (exit : IsExit log p).
          let here : CalledAt log walk (rec p.thread p.step (call.Exit exit.0)) =
          called_place image log walk is (rec p.thread p.step (call.Exit exit.0)) (contains_among log.calls (rec p.thread p.step (call.Exit exit.0)) exit.1) in
          at.no_exit image tw.start tw.after tw.leads exit.0 (ap (λ (k : ℕ). get_or (notes_of walk p.thread) k note.Nothing) step ∙ here.is),
    )
