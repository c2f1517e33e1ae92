-- From what an instruction did to the step of the machine.
use Rattle.std.specs.Prelude.{◌≡◌, ℕ, Bool, true, false, List, [], ◌∷◌, ◌+◌, ◌++◌, length, map, slice_set, Option, Some, None, refl, if◌then◌else◌}
use Rattle.std.proofs.Common.{sym, ap, ◌∙◌, arith, true, false}
use Rattle.std.proofs.lemmas.List.{length-set, length-map, length-append}
use Rattle.elf_image.specs.declared.write.Write.{Write}
use Rattle.rv_model.specs.declared.state.Thread.{Thread}
use Rattle.rv_model.specs.Thread.{touches, surviving, losing}
use Rattle.rv_model.specs.declared.state.Local.{Local}
use Rattle.rv_model.specs.declared.state.Calls.{Calls}
use Rattle.rv_model.specs.declared.state.Note as model
use Rattle.rv_model.specs.declared.state.Note.TheVariants as shown
use Rattle.odr_log.specs.declared.log.Call.TheVariants as call
use Rattle.rv_model.specs.Calls.{made}
use Rattle.rv_model.specs.Step.{child_of, calls_then}
use Rattle.guest_machine.specs.Spans.{kept_by, losing_by}

surviving-by : (writes : List Write) (test : ℕ → Bool) → ((reserved : ℕ) → touches writes reserved ≡ test reserved)
    → (reservation : Option ℕ) → surviving writes reservation ≡ kept_by test reservation
surviving-by writes test same None = refl
surviving-by writes test same (Some reserved) = ap (λ (ends : Bool). if ends then None else Some reserved) (same reserved)

pub losing-by : (writes : List Write) (test : ℕ → Bool) → ((reserved : ℕ) → touches writes reserved ≡ test reserved)
    → (threads : List Thread) → map (losing writes) threads ≡ map (losing_by test) threads
losing-by writes test same [] = refl
losing-by writes test same (thread ∷ threads) =
    ap (λ (left : Option ℕ). (record thread { reservation = left }) ∷ map (losing writes) threads) (surviving-by writes test same thread.reservation)
    ∙ ap (λ (rest : List Thread). losing_by test thread ∷ rest) (losing-by writes test same threads)

-- the threads that were made, after a step, are those before it and its child
pub made-then : (calls : Calls) (thread a0 : ℕ) (local : Local) (note : model.Note)
    → made (calls_then calls thread a0 note) ≡ made calls + length (child_of local note)
made-then calls thread a0 local shown.Nothing = omega arith
made-then calls thread a0 local (shown.Branch taken) = omega arith
made-then calls thread a0 local (shown.Jump target) = omega arith
made-then calls thread a0 local (shown.Faulted fault) = omega arith
made-then calls thread a0 local (shown.Called (call.Exit code)) = omega arith
made-then calls thread a0 local (shown.Called call.EndThread) = let same = length-set calls.ended thread (Some a0) in omega arith
made-then calls thread a0 local (shown.Called (call.Spawn entry (Some child))) = length-append calls.ended (None ∷ [])
made-then calls thread a0 local (shown.Called (call.Spawn entry None)) = omega arith
made-then calls thread a0 local (shown.Called (call.Join target ok)) = omega arith
made-then calls thread a0 local (shown.Called (call.Lock mutex true)) = omega arith
made-then calls thread a0 local (shown.Called (call.Lock mutex false)) = omega arith
made-then calls thread a0 local (shown.Called (call.Unlock mutex true)) = omega arith
made-then calls thread a0 local (shown.Called (call.Unlock mutex false)) = omega arith
made-then calls thread a0 local (shown.Called (call.TryLock mutex true)) = omega arith
made-then calls thread a0 local (shown.Called (call.TryLock mutex false)) = omega arith
made-then calls thread a0 local (shown.Called (call.Write bytes)) = omega arith
made-then calls thread a0 local (shown.Called call.WriteBad) = omega arith
made-then calls thread a0 local (shown.Called (call.Read want bytes)) = omega arith
made-then calls thread a0 local (shown.Called call.ReadBad) = omega arith
made-then calls thread a0 local (shown.Called call.SelfId) = omega arith
made-then calls thread a0 local (shown.Called call.Yield) = omega arith
made-then calls thread a0 local (shown.Called (call.Unknown number)) = omega arith

pub counted-after : (calls : Calls) (threads children : List Thread) (f : Thread → Thread) (after : Thread) (thread a0 : ℕ) (local : Local) (note : model.Note)
    → length threads ≡ made calls → children ≡ child_of local note
    → length (slice_set (map f threads) thread after ++ children) ≡ made (calls_then calls thread a0 note)
counted-after calls threads children f after thread a0 local note counted is =
    length-append (slice_set (map f threads) thread after) children
    ∙ ap (λ (n : ℕ). n + length children) (length-set (map f threads) thread after ∙ length-map threads f ∙ counted)
    ∙ ap (λ (made_now : List Thread). made calls + length made_now) is
    ∙ sym (made-then calls thread a0 local note)

pub ruleset executed = (losing-by, counted-after)

pub ruleset stepped = (losing-by)
