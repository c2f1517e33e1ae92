-- What a join hands on.
use Rattle.std.proofs.Common.{◌≡◌, ℕ, ◌<◌, ◌≤◌, List, length, Bool, true, false, ltb, refl, sym, ◌∙◌, ap, subst, inr, arith}
use Rattle.std.specs.Prelude.{Option, Some, None, slice_index_or}
use Rattle.std.proofs.lemmas.Bool.{ltb-true, ltb-false}
use Rattle.std.proofs.lemmas.List.{get_or_past}
use Rattle.std.proofs.lemmas.Option.{none-some, same_Some}
use Rattle.odr_log.specs.declared.log.Log.{Log}
use Rattle.odr_log.specs.declared.log.Pos.{Pos}
use Rattle.odr_log.specs.declared.log.ThreadLog.{ThreadLog}
use Rattle.rv_model.specs.RecordedOrder.{Counted}
use Rattle.rv_model.specs.Run.{logged, nothing_logged}
use Rattle.bv_terms.specs.declared.node.TermId.{TermId}
use Rattle.bv_terms.specs.Shapes.{Shape}
use Rattle.bv_terms.specs.Values.{Assignment, value_at}
use Rattle.guided_walk.specs.Flow.{CountedFlow, NeedsJoin}
use Rattle.guided_walk.specs.Guided.{ended_with, joined_from, joins}
use Rattle.guided_walk.specs.Orders.{In}
use Rattle.guided_walk.specs.Told.{noted}
use Rattle.guided_walk.proofs.NeedsOrder.{need_is}
use Rattle.step_terms.specs.Made.{Grows}
use Rattle.thread_terms.specs.Steps.{HasVariables}
use Rattle.walk_lists.specs.Order.{Follows}
use Rattle.path_exec.specs.declared.progress.Progress.{Progress}
use Rattle.path_exec.specs.Following.{IsJoined, end_of_target, joined_end}
use Rattle.path_exec.specs.Paths.{IsOfEarlier}
use Rattle.path_exec.specs.Progress.{Ground, HoldSoFar, IsEnd, IsEnded, IsGround, IsProgress, tells, visited}
use Rattle.path_exec.proofs.Ends.{ends_so}
use Rattle.path_exec.proofs.Kept.{earlier_on, have_kept}

-- a counted step is one of a thread of the log
pub counted_thread : (log : Log) (p : Pos) → Counted log p → p.thread < length log.threads
counted_thread log p counted = by_test (ltb p.thread (length log.threads)) refl
  where
    by_test : (b : Bool) → ltb p.thread (length log.threads) ≡ b → p.thread < length log.threads
    by_test true e = ltb-true p.thread (length log.threads) e
    by_test false e =
        let none : (logged log p.thread).steps ≡ 0 = ap (λ (t : ThreadLog). t.steps) (get_or_past log.threads p.thread nothing_logged (ltb-false p.thread (length log.threads) e)) in
        absurd (omega (arith, counted, none))

-- what a step needs, it needs in the flow
pub needed_flow : (ground : Ground) → IsGround ground → (done : List Pos) (p q : Pos) → Follows (tells ground) done p → Counted ground.log p → NeedsJoin (tells ground) q (joins (noted (tells ground) p)) → CountedFlow ground.log q p
needed_flow ground is done p q follows counted need = (need_is ground.image ground.log ground.walk is.walk is.fits q p follows.place (inr need)).flow counted

-- ---- the term of what is handed on

pub record IsHanded (ground : Ground) (new : List Shape) (done : List Pos) (p : Pos) (before : Progress) (joined : TermId) : Type 0 where
  pub value : (w : Assignment) → HoldSoFar ground done w → value_at w new joined.number ≡ joined_from (tells ground) (visited ground done w) (joins (noted (tells ground) p))
  pub knows : HasVariables (IsOfEarlier ground.log before.accesses p) new joined.number

nothing_handed : (ground : Ground) (old new : List Shape) (done : List Pos) (p : Pos) (before : Progress) (joined : TermId) (target : Option ℕ) → joins (noted (tells ground) p) ≡ target
    → ((w : Assignment) → joined_from (tells ground) (visited ground done w) target ≡ 0) → IsJoined old new None joined → IsHanded ground new done p before joined
nothing_handed ground old new done p before joined target e zero is = record {
  value = λ w hold. is.value w ∙ sym (ap (joined_from (tells ground) (visited ground done w)) e ∙ zero w);
  knows = λ width number there. absurd (is.occurs width number there);
}

none_ended : (ground : Ground) (done : List Pos) (target : ℕ) (o : Option Pos) → (tells ground).ender target ≡ o → ((q : Pos) → o ≡ Some q → ⊥) → (w : Assignment)
    → ended_with (visited ground done w) ((tells ground).ender target) ≡ 0
none_ended ground done target None e none w = ap (ended_with (visited ground done w)) e
none_ended ground done target (Some q) e none w = absurd (none q refl)

pub handed_on : (ground : Ground) (old new : List Shape) (done : List Pos) (p : Pos) (before : Progress) (joined : TermId) → IsGround ground → IsProgress ground old done before → Follows (tells ground) done p
    → Counted ground.log p → Grows old new → IsJoined old new (joined_end before.ends (noted (tells ground) p)) joined → IsHanded ground new done p before joined
handed_on ground old new done p before joined is progress follows counted grows made = by_target (joins (noted (tells ground) p)) refl
  where
    needed : (target : ℕ) (q : Pos) → joins (noted (tells ground) p) ≡ Some target → (tells ground).ender target ≡ Some q → NeedsJoin (tells ground) q (joins (noted (tells ground) p))
    needed target q e ender = subst (NeedsJoin (tells ground) q) (sym e) ender

    -- the end of the target, as it is kept
    kept : (target : ℕ) → (inside : Bool) → ltb target (length ground.log.threads) ≡ inside → (slot : Option TermId) → slice_index_or before.ends target None ≡ slot
        → ((q : Pos) → (tells ground).ender target ≡ Some q → In q done → slot ≡ None → ⊥) × ((id : TermId) → slot ≡ Some id → IsEnded ground old done before.accesses target id)
    kept target true inside None e =
        let ends = subst (λ (o : Option TermId). IsEnd ground old done before.accesses target o) e (progress.ends target (ltb-true target (length ground.log.threads) inside)) in
        (λ q ender there none. ends q ender there, λ id some. absurd (none-some id some))
    kept target true inside (Some end) e =
        let ends = subst (λ (o : Option TermId). IsEnd ground old done before.accesses target o) e (progress.ends target (ltb-true target (length ground.log.threads) inside)) in
        (λ q ender there none. absurd (none-some end (sym none)), λ id some. subst (IsEnded ground old done before.accesses target) (same_Some end id some) ends)
    kept target false inside slot e =
        let past : length ground.log.threads ≤ target = ltb-false target (length ground.log.threads) inside in
        let nothing : slice_index_or before.ends target None ≡ None = get_or_past before.ends target None (omega (arith, past, progress.end_count)) in (
          λ q ender there none.
              let own : q.thread ≡ target = (ends_so ground is target q ender).own in
              absurd (omega (arith, past, own, counted_thread ground.log q (progress.counted q there))),
          λ id some. absurd (none-some id (sym nothing ∙ e ∙ some)),
        )

    by_slot : (target : ℕ) → joins (noted (tells ground) p) ≡ Some target → (slot : Option TermId) → slice_index_or before.ends target None ≡ slot → IsJoined old new slot joined → IsHanded ground new done p before joined
    by_slot target e None here joined_is =
        nothing_handed ground old new done p before joined (Some target) e
        (λ w. none_ended ground done target ((tells ground).ender target) refl
        (λ q ender. (kept target (ltb target (length ground.log.threads)) refl None here).0 q ender (follows.needs q (inr (needed target q e ender))) refl) w)
        joined_is
    by_slot target e (Some id) here joined_is =
        let ended : IsEnded ground old done before.accesses target id = (kept target (ltb target (length ground.log.threads)) refl (Some id) here).1 id refl in
        record {
          value = λ w hold.
              ap (λ (t : TermId). value_at w new t.number) joined_is
              ∙ grows.terms.value w id.number ended.word.inside
              ∙ ended.value w hold
              ∙ sym (ap (joined_from (tells ground) (visited ground done w)) e ∙ ap (ended_with (visited ground done w)) ended.ends);
          knows = subst (λ (t : TermId). HasVariables (IsOfEarlier ground.log before.accesses p) new t.number) (sym joined_is)
              (have_kept (IsOfEarlier ground.log before.accesses ended.ender) (IsOfEarlier ground.log before.accesses p) old new 32 id.number grows ended.word
              (λ width number. earlier_on ground.log before.accesses ended.ender p width number
              (λ _. (progress.counted ended.ender ended.there, needed_flow ground is done p ended.ender follows counted (needed target ended.ender e ended.ends)))) ended.knows);
        }

    by_target : (o : Option ℕ) → joins (noted (tells ground) p) ≡ o → IsHanded ground new done p before joined
    by_target None e = nothing_handed ground old new done p before joined None e (λ w. refl) (subst (λ (s : Option TermId). IsJoined old new s joined) (ap (end_of_target before.ends) e) made)
    by_target (Some target) e = by_slot target e (slice_index_or before.ends target None) refl (subst (λ (s : Option TermId). IsJoined old new s joined) (ap (end_of_target before.ends) e) made)
