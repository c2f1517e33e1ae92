-- The values with which threads ended, one step later.
use Rattle.std.proofs.Common.{◌≡◌, ℕ, ◌<◌, List, [], ◌∷◌, ◌++◌, length, refl, sym, ◌∙◌, ap, subst, inl, inr, arith}
use Rattle.std.specs.Prelude.{◌⊎◌, Option, Some, None, slice_index_or, slice_set}
use Rattle.std.proofs.lemmas.List.{get_or-set_same, get_or-set_other}
use Rattle.odr_log.specs.declared.log.Call.{Call}
use Rattle.odr_log.specs.declared.log.Call.TheVariants as call
use Rattle.odr_log.specs.declared.log.Pos.{Pos}
use Rattle.rv_model.specs.declared.state.Note.{Note}
use Rattle.rv_model.specs.declared.state.Note.TheVariants as note
use Rattle.rv_model.specs.Calls.{first_argument}
use Rattle.bv_terms.specs.declared.node.TermId.{TermId}
use Rattle.bv_terms.specs.Shapes.{Shape}
use Rattle.bv_terms.specs.Values.{Assignment}
use Rattle.guided_walk.specs.Guided.{Visit, ended_with}
use Rattle.guided_walk.specs.Orders.{In}
use Rattle.guided_walk.specs.Told.{noted}
use Rattle.guided_walk.proofs.Facts.{called_noted}
use Rattle.guided_walk.proofs.NeedsOrder.{EndedBy, ended_by}
use Rattle.guided_walk.proofs.Placing.{in-append, in_left}
use Rattle.step_terms.specs.Made.{Grows, IsTerm}
use Rattle.step_terms.proofs.Making.{stays}
use Rattle.thread_terms.specs.declared.access.Access.{Access}
use Rattle.thread_terms.specs.Given.{given_by}
use Rattle.thread_terms.specs.Standing.{term_of}
use Rattle.path_exec.specs.declared.progress.Left.{Left}
use Rattle.path_exec.specs.declared.progress.Progress.{Progress}
use Rattle.path_exec.specs.declared.walker.Walker.{Walker}
use Rattle.path_exec.specs.Following.{end_left, with_end}
use Rattle.path_exec.specs.Paths.{IsOfEarlier}
use Rattle.path_exec.specs.Progress.{Ground, IsEnd, IsEnded, IsGround, tells, visited}
use Rattle.path_exec.proofs.Along.{at_before, at_last}
use Rattle.path_exec.proofs.Kept.{earlier_more, have_kept}
use Rattle.path_exec.proofs.Orders.{follows_next, in_last}
use Rattle.path_exec.proofs.Taking.{Taking, hold_more}

-- ---- which step ends a thread

-- the step by which a thread ended is recorded as its end
pub record Ends (ground : Ground) (thread : ℕ) (q : Pos) : Type 0 where
  pub own : q.thread ≡ thread
  pub shows : noted (tells ground) q ≡ note.Called call.EndThread

pub ends_so : (ground : Ground) → IsGround ground → (thread : ℕ) (q : Pos) → (tells ground).ender thread ≡ Some q → Ends ground thread q
ends_so ground is thread q e =
    let m : EndedBy ground.log thread q = ended_by ground.log ground.walk thread q e in
    record {
      own = ap (λ (x : Pos). x.thread) (sym m.place) ∙ m.tid;
      shows = ap (noted (tells ground)) (sym m.place) ∙ called_noted ground.image ground.log ground.walk is.walk m.ender m.has ∙ ap (λ (c : Call). note.Called c) m.is;
    }

-- ---- what is kept

value_kept : (ground : Ground) (done : List Pos) (p q : Pos) (w : Assignment) → (In p done → ⊥) → In q done → ended_with (visited ground (done ++ p ∷ []) w) (Some q) ≡ ended_with (visited ground done w) (Some q)
value_kept ground done p q w new there = ap (λ (x : Visit). first_argument x.seen.local) (at_before ground.image (tells ground) (given_by w) done p q ground.start new there)

pub end_kept : (ground : Ground) (old new : List Shape) (done : List Pos) (p : Pos) (accesses more : List Access) (thread : ℕ) (end : Option TermId)
    → (In p done → ⊥) → Grows old new → ((tells ground).ender thread ≡ Some p → ⊥) → IsEnd ground old done accesses thread end → IsEnd ground new (done ++ p ∷ []) (accesses ++ more) thread end
end_kept ground old new done p accesses more thread None fresh grows other is = λ q e there. elim (in-append q done (p ∷ []) there) [
  | inl before ↦ is q e before
  | inr here ↦ elim here [ inl same ↦ other (e ∙ ap (λ (x : Pos). Some x) (sym same)) | inr none ↦ absurd none ]
]
end_kept ground old new done p accesses more thread (Some id) fresh grows other is = record {
  ender = is.ender;
  ends = is.ends;
  there = in_left is.ender done (p ∷ []) is.there;
  word = stays old new 32 id.number grows is.word;
  value = λ w hold. grows.terms.value w id.number is.word.inside ∙ is.value w ((hold_more ground done p fresh w).0 hold).0 ∙ sym (value_kept ground done p is.ender w fresh is.there);
  knows = have_kept (IsOfEarlier ground.log accesses is.ender) (IsOfEarlier ground.log (accesses ++ more) is.ender) old new 32 id.number grows is.word
      (λ width number. earlier_more ground.log accesses more is.ender width number) is.knows;
}

-- ---- the thread that the step ends

pub end_now : (ground : Ground) (old new : List Shape) (done : List Pos) (p : Pos) (before : Progress) (walker : Walker) (joined : TermId) (left : Left) (more : List Access)
    → Taking ground old new done p before walker joined left → (tells ground).ender p.thread ≡ Some p
    → IsEnded ground new (done ++ p ∷ []) (before.accesses ++ more) p.thread (record { number = term_of walker.registers 10 })
end_now ground old new done p before walker joined left more t ends =
    let word : IsTerm old 32 (term_of walker.registers 10) = t.walker_is.words.words 10 (omega arith) in
    record {
      ender = p;
      ends = ends;
      there = in_last p done;
      word = stays old new 32 (term_of walker.registers 10) t.grows word;
      value = λ w hold.
          let so_far = ((hold_more ground done p t.follows.new w).0 hold).0 in
          let stand = (t.walker_is.stands w p.step (follows_next (tells ground) done p t.follows) so_far).stand in
          t.grows.terms.value w (term_of walker.registers 10) word.inside
          ∙ stand.values 10 (omega arith)
          ∙ sym (ap (λ (x : Visit). first_argument x.seen.local) (at_last ground.image (tells ground) (given_by w) done p ground.start));
      knows = have_kept (IsOfEarlier ground.log before.accesses p) (IsOfEarlier ground.log (before.accesses ++ more) p) old new 32 (term_of walker.registers 10) t.grows word
          (λ width number. earlier_more ground.log before.accesses more p width number)
          (λ width number there. t.walker_is.knows p.step (follows_next (tells ground) done p t.follows) width number (record { number = 10; below = omega arith; occurs = there }));
    }

-- ---- all threads

-- whether a step ends its thread
data EndCase (walker : Walker) (n : Note) : Type 0 where
  IsIt : n ≡ note.Called call.EndThread → EndCase walker n
  IsNot : (n ≡ note.Called call.EndThread → ⊥) → end_left walker n ≡ None → EndCase walker n

end_case : (walker : Walker) (n : Note) → EndCase walker n
end_case walker (note.Called call.EndThread) = IsIt refl
end_case walker (note.Called (call.Exit code)) = IsNot (λ e. cc) refl
end_case walker (note.Called (call.Spawn entry child)) = IsNot (λ e. cc) refl
end_case walker (note.Called (call.Join target ok)) = IsNot (λ e. cc) refl
end_case walker (note.Called (call.Lock mutex ok)) = IsNot (λ e. cc) refl
end_case walker (note.Called (call.Unlock mutex ok)) = IsNot (λ e. cc) refl
end_case walker (note.Called (call.TryLock mutex got)) = IsNot (λ e. cc) refl
end_case walker (note.Called (call.Write bytes)) = IsNot (λ e. cc) refl
end_case walker (note.Called call.WriteBad) = IsNot (λ e. cc) refl
end_case walker (note.Called (call.Read want bytes)) = IsNot (λ e. cc) refl
end_case walker (note.Called call.ReadBad) = IsNot (λ e. cc) refl
end_case walker (note.Called call.SelfId) = IsNot (λ e. cc) refl
end_case walker (note.Called call.Yield) = IsNot (λ e. cc) refl
end_case walker (note.Called (call.Unknown number)) = IsNot (λ e. cc) refl
end_case walker note.Nothing = IsNot (λ e. cc) refl
end_case walker (note.Branch taken) = IsNot (λ e. cc) refl
end_case walker (note.Jump target) = IsNot (λ e. cc) refl
end_case walker (note.Faulted fault) = IsNot (λ e. cc) refl

slot_other : (ends : List (Option TermId)) (own thread : ℕ) (end : Option TermId) → (own ≡ thread → ⊥) → slice_index_or (with_end ends own end) thread None ≡ slice_index_or ends thread None
slot_other ends own thread None apart = refl
slot_other ends own thread (Some id) apart = get_or-set_other ends own thread (Some id) None (λ e. apart (sym e))

pub ends_more : (ground : Ground) (old new : List Shape) (done : List Pos) (p : Pos) (before : Progress) (walker : Walker) (joined : TermId) (left : Left) (more : List Access)
    → Taking ground old new done p before walker joined left → (noted (tells ground) p ≡ note.Called call.EndThread → (tells ground).ender p.thread ≡ Some p) → p.thread < length before.ends
    → left.end ≡ end_left walker (noted (tells ground) p) → (thread : ℕ) → (same : (p.thread ≡ thread) ⊎ (p.thread ≡ thread → ⊥))
    → IsEnd ground old done before.accesses thread (slice_index_or before.ends thread None)
    → IsEnd ground new (done ++ p ∷ []) (before.accesses ++ more) thread (slice_index_or (with_end before.ends p.thread left.end) thread None)
ends_more ground old new done p before walker joined left more t ender within end thread (inr apart) is =
    subst (λ (o : Option TermId). IsEnd ground new (done ++ p ∷ []) (before.accesses ++ more) thread o) (sym (slot_other before.ends p.thread thread left.end apart))
    (end_kept ground old new done p before.accesses more thread (slice_index_or before.ends thread None) t.follows.new t.grows
    (λ e. apart (ends_so ground t.ground_is thread p e).own) is)
ends_more ground old new done p before walker joined left more t ender within end thread (inl own) is = by_case (end_case walker (noted (tells ground) p))
  where
    by_case : EndCase walker (noted (tells ground) p) → IsEnd ground new (done ++ p ∷ []) (before.accesses ++ more) thread (slice_index_or (with_end before.ends p.thread left.end) thread None)
    by_case (IsIt shows) =
        let id : TermId = record { number = term_of walker.registers 10 } in
        let is_end : left.end ≡ Some id = end ∙ ap (end_left walker) shows in
        let here : slice_index_or (with_end before.ends p.thread left.end) thread None ≡ Some id =
        ap (λ (o : Option TermId). slice_index_or (with_end before.ends p.thread o) thread None) is_end
        ∙ ap (λ u. slice_index_or (slice_set before.ends p.thread (Some id)) u None) (sym own)
        ∙ get_or-set_same before.ends p.thread (Some id) None within in
        subst (λ (o : Option TermId). IsEnd ground new (done ++ p ∷ []) (before.accesses ++ more) thread o) (sym here)
        (subst (λ u. IsEnded ground new (done ++ p ∷ []) (before.accesses ++ more) u id) own (end_now ground old new done p before walker joined left more t (ender shows)))
    by_case (IsNot other none) =
        let here : slice_index_or (with_end before.ends p.thread left.end) thread None ≡ slice_index_or before.ends thread None =
        ap (λ (o : Option TermId). slice_index_or (with_end before.ends p.thread o) thread None) (end ∙ none) in
        subst (λ (o : Option TermId). IsEnd ground new (done ++ p ∷ []) (before.accesses ++ more) thread o) (sym here)
        (end_kept ground old new done p before.accesses more thread (slice_index_or before.ends thread None) t.follows.new t.grows
        (λ e. other (ends_so ground t.ground_is thread p e).shows) is)
