-- A thread that a step makes.
use Rattle.std.proofs.Common.{◌≡◌, ℕ, zero, suc, ◌<◌, List, [], ◌∷◌, ◌++◌, length, refl, sym, ◌∙◌, ap, subst, inl, inr, arith}
use Rattle.std.specs.Prelude.{◌⊎◌, Option, Some, None, is_some, option_map, slice_index_or}
use Rattle.std.proofs.lemmas.Option.{same_Some}
use Rattle.elf_image.specs.Layout.{Layout}
use Rattle.odr_log.specs.declared.log.Call.{Call}
use Rattle.odr_log.specs.declared.log.Call.TheVariants as call
use Rattle.odr_log.specs.declared.log.CallRec.{CallRec}
use Rattle.odr_log.specs.declared.log.Pos.{Pos}
use Rattle.rv_model.specs.declared.state.Local.{Local}
use Rattle.rv_model.specs.declared.state.Note.{Note}
use Rattle.rv_model.specs.declared.state.Note.TheVariants as note
use Rattle.rv_model.specs.Calls.{second_argument}
use Rattle.rv_model.specs.RecordedOrder.{Counted}
use Rattle.rv_model.specs.Step.{child_of}
use Rattle.rv_model.specs.Thread.{no_thread, register, spawned_local}
use Rattle.rv_model.specs.Walk.{BeginsAt, maker_of, makes, places_of}
use Rattle.bv_terms.specs.declared.node.TermId.{TermId}
use Rattle.bv_terms.specs.Shapes.{Shape}
use Rattle.bv_terms.specs.Values.{Assignment, value_at}
use Rattle.bv_terms.specs.Variables.{Occurs}
use Rattle.guided_walk.specs.Flow.{BySpawn, CountedFlow}
use Rattle.guided_walk.specs.Guided.{Visit, Visits, at, handed, seen_before}
use Rattle.guided_walk.specs.Told.{Told, noted, place_of}
use Rattle.guided_walk.proofs.Facts.{called_noted, place_called}
use Rattle.guided_walk.proofs.NeedsOrder.{among_contains}
use Rattle.guided_walk.proofs.Records.{found_among, rec}
use Rattle.step_terms.specs.Made.{Grows}
use Rattle.thread_terms.specs.declared.access.Access.{Access}
use Rattle.thread_terms.specs.Given.{given_by}
use Rattle.thread_terms.specs.Standing.{AreRegisters, OccursInRegisters, StandFor, term_of}
use Rattle.thread_terms.specs.Steps.{RegistersHave, StandsBefore}
use Rattle.thread_terms.proofs.Standing.{registers_stay, stand_stays}
use Rattle.path_exec.specs.declared.child.Child.{Child}
use Rattle.path_exec.specs.declared.progress.Left.{Left}
use Rattle.path_exec.specs.declared.progress.Progress.{Progress}
use Rattle.path_exec.specs.declared.walker.Walker.{Walker}
use Rattle.path_exec.specs.Following.{IsSpawned}
use Rattle.path_exec.specs.Links.{LinksTo, looks_back}
use Rattle.path_exec.specs.Paths.{IsOfEarlier}
use Rattle.path_exec.specs.Progress.{Ground, HoldSoFar, IsGround, IsNext, IsWalker, step_of, tells, visited}
use Rattle.path_exec.proofs.Along.{at_last}
use Rattle.path_exec.proofs.Kept.{earlier_more, earlier_on, occurs_more, registers_have_kept}
use Rattle.path_exec.proofs.Orders.{first_next, follows_next}
use Rattle.path_exec.proofs.Taking.{Taking, hold_more, seen_at}

-- ---- where it begins

same_spawn : (a b c d : ℕ) → note.Called (call.Spawn a (Some c)) ≡ note.Called (call.Spawn b (Some d)) → a ≡ b
same_spawn a b c d e = cc

some_place : (o : Option CallRec) (r : CallRec) (p : Pos) → o ≡ Some r → option_map place_of o ≡ Some p → place_of r ≡ p
some_place o r p e made = same_Some (place_of r) p (sym (ap (option_map place_of) e) ∙ made)

-- the entry that a spawn hands on is the address of the child's first step
entry_is : (ground : Ground) → IsGround ground → (p : Pos) (thread entry : ℕ) → (thread ≡ 0 → ⊥) → thread < length ground.log.threads
    → noted (tells ground) p ≡ note.Called (call.Spawn entry (Some thread)) → (tells ground).maker thread ≡ Some p → entry ≡ ground.address thread 0
entry_is ground is p thread entry child within shows made = by_thread thread child shows made (is.begins thread within)
  where
    by_thread : (t : ℕ) → (t ≡ 0 → ⊥) → noted (tells ground) p ≡ note.Called (call.Spawn entry (Some t)) → (tells ground).maker t ≡ Some p
        → BeginsAt ground.image ground.log t (ground.address t 0) → entry ≡ ground.address t 0
    by_thread zero late e m begins = absurd (late refl)
    by_thread (suc b) late e m begins =
        let r : CallRec = begins.0 in
        let place : place_of r ≡ p = some_place (maker_of ground.log (suc b)) r p begins.1 m in
        let has = found_among (λ (x : CallRec). makes (suc b) x.call) ground.log.calls r begins.1 in
        let recorded : noted (tells ground) p ≡ note.Called r.call =
        ap (noted (tells ground)) (sym place) ∙ called_noted ground.image ground.log ground.walk is.walk r has.0 in
        same_spawn entry (ground.address (suc b) 0) (suc b) (suc b) (sym e ∙ recorded ∙ ap (λ (c : Call). note.Called c) begins.2)

-- what a spawn hands on
handed_on : (told : Told) (visits : Visits) (thread : ℕ) (p : Pos) (entry : ℕ) → (thread ≡ 0 → ⊥) → told.maker thread ≡ Some p → noted told p ≡ note.Called (call.Spawn entry (Some thread)) → (image : Layout)
    → (seen_before image told visits thread 0).local ≡ spawned_local thread entry (register (at visits p).seen.local 3) (second_argument (at visits p).seen.local)
handed_on told visits zero p entry child made shows image = absurd (child refl)
handed_on told visits (suc b) p entry child made shows image =
    ap (λ (o : Option Pos). handed told visits o) made
    ∙ ap (λ (n : Note). (slice_index_or (child_of (at visits p).seen.local n) 0 no_thread).local) shows

link_none : (told : Told) (visits : Visits) (thread : ℕ) (image : Layout) → (seen_before image told visits thread 0).link ≡ None
link_none told visits thread image = refl

-- ---- the child

pub record Making (ground : Ground) (one old : List Shape) (p : Pos) (walker : Walker) (thread entry : ℕ) (child : Child) : Type 0 where
  pub words : AreRegisters one walker.registers
  pub grows : Grows one old
  pub apart : p.thread ≡ thread → ⊥
  pub later : thread ≡ 0 → ⊥
  pub within : thread < length ground.log.threads
  pub shows : noted (tells ground) p ≡ note.Called (call.Spawn entry (Some thread))
  pub made : (tells ground).maker thread ≡ Some p
  pub spawned : IsSpawned one old walker thread child

-- the child's registers stand for what its spawner hands on
child_stands : (ground : Ground) (one old new : List Shape) (done : List Pos) (p : Pos) (before : Progress) (walker : Walker) (joined : TermId) (left : Left) (thread entry : ℕ) (child : Child)
    → Taking ground old new done p before walker joined left → Making ground one old p walker thread entry child → (w : Assignment) → HoldSoFar ground (done ++ p ∷ []) w
    → StandsBefore w new child.walker.registers (ground.address thread 0) child.walker.link (seen_before ground.image (tells ground) (visited ground (done ++ p ∷ []) w) thread 0)
child_stands ground one old new done p before walker joined left thread entry child t m w hold =
    let both = (hold_more ground done p t.follows.new w).0 hold in
    let stand : StandFor w old walker.registers (seen_at ground done p w).local = (t.walker_is.stands w p.step (follows_next (tells ground) done p t.follows) both.0).stand in
    let visits = visited ground (done ++ p ∷ []) w in
    let last = ap (λ (x : Visit). x.seen.local) (at_last ground.image (tells ground) (given_by w) done p ground.start) in
    let local = (seen_at ground done p w).local in
    let value : (number : ℕ) → number < 32 → value_at w one (term_of walker.registers number) ≡ register local number =
    (λ number inside. sym (m.grows.terms.value w (term_of walker.registers number) (m.words.words number inside).inside) ∙ stand.values number inside) in
    let is : (seen_before ground.image (tells ground) visits thread 0).local
    ≡ spawned_local thread entry (value_at w one (term_of walker.registers 3)) (value_at w one (term_of walker.registers 11)) =
    handed_on (tells ground) visits thread p entry m.later m.made m.shows ground.image
    ∙ ap (λ (l : Local). spawned_local thread entry (register l 3) (register l 11)) last
    ∙ ap (λ v. spawned_local thread entry v (register local 11)) (sym (value 3 (omega arith)))
    ∙ ap (λ v. spawned_local thread entry (value_at w one (term_of walker.registers 3)) v) (sym (value 11 (omega arith))) in
    let begins : StandFor w old child.walker.registers (spawned_local thread entry (value_at w one (term_of walker.registers 3)) (value_at w one (term_of walker.registers 11))) = m.spawned.registers.stands w entry in
    record {
      stand = subst (λ (l : Local). StandFor w new child.walker.registers l) (sym is)
          (stand_stays w old new child.walker.registers _ t.grows m.spawned.registers.words begins);
      at = ap (λ (l : Local). l.pc) is ∙ entry_is ground t.ground_is p thread entry m.later m.within m.shows m.made;
      linked = ap is_some (link_none (tells ground) visits thread ground.image) ∙ sym (ap is_some m.spawned.link);
    }

-- from a spawn something flows to the child's first step
spawn_edge : (ground : Ground) → IsGround ground → (p : Pos) (thread entry : ℕ) → noted (tells ground) p ≡ note.Called (call.Spawn entry (Some thread)) → Counted ground.log p
    → Counted ground.log (step_of thread 0) → CountedFlow ground.log p (step_of thread 0)
spawn_edge ground is p thread entry shows from to = record {
  from = from;
  to = to;
  edge = BySpawn {entry = entry} (among_contains ground.log.calls (rec p.thread p.step (call.Spawn entry (Some thread)))
      (place_called ground.image ground.log ground.walk is.walk p (call.Spawn entry (Some thread)) shows));
}

child_knows : (ground : Ground) (one old new : List Shape) (done : List Pos) (p : Pos) (before : Progress) (walker : Walker) (joined : TermId) (left : Left) (more : List Access) (thread entry : ℕ) (child : Child)
    → Taking ground old new done p before walker joined left → Making ground one old p walker thread entry child
    → RegistersHave (IsOfEarlier ground.log (before.accesses ++ more) (step_of thread 0)) new child.walker.registers
child_knows ground one old new done p before walker joined left more thread entry child t m =
    registers_have_kept (IsOfEarlier ground.log before.accesses (step_of thread 0)) (IsOfEarlier ground.log (before.accesses ++ more) (step_of thread 0)) old new child.walker.registers t.grows m.spawned.registers.words
    (λ width number. earlier_more ground.log before.accesses more (step_of thread 0) width number)
    (λ width number there. on_from width number (m.spawned.registers.variables width number there))
  where
    spawner_has : (width number : ℕ) → OccursInRegisters one walker.registers width number → IsOfEarlier ground.log before.accesses p width number
    spawner_has width number there = t.walker_is.knows p.step (follows_next (tells ground) done p t.follows) width number (in_old there)
      where
        in_old : OccursInRegisters one walker.registers width number → OccursInRegisters old walker.registers width number
        in_old o = record { number = o.number; below = o.below; occurs = occurs_more one old width number (term_of walker.registers o.number) m.grows o.occurs }

    on_from : (width number : ℕ) → Occurs one width number (term_of walker.registers 3) ⊎ Occurs one width number (term_of walker.registers 11) → IsOfEarlier ground.log before.accesses (step_of thread 0) width number
    on_from width number (inl there) =
        earlier_on ground.log before.accesses p (step_of thread 0) width number (λ counted. (t.counted, spawn_edge ground t.ground_is p thread entry m.shows t.counted counted))
        (spawner_has width number (record { number = 3; below = omega arith; occurs = there }))
    on_from width number (inr there) =
        earlier_on ground.log before.accesses p (step_of thread 0) width number (λ counted. (t.counted, spawn_edge ground t.ground_is p thread entry m.shows t.counted counted))
        (spawner_has width number (record { number = 11; below = omega arith; occurs = there }))

pub child_walker : (ground : Ground) (one old new : List Shape) (done : List Pos) (p : Pos) (before : Progress) (walker : Walker) (joined : TermId) (left : Left) (more : List Access) (thread entry : ℕ) (child : Child)
    → Taking ground old new done p before walker joined left → Making ground one old p walker thread entry child
    → IsWalker ground new (done ++ p ∷ []) (before.accesses ++ more) thread child.walker
child_walker ground one old new done p before walker joined left more thread entry child t m = record {
  words = registers_stay old new child.walker.registers t.grows m.spawned.registers.words;
  stands = λ w step next hold.
      subst (λ s. StandsBefore w new child.walker.registers (ground.address thread s) child.walker.link (seen_before ground.image (tells ground) (visited ground (done ++ p ∷ []) w) thread s)) (sym (first step next))
      (child_stands ground one old new done p before walker joined left thread entry child t m w hold);
  links = λ step next. subst (λ s. LinksTo (before.accesses ++ more) thread child.walker.link (looks_back (places_of ground.walk thread) s)) (sym (first step next))
      (subst (λ l. LinksTo (before.accesses ++ more) thread l None) (sym m.spawned.link) tt);
  knows = λ step next. subst (λ s. RegistersHave (IsOfEarlier ground.log (before.accesses ++ more) (step_of thread s)) new child.walker.registers) (sym (first step next))
      (child_knows ground one old new done p before walker joined left more thread entry child t m);
}
  where
    first : (step : ℕ) → IsNext (tells ground) (done ++ p ∷ []) thread step → step ≡ 0
    first step next = first_next (tells ground) done p thread step t.progress.order t.follows m.apart m.made m.later next
