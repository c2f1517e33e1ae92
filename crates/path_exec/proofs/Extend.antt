-- Progress, one step later.
use Rattle.std.proofs.Common.{◌≡◌, ◌↔◌, ℕ, zero, suc, ◌<◌, ◌≤◌, List, [], ◌∷◌, ◌++◌, length, map, cond, Bool, true, false, eqb, refl, sym, ◌∙◌, ap, subst, inl, inr, arith}
use Rattle.std.specs.Prelude.{◌⊎◌, All, IfSome, Option, Some, None, Ok, Result, is_some, option_to_list, slice_get, slice_index_or, slice_set}
use Rattle.std.proofs.lemmas.Bool.{eqb-true, eqb-false}
use Rattle.std.proofs.lemmas.List.{get_or-set_same, get_or-set_other, length-set, map-append}
use Rattle.std.proofs.lemmas.List.Elements.{All-append, All-nil, All-pop, All-push, Contains-push, filter-append}
use Rattle.std.proofs.lemmas.Option.{none-some, same_Some}
use Rattle.elf_image.specs.Layout.{Layout}
use Rattle.rv32_decode.specs.declared.instr.Instr.{Instr}
use Rattle.odr_log.specs.declared.log.Call.{Call}
use Rattle.odr_log.specs.declared.log.Call.TheVariants as call
use Rattle.odr_log.specs.declared.log.Cause.{Cause}
use Rattle.odr_log.specs.declared.log.Log.{Log}
use Rattle.odr_log.specs.declared.log.Pos.{Pos}
use Rattle.odr_log.specs.Tape.{tape_of}
use Rattle.rv_model.specs.declared.state.Note.{Note}
use Rattle.rv_model.specs.declared.state.Note.TheVariants as note
use Rattle.rv_model.specs.Accesses.{is_access}
use Rattle.rv_model.specs.Calls.{opening_calls}
use Rattle.rv_model.specs.Instruction.{access_at}
use Rattle.rv_model.specs.RecordedOrder.{Counted}
use Rattle.rv_model.specs.Step.{instr_at}
use Rattle.rv_model.specs.Walk.{places_of}
use Rattle.rv_model.proofs.SpawnLemmas.{spawn_child}
use Rattle.bv_terms.specs.declared.node.TermId.{TermId}
use Rattle.bv_terms.specs.Shapes.{Shape}
use Rattle.bv_terms.specs.Values.{Assignment, value_at}
use Rattle.guided_walk.specs.Guided.{Visit, at, instr_of}
use Rattle.guided_walk.specs.Fits.{reads_in}
use Rattle.guided_walk.specs.Orders.{In}
use Rattle.guided_walk.specs.Told.{noted}
use Rattle.guided_walk.proofs.Facts.{called_noted, place_called, sound_by}
use Rattle.guided_walk.proofs.NeedsOrder.{MadeBy, made_by}
use Rattle.guided_walk.proofs.Placing.{in-append}
use Rattle.guided_walk.proofs.Records.{at_among, rec}
use Rattle.step_terms.specs.Made.{Grows, IsTerm}
use Rattle.thread_terms.specs.declared.access.Access.{Access}
use Rattle.thread_terms.specs.Given.{given_by}
use Rattle.thread_terms.specs.Standing.{AreRegisters, OccursInRegisters}
use Rattle.thread_terms.specs.Steps.{HasVariables, IsOfAny, IsOwn, OfRegistersOr, Shows, guard_shape, read_size, write_size}
use Rattle.thread_terms.specs.Variables.{AreVariables}
use Rattle.walk_lists.specs.Order.{Follows}
use Rattle.path_exec.specs.declared.child.Child.{Child}
use Rattle.path_exec.specs.declared.progress.Left.{Left}
use Rattle.path_exec.specs.declared.progress.Progress.{Progress}
use Rattle.path_exec.specs.declared.walker.Walker.{Walker}
use Rattle.path_exec.specs.Following.{IsChildOf, IsFollowed, IsSpawned, end_left, spawned_thread, with_child, with_end, with_step}
use Rattle.path_exec.specs.Links.{LinksTo, looks_back}
use Rattle.path_exec.specs.Paths.{IsListed, IsOfEarlier, IsOfEarlierOr, IsOfOne, IsShown, Meets, instr_of_step, is_conditional, position}
use Rattle.path_exec.specs.Progress.{Ground, HoldSoFar, IsAsleep, IsGround, IsProgress, IsThread, IsWalker, accesses_among, place_in, tells, visited}
use Rattle.path_exec.proofs.Along.{at_before, at_last}
use Rattle.path_exec.proofs.Children.{child_walker}
use Rattle.path_exec.proofs.Ends.{ends_more}
use Rattle.path_exec.proofs.Guards.{guard_linked, linked_by_known, unlinked_by}
use Rattle.path_exec.proofs.Grown.{access_done, progress_grown}
use Rattle.path_exec.proofs.Joins.{IsHanded, counted_thread, handed_on}
use Rattle.path_exec.proofs.Kept.{bits_kept, earlier_is_one, earlier_more, have_kept, links_more, listed_kept, meets_kept, of_one_more, shown_kept}
use Rattle.path_exec.proofs.Orders.{follows_next, not_own, order_more}
use Rattle.path_exec.proofs.Taking.{Taking, hold_more, seen_at, taken_on, visit_at}
use Rattle.path_exec.proofs.Walkers.{other_walker, own_pos, own_walker}

-- ---- constraints

meets_more : (ground : Ground) (old new : List Shape) (done : List Pos) (p : Pos) (before : Progress) (walker : Walker) (joined : TermId) (left : Left)
    → Taking ground old new done p before walker joined left → (w : Assignment) → Meets w new (before.constraints ++ left.stepped.constraint ∷ []) ↔ HoldSoFar ground (done ++ p ∷ []) w
meets_more ground old new done p before walker joined left t w =
    let P = (λ (id : TermId). value_at w new id.number ≡ 1) in
    let kept = meets_kept w old new before.constraints t.grows t.progress.bits in (
      λ meets.
          let parts = All-pop P (before.constraints ++ left.stepped.constraint ∷ []) before.constraints (Some left.stepped.constraint) refl meets in
          let hold = (t.progress.meets w).0 (kept.1 parts.0) in
          let on = taken_on ground old new done p before walker joined left t w hold in
          (hold_more ground done p t.follows.new w).1 (hold, on.met.0 parts.1),
      λ hold.
          let both = (hold_more ground done p t.follows.new w).0 hold in
          let on = taken_on ground old new done p before walker joined left t w both.0 in
          All-push P before.constraints left.stepped.constraint (kept.0 ((t.progress.meets w).1 both.0)) (on.met.1 both.1),
    )

own_listed : (accesses : List Access) (access : Option Access) (width number : ℕ) → IsOfAny access width number → IsOfOne (accesses ++ option_to_list access) width number
own_listed accesses None width number of = absurd of
own_listed accesses (Some a) width number of = record { access = a; listed = Contains-push accesses a; is = of }

constraint_knows : (ground : Ground) (old new : List Shape) (done : List Pos) (p : Pos) (before : Progress) (walker : Walker) (joined : TermId) (left : Left)
    → Taking ground old new done p before walker joined left → (width number : ℕ) → OfRegistersOr old walker.registers left.stepped.access width number
    → IsOfOne (before.accesses ++ option_to_list left.stepped.access) width number
constraint_knows ground old new done p before walker joined left t width number (inl there) =
    of_one_more before.accesses (option_to_list left.stepped.access) width number
    (earlier_is_one ground.log before.accesses p width number (t.walker_is.knows p.step (follows_next (tells ground) done p t.follows) width number there))
constraint_knows ground old new done p before walker joined left t width number (inr own) = own_listed before.accesses left.stepped.access width number own

-- ---- accesses

positions_more : (accesses : List Access) (access : Option Access) (p : Pos) (b : Bool) → is_some access ≡ b → IfSome access (λ (a : Access). a.pos ≡ p)
    → map position (accesses ++ option_to_list access) ≡ map position accesses ++ cond b (p ∷ []) []
positions_more accesses None p true e is = absurd (let h : false ≡ true = e in cc)
positions_more accesses None p false e is = map-append position accesses []
positions_more accesses (Some a) p true e is = map-append position accesses (a ∷ []) ∙ ap (λ (q : Pos). map position accesses ++ q ∷ []) is
positions_more accesses (Some a) p false e is = absurd (let h : true ≡ false = e in cc)

places_more : (ground : Ground) (done : List Pos) (p : Pos) (accesses : List Access) (access : Option Access) → map position accesses ≡ accesses_among ground done
    → is_some access ≡ is_access (place_in ground p.thread p.step).instr (noted (tells ground) p) → IfSome access (λ (a : Access). a.pos ≡ p)
    → map position (accesses ++ option_to_list access) ≡ accesses_among ground (done ++ p ∷ [])
places_more ground done p accesses access e some is =
    let test = (λ (q : Pos). is_access (instr_of_step ground.walk q) (noted (tells ground) q)) in
    positions_more accesses access p (test p) some is
    ∙ ap (λ (l : List Pos). l ++ cond (test p) (p ∷ []) []) e
    ∙ sym (filter-append test done (p ∷ []))

-- what an access shows, by the visit of its step
shown_by : (image : Layout) (w : Assignment) (nodes : List Shape) (access : Access) (instruction : Instr) (visit : Visit) → instr_of image visit.seen ≡ Ok instruction
    → Shows w nodes access instruction visit.seen.local visit.outcome → IsShown image w nodes access visit
shown_by image w nodes access instruction visit fetched shows = record {
  address = shows.address ∙ sym (ap (λ (f : Result Instr Cause). (access_at visit.seen.local f).address) fetched);
  reads = shows.reads
      ∙ sym (ap (λ (f : Result Instr Cause). cond (reads_in f visit.outcome) (access_at visit.seen.local f).count 0) fetched);
  writes = shows.writes;
}

shown_last : (ground : Ground) (old new : List Shape) (done : List Pos) (p : Pos) (before : Progress) (walker : Walker) (joined : TermId) (left : Left)
    → Taking ground old new done p before walker joined left → (w : Assignment) → HoldSoFar ground (done ++ p ∷ []) w → (access : Option Access) → left.stepped.access ≡ access
    → All (λ (a : Access). IsShown ground.image w new a (at (visited ground (done ++ p ∷ []) w) a.pos)) (option_to_list access)
shown_last ground old new done p before walker joined left t w hold None e = All-nil (λ (a : Access). IsShown ground.image w new a (at (visited ground (done ++ p ∷ []) w) a.pos))
shown_last ground old new done p before walker joined left t w hold (Some a) e =
    let both = (hold_more ground done p t.follows.new w).0 hold in
    let on = taken_on ground old new done p before walker joined left t w both.0 in
    let place = place_in ground p.thread p.step in
    let shows = subst (λ (o : Option Access). IfSome o (λ (x : Access). Shows w new x place.instr (seen_at ground done p w).local (visit_at ground done p w).outcome)) e (on.shows both.1) in
    let pos = subst (λ (o : Option Access). IfSome o (λ (x : Access). x.pos ≡ p)) e
    (own_pos p place.instr (noted (tells ground) p) walker.link old new walker.registers left.stepped.access t.taken.own) in
    let here = t.ground_is.at p t.counted in
    let stand = t.walker_is.stands w p.step (follows_next (tells ground) done p t.follows) both.0 in
    let fetched : instr_of ground.image (seen_at ground done p w) ≡ Ok place.instr = ap (instr_at ground.image) stand.at ∙ here.fetched in
    let last = at_last ground.image (tells ground) (given_by w) done p ground.start in
    let is : IsShown ground.image w new a (at (visited ground (done ++ p ∷ []) w) a.pos) =
    subst (λ (q : Pos). IsShown ground.image w new a (at (visited ground (done ++ p ∷ []) w) q)) (sym pos)
    (subst (λ (v : Visit). IsShown ground.image w new a v) (sym last) (shown_by ground.image w new a place.instr (visit_at ground done p w) fetched shows)) in
    λ k d lt. one_only k d lt is
  where
    one_only : (k : ℕ) (d : Access) → k < 1 → IsShown ground.image w new a (at (visited ground (done ++ p ∷ []) w) a.pos)
        → IsShown ground.image w new (slice_index_or (a ∷ []) k d) (at (visited ground (done ++ p ∷ []) w) (slice_index_or (a ∷ []) k d).pos)
    one_only zero d lt is = is
    one_only (suc k) d lt is = absurd (omega (arith, lt))

shows_more : (ground : Ground) (old new : List Shape) (done : List Pos) (p : Pos) (before : Progress) (walker : Walker) (joined : TermId) (left : Left)
    → Taking ground old new done p before walker joined left → (w : Assignment) → HoldSoFar ground (done ++ p ∷ []) w
    → All (λ (a : Access). IsShown ground.image w new a (at (visited ground (done ++ p ∷ []) w) a.pos)) (before.accesses ++ option_to_list left.stepped.access)
shows_more ground old new done p before walker joined left t w hold =
    let both = (hold_more ground done p t.follows.new w).0 hold in
    All-append (λ (a : Access). IsShown ground.image w new a (at (visited ground (done ++ p ∷ []) w) a.pos)) before.accesses (option_to_list left.stepped.access)
    (λ k d lt.
    let listed = t.progress.each k d lt in
    let there = access_done before.accesses (λ (q : Pos). is_access (instr_of_step ground.walk q) (noted (tells ground) q)) done t.progress.places k d lt in
    let a = slice_index_or before.accesses k d in
    subst (λ (v : Visit). IsShown ground.image w new a v) (sym (at_before ground.image (tells ground) (given_by w) done p a.pos ground.start t.follows.new there))
    (shown_kept ground.image w old new a (at (visited ground done w) a.pos) t.grows listed.address listed.guard_bit listed.writes (t.progress.shows w both.0 k d lt)))
    (shown_last ground old new done p before walker joined left t w hold left.stepped.access refl)

-- ---- what an access has beside its values

listed_now : (ground : Ground) (old new : List Shape) (done : List Pos) (p : Pos) (before : Progress) (walker : Walker) (joined : TermId) (left : Left)
    → Taking ground old new done p before walker joined left → (access : Access) → left.stepped.access ≡ Some access
    → IsListed ground.log ground.walk new (before.accesses ++ access ∷ []) access
listed_now ground old new done p before walker joined left t access e = record {
  counted = subst (Counted ground.log) (sym own.pos) t.counted;
  address = own.address;
  address_from = λ width number there. at_own width number (known width number (own.address_from width number there));
  guard = subst (λ (q : Pos). slice_get new access.guard.number ≡ Some (guard_shape (instr_of_step ground.walk q) (noted (tells ground) q) q access.link)) (sym own.pos) (own.guard ∙ guard_is);
  guard_bit = own.guard_bit;
  read_many = subst (λ (q : Pos). length access.reads ≡ read_size (instr_of_step ground.walk q) (noted (tells ground) q)) (sym own.pos) own.read_many;
  reads = subst (λ (q : Pos). AreVariables new q access.reads) (sym own.pos) own.reads;
  write_many = subst (λ (q : Pos). length access.writes ≡ write_size (instr_of_step ground.walk q) (noted (tells ground) q)) (sym own.pos) own.write_many;
  writes = own.writes;
  writes_from = λ k d lt width number there. written width number (own.writes_from k d lt width number there);
  linked = λ conditional. linked_so (subst (λ (q : Pos). is_conditional (instr_of_step ground.walk q) ≡ true) own.pos conditional);
  unlinked = λ other. own.link ∙ unlinked_by (place_in ground p.thread p.step).instr walker.link (subst (λ (q : Pos). is_conditional (instr_of_step ground.walk q) ≡ false) own.pos other);
}
  where
    own : IsOwn p (place_in ground p.thread p.step).instr (noted (tells ground) p) walker.link old new walker.registers access
    own = subst (λ (o : Option Access). IfSome o (IsOwn p (place_in ground p.thread p.step).instr (noted (tells ground) p) walker.link old new walker.registers)) e t.taken.own

    known : (width number : ℕ) → OccursInRegisters old walker.registers width number → IsOfEarlier ground.log (before.accesses ++ access ∷ []) p width number
    known width number there = earlier_more ground.log before.accesses (access ∷ []) p width number (t.walker_is.knows p.step (follows_next (tells ground) done p t.follows) width number there)

    at_own : (width number : ℕ) → IsOfEarlier ground.log (before.accesses ++ access ∷ []) p width number → IsOfEarlier ground.log (before.accesses ++ access ∷ []) access.pos width number
    at_own width number of = subst (λ (q : Pos). IsOfEarlier ground.log (before.accesses ++ access ∷ []) q width number) (sym own.pos) of

    written : (width number : ℕ) → OfRegistersOr old walker.registers (Some access) width number → IsOfEarlierOr ground.log (before.accesses ++ access ∷ []) access width number
    written width number (inl there) = inl (at_own width number (known width number there))
    written width number (inr of) = inr of

    guard_is : Some (guard_shape (place_in ground p.thread p.step).instr (noted (tells ground) p) p walker.link) ≡ Some (guard_shape (instr_of_step ground.walk p) (noted (tells ground) p) p access.link)
    guard_is = ap (λ (s : Shape). Some s) (guard_linked (place_in ground p.thread p.step).instr (noted (tells ground) p) p walker.link ∙ ap (guard_shape (place_in ground p.thread p.step).instr (noted (tells ground) p) p) (sym own.link))

    linked_so : is_conditional (instr_of_step ground.walk p) ≡ true → LinksTo (before.accesses ++ access ∷ []) access.pos.thread access.link (looks_back (places_of ground.walk access.pos.thread) access.pos.step)
    linked_so conditional =
        subst (λ (q : Pos). LinksTo (before.accesses ++ access ∷ []) q.thread access.link (looks_back (places_of ground.walk q.thread) q.step)) (sym own.pos)
        (subst (λ l. LinksTo (before.accesses ++ access ∷ []) p.thread l (looks_back (places_of ground.walk p.thread) p.step)) (sym (own.link ∙ linked_by_known (place_in ground p.thread p.step).instr walker.link conditional))
        (links_more before.accesses (access ∷ []) p.thread walker.link _ (t.walker_is.links p.step (follows_next (tells ground) done p t.follows))))

each_more : (ground : Ground) (old new : List Shape) (done : List Pos) (p : Pos) (before : Progress) (walker : Walker) (joined : TermId) (left : Left)
    → Taking ground old new done p before walker joined left → (access : Option Access) → left.stepped.access ≡ access
    → All (IsListed ground.log ground.walk new (before.accesses ++ option_to_list access)) (before.accesses ++ option_to_list access)
each_more ground old new done p before walker joined left t None e =
    All-append (IsListed ground.log ground.walk new (before.accesses ++ [])) before.accesses []
    (λ k d lt. listed_kept ground.log ground.walk old new before.accesses [] _ t.grows (t.progress.each k d lt))
    (All-nil (IsListed ground.log ground.walk new (before.accesses ++ [])))
each_more ground old new done p before walker joined left t (Some access) e =
    All-push (IsListed ground.log ground.walk new (before.accesses ++ access ∷ [])) before.accesses access
    (λ k d lt. listed_kept ground.log ground.walk old new before.accesses (access ∷ []) _ t.grows (t.progress.each k d lt))
    (listed_now ground old new done p before walker joined left t access e)

-- ---- threads

same_spawned : (n : Note) (thread : ℕ) → spawned_thread n ≡ Some thread → (entry : ℕ) × (n ≡ note.Called (call.Spawn entry (Some thread)))
same_spawned (note.Called (call.Spawn entry (Some child))) thread e = (entry, ap (λ c. note.Called (call.Spawn entry (Some c))) (same_Some child thread e))
same_spawned (note.Called (call.Spawn entry None)) thread e = absurd (none-some thread e)
same_spawned (note.Called (call.Exit code)) thread e = absurd (none-some thread e)
same_spawned (note.Called call.EndThread) thread e = absurd (none-some thread e)
same_spawned (note.Called (call.Join target ok)) thread e = absurd (none-some thread e)
same_spawned (note.Called (call.Lock mutex ok)) thread e = absurd (none-some thread e)
same_spawned (note.Called (call.Unlock mutex ok)) thread e = absurd (none-some thread e)
same_spawned (note.Called (call.TryLock mutex got)) thread e = absurd (none-some thread e)
same_spawned (note.Called (call.Write bytes)) thread e = absurd (none-some thread e)
same_spawned (note.Called call.WriteBad) thread e = absurd (none-some thread e)
same_spawned (note.Called (call.Read want bytes)) thread e = absurd (none-some thread e)
same_spawned (note.Called call.ReadBad) thread e = absurd (none-some thread e)
same_spawned (note.Called call.SelfId) thread e = absurd (none-some thread e)
same_spawned (note.Called call.Yield) thread e = absurd (none-some thread e)
same_spawned (note.Called (call.Unknown number)) thread e = absurd (none-some thread e)
same_spawned note.Nothing thread e = absurd (none-some thread e)
same_spawned (note.Branch taken) thread e = absurd (none-some thread e)
same_spawned (note.Jump target) thread e = absurd (none-some thread e)
same_spawned (note.Faulted fault) thread e = absurd (none-some thread e)

-- the step that made a thread spawns it
maker_spawns : (ground : Ground) → IsGround ground → (thread : ℕ) (p : Pos) → (tells ground).maker thread ≡ Some p → spawned_thread (noted (tells ground) p) ≡ Some thread
maker_spawns ground is thread p e =
    let m : MadeBy ground.log ground.walk thread p = made_by ground.log ground.walk thread p e in
    ap (λ (q : Pos). spawned_thread (noted (tells ground) q)) (sym m.place)
    ∙ ap spawned_thread (called_noted ground.image ground.log ground.walk is.walk m.spawn m.has)
    ∙ ap (λ (c : Call). spawned_thread (note.Called c)) m.is

-- no spawn makes thread 0
spawned_later : (ground : Ground) → IsGround ground → (p : Pos) (entry thread : ℕ) → noted (tells ground) p ≡ note.Called (call.Spawn entry (Some thread)) → thread ≡ 0 → ⊥
spawned_later ground is p entry thread shows none =
    let has = at_among ground.log.calls (rec p.thread p.step (call.Spawn entry (Some thread))) (place_called ground.image ground.log ground.walk is.walk p (call.Spawn entry (Some thread)) shows) in
    let least : 1 ≤ thread = spawn_child (opening_calls (tape_of ground.log)) ground.log.calls has.0 (rec p.thread p.step (call.Spawn entry (Some thread))) entry thread is.fits.pass has.1 refl in
    absurd (omega (arith, least, none))

asleep_kept : (ground : Ground) (done : List Pos) (p : Pos) (thread : ℕ) → ((tells ground).maker thread ≡ Some p → ⊥) → IsAsleep ground done thread → IsAsleep ground (done ++ p ∷ []) thread
asleep_kept ground done p thread unmade is = record {
  maker = is.maker;
  made = is.made;
  child = is.child;
  new = λ there. elim (in-append is.maker done (p ∷ []) there) [
    | inl before ↦ is.new before
    | inr here ↦ elim here [ inl e ↦ unmade (is.made ∙ ap (λ (q : Pos). Some q) (sym e)) | inr none ↦ absurd none ]
  ];
}

other_thread : (ground : Ground) (old new : List Shape) (done : List Pos) (p : Pos) (accesses more : List Access) (thread : ℕ) (walker : Option Walker) → (In p done → ⊥) → Grows old new → (p.thread ≡ thread → ⊥)
    → ((tells ground).maker thread ≡ Some p → ⊥) → IsThread ground old done accesses thread walker → IsThread ground new (done ++ p ∷ []) (accesses ++ more) thread walker
other_thread ground old new done p accesses more thread None fresh grows apart unmade is = asleep_kept ground done p thread unmade is
other_thread ground old new done p accesses more thread (Some walker) fresh grows apart unmade is = other_walker ground old new done p accesses more thread walker fresh grows apart unmade is

data Same (x y : ℕ) : Type 0 where
  Is : x ≡ y → Same x y
  Isnt : (x ≡ y → ⊥) → Same x y

same : (x y : ℕ) → Same x y
same x y = by_test (eqb x y) refl
  where
    by_test : (b : Bool) → eqb x y ≡ b → Same x y
    by_test true e = Is (eqb-true x y e)
    by_test false e = Isnt (eqb-false x y e)

own_slot : (walkers : List (Option Walker)) (thread : ℕ) (walker : Option Walker) → thread < length walkers → slice_index_or (slice_set walkers thread walker) thread None ≡ walker
own_slot walkers thread walker within = get_or-set_same walkers thread walker None within

far_slot : (walkers : List (Option Walker)) (own thread : ℕ) (walker : Option Walker) → (own ≡ thread → ⊥) → slice_index_or (slice_set walkers own walker) thread None ≡ slice_index_or walkers thread None
far_slot walkers own thread walker apart = get_or-set_other walkers own thread walker None (λ e. apart (sym e))

-- where the step makes no thread
walkers_alone : (ground : Ground) (old new : List Shape) (done : List Pos) (p : Pos) (before : Progress) (walker : Walker) (joined : TermId) (left : Left)
    → Taking ground old new done p before walker joined left → spawned_thread (noted (tells ground) p) ≡ None → (thread : ℕ) → thread < length ground.log.threads
    → IsThread ground new (done ++ p ∷ []) (before.accesses ++ option_to_list left.stepped.access) thread (slice_index_or (slice_set before.walkers p.thread (Some left.walker)) thread None)
walkers_alone ground old new done p before walker joined left t none thread within = by_case (same p.thread thread)
  where
    by_case : Same p.thread thread → IsThread ground new (done ++ p ∷ []) (before.accesses ++ option_to_list left.stepped.access) thread (slice_index_or (slice_set before.walkers p.thread (Some left.walker)) thread None)
    by_case (Is e) =
        subst (λ (o : Option Walker). IsThread ground new (done ++ p ∷ []) (before.accesses ++ option_to_list left.stepped.access) thread o)
        (sym (ap (λ u. slice_index_or (slice_set before.walkers p.thread (Some left.walker)) u None) (sym e)
        ∙ own_slot before.walkers p.thread (Some left.walker) (omega (arith, e, within, t.progress.walker_count))))
        (subst (λ u. IsWalker ground new (done ++ p ∷ []) (before.accesses ++ option_to_list left.stepped.access) u left.walker) e (own_walker ground old new done p before walker joined left t))
    by_case (Isnt apart) =
        subst (λ (o : Option Walker). IsThread ground new (done ++ p ∷ []) (before.accesses ++ option_to_list left.stepped.access) thread o)
        (sym (far_slot before.walkers p.thread thread (Some left.walker) apart))
        (other_thread ground old new done p before.accesses (option_to_list left.stepped.access) thread (slice_index_or before.walkers thread None) t.follows.new t.grows apart
        (λ made. none-some thread (sym none ∙ maker_spawns ground t.ground_is thread p made)) (t.progress.walkers thread within))

-- where it makes one
walkers_spawned : (ground : Ground) (one old new : List Shape) (done : List Pos) (p : Pos) (before : Progress) (walker : Walker) (joined : TermId) (left : Left) (made : ℕ) (child : Child)
    → Taking ground old new done p before walker joined left → AreRegisters one walker.registers → Grows one old → spawned_thread (noted (tells ground) p) ≡ Some made → IsSpawned one old walker made child
    → (tells ground).maker made ≡ Some p → (thread : ℕ) → thread < length ground.log.threads
    → IsThread ground new (done ++ p ∷ []) (before.accesses ++ option_to_list left.stepped.access) thread
    (slice_index_or (slice_set (slice_set before.walkers p.thread (Some left.walker)) child.thread (Some child.walker)) thread None)
walkers_spawned ground one old new done p before walker joined left made child t words grows spawns is maker thread within = by_child (same made thread)
  where
    shows : (entry : ℕ) × (noted (tells ground) p ≡ note.Called (call.Spawn entry (Some made)))
    shows = same_spawned (noted (tells ground) p) made spawns

    later : made ≡ 0 → ⊥
    later = spawned_later ground t.ground_is p shows.0 made shows.1

    apart_made : p.thread ≡ made → ⊥
    apart_made e = not_own (tells ground) done p t.progress.order t.follows (ap (tells ground).maker e ∙ maker) (λ none. later (sym e ∙ none))

    at_own : (made ≡ thread → ⊥) → Same p.thread thread
        → IsThread ground new (done ++ p ∷ []) (before.accesses ++ option_to_list left.stepped.access) thread
        (slice_index_or (slice_set (slice_set before.walkers p.thread (Some left.walker)) child.thread (Some child.walker)) thread None)
    at_own far (Is e) =
        subst (λ (o : Option Walker). IsThread ground new (done ++ p ∷ []) (before.accesses ++ option_to_list left.stepped.access) thread o)
        (sym (far_slot (slice_set before.walkers p.thread (Some left.walker)) child.thread thread (Some child.walker) (λ same_child. far (sym is.is ∙ same_child))
        ∙ ap (λ u. slice_index_or (slice_set before.walkers p.thread (Some left.walker)) u None) (sym e)
        ∙ own_slot before.walkers p.thread (Some left.walker) (omega (arith, e, within, t.progress.walker_count))))
        (subst (λ u. IsWalker ground new (done ++ p ∷ []) (before.accesses ++ option_to_list left.stepped.access) u left.walker) e (own_walker ground old new done p before walker joined left t))
    at_own far (Isnt apart) =
        subst (λ (o : Option Walker). IsThread ground new (done ++ p ∷ []) (before.accesses ++ option_to_list left.stepped.access) thread o)
        (sym (far_slot (slice_set before.walkers p.thread (Some left.walker)) child.thread thread (Some child.walker) (λ same_child. far (sym is.is ∙ same_child))
        ∙ far_slot before.walkers p.thread thread (Some left.walker) apart))
        (other_thread ground old new done p before.accesses (option_to_list left.stepped.access) thread (slice_index_or before.walkers thread None) t.follows.new t.grows apart
        (λ m. far (same_Some made thread (sym spawns ∙ maker_spawns ground t.ground_is thread p m))) (t.progress.walkers thread within))

    by_child : Same made thread
        → IsThread ground new (done ++ p ∷ []) (before.accesses ++ option_to_list left.stepped.access) thread
        (slice_index_or (slice_set (slice_set before.walkers p.thread (Some left.walker)) child.thread (Some child.walker)) thread None)
    by_child (Is e) =
        let long = length-set before.walkers p.thread (Some left.walker) in
        let child_is : child.thread ≡ thread = is.is ∙ e in
        subst (λ (o : Option Walker). IsThread ground new (done ++ p ∷ []) (before.accesses ++ option_to_list left.stepped.access) thread o)
        (sym (ap (λ u. slice_index_or (slice_set (slice_set before.walkers p.thread (Some left.walker)) child.thread (Some child.walker)) u None) (sym child_is)
        ∙ own_slot (slice_set before.walkers p.thread (Some left.walker)) child.thread (Some child.walker) (omega (arith, child_is, within, long, t.progress.walker_count))))
        (subst (λ u. IsWalker ground new (done ++ p ∷ []) (before.accesses ++ option_to_list left.stepped.access) u child.walker) e
        (child_walker ground one old new done p before walker joined left (option_to_list left.stepped.access) made shows.0 child t (record {
          words = words;
          grows = grows;
          apart = apart_made;
          later = later;
          within = omega (arith, e, within);
          shows = shows.1;
          made = maker;
          spawned = is;
        })))
    by_child (Isnt far) = at_own far (same p.thread thread)

walkers_more : (ground : Ground) (one old new : List Shape) (done : List Pos) (p : Pos) (before : Progress) (walker : Walker) (joined : TermId) (left : Left)
    → Taking ground old new done p before walker joined left → AreRegisters one walker.registers → Grows one old → (o : Option ℕ) → spawned_thread (noted (tells ground) p) ≡ o → (c : Option Child)
    → IsChildOf one old walker o c → (thread : ℕ) → thread < length ground.log.threads
    → IsThread ground new (done ++ p ∷ []) (before.accesses ++ option_to_list left.stepped.access) thread
    (slice_index_or (with_child (slice_set before.walkers p.thread (Some left.walker)) c) thread None)
walkers_more ground one old new done p before walker joined left t words grows None e None is = walkers_alone ground old new done p before walker joined left t e
walkers_more ground one old new done p before walker joined left t words grows None e (Some child) is = absurd is
walkers_more ground one old new done p before walker joined left t words grows (Some made) e None is = absurd is
walkers_more ground one old new done p before walker joined left t words grows (Some made) e (Some child) is =
    let shows = same_spawned (noted (tells ground) p) made e in
    let maker = (sound_by ground.image ground.log ground.walk t.ground_is.walk t.ground_is.fits).one_maker p shows.0 made t.follows.place shows.1 in
    walkers_spawned ground one old new done p before walker joined left made child t words grows e is maker

walker_count : (walkers : List (Option Walker)) (thread : ℕ) (walker : Walker) (child : Option Child) → length (with_child (slice_set walkers thread (Some walker)) child) ≡ length walkers
walker_count walkers thread walker None = length-set walkers thread (Some walker)
walker_count walkers thread walker (Some child) = length-set (slice_set walkers thread (Some walker)) child.thread (Some child.walker) ∙ length-set walkers thread (Some walker)

end_count : (ends : List (Option TermId)) (thread : ℕ) (end : Option TermId) → length (with_end ends thread end) ≡ length ends
end_count ends thread None = refl
end_count ends thread (Some id) = length-set ends thread (Some id)

-- ---- the whole

counted_more : (log : Log) (done : List Pos) (p : Pos) → ((q : Pos) → In q done → Counted log q) → Counted log p → (q : Pos) → In q (done ++ p ∷ []) → Counted log q
counted_more log done p before now q there = elim (in-append q done (p ∷ []) there) [
  | inl i ↦ before q i
  | inr here ↦ elim here [ inl e ↦ subst (Counted log) e now | inr none ↦ absurd none ]
]

taken_more : (ground : Ground) (one old new : List Shape) (done : List Pos) (p : Pos) (before : Progress) (walker : Walker) (joined : TermId) (left : Left)
    → Taking ground old new done p before walker joined left → AreRegisters one walker.registers → Grows one old → IsChildOf one old walker (spawned_thread (noted (tells ground) p)) left.child
    → left.end ≡ end_left walker (noted (tells ground) p) → IsProgress ground new (done ++ p ∷ []) (with_step before p.thread left)
taken_more ground one old new done p before walker joined left t words grows child end = record {
  order = order_more (tells ground) [] done p t.progress.order t.follows;
  counted = counted_more ground.log done p t.progress.counted t.counted;
  meets = meets_more ground old new done p before walker joined left t;
  bits = All-push (λ (id : TermId). IsTerm new 1 id.number) before.constraints left.stepped.constraint (bits_kept old new before.constraints t.grows t.progress.bits) t.taken.bit;
  constraints_from = All-push (λ (id : TermId). HasVariables (IsOfOne (before.accesses ++ option_to_list left.stepped.access)) new id.number) before.constraints left.stepped.constraint
      (λ k d lt. have_kept (IsOfOne before.accesses) (IsOfOne (before.accesses ++ option_to_list left.stepped.access)) old new 1 _ t.grows (t.progress.bits k d lt)
      (λ width number. of_one_more before.accesses (option_to_list left.stepped.access) width number) (t.progress.constraints_from k d lt))
      (λ width number there. constraint_knows ground old new done p before walker joined left t width number (t.taken.constraint_from width number there));
  walker_count = walker_count before.walkers p.thread left.walker left.child ∙ t.progress.walker_count;
  walkers = walkers_more ground one old new done p before walker joined left t words grows (spawned_thread (noted (tells ground) p)) refl left.child child;
  end_count = end_count before.ends p.thread left.end ∙ t.progress.end_count;
  ends = λ thread within. ends_more ground old new done p before walker joined left (option_to_list left.stepped.access) t
      (λ shows. (sound_by ground.image ground.log ground.walk t.ground_is.walk t.ground_is.fits).one_ender p t.follows.place shows)
      (omega (arith, counted_thread ground.log p t.counted, t.progress.end_count)) end thread (either (same p.thread thread)) (t.progress.ends thread within);
  places = places_more ground done p before.accesses left.stepped.access t.progress.places t.taken.accesses
      (own_pos p (place_in ground p.thread p.step).instr (noted (tells ground) p) walker.link old new walker.registers left.stepped.access t.taken.own);
  shows = shows_more ground old new done p before walker joined left t;
  each = each_more ground old new done p before walker joined left t left.stepped.access refl;
}
  where
    either : {x y : ℕ} → Same x y → (x ≡ y) ⊎ (x ≡ y → ⊥)
    either (Is e) = inl e
    either (Isnt far) = inr far

-- a step that was followed is done
pub extend : (ground : Ground) (old new : List Shape) (done : List Pos) (p : Pos) (before after : Progress) → IsGround ground → IsProgress ground old done before → Follows (tells ground) done p → Counted ground.log p
    → IsFollowed ground.image p (place_in ground p.thread p.step) (noted (tells ground) p) old new before after → IsProgress ground new (done ++ p ∷ []) after
extend ground old new done p before after is progress follows counted f =
    let at_one = progress_grown ground old f.one done before f.grows_one progress in
    let at_two = progress_grown ground f.one f.two done before f.grows_two at_one in
    let within = counted_thread ground.log p counted in
    let walker_one : IsWalker ground f.one done before.accesses p.thread f.walker = subst (λ (o : Option Walker). IsThread ground f.one done before.accesses p.thread o) f.stood (at_one.walkers p.thread within) in
    let walker_two : IsWalker ground f.two done before.accesses p.thread f.walker = subst (λ (o : Option Walker). IsThread ground f.two done before.accesses p.thread o) f.stood (at_two.walkers p.thread within) in
    let handed : IsHanded ground f.one done p before f.joined = handed_on ground old f.one done p before f.joined is progress follows counted f.grows_one f.joins in
    let taking : Taking ground f.two new done p before f.walker f.joined f.left = record {
      ground_is = is;
      progress = at_two;
      follows = follows;
      counted = counted;
      grows = f.grows_three;
      walker_is = walker_two;
      joined_value = λ w hold. f.grows_two.terms.value w f.joined.number f.word.inside ∙ handed.value w hold;
      joined_knows = have_kept (IsOfEarlier ground.log before.accesses p) (IsOfEarlier ground.log before.accesses p) f.one f.two 32 f.joined.number f.grows_two f.word (λ width number of. of) handed.knows;
      taken = f.taken;
      words = f.words;
      link = f.link;
    } in
    subst (IsProgress ground new (done ++ p ∷ [])) (sym f.is)
    (taken_more ground f.one f.two new done p before f.walker f.joined f.left taking walker_one.words f.grows_two f.child f.end)
