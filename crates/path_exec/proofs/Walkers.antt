-- Threads before their next steps, one step later.
use Rattle.std.proofs.Common.{◌≡◌, ℕ, true, false, suc, ◌+◌, List, [], ◌∷◌, ◌++◌, length, refl, sym, ◌∙◌, ap, subst, inl, inr, arith}
use Rattle.std.specs.Prelude.{◌⊎◌, Contains, IfSome, Option, Some, None, is_some, option_to_list, slice_get}
use Rattle.std.proofs.lemmas.List.Elements.{Contains-push}
use Rattle.rv32_decode.specs.declared.instr.Instr.{Instr}
use Rattle.rv32_decode.specs.declared.instr.Instr.TheVariants as instr
use Rattle.odr_log.specs.declared.log.Log.{Log}
use Rattle.odr_log.specs.declared.log.Pos.{Pos}
use Rattle.rv_model.specs.declared.state.Note.{Note}
use Rattle.rv_model.specs.Accesses.{is_access}
use Rattle.rv_model.specs.RecordedOrder.{Counted, One}
use Rattle.rv_model.specs.Walk.{places_of}
use Rattle.bv_terms.specs.declared.node.TermId.{TermId}
use Rattle.bv_terms.specs.Shapes.{Shape}
use Rattle.bv_terms.specs.Values.{Assignment}
use Rattle.bv_terms.specs.Variables.{Occurs}
use Rattle.guided_walk.specs.Flow.{CountedFlow, Flow, InThread}
use Rattle.guided_walk.specs.Guided.{Seen, seen_before}
use Rattle.guided_walk.specs.Orders.{In}
use Rattle.guided_walk.specs.Told.{noted}
use Rattle.step_terms.specs.Made.{Grows}
use Rattle.thread_terms.specs.declared.access.Access.{Access}
use Rattle.thread_terms.specs.Given.{given_by}
use Rattle.thread_terms.specs.Steps.{IsOfAny, IsOwn, OfRegistersOr, RegistersHave, StandsBefore}
use Rattle.path_exec.specs.declared.progress.Left.{Left}
use Rattle.path_exec.specs.declared.progress.Progress.{Progress}
use Rattle.path_exec.specs.declared.walker.Walker.{Walker}
use Rattle.path_exec.specs.Links.{LinksTo, link_after, looks_back}
use Rattle.path_exec.specs.Paths.{IsOfEarlier}
use Rattle.path_exec.specs.Progress.{Ground, HoldSoFar, IsNext, IsWalker, place_in, step_of, tells, visited}
use Rattle.path_exec.proofs.Along.{seen_after, seen_kept}
use Rattle.path_exec.proofs.Kept.{earlier_more, earlier_on, links_more, registers_have_kept, stands_kept}
use Rattle.path_exec.proofs.Orders.{follows_next, other_next, then_next}
use Rattle.path_exec.proofs.Taking.{Taking, hold_more, taken_on}
use Rattle.thread_terms.proofs.Standing.{registers_stay}

-- ---- the thread of the step

-- it stands where the step led
own_stands : (ground : Ground) (old new : List Shape) (done : List Pos) (p : Pos) (before : Progress) (walker : Walker) (joined : TermId) (left : Left)
    → Taking ground old new done p before walker joined left → (w : Assignment) → HoldSoFar ground (done ++ p ∷ []) w
    → StandsBefore w new left.walker.registers (ground.address p.thread (suc p.step)) left.walker.link
    (seen_before ground.image (tells ground) (visited ground (done ++ p ∷ []) w) p.thread (suc p.step))
own_stands ground old new done p before walker joined left t w hold =
    let both = (hold_more ground done p t.follows.new w).0 hold in
    let on = taken_on ground old new done p before walker joined left t w both.0 in
    let next : p.step + 1 ≡ suc p.step = omega arith in
    let is = ap (seen_before ground.image (tells ground) (visited ground (done ++ p ∷ []) w) p.thread) (sym next) ∙ seen_after ground.image (tells ground) (given_by w) done p ground.start in
    subst (λ (seen : Seen). StandsBefore w new left.walker.registers (ground.address p.thread (suc p.step)) left.walker.link seen) (sym is) (on.stands both.1)

-- the access of a load-reserved is the last one
lr_listed : (accesses : List Access) (access : Option Access) (p : Pos) → is_some access ≡ true → IfSome access (λ (a : Access). a.pos ≡ p)
    → (lr : Access) × (slice_get (accesses ++ option_to_list access) (length accesses) ≡ Some lr) × (lr.pos ≡ p)
lr_listed accesses None p e is = absurd (let h : false ≡ true = e in cc)
lr_listed [] (Some a) p e is = (a, refl, is)
lr_listed (x ∷ accesses) (Some a) p e is = lr_listed accesses (Some a) p e is

link_more : (i : Instr) (shown : Note) (accesses : List Access) (access : Option Access) (p : Pos) (link back : Option ℕ) → LinksTo accesses p.thread link back → is_some access ≡ is_access i shown
    → IfSome access (λ (a : Access). a.pos ≡ p) → LinksTo (accesses ++ option_to_list access) p.thread (link_after i (length accesses) link) (link_after i p.step back)
unfolding link_after
link_more (instr.LoadReserved rd rs1 aq rl) shown accesses access p link back links e is = lr_listed accesses access p e is
link_more (instr.StoreConditional rd rs1 rs2 aq rl) shown accesses access p link back links e is = tt
link_more (instr.Lui rd imm) shown accesses access p link back links e is = links_more accesses (option_to_list access) p.thread link back links
link_more (instr.Auipc rd imm) shown accesses access p link back links e is = links_more accesses (option_to_list access) p.thread link back links
link_more (instr.Jal rd offset) shown accesses access p link back links e is = links_more accesses (option_to_list access) p.thread link back links
link_more (instr.Jalr rd rs1 offset) shown accesses access p link back links e is = links_more accesses (option_to_list access) p.thread link back links
link_more (instr.Branch op rs1 rs2 offset) shown accesses access p link back links e is = links_more accesses (option_to_list access) p.thread link back links
link_more (instr.Load op rd rs1 offset) shown accesses access p link back links e is = links_more accesses (option_to_list access) p.thread link back links
link_more (instr.Store op rs1 rs2 offset) shown accesses access p link back links e is = links_more accesses (option_to_list access) p.thread link back links
link_more (instr.Imm op rd rs1 imm) shown accesses access p link back links e is = links_more accesses (option_to_list access) p.thread link back links
link_more (instr.Op op rd rs1 rs2) shown accesses access p link back links e is = links_more accesses (option_to_list access) p.thread link back links
link_more (instr.Fence rd rs1 imm) shown accesses access p link back links e is = links_more accesses (option_to_list access) p.thread link back links
link_more instr.Ecall shown accesses access p link back links e is = links_more accesses (option_to_list access) p.thread link back links
link_more instr.Ebreak shown accesses access p link back links e is = links_more accesses (option_to_list access) p.thread link back links
link_more (instr.Amo op rd rs1 rs2 aq rl) shown accesses access p link back links e is = links_more accesses (option_to_list access) p.thread link back links

-- ---- its access

pub own_pos : (p : Pos) (i : Instr) (shown : Note) (known : Option ℕ) (old new : List Shape) (registers : List TermId) (access : Option Access) → IfSome access (IsOwn p i shown known old new registers) → IfSome access (λ (a : Access). a.pos ≡ p)
own_pos p i shown known old new registers None own = tt
own_pos p i shown known old new registers (Some a) own = own.pos

last_listed : (accesses : List Access) (access : Access) → Contains (accesses ++ option_to_list (Some access)) access
last_listed accesses access = Contains-push accesses access

-- a variable of the step's own access flows on to where something flows from the step
pub own_flows : (log : Log) (accesses : List Access) (access : Option Access) (p q : Pos) (width number : ℕ) → IfSome access (λ (a : Access). a.pos ≡ p) → (Counted log q → CountedFlow log p q)
    → IsOfAny access width number → IsOfEarlier log (accesses ++ option_to_list access) q width number
own_flows log accesses None p q width number is edge none = absurd none
own_flows log accesses (Some a) p q width number is edge of = record {
  access = a;
  listed = last_listed accesses a;
  is = of;
  flows = λ counted. subst (λ (x : Pos). Flow log x q) (sym is) (One (edge counted));
}

-- ---- the thread of the step, again

-- the edge from a step to the next one of its thread
pub edge_on : (log : Log) (p : Pos) → Counted log p → Counted log (step_of p.thread (suc p.step)) → CountedFlow log p (step_of p.thread (suc p.step))
edge_on log p from to = record { from = from; to = to; edge = InThread refl (omega arith) }

own_links : (ground : Ground) (old new : List Shape) (done : List Pos) (p : Pos) (before : Progress) (walker : Walker) (joined : TermId) (left : Left)
    → Taking ground old new done p before walker joined left
    → LinksTo (before.accesses ++ option_to_list left.stepped.access) p.thread left.walker.link (looks_back (places_of ground.walk p.thread) (suc p.step))
own_links ground old new done p before walker joined left t =
    let place = place_in ground p.thread p.step in
    let accesses = before.accesses ++ option_to_list left.stepped.access in
    subst (λ l. LinksTo accesses p.thread l (looks_back (places_of ground.walk p.thread) (suc p.step))) (sym t.link)
    (link_more place.instr (noted (tells ground) p) before.accesses left.stepped.access p walker.link (looks_back (places_of ground.walk p.thread) p.step)
    (t.walker_is.links p.step (follows_next (tells ground) done p t.follows)) t.taken.accesses
    (own_pos p place.instr (noted (tells ground) p) walker.link old new walker.registers left.stepped.access t.taken.own))

own_knows : (ground : Ground) (old new : List Shape) (done : List Pos) (p : Pos) (before : Progress) (walker : Walker) (joined : TermId) (left : Left)
    → Taking ground old new done p before walker joined left
    → RegistersHave (IsOfEarlier ground.log (before.accesses ++ option_to_list left.stepped.access) (step_of p.thread (suc p.step))) new left.walker.registers
own_knows ground old new done p before walker joined left t width number there = by_kind (t.taken.variables width number there)
  where
    log : Log
    log = ground.log

    next : Pos
    next = step_of p.thread (suc p.step)

    more : List Access
    more = option_to_list left.stepped.access

    on_from : IsOfEarlier log before.accesses p width number → IsOfEarlier log (before.accesses ++ more) next width number
    on_from of = earlier_on log (before.accesses ++ more) p next width number (λ counted. (t.counted, edge_on log p t.counted counted)) (earlier_more log before.accesses more p width number of)

    is_pos : IfSome left.stepped.access (λ (a : Access). a.pos ≡ p)
    is_pos = own_pos p (place_in ground p.thread p.step).instr (noted (tells ground) p) walker.link old new walker.registers left.stepped.access t.taken.own

    by_kind : (OfRegistersOr old walker.registers left.stepped.access width number ⊎ Occurs old width number joined.number) → IsOfEarlier log (before.accesses ++ more) next width number
    by_kind (inl (inl of)) = on_from (t.walker_is.knows p.step (follows_next (tells ground) done p t.follows) width number of)
    by_kind (inl (inr own)) = own_flows log before.accesses left.stepped.access p next width number is_pos (λ counted. edge_on log p t.counted counted) own
    by_kind (inr of) = on_from (t.joined_knows width number of)

pub own_walker : (ground : Ground) (old new : List Shape) (done : List Pos) (p : Pos) (before : Progress) (walker : Walker) (joined : TermId) (left : Left)
    → Taking ground old new done p before walker joined left
    → IsWalker ground new (done ++ p ∷ []) (before.accesses ++ option_to_list left.stepped.access) p.thread left.walker
own_walker ground old new done p before walker joined left t = record {
  words = t.words;
  stands = λ w step next hold. subst (λ s. StandsBefore w new left.walker.registers (ground.address p.thread s) left.walker.link (seen_before ground.image (tells ground) (visited ground (done ++ p ∷ []) w) p.thread s))
      (sym (at_next step next)) (own_stands ground old new done p before walker joined left t w hold);
  links = λ step next. subst (λ s. LinksTo (before.accesses ++ option_to_list left.stepped.access) p.thread left.walker.link (looks_back (places_of ground.walk p.thread) s))
      (sym (at_next step next)) (own_links ground old new done p before walker joined left t);
  knows = λ step next. subst (λ s. RegistersHave (IsOfEarlier ground.log (before.accesses ++ option_to_list left.stepped.access) (step_of p.thread s)) new left.walker.registers)
      (sym (at_next step next)) (own_knows ground old new done p before walker joined left t);
}
  where
    at_next : (step : ℕ) → IsNext (tells ground) (done ++ p ∷ []) p.thread step → step ≡ suc p.step
    at_next step next = then_next (tells ground) done p step t.progress.order t.follows next

-- ---- another thread

pub other_walker : (ground : Ground) (old new : List Shape) (done : List Pos) (p : Pos) (accesses more : List Access) (thread : ℕ) (walker : Walker)
    → (In p done → ⊥) → Grows old new → (p.thread ≡ thread → ⊥) → ((tells ground).maker thread ≡ Some p → ⊥)
    → IsWalker ground old done accesses thread walker → IsWalker ground new (done ++ p ∷ []) (accesses ++ more) thread walker
other_walker ground old new done p accesses more thread walker fresh grows apart unmade is = record {
  words = registers_stay old new walker.registers grows is.words;
  stands = λ w step next hold.
      let before = other_next (tells ground) done p thread step apart unmade next in
      let same = seen_kept ground.image (tells ground) (given_by w) done p ground.start thread step fresh before.needs in
      subst (λ (seen : Seen). StandsBefore w new walker.registers (ground.address thread step) walker.link seen) (sym same)
      (stands_kept w old new walker.registers (ground.address thread step) walker.link _ grows is.words
      (is.stands w step before ((hold_more ground done p fresh w).0 hold).0));
  links = λ step next. links_more accesses more thread walker.link _ (is.links step (other_next (tells ground) done p thread step apart unmade next));
  knows = λ step next. registers_have_kept (IsOfEarlier ground.log accesses (step_of thread step)) (IsOfEarlier ground.log (accesses ++ more) (step_of thread step)) old new walker.registers grows is.words
      (λ width number. earlier_more ground.log accesses more (step_of thread step) width number) (is.knows step (other_next (tells ground) done p thread step apart unmade next));
}
