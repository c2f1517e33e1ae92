-- A store-conditional has its outcome by terms exactly where what is given fits.
use Rattle.std.specs.Prelude.{◌≡◌, ◌↔◌, ℕ, suc, ◌<◌, ◌≤◌, ◌&&◌, Bool, true, false, cond, List, [], length, nat_eq, Option, Some, None, Result, refl}
use Rattle.std.proofs.Common.{sym, ◌∙◌, ap, subst, arith, get_or, eq-eqb}
use Rattle.std.proofs.lemmas.Bool.{eqb-true, false≢true}
use Rattle.std.proofs.lemmas.Option.{none-some, same_Some, slice_get_within, get_or_from_slice_get}
use Rattle.elf_image.specs.declared.write.Write.{Write}
use Rattle.elf_image.specs.Memory.{writes_of}
use Rattle.rv32_decode.specs.declared.instr.Instr.{Instr}
use Rattle.rv32_decode.specs.declared.instr.Instr.TheVariants as instr
use Rattle.odr_log.specs.declared.log.Cause.{Cause}
use Rattle.odr_log.specs.declared.log.Pos.{Pos}
use Rattle.rv_model.specs.declared.state.Local.{Local}
use Rattle.rv_model.specs.declared.state.Note.TheVariants as note
use Rattle.rv_model.specs.declared.hearing.Outcome.{Outcome}
use Rattle.rv_model.specs.declared.hearing.Outcome.TheVariants.{Faults, Goes}
use Rattle.rv_model.specs.declared.walk.Transfer.{Transfer}
use Rattle.rv_model.specs.declared.walk.Transfer.TheVariants as transfer
use Rattle.rv_model.specs.Instruction.{access_of, access_at, conditional_at, conditional_of}
use Rattle.rv_model.specs.Noted.{note_in, writes_in}
use Rattle.rv_model.specs.RecordedOrder.{Counted}
use Rattle.rv_model.specs.Thread.{touches}
use Rattle.rv_model.specs.Walk.{ThreadWalk, goes_to, notes_of, places_of, transfer_of}
use Rattle.guided_walk.specs.Fits.{conditional_by}
use Rattle.guided_walk.specs.Guided.{at, conditional_in}
use Rattle.guided_walk.specs.Orders.{Stands}
use Rattle.guided_walk.specs.Told.{IsPlace, noted, told}
use Rattle.guided_walk.proofs.Facts.{in_log, noted_step}
use Rattle.guided_walk.proofs.Here.{conditional_was}
use Rattle.guided_walk.proofs.Table.{same_pos}
use Rattle.guided_walk.proofs.Walks.{AtStep, leads_step, pc_from}
use Rattle.thread_terms.specs.declared.access.Access.{Access}
use Rattle.thread_terms.specs.Given.{given_by}
use Rattle.thread_terms.specs.Steps.{is_written}
use Rattle.walk_facts.specs.Links.{access_address, looks_back}
use Rattle.walk_facts.specs.Steps.{instr_of_step, step_of}
use Rattle.walk_facts.proofs.Addresses.{counted_is_place, instr_is, noted_within}
use Rattle.walk_facts.proofs.Links.{looks_back_law}
use Rattle.access_fits.specs.Fitting.{IsUndisturbed, LooksBack}
use Rattle.access_fits.proofs.Woven.{to_visits, to_walk}
use Rattle.hit_terms.specs.Hits.{is_touch, reaches_word}
use Rattle.path_exec.specs.Links.{LinksTo}
use Rattle.path_exec.specs.Paths.{is_conditional}
use Rattle.term_sources.specs.Sees.{HasOutcome, IsUndisturbedAt, SucceedsAt, address_value, guard_value, no_access}
use Rattle.term_sources.proofs.Listed.{pos_in, in_pos}
use Rattle.term_sources.proofs.Scenes.{Scene, count, here, listed, positions, shown}
use Rattle.term_sources.proofs.Sources.{few_written, many_values, written_bytes}
use Rattle.term_sources.proofs.Touched.{touches_by}

-- ---- store-conditionals

pub conditional_yes : (local : Local) (i : Instr) → is_conditional i ≡ true → conditional_of local i ≡ Some (access_of local i).address
unfolding conditional_of access_of
conditional_yes local (instr.StoreConditional rd rs1 rs2 aq rl) e = refl
conditional_yes local (instr.LoadReserved rd rs1 aq rl) e = absurd (false≢true e)
conditional_yes local (instr.Lui rd imm) e = absurd (false≢true e)
conditional_yes local (instr.Auipc rd imm) e = absurd (false≢true e)
conditional_yes local (instr.Jal rd offset) e = absurd (false≢true e)
conditional_yes local (instr.Jalr rd rs1 offset) e = absurd (false≢true e)
conditional_yes local (instr.Branch op rs1 rs2 offset) e = absurd (false≢true e)
conditional_yes local (instr.Load op rd rs1 offset) e = absurd (false≢true e)
conditional_yes local (instr.Store op rs1 rs2 offset) e = absurd (false≢true e)
conditional_yes local (instr.Imm op rd rs1 imm) e = absurd (false≢true e)
conditional_yes local (instr.Op op rd rs1 rs2) e = absurd (false≢true e)
conditional_yes local (instr.Fence rd rs1 imm) e = absurd (false≢true e)
conditional_yes local instr.Ecall e = absurd (false≢true e)
conditional_yes local instr.Ebreak e = absurd (false≢true e)
conditional_yes local (instr.Amo op rd rs1 rs2 aq rl) e = absurd (false≢true e)

pub conditional_not : (local : Local) (i : Instr) → is_conditional i ≡ false → conditional_of local i ≡ None
unfolding conditional_of
conditional_not local (instr.StoreConditional rd rs1 rs2 aq rl) e = absurd (false≢true (sym e))
conditional_not local (instr.LoadReserved rd rs1 aq rl) e = refl
conditional_not local (instr.Lui rd imm) e = refl
conditional_not local (instr.Auipc rd imm) e = refl
conditional_not local (instr.Jal rd offset) e = refl
conditional_not local (instr.Jalr rd rs1 offset) e = refl
conditional_not local (instr.Branch op rs1 rs2 offset) e = refl
conditional_not local (instr.Load op rd rs1 offset) e = refl
conditional_not local (instr.Store op rs1 rs2 offset) e = refl
conditional_not local (instr.Imm op rd rs1 imm) e = refl
conditional_not local (instr.Op op rd rs1 rs2) e = refl
conditional_not local (instr.Fence rd rs1 imm) e = refl
conditional_not local instr.Ecall e = refl
conditional_not local instr.Ebreak e = refl
conditional_not local (instr.Amo op rd rs1 rs2 aq rl) e = refl

-- ---- a counted step goes on

faulted_goes : (pc : ℕ) (tr : Transfer) (fault : Cause) (next : ℕ) → goes_to pc tr (note.Faulted fault) ≡ Some next → ⊥
faulted_goes pc transfer.Next fault next e = none-some next e
faulted_goes pc (transfer.Direct target) fault next e = none-some next e
faulted_goes pc transfer.Indirect fault next e = none-some next e
faulted_goes pc (transfer.Branch target) fault next e = none-some next e
faulted_goes pc transfer.Call fault next e = none-some next e
faulted_goes pc transfer.Breakpoint fault next e = none-some next e

not_faulted : (s : Scene) (p : Pos) (fault : Cause) → Counted s.log p → noted (told s.log s.walk) p ≡ note.Faulted fault → ⊥
not_faulted s p fault counted e =
    let within : p.step < length (notes_of s.walk p.thread) = noted_within s.image s.log s.walk s.is p counted in
    let tw : ThreadWalk s.image s.log p.thread (places_of s.walk p.thread) (notes_of s.walk p.thread) = s.is.each p.thread (in_log s.image s.log s.walk s.is p.thread p.step within) in
    let step : AtStep s.image (pc_from (places_of s.walk p.thread) tw.after p.step) (pc_from (places_of s.walk p.thread) tw.after (suc p.step)) (get_or (notes_of s.walk p.thread) p.step note.Nothing) =
    leads_step s.image tw.start (places_of s.walk p.thread) (notes_of s.walk p.thread) tw.after p.step tw.leads within in
    let pc : ℕ = pc_from (places_of s.walk p.thread) tw.after p.step in
    faulted_goes pc (transfer_of pc step.instruction) fault (pc_from (places_of s.walk p.thread) tw.after (suc p.step))
    (ap (goes_to pc (transfer_of pc step.instruction)) (sym (sym (noted_step s.log s.walk p within) ∙ e)) ∙ step.goes)

by_going : (address : Option ℕ) (o : Outcome) → ((fault : Cause) → note_in o ≡ note.Faulted fault → ⊥) → conditional_by address o ≡ address
by_going address (Faults fault) never = absurd (never fault refl)
by_going address (Goes local writes shown) never = refl

counted_at : (s : Scene) (x : ℕ) → x < count s → Counted s.log (here s x).pos
counted_at s x less = (s.are.lists.only (here s x).pos (pos_in s.paths.accesses x less)).0

place_at : (s : Scene) (x : ℕ) → x < count s → IsPlace (told s.log s.walk) (here s x).pos
place_at s x less = counted_is_place s.image s.log s.walk s.is (here s x).pos (counted_at s x less)

-- the address of a store-conditional, none of another access
conditional_is : (s : Scene) (x : ℕ) → x < count s → conditional_in s.image (at s.visits (here s x).pos).seen
    ≡ conditional_of (at s.visits (here s x).pos).seen.local (instr_of_step s.walk (here s x).pos)
conditional_is s x less =
    ap (conditional_at (at s.visits (here s x).pos).seen.local) (instr_is s.image s.log s.walk (given_by s.t) s.visits s.is s.guided (here s x).pos (counted_at s x less))

abbrev conditional_here : Scene → ℕ → Option ℕ
conditional_here s x = conditional_by (conditional_in s.image (at s.visits (here s x).pos).seen) (at s.visits (here s x).pos).outcome

takes_place : (s : Scene) (x : ℕ) → x < count s → is_conditional (instr_of_step s.walk (here s x).pos) ≡ true
    → conditional_here s x ≡ Some (access_address s.image s.visits (here s x).pos)
takes_place s x less yes_it =
    by_going (conditional_in s.image (at s.visits (here s x).pos).seen) (at s.visits (here s x).pos).outcome
    (λ (fault : Cause) (e : note_in (at s.visits (here s x).pos).outcome ≡ note.Faulted fault).
    not_faulted s (here s x).pos fault (counted_at s x less) (sym (s.guided.shows (here s x).pos (place_at s x less)) ∙ e))
    ∙ conditional_is s x less
    ∙ conditional_yes (at s.visits (here s x).pos).seen.local (instr_of_step s.walk (here s x).pos) yes_it
    ∙ ap (λ (r : Result Instr Cause). Some (address_by (at s.visits (here s x).pos).seen.local r))
    (sym (instr_is s.image s.log s.walk (given_by s.t) s.visits s.is s.guided (here s x).pos (counted_at s x less)))
  where
    address_by : Local → Result Instr Cause → ℕ
    address_by local r = (access_at local r).address

-- an access that takes place as a store-conditional is one, at its own address
is_one : (s : Scene) (x address : ℕ) → x < count s → conditional_here s x ≡ Some address → is_conditional (instr_of_step s.walk (here s x).pos) ≡ true
is_one s x address less e = by_test (is_conditional (instr_of_step s.walk (here s x).pos)) refl where
  by_test : (b : Bool) → is_conditional (instr_of_step s.walk (here s x).pos) ≡ b → is_conditional (instr_of_step s.walk (here s x).pos) ≡ true
  by_test true h = h
  by_test false h =
      absurd (none-some address (sym (conditional_not (at s.visits (here s x).pos).seen.local (instr_of_step s.walk (here s x).pos) h) ∙ sym (conditional_is s x less)
      ∙ conditional_was (conditional_in s.image (at s.visits (here s x).pos).seen) (at s.visits (here s x).pos).outcome address e))

own_address : (s : Scene) (x address : ℕ) → x < count s → conditional_here s x ≡ Some address → access_address s.image s.visits (here s x).pos ≡ address
own_address s x address less e =
    same_Some (access_address s.image s.visits (here s x).pos) address (sym (takes_place s x less (is_one s x address less e)) ∙ e)

-- ---- links

-- the load-reserved of a link: its number, and that its step is what the walk looks back to
pub record IsBack (s : Scene) (x lr : ℕ) : Type 0 where
  pub there : lr < count s
  pub step : ℕ
  pub is : (here s lr).pos ≡ step_of (here s x).pos.thread step
  pub back : looks_back (places_of s.walk (here s x).pos.thread) (here s x).pos.step ≡ Some step

back_by : (s : Scene) (x lr : ℕ) (o : Option ℕ) → looks_back (places_of s.walk (here s x).pos.thread) (here s x).pos.step ≡ o
    → LinksTo s.paths.accesses (here s x).pos.thread (Some lr) o → IsBack s x lr
back_by s x lr None e links = absurd links
back_by s x lr (Some step) e links = record {
  there = slice_get_within s.paths.accesses lr links.0 links.1;
  step = step;
  is = ap (λ (a : Access). a.pos) (get_or_from_slice_get s.paths.accesses lr links.0 no_access links.1) ∙ links.2;
  back = e;
}

linked_conditional : (s : Scene) (x lr : ℕ) → x < count s → (here s x).link ≡ Some lr → is_conditional (instr_of_step s.walk (here s x).pos) ≡ true
linked_conditional s x lr less e = by_test (is_conditional (instr_of_step s.walk (here s x).pos)) refl where
  by_test : (b : Bool) → is_conditional (instr_of_step s.walk (here s x).pos) ≡ b → is_conditional (instr_of_step s.walk (here s x).pos) ≡ true
  by_test true h = h
  by_test false h = absurd (none-some lr (sym ((listed s x less).unlinked h) ∙ e))

back_of : (s : Scene) (x lr : ℕ) → x < count s → (here s x).link ≡ Some lr → IsBack s x lr
back_of s x lr less e =
    back_by s x lr (looks_back (places_of s.walk (here s x).pos.thread) (here s x).pos.step) refl
    (subst (λ (l : Option ℕ). LinksTo s.paths.accesses (here s x).pos.thread l (looks_back (places_of s.walk (here s x).pos.thread) (here s x).pos.step)) e
    ((listed s x less).linked (linked_conditional s x lr less e)))

looks_to : (s : Scene) (x lr : ℕ) → x < count s → IsBack s x lr → LooksBack s.image s.visits (here s lr).pos (here s x).pos
looks_to s x lr less back =
    subst (λ (p : Pos). LooksBack s.image s.visits p (here s x).pos) (sym back.is)
    (to_visits s.image s.log s.walk (given_by s.t) s.visits s.is s.guided back.step (here s x).pos (place_at s x less)
    ((looks_back_law (places_of s.walk (here s x).pos.thread) (here s x).pos.step back.step).0 back.back))

-- what a step looks back to, by its walk
looks_is : (s : Scene) (x : ℕ) (lr : Pos) → x < count s → LooksBack s.image s.visits lr (here s x).pos
    → looks_back (places_of s.walk (here s x).pos.thread) (here s x).pos.step ≡ Some lr.step
looks_is s x lr less looks =
    (looks_back_law (places_of s.walk (here s x).pos.thread) (here s x).pos.step lr.step).1
    (to_walk s.image s.log s.walk (given_by s.t) s.visits s.is s.guided lr.thread lr.step (here s x).pos (sym looks.thread) (place_at s x less) looks)

same_back : (s : Scene) (x k : ℕ) (lr : Pos) → x < count s → IsBack s x k → LooksBack s.image s.visits lr (here s x).pos → lr ≡ (here s k).pos
same_back s x k lr less back looks =
    let step : lr.step ≡ back.step = same_Some lr.step back.step (sym (looks_is s x lr less looks) ∙ back.back) in
    same_pos lr (here s k).pos (ap (λ (p : Pos). p.thread) back.is ∙ sym looks.thread) (ap (λ (p : Pos). p.step) back.is ∙ sym step)

-- ---- what disturbs

touch_by : (s : Scene) (y l : ℕ) (b : Bool) → y < count s → is_written s.t s.nodes (here s y) ≡ b
    → touches (writes_in (at s.visits (here s y).pos).outcome) l ≡ (b && reaches_word (length (here s y).writes) (address_value s.t s.nodes (here s y)) l)
touch_by s y l false less w =
    ap (λ (ws : List Write). touches ws l) (shown s y less).writes
    ∙ ap (λ (b : Bool). touches (cond b (writes_of (address_value s.t s.nodes (here s y)) (written_bytes s y) []) []) l) w
touch_by s y l true less w =
    let few : length (written_bytes s y) ≤ 256 = few_written s y less w in
    ap (λ (ws : List Write). touches ws l) (shown s y less).writes
    ∙ ap (λ (b : Bool). touches (cond b (writes_of (address_value s.t s.nodes (here s y)) (written_bytes s y) []) []) l) w
    ∙ touches_by (address_value s.t s.nodes (here s y)) (written_bytes s y) l (s.words y less) (omega (arith, few))
    ∙ ap (λ (n : ℕ). reaches_word n (address_value s.t s.nodes (here s y)) l) (many_values s.t s.nodes (here s y).writes)

touch_is : (s : Scene) (y l : ℕ) → y < count s → touches (writes_in (at s.visits (here s y).pos).outcome) l
    ≡ is_touch (guard_value s.t s.nodes (here s y)) (length (here s y).writes) (address_value s.t s.nodes (here s y)) l
touch_is s y l less = touch_by s y l (is_written s.t s.nodes (here s y)) less refl

address_shown : (s : Scene) (x : ℕ) → x < count s → address_value s.t s.nodes (here s x) ≡ access_address s.image s.visits (here s x).pos
address_shown s x less = (shown s x less).address

undisturbed_to : (s : Scene) (lr x : ℕ) → lr < count s → x < count s
    → IsUndisturbed s.visits (positions s) (Stands s.steps) (here s lr).pos (here s x).pos (access_address s.image s.visits (here s lr).pos)
    → IsUndisturbedAt s.t s.nodes s.paths.accesses s.lt lr x
undisturbed_to s lr x there less none y within differs after before =
    sym (touch_is s y (address_value s.t s.nodes (here s lr)) within)
    ∙ ap (touches (writes_in (at s.visits (here s y).pos).outcome)) (address_shown s lr there)
    ∙ none (here s y).pos (pos_in s.paths.accesses y within) differs ((s.order lr y there within).0 after) ((s.order y x within less).0 before)

undisturbed_from : (s : Scene) (lr x : ℕ) → lr < count s → x < count s → IsUndisturbedAt s.t s.nodes s.paths.accesses s.lt lr x
    → IsUndisturbed s.visits (positions s) (Stands s.steps) (here s lr).pos (here s x).pos (access_address s.image s.visits (here s lr).pos)
undisturbed_from s lr x there less none q i differs after before =
    let y : (y : ℕ) × (y < count s) × ((here s y).pos ≡ q) = in_pos s.paths.accesses q i in
    subst (λ (p : Pos). touches (writes_in (at s.visits p).outcome) (access_address s.image s.visits (here s lr).pos) ≡ false) y.2
    (ap (touches (writes_in (at s.visits (here s y.0).pos).outcome)) (sym (address_shown s lr there))
    ∙ touch_is s y.0 (address_value s.t s.nodes (here s lr)) y.1
    ∙ none y.0 y.1 (λ (e : (here s y.0).pos.thread ≡ (here s x).pos.thread). differs (ap (λ (p : Pos). p.thread) (sym y.2) ∙ e))
    ((s.order lr y.0 there y.1).1 (subst (Stands s.steps (here s lr).pos) (sym y.2) after))
    ((s.order y.0 x y.1 less).1 (subst (λ (p : Pos). Stands s.steps p (here s x).pos) (sym y.2) before)))

-- ---- outcomes

-- by the positions, as what is given fits
abbrev pub WonFitsAt : Scene → ℕ → Type 0
WonFitsAt s x = (lr : Pos) (address : ℕ) → conditional_here s x ≡ Some address → LooksBack s.image s.visits lr (here s x).pos
    → ((given_by s.t).won (here s x).pos.thread (here s x).pos.step ≡ true)
    ↔ ((access_address s.image s.visits lr ≡ address) × IsUndisturbed s.visits (positions s) (Stands s.steps) lr (here s x).pos (access_address s.image s.visits lr))

won_value : (s : Scene) (x lr : ℕ) → x < count s → (here s x).link ≡ Some lr
    → (given_by s.t).won (here s x).pos.thread (here s x).pos.step ≡ nat_eq (guard_value s.t s.nodes (here s x)) 1
won_value s x lr less e = ap (λ (n : ℕ). nat_eq n 1) (sym (s.outcomes x lr less e))

pub outcome_to : (s : Scene) (x : ℕ) → x < count s → WonFitsAt s x → HasOutcome s.t s.nodes s.paths.accesses s.lt x
outcome_to s x less fits lr e =
    let back : IsBack s x lr = back_of s x lr less e in
    let cond_it : is_conditional (instr_of_step s.walk (here s x).pos) ≡ true = linked_conditional s x lr less e in
    let iff = fits (here s lr).pos (access_address s.image s.visits (here s x).pos) (takes_place s x less cond_it) (looks_to s x lr less back) in (
      λ (one : guard_value s.t s.nodes (here s x) ≡ 1).
          let both = iff.0 (won_value s x lr less e ∙ eq-eqb (guard_value s.t s.nodes (here s x)) 1 one) in record {
            same = address_shown s lr back.there ∙ both.0 ∙ sym (address_shown s x less);
            undisturbed = undisturbed_to s lr x back.there less both.1;
          },
      λ (succeeds : SucceedsAt s.t s.nodes s.paths.accesses s.lt lr x).
          eqb-true (guard_value s.t s.nodes (here s x)) 1 (sym (won_value s x lr less e)
          ∙ iff.1 (sym (address_shown s lr back.there) ∙ succeeds.same ∙ address_shown s x less, undisturbed_from s lr x back.there less succeeds.undisturbed)),
    )

unlinked : (s : Scene) (x : ℕ) (lr : Pos) (address : ℕ) → x < count s → (here s x).link ≡ None → conditional_here s x ≡ Some address
    → LooksBack s.image s.visits lr (here s x).pos → ⊥
unlinked s x lr address less e taken looks =
    subst (LinksTo s.paths.accesses (here s x).pos.thread None) (looks_is s x lr less looks)
    (subst (λ (l : Option ℕ). LinksTo s.paths.accesses (here s x).pos.thread l (looks_back (places_of s.walk (here s x).pos.thread) (here s x).pos.step)) e
    ((listed s x less).linked (is_one s x address less taken)))

outcome_by : (s : Scene) (x : ℕ) (o : Option ℕ) → x < count s → (here s x).link ≡ o → HasOutcome s.t s.nodes s.paths.accesses s.lt x → WonFitsAt s x
outcome_by s x None less e outcome lr address taken looks = absurd (unlinked s x lr address less e taken looks)
outcome_by s x (Some k) less e outcome lr address taken looks =
    let back : IsBack s x k = back_of s x k less e in
    let same : lr ≡ (here s k).pos = same_back s x k lr less back looks in
    let own : access_address s.image s.visits (here s x).pos ≡ address = own_address s x address less taken in
    subst (λ (p : Pos). ((given_by s.t).won (here s x).pos.thread (here s x).pos.step ≡ true)
    ↔ ((access_address s.image s.visits p ≡ address) × IsUndisturbed s.visits (positions s) (Stands s.steps) p (here s x).pos (access_address s.image s.visits p))) (sym same) (
      λ (won : (given_by s.t).won (here s x).pos.thread (here s x).pos.step ≡ true).
          let succeeds : SucceedsAt s.t s.nodes s.paths.accesses s.lt k x =
          (outcome k e).0 (eqb-true (guard_value s.t s.nodes (here s x)) 1 (sym (won_value s x k less e) ∙ won)) in (
            sym (address_shown s k back.there) ∙ succeeds.same ∙ address_shown s x less ∙ own,
            undisturbed_from s k x back.there less succeeds.undisturbed,
          ),
      λ (both : (access_address s.image s.visits (here s k).pos ≡ address)
          × IsUndisturbed s.visits (positions s) (Stands s.steps) (here s k).pos (here s x).pos (access_address s.image s.visits (here s k).pos)).
          won_value s x k less e ∙ eq-eqb (guard_value s.t s.nodes (here s x)) 1 ((outcome k e).1 (record {
            same = address_shown s k back.there ∙ both.0 ∙ sym own ∙ sym (address_shown s x less);
            undisturbed = undisturbed_to s k x back.there less both.1;
          })),
    )

pub outcome_from : (s : Scene) (x : ℕ) → x < count s → HasOutcome s.t s.nodes s.paths.accesses s.lt x → WonFitsAt s x
outcome_from s x less outcome = outcome_by s x (here s x).link less refl outcome
