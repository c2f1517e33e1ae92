-- Whether what is given fits a schedule, one step more at a time.
use Rattle.std.specs.Prelude.{◌≡◌, ◌≢◌, ◌↔◌, ℕ, suc, ◌+◌, ◌<◌, ◌≤◌, cond, List, [], ◌∷◌, ◌++◌, length, take, drop, reverse, nat_eq, Option, refl}
use Rattle.std.proofs.Common.{sym, ◌∙◌, ap, subst, arith, inl, inr, get_or}
use Rattle.std.proofs.lemmas.Bool.{cases_eq}
use Rattle.std.proofs.lemmas.List.{take_more, drop_more, drop_all, reverse-append}
use Rattle.elf_image.specs.declared.write.Write.{Write}
use Rattle.elf_image.specs.Layout.{Layout}
use Rattle.elf_image.specs.Memory.{Cells, opening_cells, cells_after, next, byte_in}
use Rattle.odr_log.specs.declared.log.Pos.{Pos}
use Rattle.rv_model.specs.Instruction.{reserving_at}
use Rattle.rv_model.specs.Noted.{writes_in}
use Rattle.rv_model.specs.Thread.{surviving}
use Rattle.rv_model.specs.declared.hearing.Outcome.{Outcome}
use Rattle.guided_walk.specs.Guided.{Given, Seen, Visit, Visits, at, instr_of}
use Rattle.guided_walk.specs.Schedules.{count, next_of, places_after}
use Rattle.guided_walk.specs.Fits.{byte_address, reserved, writes_along, memory_along, FitsVisit, FitsAlong, Fits}
use Rattle.plain_walk.specs.declared.table.Visited.{Visited}
use Rattle.plain_walk.specs.Data.{seen_of, visit_of}
use Rattle.plain_walk.specs.Fit.{BytesFit}
use Rattle.plain_walk.proofs.ByteLemmas.{address_more}

pub reverse_more : (steps : List Pos) (i : ℕ) (p : Pos) → i < length steps → p ≡ get_or steps i p → reverse (take (i + 1) steps) ≡ p ∷ reverse (take i steps)
reverse_more steps i p within is =
    ap (reverse {A = Pos}) (take_more steps i p within ∙ ap (λ (x : Pos). take i steps ++ x ∷ []) (sym is)) ∙ reverse-append (take i steps) (p ∷ [])

-- ---- counts and reservations

pub count_more : (thread : ℕ) (steps : List Pos) (i : ℕ) (p : Pos) → i < length steps → p ≡ get_or steps i p
    → count thread (reverse (take (i + 1) steps)) ≡ cond (nat_eq p.thread thread) (suc (count thread (reverse (take i steps)))) (count thread (reverse (take i steps)))
count_more thread steps i p within is = ap (count thread) (reverse_more steps i p within is)

pub reserved_step : (image : Layout) (visits : Visits) (thread : ℕ) (steps : List Pos) (i : ℕ) (p : Pos) → i < length steps → p ≡ get_or steps i p
    → reserved image visits thread (reverse (take (i + 1) steps))
    ≡ cond (nat_eq p.thread thread) (reserving_at (at visits p).seen.local (instr_of image (at visits p).seen) (reserved image visits thread (reverse (take i steps))))
    (surviving (writes_in (at visits p).outcome) (reserved image visits thread (reverse (take i steps))))
reserved_step image visits thread steps i p within is = ap (reserved image visits thread) (reverse_more steps i p within is)

-- a visit, by the thread before it and its outcome
pub reserved_from : (image : Layout) (visits : Visits) (thread : ℕ) (steps : List Pos) (i : ℕ) (p : Pos) (visit : Visit) (old new : Option ℕ) → i < length steps → p ≡ get_or steps i p
    → visit ≡ at visits p → old ≡ reserved image visits thread (reverse (take i steps))
    → new ≡ cond (nat_eq p.thread thread) (reserving_at visit.seen.local (instr_of image visit.seen) old) (surviving (writes_in visit.outcome) old)
    → new ≡ reserved image visits thread (reverse (take (i + 1) steps))
reserved_from image visits thread steps i p visit old new within is seen before now =
    now
    ∙ ap (λ (x : Visit). cond (nat_eq p.thread thread) (reserving_at x.seen.local (instr_of image x.seen) old) (surviving (writes_in x.outcome) old)) seen
    ∙ ap (λ (o : Option ℕ). cond (nat_eq p.thread thread) (reserving_at (at visits p).seen.local (instr_of image (at visits p).seen) o) (surviving (writes_in (at visits p).outcome) o)) before
    ∙ sym (reserved_step image visits thread steps i p within is)

-- ---- bytes

abbrev pub BytesSoFar : (ℕ → ℕ) → Cells → ℕ → ℕ → ℕ → Type 0
BytesSoFar bytes memory address i now = (now ≡ byte_address address i) × BytesFit bytes memory address i

pub bytes_none : (bytes : ℕ → ℕ) (memory : Cells) (address : ℕ) → BytesSoFar bytes memory address 0 address
bytes_none bytes memory address = (refl, λ (i : ℕ) (less : i < 0). absurd (omega (arith, less)))

pub bytes_more : (bytes : ℕ → ℕ) (memory : Cells) (address i now after : ℕ) → BytesSoFar bytes memory address i now → bytes i ≡ byte_in (memory now) → after ≡ next now
    → BytesSoFar bytes memory address (i + 1) after
bytes_more bytes memory address i now after so_far same on =
    let place : i + 1 ≡ suc i = omega arith in (
      on ∙ ap next so_far.0 ∙ sym (address_more address i) ∙ ap (byte_address address) (sym place),
      λ (k : ℕ) (less : k < i + 1). elim (cases_eq k i) [
        | inl last ↦ ap bytes last ∙ same ∙ ap (λ (a : ℕ). byte_in (memory a)) (so_far.0 ∙ ap (byte_address address) (sym last))
        | inr other ↦ so_far.1 k (omega (arith, less, other))
      ],
    )

pub bytes_all : (bytes : ℕ → ℕ) (memory : Cells) (address count i now : ℕ) → count ≤ i → BytesSoFar bytes memory address i now → BytesFit bytes memory address count
bytes_all bytes memory address count i now past so_far k less = so_far.1 k (omega (arith, past, less))

pub bytes_differ : (bytes : ℕ → ℕ) (memory : Cells) (address count i now : ℕ) → i < count → BytesSoFar bytes memory address i now → bytes i ≢ byte_in (memory now)
    → BytesFit bytes memory address count → ⊥
bytes_differ bytes memory address count i now within so_far other fit = other (fit i within ∙ ap (λ (a : ℕ). byte_in (memory a)) (sym so_far.0))

-- ---- the schedule

pub visit_is : (v : Visited) (w : Visit) → seen_of v.before ≡ w.seen → v.outcome ≡ w.outcome → visit_of v ≡ w
visit_is v w seen outcome =
    ap (λ (s : Seen). let x : Visit = record { seen = s; outcome = v.outcome } in x) seen
    ∙ ap (λ (o : Outcome). let x : Visit = record { seen = w.seen; outcome = o } in x) outcome

-- after steps, the rest fits exactly where the whole does
pub record SoFar (image : Layout) (given : Given) (visits : Visits) (schedule : List ℕ) (i : ℕ) (done : List Pos) (writes : List Write) : Type 0 where
  pub rest : Fits image given visits schedule ↔ FitsAlong image given visits done (places_after done (drop i schedule))
  pub wrote : writes ≡ writes_along visits done
  pub steps : length done ≡ i

pub far_none : (image : Layout) (given : Given) (visits : Visits) (schedule : List ℕ) → SoFar image given visits schedule 0 [] []
far_none image given visits schedule = record { rest = (λ (f : Fits image given visits schedule). f, λ (f : Fits image given visits schedule). f); wrote = refl; steps = refl }

module _ (image : Layout) (given : Given) (visits : Visits) (schedule : List ℕ) (i t : ℕ) (done : List Pos) (writes : List Write) (within : i < length schedule) (is : t ≡ get_or schedule i 0) (so_far : SoFar image given visits schedule i done writes) where
  abbrev Here : Pos → Option ℕ → Visit → Type 0
  Here p reservation visit = FitsVisit image given (cells_after (opening_cells image) writes) reservation p visit

  abbrev Parts : Pos → Type 0
  Parts p = FitsVisit image given (memory_along image visits done) (reserved image visits t done) p (at visits p) × FitsAlong image given visits (p ∷ done) (places_after (p ∷ done) (drop (i + 1) schedule))

  drop_is : drop i schedule ≡ t ∷ drop (i + 1) schedule
  drop_is = drop_more schedule i 0 within ∙ ap (λ (x : ℕ). x ∷ drop (i + 1) schedule) (sym is)

  whole : Fits image given visits schedule ↔ Parts (next_of t done)
  whole = subst (λ (rest : List ℕ). Fits image given visits schedule ↔ FitsAlong image given visits done (places_after done rest)) drop_is so_far.rest

  here_is : (p : Pos) (reservation : Option ℕ) (visit : Visit) → p ≡ next_of t done → reservation ≡ reserved image visits t done → visit ≡ at visits p
      → Here p reservation visit ≡ FitsVisit image given (memory_along image visits done) (reserved image visits t done) (next_of t done) (at visits (next_of t done))
  here_is p reservation visit place held seen =
      ap (λ (ws : List Write). FitsVisit image given (cells_after (opening_cells image) ws) reservation p visit) so_far.wrote
      ∙ ap (λ (o : Option ℕ). FitsVisit image given (memory_along image visits done) o p visit) held
      ∙ ap (λ (v : Visit). FitsVisit image given (memory_along image visits done) (reserved image visits t done) p v) seen
      ∙ ap (λ (q : Pos). FitsVisit image given (memory_along image visits done) (reserved image visits t done) q (at visits q)) place

  pub far_not : (p : Pos) (reservation : Option ℕ) (visit : Visit) → p ≡ next_of t done → reservation ≡ reserved image visits t done → visit ≡ at visits p
      → (Here p reservation visit → ⊥) → Fits image given visits schedule → ⊥
  far_not p reservation visit place held seen never fits =
      never (subst (λ (X : Type 0). X) (sym (here_is p reservation visit place held seen)) (whole.0 fits).0)

  pub far_more : (p : Pos) (reservation : Option ℕ) (visit : Visit) (after : List Pos) (newer : List Write) → p ≡ next_of t done → reservation ≡ reserved image visits t done → visit ≡ at visits p
      → Here p reservation visit → after ≡ p ∷ done → newer ≡ writes_in visit.outcome ++ writes → SoFar image given visits schedule (i + 1) after newer
  far_more p reservation visit after newer place held seen fits pushed added =
      let here : FitsVisit image given (memory_along image visits done) (reserved image visits t done) (next_of t done) (at visits (next_of t done)) =
      subst (λ (X : Type 0). X) (here_is p reservation visit place held seen) fits in
      let done_is : after ≡ next_of t done ∷ done = pushed ∙ ap (λ (q : Pos). q ∷ done) place in
      let rest : Fits image given visits schedule ↔ FitsAlong image given visits (next_of t done ∷ done) (places_after (next_of t done ∷ done) (drop (i + 1) schedule)) = (
        λ (f : Fits image given visits schedule). (whole.0 f).1,
        λ (f : FitsAlong image given visits (next_of t done ∷ done) (places_after (next_of t done ∷ done) (drop (i + 1) schedule))). whole.1 (here, f),
      ) in
      record {
        rest = subst (λ (d : List Pos). Fits image given visits schedule ↔ FitsAlong image given visits d (places_after d (drop (i + 1) schedule))) (sym done_is) rest;
        wrote =
            added
            ∙ ap (λ (v : Visit). writes_in v.outcome ++ writes) (seen ∙ ap (at visits) place)
            ∙ ap (λ (ws : List Write). writes_in (at visits (next_of t done)).outcome ++ ws) so_far.wrote
            ∙ ap (writes_along visits) (sym done_is);
        steps = ap (length {A = Pos}) pushed ∙ (let e : suc (length done) ≡ i + 1 = omega (arith, so_far.steps) in e);
      }

pub far_all : (image : Layout) (given : Given) (visits : Visits) (schedule : List ℕ) (i : ℕ) (done : List Pos) (writes : List Write) → length schedule ≤ i
    → SoFar image given visits schedule i done writes → Fits image given visits schedule
far_all image given visits schedule i done writes past so_far =
    so_far.rest.1 (subst (λ (rest : List ℕ). FitsAlong image given visits done (places_after done rest)) (sym (drop_all i schedule past)) tt)

pub ruleset counts = (count_more)

pub ruleset reservations = (reserved_from)

pub ruleset bytes = (bytes_none, bytes_more, bytes_all, bytes_differ)
