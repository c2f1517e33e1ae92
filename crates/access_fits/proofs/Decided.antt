-- What fits one order of the accesses fits every order that has them so.
use Rattle.std.specs.Prelude.{◌≡◌, ◌≢◌, ◌↔◌, ℕ, ◌<◌, true, List, Some, refl}
use Rattle.std.proofs.Common.{sym, ◌∙◌, subst, inl, inr}
use Rattle.std.proofs.lemmas.Bool.{false≢true}
use Rattle.elf_image.specs.Layout.{Layout}
use Rattle.rv32_decode.specs.declared.instr.Instr.{Instr}
use Rattle.rv32_decode.specs.declared.instr.Instr.TheVariants as instr
use Rattle.odr_log.specs.declared.log.Log.{Log}
use Rattle.odr_log.specs.declared.log.Pos.{Pos}
use Rattle.rv_model.specs.Accesses.{is_access}
use Rattle.rv_model.specs.RecordedOrder.{Counted}
use Rattle.rv_model.specs.Walk.{IsWalk, Walk}
use Rattle.rv_model.specs.declared.state.Note.{Note}
use Rattle.guided_walk.specs.Fits.{Fits, byte_address, conditional_by, read_count}
use Rattle.guided_walk.specs.Guided.{Given, IsGuided, Visits, at, conditional_in}
use Rattle.guided_walk.specs.Law.{holds}
use Rattle.guided_walk.specs.Orders.{In, Lists, Stands}
use Rattle.guided_walk.specs.Schedules.{places}
use Rattle.guided_walk.specs.Told.{IsPlace, told, noted}
use Rattle.walk_facts.proofs.Addresses.{counted_is_place}
use Rattle.walk_facts.specs.Links.{access_address, is_reserving as reserves}
use Rattle.walk_facts.specs.Steps.{IsAccess, instr_of_step, step_of}
use Rattle.access_fits.specs.Fitting.{FitsOrder, IsByteBefore, IsFitting, IsUndisturbed, LooksBack, written}
use Rattle.access_fits.specs.Law.{DecidedFits}
use Rattle.access_fits.proofs.Woven.{counted_before, reserves_at, woven_fits_law}

-- two orders have the accesses the same
abbrev Agree : List Pos → (Pos → Pos → Type 0) → (Pos → Pos → Type 0) → Type 0
Agree accesses one other = (p q : Pos) → In p accesses → In q accesses → one p q ↔ other p q

turned : (accesses : List Pos) (one other : Pos → Pos → Type 0) → Agree accesses one other → Agree accesses other one
turned accesses one other agree p q i j = ((agree p q i j).1, (agree p q i j).0)

same_byte : (image : Layout) (v : Visits) (accesses : List Pos) (one other : Pos → Pos → Type 0) → Agree accesses one other → (p : Pos) → In p accesses
    → (address byte : ℕ)
    → IsByteBefore image v accesses one p address byte → IsByteBefore image v accesses other p address byte
same_byte image v accesses one other agree p here address byte (inl newest) = inl (record {
  writer = newest.writer;
  listed = newest.listed;
  older = (agree newest.writer p newest.listed here).0 newest.older;
  writes = newest.writes;
  newest = λ (q : Pos) (b : ℕ) (i : In q accesses) (before : other q p) (e : written v q address ≡ Some b) (ne : q ≢ newest.writer).
      (agree q newest.writer i newest.listed).0 (newest.newest q b i ((agree q p i here).1 before) e ne);
})
same_byte image v accesses one other agree p here address byte (inr none) =
    inr (λ (q : Pos) (i : In q accesses) (before : other q p). none.0 q i ((agree q p i here).1 before), none.1)

same_undisturbed : (v : Visits) (accesses : List Pos) (one other : Pos → Pos → Type 0) → Agree accesses one other → (lr p : Pos) → In lr accesses
    → In p accesses → (address : ℕ)
    → IsUndisturbed v accesses one lr p address → IsUndisturbed v accesses other lr p address
same_undisturbed v accesses one other agree lr p there here address quiet q i apart after before =
    quiet q i apart ((agree lr q there i).1 after) ((agree q p i here).1 before)

same_fits : (image : Layout) (given : Given) (v : Visits) (accesses : List Pos) (one other : Pos → Pos → Type 0) → Agree accesses one other
    → ((lr p : Pos) → In p accesses → LooksBack image v lr p → In lr accesses) → FitsOrder image given v accesses one → FitsOrder image given v accesses other
same_fits image given v accesses one other agree back fits p here =
    let fitting : IsFitting image given v accesses one p = fits p here in
    record {
      bytes = λ (i : ℕ) (less : i < read_count image (at v p)).
          same_byte image v accesses one other agree p here (byte_address (access_address image v p) i) (given.bytes p.thread p.step i) (fitting.bytes i less);
      won = λ (lr : Pos) (address : ℕ) (e : conditional_by (conditional_in image (at v p).seen) (at v p).outcome ≡ Some address)
          (looks : LooksBack image v lr p).
          let there : In lr accesses = back lr p here looks in
          let won : (given.won p.thread p.step ≡ true) ↔ ((access_address image v lr ≡ address) × IsUndisturbed v accesses one lr p
          (access_address image v lr)) =
          fitting.won lr address e looks in (
            λ (w : given.won p.thread p.step ≡ true).
                ((won.0 w).0, same_undisturbed v accesses one other agree lr p there here (access_address image v lr) (won.0 w).1),
            λ (both : (access_address image v lr ≡ address) × IsUndisturbed v accesses other lr p (access_address image v lr)).
                won.1 (both.0, same_undisturbed v accesses other one (turned accesses one other agree) lr p there here (access_address image v lr) both.1),
          );
    }

-- ---- the load-reserved is an access too

reserved_access : (i : Instr) (n : Note) → reserves i ≡ true → is_access i n ≡ true
reserved_access (instr.LoadReserved rd rs1 aq rl) n e = refl
reserved_access (instr.Load op rd rs1 offset) n e = absurd (false≢true e)
reserved_access (instr.Store op rs1 rs2 offset) n e = absurd (false≢true e)
reserved_access (instr.StoreConditional rd rs1 rs2 aq rl) n e = absurd (false≢true e)
reserved_access (instr.Amo op rd rs1 rs2 aq rl) n e = absurd (false≢true e)
reserved_access instr.Ecall n e = absurd (false≢true e)
reserved_access (instr.Lui rd imm) n e = absurd (false≢true e)
reserved_access (instr.Auipc rd imm) n e = absurd (false≢true e)
reserved_access (instr.Jal rd offset) n e = absurd (false≢true e)
reserved_access (instr.Jalr rd rs1 offset) n e = absurd (false≢true e)
reserved_access (instr.Branch op rs1 rs2 offset) n e = absurd (false≢true e)
reserved_access (instr.Imm op rd rs1 imm) n e = absurd (false≢true e)
reserved_access (instr.Op op rd rs1 rs2) n e = absurd (false≢true e)
reserved_access (instr.Fence rd rs1 imm) n e = absurd (false≢true e)
reserved_access instr.Ebreak n e = absurd (false≢true e)

back_listed : (image : Layout) (log : Log) (walk : Walk) (given : Given) (v : Visits) (accesses : List Pos) → IsWalk image log walk
    → IsGuided image (told log walk) given v
    → Lists (IsAccess log walk) accesses → (lr p : Pos) → In p accesses → LooksBack image v lr p → In lr accesses
back_listed image log walk given v accesses is guided lists lr p here back =
    let place : IsPlace (told log walk) p = counted_is_place image log walk is p (lists.only p here).0 in
    let counted : Counted log lr =
    subst (λ (t : ℕ). Counted log (step_of t lr.step)) (sym back.thread) (counted_before image log walk is p place lr.step back.earlier) in
    lists.all lr (
      counted,
      reserved_access (instr_of_step walk lr) (noted (told log walk) lr)
          (sym (reserves_at image log walk given v is guided lr counted) ∙ back.reserves),
    )

pub decided_fits_law : DecidedFits
decided_fits_law image log walk given v pairs schedule accesses before is fit guided woven lists agree =
    let fits : Fits image given v schedule ↔ FitsOrder image given v accesses (Stands (places schedule)) =
    woven_fits_law image log walk given v pairs schedule accesses is fit guided woven lists in
    let back : (lr p : Pos) → In p accesses → LooksBack image v lr p → In lr accesses = back_listed image log walk given v accesses is guided lists in (
      λ (f : Fits image given v schedule). same_fits image given v accesses (Stands (places schedule)) (holds before) agree back (fits.0 f),
      λ (f : FitsOrder image given v accesses (holds before)).
          fits.1 (same_fits image given v accesses (holds before) (Stands (places schedule))
          (turned accesses (Stands (places schedule)) (holds before) agree) back f),
    )
