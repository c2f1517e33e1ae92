-- What a step of a guided walk reads may be read, and what it writes may be written.
use Rattle.std.specs.Prelude.{◌≡◌, ℕ, zero, suc, ◌<◌, ◌≤◌, ◌&&◌, ◌||◌, Bool, true, false, cond, List, [], ◌∷◌, length, map, min, nat_eq, take, Option, Some, None, is_some, Result, Ok, Err, refl}
use Rattle.std.specs.List.{range_with_len}
use Rattle.std.proofs.Common.{sym, ◌∙◌, ap, subst, arith, inl, inr}
use Rattle.std.proofs.lemmas.Bool.{and_parts, false≢true, leb-true}
use Rattle.std.proofs.lemmas.List.{length-take}
use Rattle.elf_image.specs.declared.cell.Cell.{Cell}
use Rattle.elf_image.specs.Layout.{Layout}
use Rattle.elf_image.specs.Memory.{Cells, all_readable, all_writable, is_readable, is_writable, next, opening_cells, writes_of}
use Rattle.rv32_decode.specs.declared.instr.Instr.{Instr}
use Rattle.rv32_decode.specs.declared.instr.Instr.TheVariants as instr
use Rattle.rv32_decode.specs.declared.instr.LoadOp.{LoadOp}
use Rattle.rv32_decode.specs.declared.instr.LoadOp.TheVariants as load
use Rattle.rv32_decode.specs.declared.instr.StoreOp.{StoreOp}
use Rattle.rv32_decode.specs.declared.instr.StoreOp.TheVariants as store
use Rattle.odr_log.specs.declared.log.Call.TheVariants as call
use Rattle.odr_log.specs.declared.log.CallRec.{CallRec}
use Rattle.odr_log.specs.declared.log.Cause.{Cause}
use Rattle.odr_log.specs.declared.log.Log.{Log}
use Rattle.odr_log.specs.declared.log.Pos.{Pos}
use Rattle.odr_log.specs.Tape.{tape_of}
use Rattle.rv_model.specs.declared.hearing.Access.{Access}
use Rattle.rv_model.specs.declared.hearing.Heard.{Heard}
use Rattle.rv_model.specs.declared.hearing.Outcome.{Outcome}
use Rattle.rv_model.specs.declared.hearing.Outcome.TheVariants.{Faults}
use Rattle.rv_model.specs.declared.hearing.Reach.{Reach}
use Rattle.rv_model.specs.declared.hearing.Reply.{Reply}
use Rattle.rv_model.specs.declared.state.Calls.{Calls}
use Rattle.rv_model.specs.declared.state.Local.{Local}
use Rattle.rv_model.specs.declared.state.Note.TheVariants as note
use Rattle.rv_model.specs.Calls.{fits_buffer, first_argument, number_of_call, opening_calls, second_argument}
use Rattle.rv_model.specs.CallsFit.{CallsFit, FitsRecord, Pass, after_record}
use Rattle.rv_model.specs.Instruction.{access_at, access_of, act_at}
use Rattle.rv_model.specs.Noted.{note_in, writes_in}
use Rattle.rv_model.specs.Values.{load_size, store_size}
use Rattle.guided_walk.specs.Fits.{byte_address, reads_in}
use Rattle.guided_walk.specs.Guided.{Given, IsGuided, Seen, Visit, Visits, at, hears, instr_of, joined_from, joins, met, seen_before, visit}
use Rattle.guided_walk.specs.Told.{IsPlace, noted, told}
use Rattle.guided_walk.proofs.Facts.{place_called}
use Rattle.guided_walk.proofs.Records.{Among, rec}
use Rattle.rv_model.specs.Walk.{IsWalk, Walk}
use Rattle.walk_facts.specs.Bytes.{MayRead, MayWrite}
use Rattle.walk_facts.specs.Law.{RightsLaw}
use Rattle.walk_facts.proofs.Moves.{AreBytes, GetsBytes, Moves, ReadsFew, moves}

-- ---- each byte of what may all be read or written

each_readable : (cells : Cells) (a n i : ℕ) → all_readable cells a n ≡ true → i < n → is_readable (cells (byte_address a i)) ≡ true
each_readable cells a zero i all less = absurd (omega (arith, less))
each_readable cells a (suc n) zero all less = (and_parts (is_readable (cells a)) (all_readable cells (next a) n) all).0
each_readable cells a (suc n) (suc i) all less = each_readable cells (next a) n i (and_parts (is_readable (cells a)) (all_readable cells (next a) n) all).1 (omega (arith, less))

each_writable : (cells : Cells) (a n i : ℕ) → all_writable cells a n ≡ true → i < n → is_writable (cells (byte_address a i)) ≡ true
each_writable cells a zero i all less = absurd (omega (arith, less))
each_writable cells a (suc n) zero all less = (and_parts (is_writable (cells a)) (all_writable cells (next a) n) all).0
each_writable cells a (suc n) (suc i) all less = each_writable cells (next a) n i (and_parts (is_writable (cells a)) (all_writable cells (next a) n) all).1 (omega (arith, less))

may_read : (image : Layout) (a : ℕ) (o : Option Cell) → opening_cells image a ≡ o → is_readable o ≡ true → MayRead image a
may_read image a None is e = absurd (false≢true e)
may_read image a (Some cell) is e = (cell, is, e)

may_write : (image : Layout) (a : ℕ) (o : Option Cell) → opening_cells image a ≡ o → is_writable o ≡ true → MayWrite image a
may_write image a None is e = absurd (false≢true e)
may_write image a (Some cell) is e = (cell, is, e)

some_by : {A : Type 0} (b : Bool) (x : A) → is_some (cond b (Some x) None) ≡ true → b ≡ true
some_by true x e = refl
some_by false x e = absurd (false≢true e)

-- ---- how many bytes an access has

few_load : (op : LoadOp) → load_size op ≤ 256
few_load load.Lb = omega arith
few_load load.Lh = omega arith
few_load load.Lw = omega arith
few_load load.Lbu = omega arith
few_load load.Lhu = omega arith

few_store : (op : StoreOp) → store_size op ≤ 256
few_store store.Sb = omega arith
few_store store.Sh = omega arith
few_store store.Sw = omega arith

few_buffer : (number fits : Bool) (a n : ℕ) → (fits ≡ true → n ≤ 256)
    → (let x : Access = cond (number && fits) (record { address = a; count = n }) (record { address = 0; count = 0 }) in x).count ≤ 256
few_buffer true true a n less = less refl
few_buffer true false a n less = omega arith
few_buffer false fits a n less = omega arith

few_of : (l : Local) (i : Instr) → (access_of l i).count ≤ 256
unfolding access_of
few_of l (instr.Load op rd rs1 offset) = few_load op
few_of l (instr.Store op rs1 rs2 offset) = few_store op
few_of l (instr.LoadReserved rd rs1 aq rl) = omega arith
few_of l (instr.StoreConditional rd rs1 rs2 aq rl) = omega arith
few_of l (instr.Amo op rd rs1 rs2 aq rl) = omega arith
few_of l instr.Ecall =
    few_buffer (nat_eq (number_of_call l) 8 || nat_eq (number_of_call l) 9) (fits_buffer (second_argument l)) (first_argument l) (second_argument l) (leb-true (second_argument l) 256)
few_of l (instr.Lui rd imm) = omega arith
few_of l (instr.Auipc rd imm) = omega arith
few_of l (instr.Jal rd offset) = omega arith
few_of l (instr.Jalr rd rs1 offset) = omega arith
few_of l (instr.Branch op rs1 rs2 offset) = omega arith
few_of l (instr.Imm op rd rs1 imm) = omega arith
few_of l (instr.Op op rd rs1 rs2) = omega arith
few_of l (instr.Fence rd rs1 imm) = omega arith
few_of l instr.Ebreak = omega arith

-- ---- a read call reads no more than it asks for

pass_fits : (calls : Calls) (records : List CallRec) (r : CallRec) → Pass calls records → Among r records → (before : Calls) × FitsRecord before r
pass_fits calls [] r pass has = absurd has
pass_fits calls (x ∷ xs) r pass (inl e) = (calls, subst (FitsRecord calls) e pass.0)
pass_fits calls (x ∷ xs) r pass (inr has) = pass_fits (after_record calls x) xs r pass.1 has

least_few : (n m : ℕ) → min n m ≤ n
least_few n m = omega arith

reads_few : (log : Log) → CallsFit log → (t s want : ℕ) (bytes : List ℕ) → Among (rec t s (call.Read want bytes)) log.calls → length bytes ≤ want
reads_few log fit t s want bytes has =
    let found : (before : Calls) × FitsRecord before (rec t s (call.Read want bytes)) = pass_fits (opening_calls (tape_of log)) log.calls (rec t s (call.Read want bytes)) fit.pass has in
    let taken : take want found.0.tape ≡ bytes = ap (λ (r : Reply). r.bytes) found.1.answered in
    let many : length bytes ≡ min want (length found.0.tape) = ap (length {A = ℕ}) (sym taken) ∙ length-take want found.0.tape in
    omega (arith, many, least_few want (length found.0.tape))

-- ---- a step

pub record RightsBy (image : Layout) (l : Local) (r : Result Instr Cause) (o : Outcome) : Type 0 where
  pub few : (access_at l r).count ≤ 256
  pub reads : (i : ℕ) → i < cond (reads_in r o) (access_at l r).count 0 → MayRead image (byte_address (access_at l r).address i)
  pub written : List ℕ
  pub writes : writes_in o ≡ writes_of (access_at l r).address written []
  pub within : length written ≤ (access_at l r).count
  pub writable : (i : ℕ) → i < length written → MayWrite image (byte_address (access_at l r).address i)
  pub bytes : GetsBytes o → AreBytes written

read_by : (b : Bool) (n i : ℕ) → i < cond b n 0 → (b ≡ true) × (i < n)
read_by true n i less = (refl, less)
read_by false n i less = absurd (omega (arith, less))

rights_of : (image : Layout) (f : ℕ → ℕ) (l : Local) (i : Instr) (reach : Reach) (o : Outcome) → reach ≡ met image f (access_of l i) → Moves l i reach o → RightsBy image l (Ok i) o
rights_of image f l i reach o is moved =
    let cells : Cells = opening_cells image in
    let access : Access = access_of l i in
    record {
      few = few_of l i;
      reads = λ (k : ℕ) (less : k < cond (reads_in (Ok i) o) access.count 0).
          let read : (reads_in (Ok i) o ≡ true) × (k < access.count) = read_by (reads_in (Ok i) o) access.count k less in
          let there : is_some (met image f access).bytes ≡ true = ap (λ (x : Reach). is_some x.bytes) (sym is) ∙ moved.read read.0 in
          may_read image (byte_address access.address k) (cells (byte_address access.address k)) refl
          (each_readable cells access.address access.count k
          (some_by (all_readable cells access.address access.count) (map f (range_with_len 0 access.count)) there) read.1);
      written = moved.written;
      writes = moved.writes;
      within = moved.within;
      writable = λ (k : ℕ) (less : k < length moved.written).
          let all : all_writable cells access.address access.count ≡ true = ap (λ (x : Reach). x.writable) (sym is) ∙ moved.writable k less in
          may_write image (byte_address access.address k) (cells (byte_address access.address k)) refl
          (each_writable cells access.address access.count k all (omega (arith, less, moved.within)));
      bytes = moved.bytes;
    }

rights_at : (image : Layout) (f : ℕ → ℕ) (l : Local) (r : Result Instr Cause) (heard : Heard) → heard.reach ≡ met image f (access_at l r) → ReadsFew (act_at l r heard)
    → RightsBy image l r (act_at l r heard)
rights_at image f l (Err fault) heard is few = record {
  few = omega arith;
  reads = λ (i : ℕ) (less : i < 0). absurd (omega (arith, less));
  written = [];
  writes = refl;
  within = omega arith;
  writable = λ (i : ℕ) (less : i < 0). absurd (omega (arith, less));
  bytes = λ (gets : GetsBytes (Faults fault)) (i : ℕ) (less : i < 0). absurd (omega (arith, less));
}
rights_at image f l (Ok i) heard is few = rights_of image f l i heard.reach _ is (moves l i heard few)

pub rights_here : (image : Layout) (log : Log) (walk : Walk) (given : Given) (v : Visits) (p : Pos) → IsWalk image log walk → CallsFit log
    → IsGuided image (told log walk) given v → IsPlace (told log walk) p → RightsBy image (at v p).seen.local (instr_of image (at v p).seen) (at v p).outcome
rights_here image log walk given v p is fit guided place =
    let seen : Seen = seen_before image (told log walk) v p.thread p.step in
    let here : Visit = visit image (told log walk) given v p.thread p.step in
    let heard : Heard = hears image (told log walk) given p.thread p.step seen (joined_from (told log walk) v (joins (noted (told log walk) p))) in
    let solves : at v p ≡ here = guided.solves p place in
    let few : ReadsFew here.outcome = λ (want : ℕ) (bytes : List ℕ) (e : note_in here.outcome ≡ note.Called (call.Read want bytes)).
    reads_few log fit p.thread p.step want bytes
    (place_called image log walk is p (call.Read want bytes) (sym (guided.shows p place) ∙ ap (λ (x : Visit). note_in x.outcome) solves ∙ e)) in
    subst (λ (x : Visit). RightsBy image x.seen.local (instr_of image x.seen) x.outcome) (sym solves)
    (rights_at image (given.bytes p.thread p.step) seen.local (instr_of image seen) heard refl few)

pub rights_law : RightsLaw
rights_law image log walk given v p is fit guided place =
    let by : RightsBy image (at v p).seen.local (instr_of image (at v p).seen) (at v p).outcome = rights_here image log walk given v p is fit guided place in
    record {
      few = by.few;
      reads = by.reads;
      written = by.written;
      writes = by.writes;
      within = by.within;
      may_write = by.writable;
    }
