-- A step that is no access, and the fault, leave memory and reservations alone.
use Rattle.std.specs.Prelude.{◌≡◌, ℕ, ◌*◌, ◌/◌, ◌<◌, ◌⊎◌, Bool, true, false, cond, List, [], ◌∷◌, length, map, Option, Some, None, Result, Ok, Err, refl}
use Rattle.std.specs.List.{range_with_len}
use Rattle.std.proofs.Common.{sym, ◌∙◌, ap, subst, arith, inl, inr}
use Rattle.std.proofs.lemmas.Bool.{false≢true}
use Rattle.std.proofs.lemmas.List.FromFn.{length-map-range_with_len}
use Rattle.std.proofs.lemmas.Option.{none-some, same_Some}
use Rattle.elf_image.specs.Layout.{Layout}
use Rattle.elf_image.specs.Memory.{all_readable, opening_cells, writes_of}
use Rattle.rv32_decode.specs.declared.instr.Instr.{Instr}
use Rattle.rv32_decode.specs.declared.instr.Instr.TheVariants as instr
use Rattle.odr_log.specs.declared.log.Call.TheVariants as call
use Rattle.odr_log.specs.declared.log.Cause.{Cause}
use Rattle.odr_log.specs.declared.log.Cause.TheVariants as cause
use Rattle.odr_log.specs.declared.log.Log.{Log}
use Rattle.odr_log.specs.declared.log.Pos.{Pos}
use Rattle.rv_model.specs.declared.hearing.Access.{Access}
use Rattle.rv_model.specs.declared.hearing.Heard.{Heard}
use Rattle.rv_model.specs.declared.hearing.Kind.{Kind}
use Rattle.rv_model.specs.declared.hearing.Kind.TheVariants as kind
use Rattle.rv_model.specs.declared.hearing.Outcome.{Outcome}
use Rattle.rv_model.specs.declared.hearing.Outcome.TheVariants.{Faults, Goes}
use Rattle.rv_model.specs.declared.hearing.Reach.{Reach}
use Rattle.rv_model.specs.declared.hearing.Reply.{Reply}
use Rattle.rv_model.specs.declared.state.Local.{Local}
use Rattle.rv_model.specs.declared.state.Note.{Note}
use Rattle.rv_model.specs.declared.state.Note.TheVariants as note
use Rattle.rv_model.specs.Accesses.{is_access, moves_bytes}
use Rattle.rv_model.specs.Calls.{first_argument, kind_at, record_of}
use Rattle.rv_model.specs.Instruction.{access_at, access_of, act, act_at, calls_out, conditional_at, conditional_of, is_aligned}
use Rattle.rv_model.specs.Noted.{note_in, writes_in}
use Rattle.rv_model.specs.RecordedOrder.{Counted}
use Rattle.rv_model.specs.Thread.{gone_to, next_pc, onward, register, with_register}
use Rattle.rv_model.specs.Values.{plus_offset, taken_of}
use Rattle.rv_model.specs.Walk.{IsWalk, Walk}
use Rattle.rv_model.proofs.Progress.{IsQuiet as IsSound, quiet-act_at}
use Rattle.guided_walk.specs.Fits.{conditional_by, read_count, reads_in}
use Rattle.guided_walk.specs.Guided.{Given, IsGuided, Seen, Visit, Visits, at, conditional_in, hears, instr_of, joined_from, joins, met, seen_before, visit}
use Rattle.guided_walk.specs.Told.{IsPlace, noted, told}
use Rattle.guided_walk.proofs.NeedsOrder.{counted_place}
use Rattle.guided_walk.proofs.Whole.{place_kind}
use Rattle.walk_facts.specs.Law.{QuietLaw}
use Rattle.walk_facts.specs.Quiet.{FitsAnyway, IsQuiet}
use Rattle.walk_facts.specs.Steps.{IsAccess, instr_of_step}
use Rattle.walk_facts.proofs.Addresses.{instr_is, noted_within}
use Rattle.walk_facts.proofs.Moves.{Buffers, kind_buffers, no_read, still_cond}

record QuietBy (l : Local) (r : Result Instr Cause) (o : Outcome) : Type 0 where
  reads : cond (reads_in r o) (access_at l r).count 0 ≡ 0
  writes : writes_in o ≡ []
  conditional : conditional_by (conditional_at l r) o ≡ None

-- ---- an instruction that neither reads nor writes

unread : (b : Bool) (n : ℕ) → b ≡ false → cond b n 0 ≡ 0
unread true n e = absurd (false≢true (sym e))
unread false n e = refl

none_by : (a : Option ℕ) (o : Outcome) → a ≡ None → conditional_by a o ≡ None
none_by a (Faults fault) e = refl
none_by a (Goes local writes shown) e = e

leaves : (l : Local) (i : Instr) (o : Outcome) → reads_in (Ok i) o ≡ false → writes_in o ≡ [] → conditional_of l i ≡ None → QuietBy l (Ok i) o
leaves l i o reads writes conditional = record {
  reads = unread (reads_in (Ok i) o) (access_of l i).count reads;
  writes = writes;
  conditional = none_by (conditional_of l i) o conditional;
}

faults_quiet : (l : Local) (r : Result Instr Cause) (fault : Cause) → QuietBy l r (Faults fault)
faults_quiet l r fault = record { reads = refl; writes = refl; conditional = refl }

-- ---- a call that moved no byte

no_bytes_written : (bytes : List ℕ) → moves_bytes (note.Called (call.Write bytes)) ≡ false → bytes ≡ []
no_bytes_written [] e = refl
no_bytes_written (b ∷ bytes) e = absurd (false≢true (sym e))

no_bytes_read : (want : ℕ) (bytes : List ℕ) → moves_bytes (note.Called (call.Read want bytes)) ≡ false → bytes ≡ []
no_bytes_read want [] e = refl
no_bytes_read want (b ∷ bytes) e = absurd (false≢true (sym e))

quiet_call : (l : Local) (reach : Reach) (thread joined : ℕ) (reply : Reply) (k : Kind) → Buffers l reach k
    → ((xs : List ℕ) → reach.bytes ≡ Some xs → length xs ≡ (access_of l instr.Ecall).count)
    → is_access instr.Ecall (note.Called (record_of k reply)) ≡ false → QuietBy l (Ok instr.Ecall) (calls_out l thread joined (record_of k reply))
unfolding conditional_of
quiet_call l reach thread joined reply (kind.Write bytes) buffers many e = record {
  reads =
      let none : bytes ≡ [] = no_bytes_written bytes e in
      sym (many bytes buffers.1) ∙ ap (length {A = ℕ}) none;
  writes = refl;
  conditional = refl;
}
quiet_call l reach thread joined reply (kind.Read want) buffers many e = record {
  reads = refl;
  writes = ap (λ (bytes : List ℕ). writes_of (first_argument l) bytes []) (no_bytes_read want reply.bytes e);
  conditional = refl;
}
quiet_call l reach thread joined reply (kind.Exit code) buffers many e = leaves l instr.Ecall _ refl refl refl
quiet_call l reach thread joined reply kind.EndThread buffers many e = leaves l instr.Ecall _ refl refl refl
quiet_call l reach thread joined reply (kind.Spawn entry) buffers many e = leaves l instr.Ecall _ refl refl refl
quiet_call l reach thread joined reply (kind.Join target) buffers many e = leaves l instr.Ecall _ refl refl refl
quiet_call l reach thread joined reply (kind.Lock mutex) buffers many e = leaves l instr.Ecall _ refl refl refl
quiet_call l reach thread joined reply (kind.Unlock mutex) buffers many e = leaves l instr.Ecall _ refl refl refl
quiet_call l reach thread joined reply (kind.TryLock mutex) buffers many e = leaves l instr.Ecall _ refl refl refl
quiet_call l reach thread joined reply kind.WriteBad buffers many e = leaves l instr.Ecall _ refl refl refl
quiet_call l reach thread joined reply kind.ReadBad buffers many e = leaves l instr.Ecall _ refl refl refl
quiet_call l reach thread joined reply kind.SelfId buffers many e = leaves l instr.Ecall _ refl refl refl
quiet_call l reach thread joined reply kind.Yield buffers many e = leaves l instr.Ecall _ refl refl refl
quiet_call l reach thread joined reply (kind.Unknown number) buffers many e = leaves l instr.Ecall _ refl refl refl

-- ---- each instruction

quiet_act : (l : Local) (i : Instr) (heard : Heard) → ((xs : List ℕ) → heard.reach.bytes ≡ Some xs → length xs ≡ (access_of l i).count)
    → is_access i (note_in (act l i heard)) ≡ false → QuietBy l (Ok i) (act l i heard)
unfolding act conditional_of
quiet_act l (instr.Lui rd imm) heard many e = leaves l (instr.Lui rd imm) _ refl refl refl
quiet_act l (instr.Auipc rd imm) heard many e = leaves l (instr.Auipc rd imm) _ refl refl refl
quiet_act l (instr.Jal rd offset) heard many e =
    leaves l (instr.Jal rd offset) _ (no_read (instr.Jal rd offset) _ (λ (shown : Note). refl))
    (still_cond (is_aligned (plus_offset l.pc offset)) (Goes (gone_to (with_register l rd (next_pc l)) (plus_offset l.pc offset)) [] note.Nothing) (Faults cause.Misaligned) refl refl) refl
quiet_act l (instr.Jalr rd rs1 offset) heard many e =
    let target : ℕ = plus_offset (register l rs1) offset / 2 * 2 in
    leaves l (instr.Jalr rd rs1 offset) _ (no_read (instr.Jalr rd rs1 offset) _ (λ (shown : Note). refl))
    (still_cond (is_aligned target) (Goes (gone_to (with_register l rd (next_pc l)) target) [] (note.Jump target)) (Faults cause.Misaligned) refl refl) refl
quiet_act l (instr.Branch op rs1 rs2 offset) heard many e =
    let target : ℕ = plus_offset l.pc offset in
    leaves l (instr.Branch op rs1 rs2 offset) _ (no_read (instr.Branch op rs1 rs2 offset) _ (λ (shown : Note). refl))
    (still_cond (taken_of op (register l rs1) (register l rs2)) _ (Goes (onward l) [] (note.Branch false))
    (still_cond (is_aligned target) (Goes (gone_to l target) [] (note.Branch true)) (Faults cause.Misaligned) refl refl) refl) refl
quiet_act l (instr.Imm op rd rs1 imm) heard many e = leaves l (instr.Imm op rd rs1 imm) _ refl refl refl
quiet_act l (instr.Op op rd rs1 rs2) heard many e = leaves l (instr.Op op rd rs1 rs2) _ refl refl refl
quiet_act l (instr.Fence rd rs1 imm) heard many e = leaves l (instr.Fence rd rs1 imm) _ refl refl refl
quiet_act l instr.Ebreak heard many e = leaves l instr.Ebreak _ refl refl refl
quiet_act l instr.Ecall heard many e = quiet_call l heard.reach heard.thread heard.joined heard.reply (kind_at l heard.reach) (kind_buffers l heard.reach) many e
quiet_act l (instr.Load op rd rs1 offset) heard many e = absurd (false≢true (sym e))
quiet_act l (instr.Store op rs1 rs2 offset) heard many e = absurd (false≢true (sym e))
quiet_act l (instr.LoadReserved rd rs1 aq rl) heard many e = absurd (false≢true (sym e))
quiet_act l (instr.StoreConditional rd rs1 rs2 aq rl) heard many e = absurd (false≢true (sym e))
quiet_act l (instr.Amo op rd rs1 rs2 aq rl) heard many e = absurd (false≢true (sym e))

-- ---- a step

-- bytes that are met are as many as the access has
many_met : (image : Layout) (f : ℕ → ℕ) (access : Access) (xs : List ℕ) → (met image f access).bytes ≡ Some xs → length xs ≡ access.count
many_met image f access xs e = by_test (all_readable (opening_cells image) access.address access.count) e where
  by_test : (b : Bool) → cond b (Some (map f (range_with_len 0 access.count))) None ≡ Some xs → length xs ≡ access.count
  by_test true p = ap (length {A = ℕ}) (sym (same_Some (map f (range_with_len 0 access.count)) xs p)) ∙ length-map-range_with_len f 0 access.count
  by_test false p = absurd (none-some xs p)

one_instr : (r : Result Instr Cause) (a b : Instr) → r ≡ Ok a → r ≡ Ok b → a ≡ b
one_instr r a b p q = cc

quiet_by : (image : Layout) (f : ℕ → ℕ) (l : Local) (r : Result Instr Cause) (i : Instr) (heard : Heard) → heard.reach ≡ met image f (access_at l r) → r ≡ Ok i
    → is_access i (note_in (act_at l r heard)) ≡ false → QuietBy l r (act_at l r heard)
quiet_by image f l (Err fault) i heard is same e = faults_quiet l (Err fault) fault
quiet_by image f l (Ok j) i heard is same e =
    quiet_act l j heard (λ (xs : List ℕ) (p : heard.reach.bytes ≡ Some xs). many_met image f (access_of l j) xs (ap (λ (x : Reach). x.bytes) (sym is) ∙ p))
    (ap (λ (k : Instr). is_access k (note_in (act l j heard))) (one_instr (Ok j) j i refl same) ∙ e)

-- a step that shows a fault has one
shows_fault : (l : Local) (r : Result Instr Cause) (o : Outcome) (fault : Cause) → IsSound o → note_in o ≡ note.Faulted fault → QuietBy l r o
shows_fault l r (Faults other) fault sound e = faults_quiet l r other
shows_fault l r (Goes local writes shown) fault sound e = absurd (subst (λ (n : Note). IsSound (Goes local writes n)) e sound)

by_access : (b : Bool) → (b ≡ true → ⊥) → b ≡ false
by_access true no_one = absurd (no_one refl)
by_access false no_one = refl

pub quiet_place : (image : Layout) (log : Log) (walk : Walk) (given : Given) (v : Visits) (p : Pos) → IsWalk image log walk → IsGuided image (told log walk) given v
    → IsPlace (told log walk) p → (IsAccess log walk p → ⊥) → IsQuiet image (at v p)
quiet_place image log walk given v p is guided place none =
    let seen : Seen = seen_before image (told log walk) v p.thread p.step in
    let here : Visit = visit image (told log walk) given v p.thread p.step in
    let heard : Heard = hears image (told log walk) given p.thread p.step seen (joined_from (told log walk) v (joins (noted (told log walk) p))) in
    let solves : at v p ≡ here = guided.solves p place in
    let shows : note_in here.outcome ≡ noted (told log walk) p = ap (λ (x : Visit). note_in x.outcome) (sym solves) ∙ guided.shows p place in
    let by : QuietBy seen.local (instr_of image seen) here.outcome = elim (place_kind log walk p place) [
      | inl within ↦ (
          let counted : Counted log p = counted_place image log walk is p within in
          let fetched : instr_of image seen ≡ Ok (instr_of_step walk p) =
          ap (λ (x : Visit). instr_of image x.seen) (sym solves) ∙ instr_is image log walk given v is guided p counted in
          let unmoved : is_access (instr_of_step walk p) (noted (told log walk) p) ≡ false =
          by_access (is_access (instr_of_step walk p) (noted (told log walk) p)) (λ (e : is_access (instr_of_step walk p) (noted (told log walk) p) ≡ true). none (counted, e)) in
          quiet_by image (given.bytes p.thread p.step) seen.local (instr_of image seen) (instr_of_step walk p) heard refl fetched
          (ap (is_access (instr_of_step walk p)) shows ∙ unmoved))
      | inr fault ↦ shows_fault seen.local (instr_of image seen) here.outcome fault.fault (quiet-act_at seen.local (instr_of image seen) heard) (shows ∙ fault.note)
    ] in
    subst (IsQuiet image) (sym solves) (record { reads = by.reads; writes = by.writes; conditional = by.conditional })

is_true_or : (b : Bool) → (b ≡ true) ⊎ (b ≡ true → ⊥)
is_true_or true = inl refl
is_true_or false = inr (λ (e : false ≡ true). false≢true e)

-- a place is an access or none
pub access_or : (image : Layout) (log : Log) (walk : Walk) → IsWalk image log walk → (p : Pos) → IsPlace (told log walk) p → IsAccess log walk p ⊎ (IsAccess log walk p → ⊥)
access_or image log walk is p place = elim (place_kind log walk p place) [
  | inl within ↦ (elim (is_true_or (is_access (instr_of_step walk p) (noted (told log walk) p))) [
    | inl yes_it ↦ inl (counted_place image log walk is p within, yes_it)
    | inr no_it ↦ inr (λ (a : IsAccess log walk p). no_it a.1)
  ])
  | inr fault ↦ inr (λ (a : IsAccess log walk p). absurd (omega (arith, fault.at, noted_within image log walk is p a.0)))
]

fits_anyway : (image : Layout) (given : Given) (p : Pos) (visit : Visit) → IsQuiet image visit → FitsAnyway image given p visit
fits_anyway image given p visit quiet memory reservation = record {
  bytes = λ (i : ℕ) (less : i < read_count image visit). absurd (omega (arith, less, quiet.reads));
  won = λ (address link : ℕ) (e : conditional_by (conditional_in image visit.seen) visit.outcome ≡ Some address) (linked : visit.seen.link ≡ Some link).
      absurd (none-some address (sym quiet.conditional ∙ e));
}

pub quiet_law : QuietLaw
quiet_law image log walk given v p is guided place = elim (access_or image log walk is p place) [
  | inl access ↦ inl access
  | inr none ↦ (let quiet : IsQuiet image (at v p) = quiet_place image log walk given v p is guided place none in
      inr (quiet, λ (other : Given). fits_anyway image other p (at v p) quiet))
]
