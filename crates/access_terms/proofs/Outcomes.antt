-- What the instructions that access memory do, by the rights of their access.
use Rattle.std.proofs.Common.{◌≡◌, ℕ, Bool, true, false, ◌&&◌, cond, List, [], map, refl}
use Rattle.std.specs.Prelude.{ℤ, Option, Some, None, is_some, unwrap_or}
use Rattle.std.specs.List.{range_with_len}
use Rattle.elf_image.specs.Layout.{Layout}
use Rattle.elf_image.specs.Memory.{all_readable, all_writable, bytes_of, number_of, opening_cells, writes_of}
use Rattle.rv32_decode.specs.declared.instr.AmoOp.{AmoOp}
use Rattle.rv32_decode.specs.declared.instr.LoadOp.{LoadOp}
use Rattle.rv32_decode.specs.declared.instr.StoreOp.{StoreOp}
use Rattle.rv32_decode.specs.declared.instr.Instr.TheVariants as instr
use Rattle.odr_log.specs.declared.log.Cause.TheVariants as cause
use Rattle.odr_log.specs.declared.log.Pos.{Pos}
use Rattle.rv_model.specs.declared.state.Local.{Local}
use Rattle.rv_model.specs.declared.state.Note.{Note}
use Rattle.rv_model.specs.declared.state.Note.TheVariants as note
use Rattle.rv_model.specs.declared.hearing.Outcome.TheVariants.{Faults, Goes}
use Rattle.rv_model.specs.Instruction.{access_of, act, conditional_of, is_aligned, loads}
use Rattle.rv_model.specs.Thread.{onward, register, with_register}
use Rattle.rv_model.specs.Values.{amo_of, extended, load_size, plus_offset, store_size}
use Rattle.bv_terms.specs.Values.{Assignment}
use Rattle.guided_walk.specs.Guided.{Seen, linked}
use Rattle.thread_terms.specs.Given.{given_by, outcome_by}
use Rattle.access_terms.specs.Rights.{may_use}

-- the bytes that are given to an access
abbrev pub given_bytes : Assignment → Pos → ℕ → List ℕ
given_bytes w p count = map ((given_by w).bytes p.thread p.step) (range_with_len 0 count)

abbrev bytes_if : Bool → List ℕ → Option (List ℕ)
bytes_if test bytes = cond test (Some bytes) None

by_reading : (local : Local) (rd : ℕ) (extend : ℕ → ℕ) (bytes : List ℕ) (test : Bool)
    → loads local rd extend (cond test (Some bytes) None) ≡ cond test (Goes (onward (with_register local rd (extend (number_of bytes)))) [] note.Nothing) (Faults cause.LoadFault)
by_reading local rd extend bytes true = refl
by_reading local rd extend bytes false = refl

pub load_outcome : (image : Layout) (w : Assignment) (p : Pos) (op : LoadOp) (rd rs1 : ℕ) (offset : ℤ) (shown : Note) (joined : ℕ) (seen : Seen)
    → outcome_by image w p (instr.Load op rd rs1 offset) shown joined seen
    ≡ cond (all_readable (opening_cells image) (plus_offset (register seen.local rs1) offset) (load_size op))
    (Goes (onward (with_register seen.local rd (extended op (number_of (given_bytes w p (load_size op)))))) [] note.Nothing) (Faults cause.LoadFault)
unfolding act access_of
load_outcome image w p op rd rs1 offset shown joined seen =
    by_reading seen.local rd (extended op) (given_bytes w p (load_size op)) (all_readable (opening_cells image) (plus_offset (register seen.local rs1) offset) (load_size op))

pub store_outcome : (image : Layout) (w : Assignment) (p : Pos) (op : StoreOp) (rs1 rs2 : ℕ) (offset : ℤ) (shown : Note) (joined : ℕ) (seen : Seen)
    → outcome_by image w p (instr.Store op rs1 rs2 offset) shown joined seen
    ≡ cond (all_writable (opening_cells image) (plus_offset (register seen.local rs1) offset) (store_size op))
    (Goes (onward seen.local) (writes_of (plus_offset (register seen.local rs1) offset) (bytes_of (store_size op) (register seen.local rs2)) []) note.Nothing) (Faults cause.StoreFault)
unfolding act access_of
store_outcome image w p op rs1 rs2 offset shown joined seen = refl

-- the old word is read, and bytes that it decides are written
by_word : (local : Local) (rd a : ℕ) (bytes : List ℕ) (written : ℕ → List ℕ) (aligned readable writable : Bool)
    → cond (aligned && (is_some (bytes_if readable bytes) && writable))
    (Goes (onward (with_register local rd (number_of (unwrap_or (bytes_if readable bytes) [])))) (writes_of a (written (number_of (unwrap_or (bytes_if readable bytes) []))) []) note.Nothing) (Faults cause.AmoFault)
    ≡ cond (aligned && (readable && writable)) (Goes (onward (with_register local rd (number_of bytes))) (writes_of a (written (number_of bytes)) []) note.Nothing) (Faults cause.AmoFault)
by_word local rd a bytes written aligned true writable = refl
by_word local rd a bytes written true false writable = refl
by_word local rd a bytes written false false writable = refl

pub reserve_outcome : (image : Layout) (w : Assignment) (p : Pos) (rd rs1 : ℕ) (aq rl : Bool) (shown : Note) (joined : ℕ) (seen : Seen)
    → outcome_by image w p (instr.LoadReserved rd rs1 aq rl) shown joined seen
    ≡ cond (may_use image (register seen.local rs1)) (Goes (onward (with_register seen.local rd (number_of (given_bytes w p 4)))) [] note.Nothing) (Faults cause.AmoFault)
unfolding act access_of
reserve_outcome image w p rd rs1 aq rl shown joined seen =
    let a = register seen.local rs1 in
    by_word seen.local rd a (given_bytes w p 4) (λ v. []) (is_aligned a) (all_readable (opening_cells image) a 4) (all_writable (opening_cells image) a 4)

pub amo_outcome : (image : Layout) (w : Assignment) (p : Pos) (op : AmoOp) (rd rs1 rs2 : ℕ) (aq rl : Bool) (shown : Note) (joined : ℕ) (seen : Seen)
    → outcome_by image w p (instr.Amo op rd rs1 rs2 aq rl) shown joined seen
    ≡ cond (may_use image (register seen.local rs1))
    (Goes (onward (with_register seen.local rd (number_of (given_bytes w p 4))))
    (writes_of (register seen.local rs1) (bytes_of 4 (amo_of op (number_of (given_bytes w p 4)) (register seen.local rs2))) []) note.Nothing) (Faults cause.AmoFault)
unfolding act access_of
amo_outcome image w p op rd rs1 rs2 aq rl shown joined seen =
    let a = register seen.local rs1 in
    by_word seen.local rd a (given_bytes w p 4) (λ v. bytes_of 4 (amo_of op v (register seen.local rs2))) (is_aligned a) (all_readable (opening_cells image) a 4) (all_writable (opening_cells image) a 4)

-- a store-conditional that succeeds or fails
by_winning : (local : Local) (rd a : ℕ) (bytes stored : List ℕ) (aligned readable writable won : Bool)
    → cond won (cond (aligned && (is_some (bytes_if readable bytes) && writable)) (Goes (onward (with_register local rd 0)) (writes_of a stored []) note.Nothing) (Faults cause.AmoFault))
    (cond (aligned && (is_some (bytes_if readable bytes) && writable)) (Goes (onward (with_register local rd 1)) [] note.Nothing) (Faults cause.AmoFault))
    ≡ cond (aligned && (readable && writable)) (Goes (onward (with_register local rd (cond won 0 1))) (cond won (writes_of a stored []) []) note.Nothing) (Faults cause.AmoFault)
by_winning local rd a bytes stored aligned true writable true = refl
by_winning local rd a bytes stored aligned true writable false = refl
by_winning local rd a bytes stored aligned false writable true = refl
by_winning local rd a bytes stored aligned false writable false = refl

pub conditional_outcome : (image : Layout) (w : Assignment) (p : Pos) (rd rs1 rs2 : ℕ) (aq rl : Bool) (shown : Note) (joined : ℕ) (seen : Seen)
    → outcome_by image w p (instr.StoreConditional rd rs1 rs2 aq rl) shown joined seen
    ≡ (let won : Bool = linked (Some (register seen.local rs1)) seen.link ((given_by w).won p.thread p.step) in
    cond (may_use image (register seen.local rs1))
    (Goes (onward (with_register seen.local rd (cond won 0 1))) (cond won (writes_of (register seen.local rs1) (bytes_of 4 (register seen.local rs2)) []) []) note.Nothing) (Faults cause.AmoFault))
unfolding act access_of conditional_of
conditional_outcome image w p rd rs1 rs2 aq rl shown joined seen =
    let a = register seen.local rs1 in
    by_winning seen.local rd a (given_bytes w p 4) (bytes_of 4 (register seen.local rs2)) (is_aligned a) (all_readable (opening_cells image) a 4) (all_writable (opening_cells image) a 4)
    (linked (Some a) seen.link ((given_by w).won p.thread p.step))
