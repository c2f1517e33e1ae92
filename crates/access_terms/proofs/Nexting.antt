-- A step of any instruction but a call.
use Rattle.std.proofs.Common.{◌≡◌, ℕ, Bool, true, sym, ◌∙◌, ap, subst, refl, List}
use Rattle.std.specs.Prelude.{ℤ, IfOk, Option, Result, is_some}
use Rattle.std.proofs.lemmas.Result.{IfOk-weaker}
use Rattle.odr_list.specs.declared.memory.Memory.{Memory}
use Rattle.elf_image.specs.Layout.{Layout}
use Rattle.rv32_decode.specs.declared.instr.AmoOp.{AmoOp}
use Rattle.rv32_decode.specs.declared.instr.LoadOp.{LoadOp}
use Rattle.rv32_decode.specs.declared.instr.StoreOp.{StoreOp}
use Rattle.rv32_decode.specs.declared.instr.Instr.{Instr}
use Rattle.rv32_decode.specs.declared.instr.Instr.TheVariants as instr
use Rattle.odr_log.specs.declared.log.Pos.{Pos}
use Rattle.rv_model.specs.declared.state.Note.{Note}
use Rattle.rv_model.specs.declared.state.Note.TheVariants as note
use Rattle.rv_model.specs.declared.walk.Transfer.{Transfer}
use Rattle.rv_model.specs.declared.walk.Transfer.TheVariants as transfer
use Rattle.rv_model.specs.Walk.{goes_to, transfer_of}
use Rattle.bv_terms.specs.declared.node.TermId.{TermId}
use Rattle.bv_terms.specs.Shapes.{Shape}
use Rattle.thread_terms.specs.declared.access.Stepped.{Stepped}
use Rattle.thread_terms.specs.Steps.{IsPlainStep, IsStep}
use Rattle.access_terms.proofs.Silent.{next_only}

-- the instructions that access memory go on at the next word
pub load_next : (pc : ℕ) (op : LoadOp) (rd rs1 : ℕ) (offset : ℤ) → transfer_of pc (instr.Load op rd rs1 offset) ≡ transfer.Next
unfolding transfer_of
load_next pc op rd rs1 offset = refl

pub store_next : (pc : ℕ) (op : StoreOp) (rs1 rs2 : ℕ) (offset : ℤ) → transfer_of pc (instr.Store op rs1 rs2 offset) ≡ transfer.Next
unfolding transfer_of
store_next pc op rs1 rs2 offset = refl

pub reserve_next : (pc rd rs1 : ℕ) (aq rl : Bool) → transfer_of pc (instr.LoadReserved rd rs1 aq rl) ≡ transfer.Next
unfolding transfer_of
reserve_next pc rd rs1 aq rl = refl

pub conditional_next : (pc rd rs1 rs2 : ℕ) (aq rl : Bool) → transfer_of pc (instr.StoreConditional rd rs1 rs2 aq rl) ≡ transfer.Next
unfolding transfer_of
conditional_next pc rd rs1 rs2 aq rl = refl

pub amo_next : (pc : ℕ) (op : AmoOp) (rd rs1 rs2 : ℕ) (aq rl : Bool) → transfer_of pc (instr.Amo op rd rs1 rs2 aq rl) ≡ transfer.Next
unfolding transfer_of
amo_next pc op rd rs1 rs2 aq rl = refl

-- and show nothing
shows_nothing : (pc : ℕ) (one instruction : Instr) (shown : Note) → one ≡ instruction → transfer_of pc instruction ≡ transfer.Next → is_some (goes_to pc (transfer_of pc one) shown) ≡ true → note.Nothing ≡ shown
shows_nothing pc one instruction shown is goes leads = next_only pc shown (subst (λ (t : Transfer). is_some (goes_to pc t shown) ≡ true) (ap (λ (i : Instr). transfer_of pc i) is ∙ goes) leads)

pub next_of : (image : Layout) (p : Pos) (pc : ℕ) (one instruction : Instr) (shown : Note) (link : Option ℕ) (old new : List Shape) (before after : List TermId) (result : Result Stepped Memory)
    → one ≡ instruction → transfer_of pc instruction ≡ transfer.Next → is_some (goes_to pc (transfer_of pc one) shown) ≡ true
    → IfOk result (λ stepped. IsStep image p pc instruction note.Nothing link old new before after stepped) → IfOk result (λ stepped. IsStep image p pc one shown link old new before after stepped)
next_of image p pc one instruction shown link old new before after result is goes leads step =
    IfOk-weaker result _ _
    (λ stepped h. subst (λ (n : Note). IsStep image p pc one n link old new before after stepped) (shows_nothing pc one instruction shown is goes leads)
    (subst (λ (i : Instr). IsStep image p pc i note.Nothing link old new before after stepped) (sym is) h)) step

pub next_plain : (image : Layout) (p : Pos) (pc : ℕ) (one instruction : Instr) (shown : Note) (link : Option ℕ) (old new : List Shape) (before after : List TermId) (result : Result Stepped Memory)
    → one ≡ instruction → transfer_of pc instruction ≡ transfer.Next → is_some (goes_to pc (transfer_of pc one) shown) ≡ true
    → IfOk result (λ stepped. IsPlainStep image p instruction old new before after stepped) → IfOk result (λ stepped. IsStep image p pc one shown link old new before after stepped)
next_plain image p pc one instruction shown link old new before after result is goes leads step =
    next_of image p pc one instruction shown link old new before after result is goes leads (IfOk-weaker result _ _ (λ stepped h. h pc link) step)

-- of an instruction that asks a link
pub next_linked : (image : Layout) (p : Pos) (pc : ℕ) (one instruction : Instr) (shown : Note) (link : Option ℕ) (old new : List Shape) (before after : List TermId) (result : Result Stepped Memory)
    → one ≡ instruction → transfer_of pc instruction ≡ transfer.Next → is_some (goes_to pc (transfer_of pc one) shown) ≡ true
    → IfOk result (λ stepped. (any : ℕ) → IsStep image p any instruction note.Nothing link old new before after stepped) → IfOk result (λ stepped. IsStep image p pc one shown link old new before after stepped)
next_linked image p pc one instruction shown link old new before after result is goes leads step =
    next_of image p pc one instruction shown link old new before after result is goes leads (IfOk-weaker result _ _ (λ stepped h. h pc) step)
