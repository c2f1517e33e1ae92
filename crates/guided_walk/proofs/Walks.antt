-- What the walk of a log has at each step: an address, an instruction, and a note that leads to the next address.
use Rattle.std.specs.Prelude.{◌≡◌, ℕ, zero, suc, ◌<◌, Bool, true, false, List, [], ◌∷◌, length, Option, Some, None, Ok, refl}
use Rattle.std.proofs.Common.{sym, ◌∙◌, ap, arith, get_or}
use Rattle.std.proofs.lemmas.Option.{none-some, same_Some}
use Rattle.elf_image.specs.Layout.{Layout}
use Rattle.rv32_decode.specs.declared.instr.Instr.{Instr}
use Rattle.odr_log.specs.declared.log.Call.{Call}
use Rattle.odr_log.specs.declared.log.Cause.{Cause}
use Rattle.odr_log.specs.declared.log.PathItem.{PathItem}
use Rattle.odr_log.specs.declared.log.PathItem.TheVariants as item
use Rattle.rv_model.specs.declared.state.Note.{Note}
use Rattle.rv_model.specs.declared.state.Note.TheVariants as note
use Rattle.rv_model.specs.declared.walk.Place.{Place}
use Rattle.rv_model.specs.declared.walk.Transfer.{Transfer}
use Rattle.rv_model.specs.declared.walk.Transfer.TheVariants as transfer
use Rattle.rv_model.specs.Run.{item_of}
use Rattle.rv_model.specs.Step.{instr_at}
use Rattle.rv_model.specs.Walk.{transfer_of, goes_to, Leads}

-- the address of each step, and the one after all
abbrev pub pc_from : List Place → ℕ → ℕ → ℕ
pc_from [] after k = after
pc_from (place ∷ places) after zero = place.pc
pc_from (place ∷ places) after (suc k) = pc_from places after k

pub leads_start : (image : Layout) (pc : ℕ) (places : List Place) (notes : List Note) (after : ℕ) → Leads image pc places notes after → pc_from places after 0 ≡ pc
leads_start image pc [] [] after leads = sym leads
leads_start image pc (place ∷ places) (shown ∷ notes) after leads = leads.0
leads_start image pc [] (shown ∷ notes) after leads = absurd leads
leads_start image pc (place ∷ places) [] after leads = absurd leads

pub leads_length : (image : Layout) (pc : ℕ) (places : List Place) (notes : List Note) (after : ℕ) → Leads image pc places notes after → length places ≡ length notes
leads_length image pc [] [] after leads = refl
leads_length image pc (place ∷ places) (shown ∷ notes) after leads = ap suc (leads_length image leads.2.0 places notes after leads.2.2)
leads_length image pc [] (shown ∷ notes) after leads = absurd leads
leads_length image pc (place ∷ places) [] after leads = absurd leads

-- an instruction at an address that leads to the next by its note
pub record AtStep (image : Layout) (pc next : ℕ) (shown : Note) : Type 0 where
  pub instruction : Instr
  pub fetched : instr_at image pc ≡ Ok instruction
  pub goes : goes_to pc (transfer_of pc instruction) shown ≡ Some next

pub leads_step : (image : Layout) (pc : ℕ) (places : List Place) (notes : List Note) (after k : ℕ) → Leads image pc places notes after → k < length notes
    → AtStep image (pc_from places after k) (pc_from places after (suc k)) (get_or notes k note.Nothing)
leads_step image pc [] [] after k leads less = absurd (omega arith)
leads_step image pc [] (shown ∷ notes) after k leads less = absurd leads
leads_step image pc (place ∷ places) [] after k leads less = absurd leads
leads_step image pc (place ∷ places) (shown ∷ notes) after zero leads less =
    let start : pc_from places after 0 ≡ leads.2.0 = leads_start image leads.2.0 places notes after leads.2.2 in
    record {
      instruction = place.instr;
      fetched = ap (instr_at image) leads.0 ∙ leads.1;
      goes = ap (λ (a : ℕ). goes_to a (transfer_of a place.instr) shown) leads.0 ∙ leads.2.1 ∙ ap (λ (n : ℕ). Some n) (sym start);
    }
leads_step image pc (place ∷ places) (shown ∷ notes) after (suc k) leads less = leads_step image leads.2.0 places notes after k leads.2.2 (omega arith)

-- ---- the shape of a note

abbrev pub Shape : Transfer → Note → Type 0
Shape transfer.Next n = n ≡ note.Nothing
Shape (transfer.Direct target) n = n ≡ note.Nothing
Shape transfer.Indirect n = (to : ℕ) × (n ≡ note.Jump to)
Shape (transfer.Branch target) n = (taken : Bool) × (n ≡ note.Branch taken)
Shape transfer.Call n = (made : Call) × (n ≡ note.Called made)
Shape transfer.Breakpoint n = ⊥

pub shape : (pc : ℕ) (t : Transfer) (n : Note) (next : ℕ) → goes_to pc t n ≡ Some next → Shape t n
shape pc transfer.Next note.Nothing next e = refl
shape pc transfer.Next (note.Branch true) next e = absurd (none-some next e)
shape pc transfer.Next (note.Branch false) next e = absurd (none-some next e)
shape pc transfer.Next (note.Jump to) next e = absurd (none-some next e)
shape pc transfer.Next (note.Called made) next e = absurd (none-some next e)
shape pc transfer.Next (note.Faulted fault) next e = absurd (none-some next e)
shape pc (transfer.Direct target) note.Nothing next e = refl
shape pc (transfer.Direct target) (note.Branch true) next e = absurd (none-some next e)
shape pc (transfer.Direct target) (note.Branch false) next e = absurd (none-some next e)
shape pc (transfer.Direct target) (note.Jump to) next e = absurd (none-some next e)
shape pc (transfer.Direct target) (note.Called made) next e = absurd (none-some next e)
shape pc (transfer.Direct target) (note.Faulted fault) next e = absurd (none-some next e)
shape pc transfer.Indirect note.Nothing next e = absurd (none-some next e)
shape pc transfer.Indirect (note.Branch true) next e = absurd (none-some next e)
shape pc transfer.Indirect (note.Branch false) next e = absurd (none-some next e)
shape pc transfer.Indirect (note.Jump to) next e = (to, refl)
shape pc transfer.Indirect (note.Called made) next e = absurd (none-some next e)
shape pc transfer.Indirect (note.Faulted fault) next e = absurd (none-some next e)
shape pc (transfer.Branch target) note.Nothing next e = absurd (none-some next e)
shape pc (transfer.Branch target) (note.Branch true) next e = (true, refl)
shape pc (transfer.Branch target) (note.Branch false) next e = (false, refl)
shape pc (transfer.Branch target) (note.Jump to) next e = absurd (none-some next e)
shape pc (transfer.Branch target) (note.Called made) next e = absurd (none-some next e)
shape pc (transfer.Branch target) (note.Faulted fault) next e = absurd (none-some next e)
shape pc transfer.Call note.Nothing next e = absurd (none-some next e)
shape pc transfer.Call (note.Branch true) next e = absurd (none-some next e)
shape pc transfer.Call (note.Branch false) next e = absurd (none-some next e)
shape pc transfer.Call (note.Jump to) next e = absurd (none-some next e)
shape pc transfer.Call (note.Called made) next e = (made, refl)
shape pc transfer.Call (note.Faulted fault) next e = absurd (none-some next e)
shape pc transfer.Breakpoint note.Nothing next e = absurd (none-some next e)
shape pc transfer.Breakpoint (note.Branch true) next e = absurd (none-some next e)
shape pc transfer.Breakpoint (note.Branch false) next e = absurd (none-some next e)
shape pc transfer.Breakpoint (note.Jump to) next e = absurd (none-some next e)
shape pc transfer.Breakpoint (note.Called made) next e = absurd (none-some next e)
shape pc transfer.Breakpoint (note.Faulted fault) next e = absurd (none-some next e)

-- a fault leads nowhere
pub fault_shape : (t : Transfer) (fault : Cause) → Shape t (note.Faulted fault) → ⊥
fault_shape transfer.Next fault e = absurd (let h : note.Faulted fault ≡ note.Nothing = e in cc)
fault_shape (transfer.Direct target) fault e = absurd (let h : note.Faulted fault ≡ note.Nothing = e in cc)
fault_shape transfer.Indirect fault e = absurd (let h : note.Faulted fault ≡ note.Jump e.0 = e.1 in cc)
fault_shape (transfer.Branch target) fault e = absurd (let h : note.Faulted fault ≡ note.Branch e.0 = e.1 in cc)
fault_shape transfer.Call fault e = absurd (let h : note.Faulted fault ≡ note.Called e.0 = e.1 in cc)
fault_shape transfer.Breakpoint fault e = e

-- the call of a note
abbrev pub called : Note → Option Call
called (note.Called made) = Some made
called note.Nothing = None
called (note.Branch taken) = None
called (note.Jump target) = None
called (note.Faulted fault) = None

pub called_is : (n : Note) (made : Call) → called n ≡ Some made → n ≡ note.Called made
called_is (note.Called c) made e = ap (λ (d : Call). note.Called d) (same_Some c made e)
called_is note.Nothing made e = absurd (none-some made e)
called_is (note.Branch taken) made e = absurd (none-some made e)
called_is (note.Jump target) made e = absurd (none-some made e)
called_is (note.Faulted fault) made e = absurd (none-some made e)

same_jump : (a b : ℕ) → Some (item.Jump a) ≡ Some (item.Jump b) → a ≡ b
same_jump a b e = cc

same_branch : (a b : Bool) → Some (item.Branch a) ≡ Some (item.Branch b) → a ≡ b
same_branch a b e = cc

-- two notes of one shape, whose path items and calls are the same where both have one
pub one_note : (t : Transfer) (m n : Note) → Shape t m → Shape t n → ((x y : PathItem) → item_of m ≡ Some x → item_of n ≡ Some y → x ≡ y)
    → ((c d : Call) → called m ≡ Some c → called n ≡ Some d → c ≡ d) → m ≡ n
one_note transfer.Next m n p q items calls = p ∙ sym q
one_note (transfer.Direct target) m n p q items calls = p ∙ sym q
one_note transfer.Indirect m n p q items calls =
    p.1 ∙ ap (λ (to : ℕ). note.Jump to) (same_jump p.0 q.0 (ap (λ (x : PathItem). Some x) (items (item.Jump p.0) (item.Jump q.0) (ap item_of p.1) (ap item_of q.1)))) ∙ sym q.1
one_note (transfer.Branch target) m n p q items calls =
    p.1 ∙ ap (λ (b : Bool). note.Branch b) (same_branch p.0 q.0 (ap (λ (x : PathItem). Some x) (items (item.Branch p.0) (item.Branch q.0) (ap item_of p.1) (ap item_of q.1)))) ∙ sym q.1
one_note transfer.Call m n p q items calls = p.1 ∙ ap (λ (c : Call). note.Called c) (calls p.0 q.0 (ap called p.1) (ap called q.1)) ∙ sym q.1
one_note transfer.Breakpoint m n p q items calls = absurd p
