-- What a call moves, as an access.
use Rattle.std.specs.Prelude.{◌≡◌, ℕ, Bool, true, false, List, Option, Some, None, All, IfSome, is_some, slice_get}
use Rattle.odr_log.specs.declared.log.Call.{Call}
use Rattle.odr_log.specs.declared.log.Call.TheVariants as call
use Rattle.odr_log.specs.declared.log.Pos.{Pos}
use Rattle.rv_model.specs.declared.state.Note.TheVariants.{Called}
use Rattle.rv_model.specs.Accesses.{moves_bytes}
use Rattle.bv_terms.specs.declared.node.TermId.{TermId}
use Rattle.bv_terms.specs.BitVectors.{bit_of}
use Rattle.bv_terms.specs.Shapes.{Shape, Const}
use Rattle.bv_terms.specs.Values.{Assignment, value_at}
use Rattle.bv_terms.specs.Variables.{Occurs}
use Rattle.step_terms.specs.Bytes.{AreBytes, values}
use Rattle.step_terms.specs.Made.{IsTerm}
use Rattle.thread_terms.specs.declared.access.Access.{Access}
use Rattle.call_terms.specs.Records.{written_in}

-- terms of these bytes, which have no variable
pub record AreConstants (nodes : List Shape) (bytes : List ℕ) (ids : List TermId) : Type 0 where
  pub bytes_are : AreBytes nodes ids
  pub values_are : (w : Assignment) → values w nodes ids ≡ bytes
  pub closed : All (λ (id : TermId). (width number : ℕ) → Occurs nodes width number id.number → ⊥) ids

-- a read call writes its buffer
abbrev pub writes_buffer : Call → Bool
writes_buffer (call.Read want bytes) = true
writes_buffer other = false

-- the access of a call that moved bytes: where its buffer begins, what it read, and what it wrote
pub record IsOfCall (nodes : List Shape) (p : Pos) (address : ℕ) (reads : List TermId) (made : Call) (access : Access) : Type 0 where
  pub pos : access.pos ≡ p
  pub link : access.link ≡ None
  pub at : access.address.number ≡ address
  pub guard : slice_get nodes access.guard.number ≡ Some (Const 1 (bit_of (writes_buffer made)))
  pub guard_bit : IsTerm nodes 1 access.guard.number
  pub guard_value : (w : Assignment) → value_at w nodes access.guard.number ≡ bit_of (writes_buffer made)
  pub reads_are : access.reads ≡ reads
  pub writes : AreConstants nodes (written_in made) access.writes

-- one exactly where the call moved bytes
pub record IsMoved (nodes : List Shape) (p : Pos) (address : ℕ) (reads : List TermId) (made : Call) (access : Option Access) : Type 0 where
  pub some : is_some access ≡ moves_bytes (Called made)
  pub is : IfSome access (IsOfCall nodes p address reads made)
