-- Terms that stand for the registers of a thread.
use Rattle.std.specs.Prelude.{◌≡◌, ◌↔◌, ◌⊎◌, ℕ, ◌<◌, List, length, slice_index_or}
use Rattle.bv_terms.specs.declared.node.TermId.{TermId}
use Rattle.bv_terms.specs.Shapes.{Shape}
use Rattle.bv_terms.specs.Values.{Assignment, value_at}
use Rattle.bv_terms.specs.Variables.{Occurs}
use Rattle.rv_model.specs.declared.state.Local.{Local}
use Rattle.rv_model.specs.Thread.{register, with_register, first_local, spawned_local}
use Rattle.step_terms.specs.Made.{IsTerm}

-- the term of a register
abbrev pub term_of : List TermId → ℕ → ℕ
term_of registers number = (slice_index_or registers number (record { number = 0 })).number

-- 32 words
pub record AreRegisters (nodes : List Shape) (registers : List TermId) : Type 0 where
  pub all : length registers ≡ 32
  pub words : (number : ℕ) → number < 32 → IsTerm nodes 32 (term_of registers number)

-- Under this assignment each register's term has the value of the register, of which there are 32.
pub record StandFor (w : Assignment) (nodes : List Shape) (registers : List TermId) (local : Local) : Type 0 where
  pub all : length local.registers ≡ 32
  pub values : (number : ℕ) → number < 32 → value_at w nodes (term_of registers number) ≡ register local number

-- the variable occurs in a register's term
pub record OccursInRegisters (nodes : List Shape) (registers : List TermId) (width variable : ℕ) : Type 0 where
  pub number : ℕ
  pub below : number < 32
  pub occurs : Occurs nodes width variable (term_of registers number)

-- An instruction that writes this value to a register: the terms after it stand for the registers after the write, and have no
-- variable that those before it hadn't.
pub record Writes (old new : List Shape) (before after : List TermId) (rd : ℕ) (written : Local → ℕ) : Type 0 where
  pub stands : (w : Assignment) (local : Local) → StandFor w old before local → StandFor w new after (with_register local rd (written local))
  pub variables : (width variable : ℕ) → OccursInRegisters new after width variable → OccursInRegisters old before width variable

-- A register is written with a term of the pool, as what a load read or what a join hands on.
pub record Puts (nodes : List Shape) (before after : List TermId) (rd id : ℕ) : Type 0 where
  pub stands : (w : Assignment) (local : Local) → StandFor w nodes before local → StandFor w nodes after (with_register local rd (value_at w nodes id))
  pub variables : (width variable : ℕ) → OccursInRegisters nodes after width variable
      → OccursInRegisters nodes before width variable ⊎ Occurs nodes width variable id

-- A constraint on the registers before a step: a term of one bit, which is 1 exactly where a property holds of the thread, and
-- has no variable but those of the registers.
pub record Says (old new : List Shape) (registers : List TermId) (id : ℕ) (P : Local → Type 0) : Type 0 where
  pub bit : IsTerm new 1 id
  pub holds : (w : Assignment) (local : Local) → StandFor w old registers local → (value_at w new id ≡ 1) ↔ P local
  pub variables : (width variable : ℕ) → Occurs new width variable id → OccursInRegisters old registers width variable

-- the terms stand for thread 0 before its first step, and have no variable
pub record BeginsAs (nodes : List Shape) (registers : List TermId) : Type 0 where
  pub words : AreRegisters nodes registers
  pub stands : (w : Assignment) (entry : ℕ) → StandFor w nodes registers (first_local entry)
  pub variables : (width variable : ℕ) → OccursInRegisters nodes registers width variable → ⊥

-- the terms stand for a spawned thread before its first step, and have no variable but those of its spawner's gp and of its
-- argument
pub record SpawnedAs (old new : List Shape) (thread gp argument : ℕ) (registers : List TermId) : Type 0 where
  pub words : AreRegisters new registers
  pub stands : (w : Assignment) (entry : ℕ) → StandFor w new registers (spawned_local thread entry (value_at w old gp) (value_at w old argument))
  pub variables : (width variable : ℕ) → OccursInRegisters new registers width variable → Occurs old width variable gp ⊎ Occurs old width variable argument
