-- What is read, without where it lies in memory, and what every reading has.
use Rattle.std.specs.Prelude.{◌≡◌, ℕ, ◌<◌, ℤ, pos, neg_ℤ, ◌≤ℤ◌, ◌<ℤ◌, int_rem, ◌≤◌, length, List, [], ◌∷◌, map, All, Result, Ok, Err, Vec, ◌^◌, option_map, IfSome}
use Rattle.std.specs.declared.alloc.Global.{Global}
use Rattle.rv32_decode.specs.Valid.{IsValid}
use Rattle.rv32_asm.specs.declared.code.Code.{Code as Read}
use Rattle.rv32_asm.specs.declared.code.Code.TheVariants as read
use Rattle.rv32_asm.specs.declared.code.Target.{Target as ReadTarget}
use Rattle.rv32_asm.specs.declared.code.Target.TheVariants as read_target
use Rattle.rv32_asm.specs.declared.statement.Statement.{Statement as ReadStatement}
use Rattle.rv32_asm.specs.declared.statement.Statement.TheVariants as read_statement
use Rattle.rv32_asm.specs.declared.line.Line.{Line as ReadLine}
use Rattle.rv32_asm.specs.Statement.{Statement, Empty, Choose, Bytes, Instruction}
use Rattle.rv32_asm.specs.Line.{Line}
use Rattle.rv32_asm.specs.declared.draft.Label.{Label as ReadLabel}
use Rattle.rv32_asm.specs.declared.draft.Entry.{Entry as ReadEntry}
use Rattle.rv32_asm.specs.declared.draft.Draft.{Draft as ReadDraft}
use Rattle.rv32_asm.specs.declared.resolve.Resolved.{Resolved}
use Rattle.rv32_asm.specs.declared.resolve.Resolved.TheVariants as resolved
use Rattle.rv32_decode.specs.declared.instr.Instr.{Instr}
use Rattle.rv32_asm.specs.Draft.{Label, Entry, Draft}
use Rattle.rv32_asm.specs.Operands.{Code, Whole, JumpTo, BranchTo, AddressOf, Target, Offset, Name}

abbrev pub code_of : Read → Code
code_of (read.Whole i) = Whole i
code_of (read.JumpTo rd name) = JumpTo rd name.now
code_of (read.BranchTo op rs1 rs2 name) = BranchTo op rs1 rs2 name.now
code_of (read.AddressOf rd name) = AddressOf rd name.now

abbrev pub target_of : ReadTarget → Target
target_of (read_target.Offset offset) = Offset offset
target_of (read_target.Name name) = Name name.now

-- the instruction has a word, whatever its name turns out to be
abbrev pub IsSound : Code → Type 0
IsSound (Whole i) = IsValid i
IsSound (JumpTo rd name) = rd < 32
IsSound (BranchTo op rs1 rs2 name) = (rs1 < 32) × (rs2 < 32)
IsSound (AddressOf rd name) = rd < 32

abbrev pub Reaches : ℕ → ℤ → Type 0
Reaches reach z = (neg_ℤ (pos reach) ≤ℤ z) × (z <ℤ pos reach) × (int_rem z (pos 2) ≡ pos 0)

abbrev pub IsWithin : ℕ → Target → Type 0
IsWithin reach (Offset z) = Reaches reach z
IsWithin reach (Name name) = Unit {0}

abbrev pub statement_seen : ReadStatement → Statement
statement_seen read_statement.Empty = Empty
statement_seen (read_statement.Choose part) = Choose part
statement_seen (read_statement.Bytes bytes) = Bytes bytes.items
statement_seen (read_statement.Instruction code) = Instruction (code_of code)

abbrev pub IsSoundStatement : Statement → Type 0
IsSoundStatement (Instruction code) = IsSound code
IsSoundStatement _ = Unit {0}

abbrev pub line_seen : ReadLine → Line
line_seen line = record { label = option_map (λ name. name.now) line.label; statement = option_map statement_seen line.statement }

abbrev pub IsSoundLine : Line → Type 0
IsSoundLine line = IfSome line.statement IsSoundStatement

abbrev pub label_seen : ReadLabel → Label
label_seen label = record { name = label.name.now; address = label.address }

abbrev pub entry_seen : ReadEntry → Entry
entry_seen entry = record { line = entry.line; address = entry.address; code = option_map code_of entry.code }

abbrev pub draft_seen : ReadDraft → Draft
draft_seen draft = record {
  lines = draft.lines;
  part = draft.part;
  labels = map label_seen draft.labels.items;
  entries = map entry_seen draft.entries.items;
  text_len = draft.text_len;
  stored = record { len = draft.stored_len; bytes = draft.stored.items };
}

-- addresses are numbers that the machine's signed words hold
abbrev pub IsSoundLabel : ReadLabel → Type 0
IsSoundLabel label = label.address < 2 ^ 63

abbrev pub IsSoundEntry : ReadEntry → Type 0
IsSoundEntry entry = (entry.address < 2 ^ 63) × IfSome entry.code (λ code. IsSound (code_of code))

pub record IsSoundDraft (draft : ReadDraft) : Type 0 where
  pub labels : All IsSoundLabel draft.labels.items
  pub entries : All IsSoundEntry draft.entries.items
  pub text_fits : draft.text_len < 2 ^ 62
  pub stored_fits : draft.stored_len < 2 ^ 62
  pub kept : length draft.stored.items ≤ draft.stored_len

abbrev pub instrs_of : Resolved → List Instr
instrs_of (resolved.One i) = i ∷ []
instrs_of (resolved.Two i j) = i ∷ j ∷ []

abbrev pub AreValid : Resolved → Type 0
AreValid (resolved.One i) = IsValid i
AreValid (resolved.Two i j) = IsValid i × IsValid j

-- the bytes of a vector that was returned
abbrev pub items_of : {E : Type 0} → Result (Vec ℕ Global) E → Result (List ℕ) E
items_of (Ok v) = Ok v.items
items_of (Err e) = Err e
