-- What the note of a step tells of what the instruction heard, and where it leads.
use Rattle.std.specs.Prelude.{◌≡◌, ℕ, true, List, [], Option, Some, None, Result, Ok}
use Rattle.elf_image.specs.declared.write.Write.{Write}
use Rattle.rv32_decode.specs.declared.instr.Instr.{Instr}
use Rattle.odr_log.specs.declared.log.Cause.{Cause}
use Rattle.rv_model.specs.declared.state.Note.{Note}
use Rattle.rv_model.specs.declared.state.Note.TheVariants as note
use Rattle.rv_model.specs.declared.hearing.Reach.{Reach}
use Rattle.rv_model.specs.declared.hearing.Kind.{Kind}
use Rattle.rv_model.specs.declared.hearing.Asked.{Asked}
use Rattle.rv_model.specs.declared.hearing.Reply.{Reply}
use Rattle.rv_model.specs.declared.hearing.Heard.{Heard}
use Rattle.rv_model.specs.declared.hearing.Outcome.{Outcome}
use Rattle.rv_model.specs.declared.hearing.Outcome.TheVariants.{Faults, Goes}
use Rattle.rv_model.specs.Calls.{no_reply, asked_of, asked_in, record_of}
use Rattle.rv_model.specs.CallsFit.{reply_in}
use Rattle.rv_model.specs.Walk.{transfer_of, goes_to, may_fault}

-- the note and the writes of what an instruction did
abbrev pub note_in : Outcome → Note
note_in (Faults fault) = note.Faulted fault
note_in (Goes local writes shown) = shown

abbrev pub writes_in : Outcome → List Write
writes_in (Faults fault) = []
writes_in (Goes local writes shown) = writes

-- what the noted step asked of the shared state, and what it was replied
abbrev pub asked_noted : Note → Option Asked
asked_noted (note.Called made) = asked_in made
asked_noted note.Nothing = None
asked_noted (note.Branch taken) = None
asked_noted (note.Jump target) = None
asked_noted (note.Faulted fault) = None

abbrev pub reply_noted : Note → Reply
reply_noted (note.Called made) = reply_in made
reply_noted note.Nothing = no_reply
reply_noted (note.Branch taken) = no_reply
reply_noted (note.Jump target) = no_reply
reply_noted (note.Faulted fault) = no_reply

-- A noted call is the record of a call that asked this and was replied so; every other step asked nothing.
abbrev pub CallsBy : Option Asked → Reply → Note → Type 0
CallsBy asked reply (note.Called made) = (kind : Kind) × (made ≡ record_of kind reply) × (asked ≡ asked_of kind)
CallsBy asked reply note.Nothing = asked ≡ None
CallsBy asked reply (note.Branch taken) = asked ≡ None
CallsBy asked reply (note.Jump target) = asked ≡ None
CallsBy asked reply (note.Faulted fault) = asked ≡ None

-- A step from an address goes on where its note leads from what is there, and a fault is one that may be there.
abbrev pub LeadsOn : ℕ → Result Instr Cause → Outcome → Type 0
LeadsOn pc fetched (Faults fault) = may_fault fault pc fetched ≡ true
LeadsOn pc fetched (Goes local writes shown) = (instruction : Instr) × (fetched ≡ Ok instruction) × (goes_to pc (transfer_of pc instruction) shown ≡ Some local.pc)

-- the same heard but for the bytes that the access meets
abbrev pub over_bytes : Reach → Option (List ℕ) → Reach
over_bytes reach bytes = record { bytes = bytes; writable = reach.writable }

abbrev pub hears_bytes : Heard → Option (List ℕ) → Heard
hears_bytes heard bytes = record { thread = heard.thread; reach = over_bytes heard.reach bytes; won = heard.won; reply = heard.reply; joined = heard.joined }
