-- The instructions and data of a text, or its least line at fault.
use Rattle.std.specs.Prelude.{◌≡◌, ℕ, ◌+◌, ◌*◌, ◌/◌, ◌%◌, ◌^◌, ℤ, pos, ◌-ℤ◌, ◌||◌, ◌==◌, nat_lt, List, [], ◌∷◌, ◌++◌, length, Option, Some, None, Result, Ok, Err, find, option_map, bytes_eq, if◌then◌else◌}
use Rattle.rv32_decode.specs.declared.instr.Instr.{Instr}
use Rattle.rv32_decode.specs.declared.instr.Instr.TheVariants as instr
use Rattle.rv32_decode.specs.declared.instr.ImmOp.TheVariants.{Addi}
use Rattle.rv32_asm.specs.declared.fault.AsmFault.{AsmFault}
use Rattle.rv32_asm.specs.declared.fault.AsmFault.TheVariants as fault
use Rattle.rv32_asm.specs.Operands.{Code, Whole, JumpTo, BranchTo, AddressOf, reaches, jump_reach, branch_reach}
use Rattle.rv32_asm.specs.Draft.{Label, Entry, Stored, most_bytes, Draft, draft_of}

infixl 10 ◌>>=◌
abbrev pub ◌>>=◌ : {A B : Type 0} → Result A AsmFault → (A → Result B AsmFault) → Result B AsmFault
(Ok x) >>= f = f x
(Err e) >>= f = Err e

-- What a function returned, seen by view, is what the text gives, unless memory ran out.
abbrev pub Stops : {Y : Type 0} → AsmFault → Result Y AsmFault → Type 0
Stops fault.Memory given = Unit {0}
Stops f given = given ≡ Err f

abbrev pub Gives : {X Y : Type 0} → (X → Y) → Result X AsmFault → Result Y AsmFault → Type 0
Gives view (Ok x) given = given ≡ Ok (view x)
Gives view (Err f) given = Stops f given

abbrev pub known_at : ℕ → Option ℕ → Result ℕ AsmFault
known_at line (Some address) = Ok address
known_at line None = Err (fault.UnknownName line)

-- the address of a name
unfoldable pub address_of : List Label → ℕ → List ℕ → Result ℕ AsmFault
address_of labels line name = known_at line (option_map (λ l. l.address) (find (λ l. bytes_eq l.name name) labels))

-- how far a name is from the instruction
unfoldable pub offset_to : List Label → ℕ → ℕ → ℕ → List ℕ → Result ℤ AsmFault
offset_to labels reach line here name = do
  address ← address_of labels line name
  if reaches reach (pos address -ℤ pos here) then Ok (pos address -ℤ pos here) else Err (fault.BadLine line)

-- the upper 20 bits of an address, rounded so that the rest has twelve bits with a sign
abbrev pub upper_of : ℕ → ℕ
upper_of address = (address + 2048) / 4096 % 2 ^ 20 * 4096

abbrev pub rest_of : ℕ → ℤ
rest_of address = pos ((address + 2048) % 4096) -ℤ pos 2048

-- `la rd, name`
abbrev pub address_code : ℕ → ℕ → List Instr
address_code rd address = instr.Lui rd (upper_of address) ∷ instr.Imm Addi rd rd (rest_of address) ∷ []

-- the instructions that code on a line becomes
unfoldable pub resolved : List Label → ℕ → ℕ → Code → Result (List Instr) AsmFault
resolved labels line here (Whole i) = Ok (i ∷ [])
resolved labels line here (JumpTo rd name) = do
  offset ← offset_to labels jump_reach line here name
  Ok (instr.Jal rd offset ∷ [])
resolved labels line here (BranchTo op rs1 rs2 name) = do
  offset ← offset_to labels branch_reach line here name
  Ok (instr.Branch op rs1 rs2 offset ∷ [])
resolved labels line here (AddressOf rd name) = do
  address ← address_of labels line name
  Ok (address_code rd address)

abbrev pub resolved_by : List Label → Entry → Option Code → Result (List Instr) AsmFault
resolved_by labels e None = Err (fault.BadLine e.line)
resolved_by labels e (Some code) = resolved labels e.line e.address code

unfoldable pub entry_code : List Label → Entry → Result (List Instr) AsmFault
entry_code labels e = resolved_by labels e e.code

-- the instructions of all entries, or the first fault
abbrev pub entries_code : List Label → List Entry → Result (List Instr) AsmFault
entries_code labels [] = Ok []
entries_code labels (e ∷ entries) = do
  first ← entry_code labels e
  others ← entries_code labels entries
  Ok (first ++ others)

pub record Program : Type 0 where
  pub code : List Instr
  pub data_bytes : List ℕ

-- where no line is at fault, there is an instruction, and each part keeps to its limit
abbrev pub program_of : ℕ → List Instr → Stored → Result Program AsmFault
program_of lines code stored =
    if length code == 0 then Err (fault.BadLine (lines + 1)) else
    if nat_lt most_bytes (4 * length code) || nat_lt most_bytes stored.len then Err fault.TooLarge else
    Ok (record { code = code; data_bytes = stored.bytes })

abbrev pub finished : Draft → Result Program AsmFault
finished d = do
  code ← entries_code d.labels d.entries
  program_of d.lines code d.stored

-- the program of a text, or its fault
unfoldable pub assembly_of : List ℕ → Result Program AsmFault
assembly_of text = finished (draft_of text)
