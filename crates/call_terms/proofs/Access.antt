-- The access of a call that moved bytes.
use Rattle.std.proofs.Common.{◌≡◌, ℕ, ◌<◌, ◌≤◌, true, false, ◌&&◌, ◌||◌, if◌then◌else◌, List, [], ◌∷◌, ◌++◌, length, refl, sym, ◌∙◌, ap, subst, inl, arith, nat_eq}
use Rattle.std.specs.Prelude.{slice_index_or, IfSome, Option, Some, None}
use Rattle.std.proofs.lemmas.Bool.{false≢true}
use Rattle.std.proofs.lemmas.List.{length-map, map-append}
use Rattle.std.proofs.lemmas.List.Elements.{All-push}
use Rattle.std.proofs.lemmas.Nat.{pow_pos}
use Rattle.elf_image.specs.Memory.{writes_of}
use Rattle.rv32_decode.specs.declared.instr.Instr.TheVariants as instr
use Rattle.odr_log.specs.declared.log.Call.{Call}
use Rattle.odr_log.specs.declared.log.Call.TheVariants as call
use Rattle.odr_log.specs.declared.log.Pos.{Pos}
use Rattle.rv_model.specs.declared.state.Local.{Local}
use Rattle.rv_model.specs.declared.state.Note.TheVariants as note
use Rattle.rv_model.specs.Accesses.{moves_bytes}
use Rattle.rv_model.specs.Calls.{first_argument, fits_buffer, number_of_call, second_argument}
use Rattle.rv_model.specs.CallsFit.{IsPossible}
use Rattle.rv_model.specs.Instruction.{access_of, calls_out, no_access}
use Rattle.bv_terms.specs.declared.node.TermId.{TermId}
use Rattle.bv_terms.specs.BitVectors.{bit_of}
use Rattle.bv_terms.specs.Shapes.{Shape, Const}
use Rattle.bv_terms.specs.Values.{Assignment, value_at}
use Rattle.bv_terms.specs.Variables.{Occurs}
use Rattle.step_terms.specs.Bytes.{values}
use Rattle.step_terms.specs.Made.{Grows, IsMade, IsTerm}
use Rattle.step_terms.proofs.Making.{stays}
use Rattle.step_terms.proofs.Signs.{le_yes}
use Rattle.thread_terms.specs.declared.access.Access.{Access}
use Rattle.thread_terms.specs.Standing.{AreRegisters, term_of}
use Rattle.thread_terms.specs.Steps.{IsOfAny, IsOwn, Shows, guard_shape, read_size, write_size}
use Rattle.thread_terms.specs.Variables.{AreVariables, IsByteOf}
use Rattle.access_terms.proofs.Own.{of_constant, older_registers}
use Rattle.access_terms.proofs.Writing.{nothing_written, writes_where}
use Rattle.access_terms.proofs.LowBytes.{bytes_stay, values_stay}
use Rattle.call_terms.specs.Moved.{AreConstants, IsMoved, IsOfCall, writes_buffer}
use Rattle.call_terms.specs.Records.{Asks, read_in, written_in}

-- ---- the access

-- the buffer of a call that moved bytes
fits : (a1 count : ℕ) → a1 ≡ count → count ≤ 256 → fits_buffer a1 ≡ true
fits a1 count e few = le_yes a1 256 (omega (arith, e, few))

at_write : (n a1 count : ℕ) → n ≡ 8 → a1 ≡ count → count ≤ 256 → ((nat_eq n 8 || nat_eq n 9) && fits_buffer a1) ≡ true
at_write n a1 count is e few = ap (λ m. (nat_eq m 8 || nat_eq m 9) && fits_buffer a1) is ∙ fits a1 count e few

at_read : (n a1 count : ℕ) → n ≡ 9 → a1 ≡ count → count ≤ 256 → ((nat_eq n 8 || nat_eq n 9) && fits_buffer a1) ≡ true
at_read n a1 count is e few = ap (λ m. (nat_eq m 8 || nat_eq m 9) && fits_buffer a1) is ∙ fits a1 count e few

-- its address is a0 and its length a1
record HasBuffer (local : Local) : Type 0 where
  address : (access_of local instr.Ecall).address ≡ first_argument local
  count : (access_of local instr.Ecall).count ≡ second_argument local

has_buffer : (local : Local) → ((nat_eq (number_of_call local) 8 || nat_eq (number_of_call local) 9) && fits_buffer (second_argument local)) ≡ true → HasBuffer local
unfolding access_of
has_buffer local e = record {
  address = ap (λ b. (if b then record { address = first_argument local; count = second_argument local } else no_access).address) e;
  count = ap (λ b. (if b then record { address = first_argument local; count = second_argument local } else no_access).count) e;
}

-- what was written and read is what the access shows
shows_write : (w : Assignment) (new : List Shape) (p : Pos) (address : ℕ) (reads : List TermId) (some : List ℕ) (access : Access) (local : Local) (joined : ℕ) → length some ≤ 256
    → Asks local (call.Write some) → IsOfCall new p address reads (call.Write some) access → length reads ≡ length some → value_at w new address ≡ first_argument local
    → Shows w new access instr.Ecall local (calls_out local p.thread joined (call.Write some))
shows_write w new p address reads some access local joined few asks is count at =
    let buffer = has_buffer local (at_write (number_of_call local) (second_argument local) (length some) asks.number asks.second few) in
    record {
      address = ap (value_at w new) is.at ∙ at ∙ sym buffer.address;
      reads = ap (length {A = TermId}) is.reads_are ∙ count ∙ sym asks.second ∙ sym buffer.count;
      writes = nothing_written (writes_of (value_at w new access.address.number) (values w new access.writes) []) (value_at w new access.guard.number) (is.guard_value w);
    }

shows_read : (w : Assignment) (new : List Shape) (p : Pos) (address : ℕ) (reads : List TermId) (want : ℕ) (got : List ℕ) (access : Access) (local : Local) (joined : ℕ) → want ≤ 256
    → Asks local (call.Read want got) → IsOfCall new p address reads (call.Read want got) access → length reads ≡ 0 → value_at w new address ≡ first_argument local
    → Shows w new access instr.Ecall local (calls_out local p.thread joined (call.Read want got))
shows_read w new p address reads want got access local joined few asks is count at =
    let buffer = has_buffer local (at_read (number_of_call local) (second_argument local) want asks.number asks.second few) in
    let there = ap (value_at w new) is.at ∙ at in
    record {
      address = there ∙ sym buffer.address;
      reads = ap (length {A = TermId}) is.reads_are ∙ count;
      writes = writes_where w new access.address.number access.guard.number access.writes (first_argument local) got there (is.writes.values_are w) (is.guard_value w);
    }

-- a call that moves no byte has no access
pub shows_call : (w : Assignment) (new : List Shape) (p : Pos) (address : ℕ) (reads : List TermId) (made : Call) (access : Access) (local : Local) (joined : ℕ) → IsPossible made → moves_bytes (note.Called made) ≡ true
    → Asks local made → IsOfCall new p address reads made access → length reads ≡ length (read_in made) → value_at w new address ≡ first_argument local
    → Shows w new access instr.Ecall local (calls_out local p.thread joined made)
shows_call w new p address reads (call.Write some) access local joined possible moves asks is count at = shows_write w new p address reads some access local joined possible asks is count at
shows_call w new p address reads (call.Read want got) access local joined possible moves asks is count at = shows_read w new p address reads want got access local joined possible asks is count at
shows_call w new p address reads other access local joined possible moves asks is count at = absurd (false≢true moves)

-- the guard of a call's access
guard_is : (made : Call) (p : Pos) (known : Option ℕ) → guard_shape instr.Ecall (note.Called made) p known ≡ Const 1 (bit_of (writes_buffer made))
guard_is (call.Read want got) p known = refl
guard_is other p known = refl

-- how many bytes it reads and writes
reads_many : (made : Call) → length (read_in made) ≡ read_size instr.Ecall (note.Called made)
reads_many (call.Write some) = refl
reads_many other = refl

writes_many : (made : Call) → length (written_in made) ≡ write_size instr.Ecall (note.Called made)
writes_many (call.Read want got) = refl
writes_many other = refl

-- an assignment, since the number of terms is that of their values
zeros : Assignment
zeros = record { value_of = λ width number. 0; below = λ width number. pow_pos width }

many_constants : (nodes : List Shape) (bytes : List ℕ) (ids : List TermId) → AreConstants nodes bytes ids → length ids ≡ length bytes
many_constants nodes bytes ids are = sym (length-map ids (λ (id : TermId). value_at zeros nodes id.number)) ∙ ap (length {A = ℕ}) (are.values_are zeros)

pub own_call : (p : Pos) (known : Option ℕ) (old new : List Shape) (before reads : List TermId) (made : Call) (access : Access) → Grows old new → AreRegisters old before
    → AreVariables new p reads → length reads ≡ length (read_in made) → IsOfCall new p (term_of before 10) reads made access → IsOwn p instr.Ecall (note.Called made) known old new before access
own_call p known old new before reads made access grows are variables count is = record {
  pos = is.pos;
  link = is.link;
  address = subst (λ n. IsTerm new 32 n) (sym is.at) (stays old new 32 (term_of before 10) grows (are.words 10 (omega arith)));
  address_from = λ width number there.
      older_registers old new before grows are width number (record { number = 10; below = omega arith; occurs = subst (λ n. Occurs new width number n) is.at there });
  guard = is.guard ∙ ap Some (sym (guard_is made p known));
  guard_bit = is.guard_bit;
  guard_from = λ width number there. absurd (of_constant new access.guard.number 1 (bit_of (writes_buffer made)) is.guard width number there);
  read_many = ap (length {A = TermId}) is.reads_are ∙ count ∙ reads_many made;
  reads = subst (AreVariables new p) (sym is.reads_are) variables;
  write_many = many_constants new (written_in made) access.writes is.writes ∙ writes_many made;
  writes = is.writes.bytes_are;
  writes_from = λ k d h width number there. absurd (is.writes.closed k d h width number there);
}

-- the variables of the bytes that a call reads are its access's
pub of_access : (nodes : List Shape) (p : Pos) (address : ℕ) (reads : List TermId) (made : Call) (access : Option Access) → length reads ≡ length (read_in made) → IsMoved nodes p address reads made access
    → (width number : ℕ) → IsByteOf p (length reads) width number → IsOfAny access width number
of_access nodes p address reads made None count moved width number byte = absurd (none_below made count (sym moved.some) byte.1.0 byte.1.1)
  where
    none_below : (m : Call) → length reads ≡ length (read_in m) → moves_bytes (note.Called m) ≡ false → (index : ℕ) → index < length reads → ⊥
    none_below (call.Write []) many moves index below = omega (arith, many, below)
    none_below (call.Write (byte ∷ bytes)) many moves index below = false≢true (sym moves)
    none_below other many moves index below = omega (arith, many, below)
of_access nodes p address reads made (Some access) count moved width number byte =
    inl (subst (λ (q : Pos). IsByteOf q (length access.reads) width number) (sym moved.is.pos)
    (subst (λ (l : List TermId). IsByteOf p (length l) width number) (sym moved.is.reads_are) byte))

-- ---- recorded bytes

pub constants_more : (old new : List Shape) (bytes : List ℕ) (byte : ℕ) (ids : List TermId) (id : TermId) → Grows old new → AreConstants old bytes ids → IsMade old new [] 8 (λ w. byte) id.number
    → AreConstants new (bytes ++ byte ∷ []) (ids ++ id ∷ [])
constants_more old new bytes byte ids id grows are made = record {
  bytes_are = All-push (λ (t : TermId). IsTerm new 8 t.number) ids id (bytes_stay old new ids grows are.bytes_are) made.term;
  values_are = λ w.
      map-append (λ (t : TermId). value_at w new t.number) ids (id ∷ [])
      ∙ ap (λ l. l ++ value_at w new id.number ∷ []) (values_stay w old new ids grows are.bytes_are ∙ are.values_are w)
      ∙ ap (λ n. bytes ++ n ∷ []) (made.value w);
  closed = All-push (λ (t : TermId). (width number : ℕ) → Occurs new width number t.number → ⊥) ids id
      (λ k d h width number there. are.closed k d h width number (grows.variables width number (slice_index_or ids k d).number (are.bytes_are k d h).inside there))
      (λ width number there. absurd (made.occurs width number there));
}

pub constants_stay : (old new : List Shape) (bytes : List ℕ) (ids : List TermId) → Grows old new → AreConstants old bytes ids → AreConstants new bytes ids
constants_stay old new bytes ids grows are = record {
  bytes_are = bytes_stay old new ids grows are.bytes_are;
  values_are = λ w. values_stay w old new ids grows are.bytes_are ∙ are.values_are w;
  closed = λ k d h width number there. are.closed k d h width number (grows.variables width number (slice_index_or ids k d).number (are.bytes_are k d h).inside there);
}

-- ---- the access in a pool that grew

pub if_some : {A : Type 0} (o : Option A) (P Q : A → Type 0) → ((x : A) → o ≡ Some x → P x → Q x) → IfSome o P → IfSome o Q
if_some None P Q f h = tt
if_some (Some x) P Q f h = f x refl h

of_call_stays : (old new : List Shape) (p : Pos) (address : ℕ) (reads : List TermId) (made : Call) (access : Access) → Grows old new → IsOfCall old p address reads made access → IsOfCall new p address reads made access
of_call_stays old new p address reads made access grows is = record {
  pos = is.pos;
  link = is.link;
  at = is.at;
  guard = grows.terms.node access.guard.number is.guard_bit.inside ∙ is.guard;
  guard_bit = stays old new 1 access.guard.number grows is.guard_bit;
  guard_value = λ w. grows.terms.value w access.guard.number is.guard_bit.inside ∙ is.guard_value w;
  reads_are = is.reads_are;
  writes = constants_stay old new (written_in made) access.writes grows is.writes;
}

pub moved_stays : (old new : List Shape) (p : Pos) (address : ℕ) (reads : List TermId) (made : Call) (access : Option Access) → Grows old new → IsMoved old p address reads made access → IsMoved new p address reads made access
moved_stays old new p address reads made access grows moved = record {
  some = moved.some;
  is = if_some access (IsOfCall old p address reads made) (IsOfCall new p address reads made) (λ a e is. of_call_stays old new p address reads made a grows is) moved.is;
}
