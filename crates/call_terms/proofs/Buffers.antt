-- The constraints on the buffer of a call.
use Rattle.std.proofs.Common.{◌≡◌, ◌↔◌, ◌⊎◌, ℕ, suc, ◌+◌, ◌-◌, ◌^◌, ◌%◌, ◌<◌, ◌≤◌, nat_lt, Bool, if◌then◌else◌, true, false, ◌&&◌, ◌||◌, not, List, [], ◌∷◌, length, map, take, nat_eq, get_or, refl, sym, ◌∙◌, ap, subst, inl, inr, arith}
use Rattle.std.specs.Prelude.{bit_and, nat_le}
use Rattle.std.specs.List.{range_with_len}
use Rattle.std.proofs.lemmas.List.{get_or-map, length-map}
use Rattle.std.proofs.lemmas.Bool.{cases_lt, false≢true}
use Rattle.elf_image.specs.Layout.{Layout}
use Rattle.elf_image.specs.Memory.{Cells, opening_cells}
use Rattle.odr_log.specs.declared.log.Call.{Call}
use Rattle.odr_log.specs.declared.log.Call.TheVariants as call
use Rattle.odr_log.specs.declared.log.Pos.{Pos}
use Rattle.rv_model.specs.Calls.{first_argument, fits_buffer, second_argument}
use Rattle.rv_model.specs.Thread.{register}
use Rattle.bv_terms.specs.declared.node.TermId.{TermId}
use Rattle.bv_terms.specs.BitVectors.{bit_of}
use Rattle.bv_terms.specs.Shapes.{Shape}
use Rattle.bv_terms.specs.Values.{Assignment, value_at}
use Rattle.step_terms.specs.Bytes.{AreBytes, numbers, values}
use Rattle.step_terms.specs.Made.{Grows, IsMade, IsTerm, OccursAmong}
use Rattle.step_terms.proofs.Making.{by_two, first_stays, second_stays}
use Rattle.step_terms.proofs.Signs.{le_no, le_yes, lt_no, lt_yes}
use Rattle.thread_terms.specs.Given.{given_by}
use Rattle.thread_terms.specs.Standing.{OccursInRegisters, term_of}
use Rattle.thread_terms.specs.Variables.{AreVariables, IsByteOf}
use Rattle.thread_terms.proofs.Saying.{is_number, is_set}
use Rattle.access_terms.specs.declared.right.Right.{Right}
use Rattle.access_terms.specs.declared.right.Right.TheVariants.{Read, Write}
use Rattle.access_terms.specs.Rights.{all_allow, allows}
use Rattle.access_terms.proofs.Allowing.{all_more, all_read, all_written}
use Rattle.access_terms.proofs.Own.{AreRead, among_read, byte_read, read_values}
use Rattle.access_terms.proofs.Tests.{both_hold}
use Rattle.call_terms.specs.Records.{BufferMeets, IsHanded, may_read, may_write, read_in}
use Rattle.call_terms.specs.Constraints.{HoldsWhere, Tests}
use Rattle.call_terms.proofs.Constraints.{among_bytes, from_one, from_two, same_more, tests_made}

-- ---- a length that is a term

-- so many bytes, but no more than there are
abbrev pub least : ℕ → ℕ → ℕ
least count i = if nat_lt i count then i else count

and_true : (b : Bool) → (b && true) ≡ b
and_true true = refl
and_true false = refl

least_within : (count i : ℕ) → i ≤ count → least count i ≡ i
least_within count i within = by_order (cases_lt i count)
  where
    by_order : (i < count) ⊎ (count ≤ i) → least count i ≡ i
    by_order (inl less) = ap (λ b. if b then i else count) (lt_yes i count less)
    by_order (inr more) = let same : count ≡ i = omega (arith, within, more) in ap (λ b. if b then i else count) (lt_no i count more) ∙ same

least_beyond : (count i : ℕ) → count ≤ i → least count i ≡ count
least_beyond count i beyond = ap (λ b. if b then i else count) (lt_no i count beyond)

-- bytes up to the end of a buffer, one more
pub up_to : (right : Right) (cells : Cells) (a count i : ℕ) → a < 2 ^ 32
    → (all_allow right cells a (least count i) && (nat_le count i || allows right (cells ((a + i) % 2 ^ 32)))) ≡ all_allow right cells a (least count (i + 1))
up_to right cells a count i below = by_order (cases_lt i count)
  where
    by_order : (i < count) ⊎ (count ≤ i) → (all_allow right cells a (least count i) && (nat_le count i || allows right (cells ((a + i) % 2 ^ 32)))) ≡ all_allow right cells a (least count (i + 1))
    by_order (inl inside) =
        let next : suc i ≡ i + 1 = omega arith in
        ap (λ n. all_allow right cells a n && (nat_le count i || allows right (cells ((a + i) % 2 ^ 32)))) (least_within count i (omega (arith, inside)))
        ∙ ap (λ b. all_allow right cells a i && (b || allows right (cells ((a + i) % 2 ^ 32)))) (le_no count i inside)
        ∙ all_more right cells a i below ∙ ap (all_allow right cells a) (next ∙ sym (least_within count (i + 1) (omega (arith, inside))))
    by_order (inr beyond) =
        ap (λ n. all_allow right cells a n && (nat_le count i || allows right (cells ((a + i) % 2 ^ 32)))) (least_beyond count i beyond)
        ∙ ap (λ b. all_allow right cells a count && (b || allows right (cells ((a + i) % 2 ^ 32)))) (le_yes count i beyond)
        ∙ and_true (all_allow right cells a count) ∙ ap (all_allow right cells a) (sym (least_beyond count (i + 1) (omega (arith, beyond))))

-- the bytes of a buffer that is not too long, one more, before and after so many
pub fits_up_to : (right : Right) (cells : Cells) (a count i : ℕ) → a < 2 ^ 32
    → bit_and (bit_of (fits_buffer count && all_allow right cells a (least count i))) (bit_of (nat_le count i || allows right (cells ((a + i) % 2 ^ 32))))
    ≡ bit_of (fits_buffer count && all_allow right cells a (least count (i + 1)))
fits_up_to right cells a count i below =
    both_hold (fits_buffer count && all_allow right cells a (least count i)) (nat_le count i || allows right (cells ((a + i) % 2 ^ 32)))
    ∙ ap bit_of (and_three (fits_buffer count) (all_allow right cells a (least count i)) (nat_le count i || allows right (cells ((a + i) % 2 ^ 32)))
    ∙ ap (λ b. fits_buffer count && b) (up_to right cells a count i below))
  where
    and_three : (x y z : Bool) → (x && y && z) ≡ (x && (y && z))
    and_three true y z = refl
    and_three false y z = refl

pub fits_none : (right : Right) (cells : Cells) (a count : ℕ) → bit_of (nat_le 0 count && nat_lt count (0 + 257)) ≡ bit_of (fits_buffer count && all_allow right cells a (least count 0))
fits_none right cells a count =
    ap bit_of (ap (λ b. b && nat_lt count (0 + 257)) (le_yes 0 count (omega arith)) ∙ lt_is (cases_lt count 257) ∙ sym (and_true (fits_buffer count))
    ∙ ap (λ n. fits_buffer count && all_allow right cells a n) (sym (least_within count 0 (omega arith))))
  where
    lt_is : (count < 257) ⊎ (257 ≤ count) → nat_lt count (0 + 257) ≡ fits_buffer count
    lt_is (inl less) = lt_yes count (0 + 257) (omega (arith, less)) ∙ sym (le_yes count 256 (omega (arith, less)))
    lt_is (inr more) = lt_no count (0 + 257) (omega (arith, more)) ∙ sym (le_no count 256 (omega (arith, more)))

-- the bytes of a buffer that end before an index
pub ends_before : (count i : ℕ) → bit_of (nat_le 0 count && nat_lt count (0 + (i + 1))) ≡ bit_of (nat_le count i)
ends_before count i = ap bit_of (ap (λ b. b && nat_lt count (0 + (i + 1))) (le_yes 0 count (omega arith)) ∙ lt_is (cases_lt count (i + 1)))
  where
    lt_is : (count < i + 1) ⊎ (i + 1 ≤ count) → nat_lt count (0 + (i + 1)) ≡ nat_le count i
    lt_is (inl less) = lt_yes count (0 + (i + 1)) (omega (arith, less)) ∙ sym (le_yes count i (omega (arith, less)))
    lt_is (inr more) = lt_no count (0 + (i + 1)) (omega (arith, more)) ∙ sym (le_no count i (omega (arith, more)))

-- a byte that is not refused
pub not_refused : (x y : Bool) → 1 - bit_and (1 - bit_of x) (1 - bit_of y) ≡ bit_of (x || y)
not_refused true true = refl
not_refused true false = refl
not_refused false true = refl
not_refused false false = refl

-- ---- the buffer of each call

not_true : (b : Bool) → (not b ≡ true) ↔ (b ≡ false)
not_true true = (λ h. absurd (false≢true h), λ h. absurd (false≢true (sym h)))
not_true false = (λ h. refl, λ h. refl)

-- the property, where the call is known
met_as : (further : ℕ → ℕ → Type 0) (image : Layout) (old new : List Shape) (registers : List TermId) (id : ℕ) (bytes : Assignment → ℕ → ℕ) (made one : Call) → made ≡ one
    → Tests further old new registers id (λ w local. BufferMeets image (bytes w) (first_argument local) (second_argument local) one)
    → Tests further old new registers id (λ w local. BufferMeets image (bytes w) (first_argument local) (second_argument local) made)
met_as further image old new registers id bytes made one is tests =
    subst (λ (c : Call). Tests further old new registers id (λ w local. BufferMeets image (bytes w) (first_argument local) (second_argument local) c)) (sym is) tests

pub writable : (further : ℕ → ℕ → Type 0) (image : Layout) (old new : List Shape) (registers : List TermId) (a want id : ℕ) (bytes : Assignment → ℕ → ℕ) (made : Call) (got : List ℕ)
    → made ≡ call.Read want got → a ≡ term_of registers 10
    → IsMade old new (a ∷ []) 1 (λ w. bit_of (all_allow Write (opening_cells image) (value_at w old a) want)) id
    → Tests further old new registers id (λ w local. BufferMeets image (bytes w) (first_argument local) (second_argument local) made)
writable further image old new registers a want id bytes made got is at bit =
    met_as further image old new registers id bytes made (call.Read want got) is
    (tests_made further old new registers (a ∷ []) id (λ w. bit_of (all_allow Write (opening_cells image) (value_at w old a) want))
    (λ local. all_allow Write (opening_cells image) (first_argument local) want) (λ w local. may_write image (first_argument local) want ≡ true) bit
    (λ w local stand. ap (λ v. bit_of (all_allow Write (opening_cells image) v want)) (ap (value_at w old) at ∙ stand.values 10 (omega arith)))
    (λ w local. let same = all_written (opening_cells image) (first_argument local) want in (λ h. sym same ∙ h, λ h. same ∙ h))
    (subst (λ n. (width number : ℕ) → OccursAmong old width number (n ∷ []) → OccursInRegisters old registers width number) (sym at) (from_one old registers 10 (omega arith))))

-- whether a buffer passes, whose address and length are terms
abbrev passes : Right → Layout → List Shape → ℕ → ℕ → Assignment → Bool
passes right image nodes a n w = fits_buffer (value_at w nodes n) && all_allow right (opening_cells image) (value_at w nodes a) (value_at w nodes n)

refusal : (right : Right) (may : Layout → ℕ → ℕ → Bool) → ((image : Layout) (a count : ℕ) → all_allow right (opening_cells image) a count ≡ may image a count)
    → (further : ℕ → ℕ → Type 0) (image : Layout) (old new : List Shape) (registers : List TermId) (a n id : ℕ) → a ≡ term_of registers 10 → n ≡ term_of registers 11
    → IsMade old new (a ∷ n ∷ []) 1 (λ w. bit_of (not (passes right image old a n w))) id
    → Tests further old new registers id (λ w local. (fits_buffer (second_argument local) && may image (first_argument local) (second_argument local)) ≡ false)
refusal right may is further image old new registers a n id at of bit =
    tests_made further old new registers (a ∷ n ∷ []) id (λ w. bit_of (not (passes right image old a n w)))
    (λ local. not (fits_buffer (second_argument local) && may image (first_argument local) (second_argument local)))
    (λ w local. (fits_buffer (second_argument local) && may image (first_argument local) (second_argument local)) ≡ false) bit
    (λ w local stand.
    ap (λ v. bit_of (not (fits_buffer (value_at w old n) && all_allow right (opening_cells image) v (value_at w old n)))) (ap (value_at w old) at ∙ stand.values 10 (omega arith))
    ∙ ap (λ v. bit_of (not (fits_buffer v && all_allow right (opening_cells image) (first_argument local) v))) (ap (value_at w old) of ∙ stand.values 11 (omega arith))
    ∙ ap (λ b. bit_of (not (fits_buffer (second_argument local) && b))) (is image (first_argument local) (second_argument local)))
    (λ w local. not_true (fits_buffer (second_argument local) && may image (first_argument local) (second_argument local)))
    (subst (λ m. (width number : ℕ) → OccursAmong old width number (m ∷ n ∷ []) → OccursInRegisters old registers width number) (sym at)
    (subst (λ m. (width number : ℕ) → OccursAmong old width number (term_of registers 10 ∷ m ∷ []) → OccursInRegisters old registers width number) (sym of)
    (from_two old registers 10 11 (omega arith) (omega arith))))

pub bad_write : (further : ℕ → ℕ → Type 0) (image : Layout) (old new : List Shape) (registers : List TermId) (a n id : ℕ) (bytes : Assignment → ℕ → ℕ) (made : Call)
    → made ≡ call.WriteBad → a ≡ term_of registers 10 → n ≡ term_of registers 11
    → IsMade old new (a ∷ n ∷ []) 1 (λ w. bit_of (not (passes Read image old a n w))) id
    → Tests further old new registers id (λ w local. BufferMeets image (bytes w) (first_argument local) (second_argument local) made)
bad_write further image old new registers a n id bytes made is at of bit =
    met_as further image old new registers id bytes made call.WriteBad is
    (refusal Read may_read (λ layout place count. all_read (opening_cells layout) place count) further image old new registers a n id at of bit)

pub bad_read : (further : ℕ → ℕ → Type 0) (image : Layout) (old new : List Shape) (registers : List TermId) (a n id : ℕ) (bytes : Assignment → ℕ → ℕ) (made : Call)
    → made ≡ call.ReadBad → a ≡ term_of registers 10 → n ≡ term_of registers 11
    → IsMade old new (a ∷ n ∷ []) 1 (λ w. bit_of (not (passes Write image old a n w))) id
    → Tests further old new registers id (λ w local. BufferMeets image (bytes w) (first_argument local) (second_argument local) made)
bad_read further image old new registers a n id bytes made is at of bit =
    met_as further image old new registers id bytes made call.ReadBad is
    (refusal Write may_write (λ layout place count. all_written (opening_cells layout) place count) further image old new registers a n id at of bit)

handed_at : (image : Layout) (p : Pos) (old new : List Shape) (registers reads : List TermId) (id : ℕ) (some : List ℕ) → AreRead p old (length some) reads
    → HoldsWhere old new (term_of registers 10 ∷ numbers reads) id (λ w. (may_read image (value_at w old (term_of registers 10)) (length some) ≡ true) × (values w old reads ≡ some))
    → Tests (IsByteOf p (length reads)) old new registers id (λ w local. IsHanded image ((given_by w).bytes p.thread p.step) (first_argument local) some)
handed_at image p old new registers reads id some are both = record {
  bit = both.bit;
  holds = λ w local stand.
      let a0 : value_at w old (term_of registers 10) ≡ register local 10 = stand.values 10 (omega arith) in
      let given : values w old reads ≡ map ((given_by w).bytes p.thread p.step) (range_with_len 0 (length some)) = read_values w p old (length some) reads are in (
        λ h.
            let parts = (both.holds w).0 h in
            record { readable = subst (λ v. may_read image v (length some) ≡ true) a0 parts.0; same = sym given ∙ parts.1 },
        λ h. (both.holds w).1 (subst (λ v. may_read image v (length some) ≡ true) (sym a0) h.readable, given ∙ h.same),
      );
  variables = λ width number there. from width number (both.occurs width number there);
}
  where
    from : (width number : ℕ) → OccursAmong old width number (term_of registers 10 ∷ numbers reads) → OccursInRegisters old registers width number ⊎ IsByteOf p (length reads) width number
    from width number (inl in_address) = inl (from_one old registers 10 (omega arith) width number (inl in_address))
    from width number (inr in_bytes) = inr (byte_read p old (length some) reads are width number (among_read p old (length some) reads are width number in_bytes))

pub handed : (image : Layout) (p : Pos) (old new : List Shape) (registers reads : List TermId) (a id : ℕ) (made : Call) (some text : List ℕ)
    → made ≡ call.Write some → text ≡ some → a ≡ term_of registers 10 → AreVariables old p reads → length reads ≡ length (read_in made)
    → HoldsWhere old new (a ∷ numbers reads) id (λ w. (may_read image (value_at w old a) (length text) ≡ true) × (values w old reads ≡ text))
    → Tests (IsByteOf p (length reads)) old new registers id (λ w local. BufferMeets image ((given_by w).bytes p.thread p.step) (first_argument local) (second_argument local) made)
handed image p old new registers reads a id made some text is same at variables count both =
    let are : AreRead p old (length some) reads = record { count = count ∙ ap (λ (c : Call). length (read_in c)) is; variables = variables } in
    let at_a0 = subst (λ n. HoldsWhere old new (n ∷ numbers reads) id (λ w. (may_read image (value_at w old n) (length text) ≡ true) × (values w old reads ≡ text))) at both in
    let of_some = subst (λ (l : List ℕ). HoldsWhere old new (term_of registers 10 ∷ numbers reads) id (λ w. (may_read image (value_at w old (term_of registers 10)) (length l) ≡ true) × (values w old reads ≡ l))) same at_a0 in
    met_as (IsByteOf p (length reads)) image old new registers id (λ w. (given_by w).bytes p.thread p.step) made (call.Write some) is (handed_at image p old new registers reads id some are of_some)

-- ---- what a write call was handed

-- the rights of a buffer and its bytes
pub handed_where : (image : Layout) (old one two new : List Shape) (address count same allowed id : ℕ) (bytes : List TermId) (recorded : List ℕ) → Grows old one → Grows one two → IsTerm old 32 address
    → HoldsWhere old one (numbers bytes) same (λ w. values w old bytes ≡ recorded)
    → IsMade one two (address ∷ []) 1 (λ w. bit_of (all_allow Read (opening_cells image) (value_at w one address) count)) allowed
    → HoldsWhere two new (allowed ∷ same ∷ []) id (λ w. (value_at w two allowed ≡ 1) × (value_at w two same ≡ 1))
    → HoldsWhere old new (address ∷ numbers bytes) id (λ w. (may_read image (value_at w old address) count ≡ true) × (values w old bytes ≡ recorded))
handed_where image old one two new address count same allowed id bytes recorded first second is equal made both = record {
  bit = both.bit;
  holds = λ w.
      let kept : value_at w two same ≡ value_at w one same = second.terms.value w same equal.bit.inside in
      let value : value_at w two allowed ≡ bit_of (may_read image (value_at w old address) count) =
      made.value w ∙ ap (λ v. bit_of (all_allow Read (opening_cells image) v count)) (first.terms.value w address is.inside)
      ∙ ap bit_of (all_read (opening_cells image) (value_at w old address) count) in
      let set = is_set (may_read image (value_at w old address) count) in (
        λ h. let parts = (both.holds w).0 h in (set.0 (sym value ∙ parts.0), (equal.holds w).0 (sym kept ∙ parts.1)),
        λ h. (both.holds w).1 (value ∙ set.1 h.0, kept ∙ (equal.holds w).1 h.1),
      );
  occurs = λ width number there. elim (both.occurs width number there) [
    | inl in_allowed ↦ elim (made.occurs width number in_allowed) [
      | inl in_address ↦ inl (first.variables width number address is.inside in_address)
      | inr none ↦ absurd none
    ]
    | inr (inl in_same) ↦ inr (equal.occurs width number (second.variables width number same equal.bit.inside in_same))
    | inr (inr none) ↦ absurd none
  ];
}

-- one byte more that was handed
pub equal_more : (old mid two new : List Shape) (bytes : List TermId) (recorded : List ℕ) (i t b id : ℕ) (d : TermId) (e : ℕ) → Grows old mid → Grows mid two → AreBytes old bytes → i < length bytes → i < length recorded
    → HoldsWhere old mid (numbers bytes) t (λ w. take i (values w old bytes) ≡ take i recorded)
    → IsMade mid two ((get_or bytes i d).number ∷ []) 1 (λ w. bit_of (nat_eq (value_at w mid (get_or bytes i d).number) (get_or recorded i e))) b
    → HoldsWhere two new (t ∷ b ∷ []) id (λ w. (value_at w two t ≡ 1) × (value_at w two b ≡ 1))
    → HoldsWhere old new (numbers bytes) id (λ w. take (i + 1) (values w old bytes) ≡ take (i + 1) recorded)
equal_more old mid two new bytes recorded i t b id d e first second are within listed before byte both = record {
  bit = both.bit;
  holds = λ w.
      let term = (get_or bytes i d).number in
      let next : suc i ≡ i + 1 = omega arith in
      let kept : value_at w two t ≡ value_at w mid t = second.terms.value w t before.bit.inside in
      let same : value_at w mid term ≡ get_or (values w old bytes) i e = first.terms.value w term (are i d within).inside ∙ sym (get_or-map (λ (x : TermId). value_at w old x.number) bytes i d e within) in
      let test : value_at w two b ≡ bit_of (nat_eq (get_or (values w old bytes) i e) (get_or recorded i e)) = byte.value w ∙ ap (λ v. bit_of (nat_eq v (get_or recorded i e))) same in
      let is = is_number (get_or (values w old bytes) i e) (get_or recorded i e) in
      let count : length (values w old bytes) ≡ length bytes = length-map bytes (λ (x : TermId). value_at w old x.number) in
      let more = same_more (values w old bytes) recorded i e (subst (λ n. i < n) (sym count) within) listed in (
        λ h.
            let parts = (both.holds w).0 h in
            subst (λ n. take n (values w old bytes) ≡ take n recorded) next (more.1 ((before.holds w).0 (sym kept ∙ parts.0), is.0 (sym test ∙ parts.1))),
        λ h.
            let parts = more.0 (subst (λ n. take n (values w old bytes) ≡ take n recorded) (sym next) h) in
            (both.holds w).1 (kept ∙ (before.holds w).1 parts.0, test ∙ is.1 parts.1),
      );
  occurs = λ width number there. elim (both.occurs width number there) [
    | inl in_before ↦ before.occurs width number (second.variables width number t before.bit.inside in_before)
    | inr (inl in_byte) ↦ elim (byte.occurs width number in_byte) [
      | inl in_term ↦ among_bytes old bytes i d within width number (first.variables width number (get_or bytes i d).number (are i d within).inside in_term)
      | inr none ↦ absurd none
    ]
    | inr (inr none) ↦ absurd none
  ];
}

-- a byte's test in a pool that had grown
pub passes_after : (old mid new : List Shape) (a n : ℕ) (right : Right) (cells : Cells) (i id : ℕ) → Grows old mid → IsTerm old 32 a → IsTerm old 32 n
    → IsMade mid new (a ∷ n ∷ []) 1 (λ w. bit_of (nat_le (value_at w mid n) i || allows right (cells ((value_at w mid a + i) % 2 ^ 32)))) id
    → IsMade old new (a ∷ n ∷ []) 1 (λ w. bit_of (nat_le (value_at w old n) i || allows right (cells ((value_at w old a + i) % 2 ^ 32)))) id
passes_after old mid new a n right cells i id grows is_a is_n made =
    by_two old mid new (a ∷ n ∷ []) a n 32 32 1 (λ w. value_at w old a) (λ w. value_at w old n) (λ u v. bit_of (nat_le v i || allows right (cells ((u + i) % 2 ^ 32)))) id
    (first_stays old mid a (n ∷ []) 32 grows is_a) (second_stays old mid a n 32 grows is_n) made
