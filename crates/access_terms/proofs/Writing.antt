-- The bytes that an access writes.
use Rattle.std.proofs.Common.{◌≡◌, ℕ, ◌<◌, cond, List, [], ◌∷◌, length, sym, ◌∙◌, ap, inl, inr, nat_eq}
use Rattle.std.specs.Prelude.{◌⊎◌, All, slice_index_or}
use Rattle.elf_image.specs.declared.write.Write.{Write}
use Rattle.elf_image.specs.Memory.{bytes_of, writes_of}
use Rattle.odr_log.specs.declared.log.Pos.{Pos}
use Rattle.bv_terms.specs.declared.node.TermId.{TermId}
use Rattle.bv_terms.specs.Shapes.{Shape}
use Rattle.bv_terms.specs.Values.{Assignment, value_at}
use Rattle.step_terms.specs.Bytes.{AreBytes, values}
use Rattle.step_terms.specs.Made.{Grows, IsMade}
use Rattle.thread_terms.specs.Standing.{AreRegisters, OccursInRegisters, term_of}
use Rattle.thread_terms.specs.Steps.{HasVariables}
use Rattle.thread_terms.specs.Variables.{IsByteOf}
use Rattle.access_terms.specs.Split.{AreLowBytes}
use Rattle.access_terms.proofs.LowBytes.{bytes_stay, values_stay}
use Rattle.access_terms.proofs.Own.{IsValueRead}

-- terms of the low bytes of a word, with variables of this kind alone
pub record AreWritten (known : ℕ → ℕ → Type 0) (nodes : List Shape) (count : ℕ) (word : Assignment → ℕ) (ids : List TermId) : Type 0 where
  pub many : length ids ≡ count
  pub bytes : AreBytes nodes ids
  pub values : (w : Assignment) → values w nodes ids ≡ bytes_of count (word w)
  pub variables : All (λ (id : TermId). HasVariables known nodes id.number) ids

-- of a register
pub written_register : (old mid end new : List Shape) (before : List TermId) (rs count : ℕ) (ids : List TermId) → Grows old mid → Grows end new → AreRegisters old before → rs < 32
    → AreLowBytes mid end (term_of before rs) count ids → AreWritten (OccursInRegisters old before) new count (λ w. value_at w old (term_of before rs)) ids
written_register old mid end new before rs count ids first last are inside low = record {
  many = low.many;
  bytes = bytes_stay end new ids last low.bytes;
  values = λ w. values_stay w end new ids last low.bytes ∙ low.values w ∙ ap (bytes_of count) (first.terms.value w (term_of before rs) (are.words rs inside).inside);
  variables = λ k d h width number there.
      let id = (slice_index_or ids k d).number in
      let in_word = low.variables k d h width number (last.variables width number id (low.bytes k d h).inside there) in
      record { number = rs; below = inside; occurs = first.variables width number (term_of before rs) (are.words rs inside).inside in_word };
}

-- a variable of the registers before a step, or of the bytes that it reads
abbrev pub RegistersOrRead : List Shape → List TermId → Pos → (count : ℕ) → (width number : ℕ) → Type 0
RegistersOrRead nodes registers p count width number = OccursInRegisters nodes registers width number ⊎ IsByteOf p count width number

-- of a word that was made of the bytes that are read and of a register
pub written_word : (p : Pos) (old read mid end new : List Shape) (before : List TermId) (rs loaded word count : ℕ) (f : List ℕ → ℕ) (op : ℕ → ℕ → ℕ) (ids : List TermId) → Grows old read → Grows end new → AreRegisters old before → rs < 32
    → IsValueRead p read count 32 f loaded
    → IsMade read mid (loaded ∷ term_of before rs ∷ []) 32 (λ w. op (value_at w read loaded) (value_at w read (term_of before rs))) word
    → AreLowBytes mid end word 4 ids → (given : Assignment → List ℕ) → ((w : Assignment) → value_at w read loaded ≡ f (given w))
    → AreWritten (RegistersOrRead old before p count) new 4 (λ w. op (f (given w)) (value_at w old (term_of before rs))) ids
written_word p old read mid end new before rs loaded word count f op ids first last are inside value made low given is = record {
  many = low.many;
  bytes = bytes_stay end new ids last low.bytes;
  values = λ w. values_stay w end new ids last low.bytes ∙ low.values w
      ∙ ap (bytes_of 4) (made.value w ∙ ap (λ v. op v (value_at w read (term_of before rs))) (is w)
      ∙ ap (λ v. op (f (given w)) v) (first.terms.value w (term_of before rs) (are.words rs inside).inside));
  variables = λ k d h width number there.
      let id = (slice_index_or ids k d).number in
      let in_word = low.variables k d h width number (last.variables width number id (low.bytes k d h).inside there) in
      elim (made.occurs width number in_word) [
        | inl in_loaded ↦ inr (value.variables width number in_loaded)
        | inr (inl in_register) ↦ inl (record { number = rs; below = inside; occurs = first.variables width number (term_of before rs) (are.words rs inside).inside in_register })
        | inr (inr none) ↦ absurd none
      ];
}

-- what an access writes, where its guard is 1
pub writes_where : (w : Assignment) (new : List Shape) (address guard : ℕ) (ids : List TermId) (place : ℕ) (bytes : List ℕ) → value_at w new address ≡ place → values w new ids ≡ bytes → value_at w new guard ≡ 1
    → writes_of place bytes [] ≡ cond (nat_eq (value_at w new guard) 1) (writes_of (value_at w new address) (values w new ids) []) []
writes_where w new address guard ids place bytes at are set =
    sym (ap (λ n. cond (nat_eq n 1) (writes_of (value_at w new address) (values w new ids) []) []) set
    ∙ ap (λ n. writes_of n (values w new ids) []) at ∙ ap (λ (l : List ℕ). writes_of place l []) are)

-- and where its guard is 0
pub nothing_written : (writes : List Write) (v : ℕ) → v ≡ 0 → [] ≡ cond (nat_eq v 1) writes []
nothing_written writes v e = ap (λ n. cond (nat_eq n 1) writes []) (sym e)

-- and where it succeeds or not
pub writes_if : (w : Assignment) (new : List Shape) (address guard : ℕ) (ids : List TermId) (place : ℕ) (bytes : List ℕ) → value_at w new address ≡ place → values w new ids ≡ bytes
    → cond (nat_eq (value_at w new guard) 1) (writes_of place bytes []) [] ≡ cond (nat_eq (value_at w new guard) 1) (writes_of (value_at w new address) (values w new ids) []) []
writes_if w new address guard ids place bytes at are =
    sym (ap (λ n. cond (nat_eq (value_at w new guard) 1) (writes_of n (values w new ids) []) []) at ∙ ap (λ (l : List ℕ). cond (nat_eq (value_at w new guard) 1) (writes_of place l []) []) are)
