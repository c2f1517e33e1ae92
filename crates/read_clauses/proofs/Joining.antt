-- Some bytes are read together: each of them has the same newest candidate.
use Rattle.std.specs.Prelude.{◌≡◌, ◌≢◌, ℕ, ◌+◌, ◌*◌, ◌/◌, ◌%◌, ◌<◌, ◌&&◌, true, false, cond, List, length, nat_eq, nat_lt}
use Rattle.std.proofs.Common.{sym, ◌∙◌, ap, subst, arith, inl, inr}
use Rattle.std.proofs.lemmas.Bool.{cases_eq, false≢true}
use Rattle.clause_store.specs.declared.lit.Lit.{Lit}
use Rattle.clause_store.specs.Literals.{Assignment, literal_value}
use Rattle.order_clauses.specs.declared.order_lit.OrderLit.{OrderLit}
use Rattle.order_clauses.specs.declared.order_lit.OrderLit.TheVariants as order_lit
use Rattle.order_clauses.specs.declared.table.Table.{Table}
use Rattle.order_clauses.specs.Grid.{lit_in}
use Rattle.order_clauses.specs.Literals.{spelled}
use Rattle.source_clauses.specs.declared.reader.Reader.{Reader}
use Rattle.source_clauses.specs.Sees.{IsNewest, ReadsBits, SeesNewest, between, bit_at, candidate_at, is_older}
use Rattle.read_clauses.specs.Together.{BytesReadTogether, IsByteOf, IsOneWay, IsPart}

-- ---- the same candidates

older_part : (w : Assignment) (table : Table) (reader part : Reader) (j k : ℕ) → IsPart reader part j → is_older w table part k ≡ is_older w table reader k
older_part w table reader part j k is =
    ap (λ (n : ℕ). spelled w (lit_in table n part.at) && spelled w (candidate_at part.candidates k).hit) (is.places k)
    ∙ ap (λ (n : ℕ). spelled w (lit_in table (candidate_at reader.candidates k).at n) && spelled w (candidate_at part.candidates k).hit) is.at
    ∙ ap (λ (l : OrderLit). spelled w (lit_in table (candidate_at reader.candidates k).at reader.at) && spelled w l) (is.hits k)

-- which of two places stands before the other, of one access the earlier number
abbrev before_by : Table → (a b j k : ℕ) → OrderLit
before_by table a b j k = cond (nat_eq a b) (cond (nat_lt j k) order_lit.Always order_lit.Never) (lit_in table a b)

between_part : (table : Table) (reader part : Reader) (j a b : ℕ) → IsPart reader part j → between table part.candidates a b ≡ between table reader.candidates a b
between_part table reader part j a b is =
    ap (λ (n : ℕ). before_by table n (candidate_at part.candidates b).at a b) (is.places a)
    ∙ ap (λ (n : ℕ). before_by table (candidate_at reader.candidates a).at n a b) (is.places b)

newest_to : (w : Assignment) (table : Table) (reader part : Reader) (j s : ℕ) → IsPart reader part j → IsNewest w table reader s → IsNewest w table part s
newest_to w table reader part j s is newest = record {
  listed = subst (λ (n : ℕ). s < n) (sym is.many) newest.listed;
  older = older_part w table reader part j s is ∙ newest.older;
  newest = λ (k : ℕ) (less : k < length part.candidates) (differs : k ≢ s) (older : is_older w table part k ≡ true).
      ap (spelled w) (between_part table reader part j k s is)
      ∙ newest.newest k (subst (λ (n : ℕ). k < n) is.many less) differs (sym (older_part w table reader part j k is) ∙ older);
}

newest_from : (w : Assignment) (table : Table) (reader part : Reader) (j s : ℕ) → IsPart reader part j → IsNewest w table part s → IsNewest w table reader s
newest_from w table reader part j s is newest = record {
  listed = subst (λ (n : ℕ). s < n) is.many newest.listed;
  older = sym (older_part w table reader part j s is) ∙ newest.older;
  newest = λ (k : ℕ) (less : k < length reader.candidates) (differs : k ≢ s) (older : is_older w table reader k ≡ true).
      sym (ap (spelled w) (between_part table reader part j k s is))
      ∙ newest.newest k (subst (λ (n : ℕ). k < n) (sym is.many) less) differs (older_part w table reader part j k is ∙ older);
}

-- there is one newest candidate
one_newest : (w : Assignment) (table : Table) (reader : Reader) (s r : ℕ) → IsOneWay w table reader → IsNewest w table reader s → IsNewest w table reader r → r ≡ s
one_newest w table reader s r one_way first second = elim (cases_eq r s) [
  | inl same ↦ same
  | inr differs ↦ absurd (one_way r s second.listed first.listed differs (first.newest r second.listed differs second.older)
      (second.newest s first.listed (λ (e : s ≡ r). differs (sym e)) first.older))
]

-- ---- the same bits

bits_to : (w : Assignment) (reader part : Reader) (j count : ℕ) (bits byte : List Lit) → length reader.read ≡ 8 * count → j < count → IsPart reader part j → IsByteOf bits j byte
    → ReadsBits w reader bits → ReadsBits w part byte
bits_to w reader part j count bits byte many less is of reads b within =
    let below : b < 8 = subst (λ (n : ℕ). b < n) is.width within in
    ap (literal_value w) (is.read b below) ∙ reads (8 * j + b) (omega (arith, many, less, below)) ∙ sym (ap (literal_value w) (of b below))

-- each bit is one of a byte
bit_from : (w : Assignment) (reader part : Reader) (j b : ℕ) (bits byte : List Lit) → b < 8 → IsPart reader part j → IsByteOf bits j byte → ReadsBits w part byte
    → literal_value w (bit_at reader.read (8 * j + b)) ≡ literal_value w (bit_at bits (8 * j + b))
bit_from w reader part j b bits byte below is of reads =
    sym (ap (literal_value w) (is.read b below)) ∙ reads b (subst (λ (n : ℕ). b < n) (sym is.width) below) ∙ ap (literal_value w) (of b below)

bits_from : (w : Assignment) (reader : Reader) (count : ℕ) (parts : ℕ → Reader) (bits : List Lit) (bytes : ℕ → List Lit) → length reader.read ≡ 8 * count
    → ((j : ℕ) → j < count → IsPart reader (parts j) j) → ((j : ℕ) → j < count → IsByteOf bits j (bytes j)) → ((j : ℕ) → j < count → ReadsBits w (parts j) (bytes j))
    → ReadsBits w reader bits
bits_from w reader count parts bits bytes many are of reads b within =
    let j : ℕ = b / 8 in
    let less : b / 8 < count = omega (arith, many, within) in
    let same : 8 * (b / 8) + b % 8 ≡ b = omega arith in
    subst (λ (n : ℕ). literal_value w (bit_at reader.read n) ≡ literal_value w (bit_at bits n)) same
    (bit_from w reader (parts (b / 8)) (b / 8) (b % 8) bits (bytes (b / 8)) (omega arith) (are (b / 8) less) (of (b / 8) less) (reads (b / 8) less))

-- ---- together

sees_part : (w : Assignment) (table : Table) (reader part : Reader) (j count : ℕ) → length reader.read ≡ 8 * count → j < count → IsPart reader part j
    → SeesNewest w table reader → SeesNewest w table part
sees_part w table reader part j count many less is (inl sees) = inl (record {
  source = sees.source;
  is_newest = newest_to w table reader part j sees.source is sees.is_newest;
  reads = bits_to w reader part j count (candidate_at reader.candidates sees.source).bits (candidate_at part.candidates sees.source).bits many less is
      (is.bits sees.source sees.is_newest.listed) sees.reads;
})
sees_part w table reader part j count many less is (inr sees) = inr (record {
  none_older = λ (k : ℕ) (within : k < length part.candidates). older_part w table reader part j k is ∙ sees.none_older k (subst (λ (n : ℕ). k < n) is.many within);
  reads = bits_to w reader part j count reader.initial part.initial many less is is.initial sees.reads;
})

-- where one part sees a write, each part sees that one
reads_write : (w : Assignment) (table : Table) (reader part : Reader) (j s : ℕ) → IsPart reader part j → IsOneWay w table reader → IsNewest w table reader s
    → SeesNewest w table part → ReadsBits w part (candidate_at part.candidates s).bits
reads_write w table reader part j s is one_way newest (inl sees) =
    subst (λ (n : ℕ). ReadsBits w part (candidate_at part.candidates n).bits)
    (one_newest w table reader s sees.source one_way newest (newest_from w table reader part j sees.source is sees.is_newest)) sees.reads
reads_write w table reader part j s is one_way newest (inr sees) =
    absurd (false≢true (sym (sees.none_older s (subst (λ (n : ℕ). s < n) (sym is.many) newest.listed)) ∙ older_part w table reader part j s is ∙ newest.older))

-- where one part sees none, no part does
reads_none : (w : Assignment) (table : Table) (reader part : Reader) (j : ℕ) → IsPart reader part j
    → ((k : ℕ) → k < length reader.candidates → is_older w table reader k ≡ false) → SeesNewest w table part → ReadsBits w part part.initial
reads_none w table reader part j is none (inl sees) =
    let newest : IsNewest w table reader sees.source = newest_from w table reader part j sees.source is sees.is_newest in
    absurd (false≢true (sym (none sees.source newest.listed) ∙ newest.older))
reads_none w table reader part j is none (inr sees) = sees.reads

together_by : (w : Assignment) (table : Table) (reader : Reader) (count : ℕ) (parts : ℕ → Reader) → 0 < count → length reader.read ≡ 8 * count
    → ((j : ℕ) → j < count → IsPart reader (parts j) j) → IsOneWay w table reader → ((j : ℕ) → j < count → SeesNewest w table (parts j))
    → SeesNewest w table (parts 0) → SeesNewest w table reader
together_by w table reader count parts some many are one_way sees (inl first) =
    let newest : IsNewest w table reader first.source = newest_from w table reader (parts 0) 0 first.source (are 0 some) first.is_newest in inl (record {
      source = first.source;
      is_newest = newest;
      reads = bits_from w reader count parts (candidate_at reader.candidates first.source).bits (λ (j : ℕ). (candidate_at (parts j).candidates first.source).bits) many are
          (λ (j : ℕ) (less : j < count). (are j less).bits first.source newest.listed)
          (λ (j : ℕ) (less : j < count). reads_write w table reader (parts j) j first.source (are j less) one_way newest (sees j less));
    })
together_by w table reader count parts some many are one_way sees (inr first) =
    let none : (k : ℕ) → k < length reader.candidates → is_older w table reader k ≡ false = λ (k : ℕ) (less : k < length reader.candidates).
    sym (older_part w table reader (parts 0) 0 k (are 0 some)) ∙ first.none_older k (subst (λ (n : ℕ). k < n) (sym (are 0 some).many) less) in inr (record {
      none_older = none;
      reads = bits_from w reader count parts reader.initial (λ (j : ℕ). (parts j).initial) many are (λ (j : ℕ) (less : j < count). (are j less).initial)
          (λ (j : ℕ) (less : j < count). reads_none w table reader (parts j) j (are j less) none (sees j less));
    })

pub bytes_together : BytesReadTogether
bytes_together w table reader count parts some many are one_way = (
  λ (sees : SeesNewest w table reader) (j : ℕ) (less : j < count). sees_part w table reader (parts j) j count many less (are j less) sees,
  λ (sees : (j : ℕ) → j < count → SeesNewest w table (parts j)). together_by w table reader count parts some many are one_way sees (sees 0 some),
)
