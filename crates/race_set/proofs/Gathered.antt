-- Readings that are gathered byte by byte and reader by reader.
use Rattle.std.proofs.Common.{◌≡◌, ℕ, ◌<◌, ◌≤◌, ◌+◌, ◌^◌, ◌⊎◌, Bool, true, false, List, [], ◌∷◌, ◌++◌, length, Option, Some, None, sym, ◌∙◌, ap, subst, inl, inr, arith}
use Rattle.std.specs.Prelude.{Contains}
use Rattle.std.proofs.lemmas.Bool.{false≢true, and_parts, and_from}
use Rattle.std.proofs.lemmas.List.Elements.{Contains-push, Contains-push_cases, Contains-append_left}
use Rattle.order_clauses.proofs.Counts.{split-below}
use Rattle.race_set.specs.declared.reading.Reading.{Reading}
use Rattle.race_set.specs.declared.shape.AccessShape.{AccessShape}
use Rattle.race_set.specs.declared.shape.Span.{Span}
use Rattle.race_set.specs.Bytes.{byte_of, covers, HasByte, surely_at, reads_byte}
use Rattle.race_set.specs.Accesses.{shape_at}
use Rattle.race_set.specs.Readings.{IsReading, IsListed, AddsReadings, IsReadBy, AreReadings}
use Rattle.race_set.proofs.Spans.{covers_exactly}

pub reads_from : (byte : ℕ) (access : AccessShape) (span : Span) → access.reads ≡ true → access.place ≡ Some span → covers byte span ≡ true
    → reads_byte byte access ≡ true
reads_from byte access span reads place c =
    and_from access.reads (surely_at byte access.place) reads (subst (λ (p : Option Span). surely_at byte p ≡ true) (sym place) c)

reads_place : (byte : ℕ) (access : AccessShape) → reads_byte byte access ≡ true → surely_at byte access.place ≡ true
reads_place byte access e = (and_parts access.reads (surely_at byte access.place) e).1

pub covers_of : (byte : ℕ) (access : AccessShape) (span : Span) → access.place ≡ Some span → reads_byte byte access ≡ true → covers byte span ≡ true
covers_of byte access span place e = subst (λ (p : Option Span). surely_at byte p ≡ true) place (reads_place byte access e)

pub no_place : (byte : ℕ) (access : AccessShape) → access.place ≡ None → reads_byte byte access ≡ true → ⊥
no_place byte access place e = false≢true (subst (λ (p : Option Span). surely_at byte p ≡ true) place (reads_place byte access e))

pub no_reader : (byte : ℕ) (access : AccessShape) → access.reads ≡ false → reads_byte byte access ≡ true → ⊥
no_reader byte access f e = false≢true (sym f ∙ (and_parts access.reads (surely_at byte access.place) e).0)

-- the first so many bytes of a span
abbrev pub Numbered : Span → ℕ → ℕ → Type 0
Numbered span i b = (k : ℕ) × (k < i) × (byte_of span k ≡ b)

module _ (shapes : List AccessShape) (recorded : ℕ → ℕ → Bool) where
  -- nothing is due
  pub adds_nothing : (Due : ℕ → ℕ → Type 0) (old : List Reading) → ((x b : ℕ) → Due x b → ⊥) → AddsReadings shapes recorded Due old old
  adds_nothing Due old none = record { keeps = λ r h. h; only = λ r h. inl h; each = λ x b due. absurd (none x b due) }

  pub adds_reworded : (Due Other : ℕ → ℕ → Type 0) (old new : List Reading) → ((x b : ℕ) → Other x b → Due x b)
      → AddsReadings shapes recorded Due old new → AddsReadings shapes recorded Other old new
  adds_reworded Due Other old new same adds = record { keeps = adds.keeps; only = adds.only; each = λ x b due. adds.each x b (same x b due) }

  pub adds_then : (Due More All : ℕ → ℕ → Type 0) (old mid new : List Reading) → ((x b : ℕ) → All x b → Due x b ⊎ More x b)
      → AddsReadings shapes recorded Due old mid → AddsReadings shapes recorded More mid new → AddsReadings shapes recorded All old new
  adds_then Due More All old mid new split one two =
      record {
        keeps = λ r h. two.keeps r (one.keeps r h);
        only = λ r h. only r (two.only r h);
        each = λ x b due. each x b (split x b due);
      }
    where
      only : (r : Reading) → Contains mid r ⊎ IsReading shapes recorded r → Contains old r ⊎ IsReading shapes recorded r
      only r (inl h) = one.only r h
      only r (inr is) = inr is

      kept : (x b : ℕ) → IsListed mid x b → IsListed new x b
      kept x b l = (l.0, two.keeps l.0 l.1, l.2, l.3)

      each : (x b : ℕ) → Due x b ⊎ More x b → IsListed new x b
      each x b (inl due) = kept x b (one.each x b due)
      each x b (inr due) = two.each x b due

  pub adds_one : (r : Reading) (old : List Reading) → IsReading shapes recorded r
      → AddsReadings shapes recorded (λ x b. (x ≡ r.reader) × (b ≡ r.byte)) old (old ++ r ∷ [])
  adds_one r old is =
      record {
        keeps = λ s h. Contains-append_left old (r ∷ []) s h;
        only = λ s h. only s (Contains-push_cases old r s h);
        each = λ x b due. (r, Contains-push old r, sym due.0, sym due.1);
      }
    where
      only : (s : Reading) → Contains old s ⊎ (r ≡ s) → Contains old s ⊎ IsReading shapes recorded s
      only s (inl h) = inl h
      only s (inr e) = inr (subst (λ (t : Reading). IsReading shapes recorded t) e is)

  pub span_none : (reader : ℕ) (span : Span) (old : List Reading) → AddsReadings shapes recorded (λ x b. (x ≡ reader) × Numbered span 0 b) old old
  span_none reader span old = adds_nothing (λ x b. (x ≡ reader) × Numbered span 0 b) old (λ x b due. omega (arith, due.1.1))

  pub span_more : (reader : ℕ) (span : Span) (i : ℕ) (r : Reading) (old mid : List Reading) → r.reader ≡ reader → r.byte ≡ byte_of span i
      → IsReading shapes recorded r → AddsReadings shapes recorded (λ x b. (x ≡ reader) × Numbered span i b) old mid
      → AddsReadings shapes recorded (λ x b. (x ≡ reader) × Numbered span (i + 1) b) old (mid ++ r ∷ [])
  span_more reader span i r old mid here byte is adds =
      adds_then (λ x b. (x ≡ reader) × Numbered span i b) (λ x b. (x ≡ r.reader) × (b ≡ r.byte)) (λ x b. (x ≡ reader) × Numbered span (i + 1) b)
      old mid (mid ++ r ∷ []) (λ x b due. go x b due.0 due.1.0 due.1.2 (split-below due.1.0 i (omega (arith, due.1.1)))) adds (adds_one r mid is)
    where
      go : (x b : ℕ) → x ≡ reader → (k : ℕ) → byte_of span k ≡ b → (k < i) ⊎ (k ≡ i) → ((x ≡ reader) × Numbered span i b) ⊎ ((x ≡ r.reader) × (b ≡ r.byte))
      go x b e k at (inl less) = inl (e, (k, less, at))
      go x b e k at (inr same) = inr (e ∙ sym here, sym at ∙ ap (λ (n : ℕ). byte_of span n) same ∙ sym byte)

  pub span_all : (reader i : ℕ) (span : Span) (old new : List Reading) → span.first < 2 ^ 32 → span.len < 2 ^ 32 → span.len ≤ i
      → AddsReadings shapes recorded (λ x b. (x ≡ reader) × Numbered span i b) old new
      → AddsReadings shapes recorded (λ x b. (x ≡ reader) × (covers b span ≡ true)) old new
  span_all reader i span old new first_in len_in done adds =
      adds_reworded (λ x b. (x ≡ reader) × Numbered span i b) (λ x b. (x ≡ reader) × (covers b span ≡ true)) old new
      (λ x b due. numbered x b due.0 ((covers_exactly span b first_in len_in).0 due.1)) adds
    where
      numbered : (x b : ℕ) → x ≡ reader → HasByte span b → (x ≡ reader) × Numbered span i b
      numbered x b e h = (e, (h.0, omega (arith, h.1, done), h.2))

  -- one reader, by what is known of it
  pub reader_placed : (reader : ℕ) (span : Span) (old new : List Reading) → (shape_at shapes reader).place ≡ Some span
      → AddsReadings shapes recorded (λ x b. (x ≡ reader) × (covers b span ≡ true)) old new → AddsReadings shapes recorded (IsReadBy shapes reader) old new
  reader_placed reader span old new place adds =
      adds_reworded (λ x b. (x ≡ reader) × (covers b span ≡ true)) (IsReadBy shapes reader) old new
      (λ x b due. (due.0, covers_of b (shape_at shapes reader) span place (subst (λ (t : ℕ). reads_byte b (shape_at shapes t) ≡ true) due.0 due.1))) adds

  pub reader_unplaced : (reader : ℕ) (old : List Reading) → (shape_at shapes reader).place ≡ None → AddsReadings shapes recorded (IsReadBy shapes reader) old old
  reader_unplaced reader old place =
      adds_nothing (IsReadBy shapes reader) old
      (λ x b due. no_place b (shape_at shapes reader) place (subst (λ (t : ℕ). reads_byte b (shape_at shapes t) ≡ true) due.0 due.1))

  pub reader_none : (reader : ℕ) (old : List Reading) → (shape_at shapes reader).reads ≡ false → AddsReadings shapes recorded (IsReadBy shapes reader) old old
  reader_none reader old none =
      adds_nothing (IsReadBy shapes reader) old
      (λ x b due. no_reader b (shape_at shapes reader) none (subst (λ (t : ℕ). reads_byte b (shape_at shapes t) ≡ true) due.0 due.1))

  -- the bytes of the first so many readers
  abbrev pub Upto : ℕ → ℕ → ℕ → Type 0
  Upto k x b = (x < k) × (reads_byte b (shape_at shapes x) ≡ true)

  pub readers_none : AddsReadings shapes recorded (Upto 0) [] []
  readers_none = adds_nothing (Upto 0) [] (λ x b due. omega (arith, due.0))

  pub readers_more : (k : ℕ) (mid new : List Reading) → AddsReadings shapes recorded (Upto k) [] mid → AddsReadings shapes recorded (IsReadBy shapes k) mid new
      → AddsReadings shapes recorded (Upto (k + 1)) [] new
  readers_more k mid new one two =
      adds_then (Upto k) (IsReadBy shapes k) (Upto (k + 1)) [] mid new (λ x b due. go x b due.1 (split-below x k (omega (arith, due.0)))) one two
    where
      go : (x b : ℕ) → reads_byte b (shape_at shapes x) ≡ true → (x < k) ⊎ (x ≡ k) → Upto k x b ⊎ IsReadBy shapes k x b
      go x b e (inl less) = inl (less, e)
      go x b e (inr same) = inr (same, e)

  pub readers_all : (k : ℕ) (readings : List Reading) → length shapes ≤ k → AddsReadings shapes recorded (Upto k) [] readings → AreReadings shapes recorded readings
  readers_all k readings done adds =
      record { only = λ r h. only r (adds.only r h); each = λ x b within e. adds.each x b (omega (arith, within, done), e) }
    where
      only : (r : Reading) → Contains [] r ⊎ IsReading shapes recorded r → IsReading shapes recorded r
      only r (inl h) = absurd (omega (arith, h.1))
      only r (inr is) = is
