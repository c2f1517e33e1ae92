-- Readings stand in the order of their readers and of the numbers of their bytes.
use Rattle.std.proofs.Common.{◌≡◌, ℕ, ◌<◌, ◌+◌, ◌^◌, List, [], ◌∷◌, ◌++◌, get_or, Some, sym, ◌∙◌, ap, subst, inl, inr, arith}
use Rattle.std.proofs.lemmas.Option.{same_Some}
use Rattle.std.proofs.lemmas.List.Elements.{All-push}
use Rattle.std.proofs.lemmas.List.Quantifiers.{all_pairs_push}
use Rattle.race_set.specs.declared.reading.Reading.{Reading}
use Rattle.race_set.specs.declared.shape.AccessShape.{AccessShape}
use Rattle.race_set.specs.declared.shape.Span.{Span}
use Rattle.race_set.specs.Bytes.{byte_of}
use Rattle.race_set.specs.Accesses.{shape_at}
use Rattle.race_set.specs.Readings.{IsByteAt, Precedes, IsReadBefore, IsBefore, AreBefore}
use Rattle.race_set.proofs.Spans.{numbers_differ}

module _ (shapes : List AccessShape) where
  pub none_before : AreBefore shapes 0 0 []
  none_before = record { order = λ i j d less j_in. absurd (omega (arith, j_in)); below = λ i d i_in. absurd (omega (arith, i_in)) }

  -- all facts of a bound are facts of a later one
  later_bound : (reader next other later : ℕ) → ((x k : ℕ) → Precedes x k reader next → Precedes x k other later)
      → (readings : List Reading) → AreBefore shapes reader next readings → AreBefore shapes other later readings
  later_bound reader next other later leads readings are =
      record {
        order = are.order;
        below =
            λ i d i_in.
            let is : IsBefore shapes reader next (get_or readings i d) = are.below i d i_in in
            record { number = is.number; at = is.at; before = leads (get_or readings i d).reader is.number is.before };
      }

  -- a reader is passed
  pub passed : (reader next : ℕ) (readings : List Reading) → AreBefore shapes reader next readings → AreBefore shapes (reader + 1) 0 readings
  passed reader next readings are = later_bound reader next (reader + 1) 0 go readings are
    where
      go : (x k : ℕ) → Precedes x k reader next → Precedes x k (reader + 1) 0
      go x k (inl less) = inl (omega (arith, less))
      go x k (inr same) = inl (omega (arith, same.0))

  -- one more byte is read
  pub one_more : (reader i : ℕ) (span : Span) (r : Reading) (old : List Reading) → (shape_at shapes reader).place ≡ Some span → span.first < 2 ^ 32
      → span.len < 2 ^ 32 → i < span.len → r.reader ≡ reader → r.byte ≡ byte_of span i → AreBefore shapes reader i old
      → AreBefore shapes reader (i + 1) (old ++ r ∷ [])
  one_more reader i span r old place first_in len_in within here byte are =
      record {
        order = all_pairs_push (IsReadBefore shapes) old r are.order (λ k d k_in. both (get_or old k d) (are.below k d k_in));
        below =
            All-push (IsBefore shapes reader (i + 1)) old r (later_bound reader i reader (i + 1) go old are).below
            (record { number = i; at = at; before = inr (here, omega arith) });
      }
    where
      at : IsByteAt shapes r.reader r.byte i
      at =
          subst (λ (x : ℕ). IsByteAt shapes x r.byte i) (sym here)
          (record { span = span; place = place; within = within; is = sym byte })

      go : (x k : ℕ) → Precedes x k reader i → Precedes x k reader (i + 1)
      go x k (inl less) = inl less
      go x k (inr same) = inr (same.0, omega (arith, same.1))

      never : (k n : ℕ) → k < n → k ≡ n → ⊥
      never k n less e = omega (arith, less, e)

      -- an earlier byte of the same place is another one
      differ : (q : Reading) (is : IsBefore shapes reader i q) → q.reader ≡ reader → Precedes q.reader is.number reader i → q.byte ≡ r.byte → ⊥
      differ q is same (inl less) e = omega (arith, same, less)
      differ q is same (inr earlier) e =
          let spans : is.at.span ≡ span =
          same_Some is.at.span span (sym is.at.place ∙ ap (λ (x : ℕ). (shape_at shapes x).place) same ∙ place) in
          let byte_is : byte_of span is.number ≡ q.byte = subst (λ (t : Span). byte_of t is.number ≡ q.byte) spans is.at.is in
          let numbers : is.number ≡ i =
          numbers_differ span is.number i first_in (omega (arith, earlier.1, within, len_in)) (omega (arith, within, len_in)) (byte_is ∙ e ∙ byte) in
          never is.number i earlier.1 numbers

      both : (q : Reading) → IsBefore shapes reader i q → IsReadBefore shapes q r
      both q is =
          record {
            number = is.number;
            next = i;
            first = is.at;
            second = at;
            before = subst (λ (x : ℕ). Precedes q.reader is.number x i) (sym here) is.before;
            differ = λ same. differ q is (same ∙ here) is.before;
          }
