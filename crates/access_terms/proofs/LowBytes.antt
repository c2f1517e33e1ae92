-- The low bytes of a word, one after another.
use Rattle.std.proofs.Common.{◌≡◌, ℕ, zero, suc, ◌+◌, ◌*◌, ◌/◌, ◌%◌, ◌^◌, List, [], ◌∷◌, ◌++◌, refl, sym, ◌∙◌, ap, inl, inr, arith}
use Rattle.std.specs.Prelude.{slice_index_or}
use Rattle.std.proofs.lemmas.List.{length-append, map-append}
use Rattle.std.proofs.lemmas.Nat.{pow-add}
use Rattle.std.proofs.Math.Nat.{div-div-eq-div-mul}
use Rattle.std.proofs.lemmas.List.Elements.{All-push}
use Rattle.elf_image.specs.Memory.{bytes_of}
use Rattle.bv_terms.specs.declared.node.TermId.{TermId}
use Rattle.bv_terms.specs.Shapes.{Shape}
use Rattle.bv_terms.specs.Values.{Assignment, value_at}
use Rattle.bv_terms.specs.Variables.{Occurs}
use Rattle.step_terms.specs.Bytes.{AreBytes, values}
use Rattle.step_terms.specs.Made.{Grows, IsMade, IsTerm}
use Rattle.step_terms.proofs.Making.{stays}
use Rattle.access_terms.specs.Split.{AreLowBytes}

-- ---- the numbers

lower : (v i : ℕ) → v / 2 ^ 8 / 2 ^ (8 * i) ≡ v / 2 ^ (8 * suc i)
lower v i =
    let more : 8 + 8 * i ≡ 8 * suc i = omega arith in
    div-div-eq-div-mul v (2 ^ 8) (2 ^ (8 * i)) ∙ ap (λ n. v / n) (sym (pow-add 2 8 (8 * i))) ∙ ap (λ n. v / 2 ^ n) more

pub bytes_more : (i v : ℕ) → bytes_of (suc i) v ≡ bytes_of i v ++ (v / 2 ^ (8 * i) % 2 ^ 8) ∷ []
bytes_more zero v = let e : v ≡ v / 2 ^ (8 * 0) = omega arith in ap (λ n. n % 2 ^ 8 ∷ []) e
bytes_more (suc i) v = ap (λ l. v % 2 ^ 8 ∷ l) (bytes_more i (v / 2 ^ 8) ∙ ap (λ n. bytes_of i (v / 2 ^ 8) ++ (n % 2 ^ 8) ∷ []) (lower v i))

-- ---- terms of a pool that grew

-- bytes stay bytes, with their values
pub bytes_stay : (old new : List Shape) (ids : List TermId) → Grows old new → AreBytes old ids → AreBytes new ids
bytes_stay old new ids grows are = λ k d h. stays old new 8 (slice_index_or ids k d).number grows (are k d h)

pub values_stay : (w : Assignment) (old new : List Shape) (ids : List TermId) → Grows old new → AreBytes old ids → values w new ids ≡ values w old ids
values_stay w old new [] grows are = refl
values_stay w old new (id ∷ ids) grows are =
    ap (λ v. v ∷ values w new ids) (grows.terms.value w id.number (are 0 id (omega arith)).inside)
    ∙ ap (λ l. value_at w old id.number ∷ l) (values_stay w old new ids grows (λ k d h. are (suc k) d (omega (arith, h))))

-- ---- the loop

pub low_none : (nodes : List Shape) (word : ℕ) → AreLowBytes nodes nodes word 0 []
low_none nodes word = record { many = refl; bytes = λ k d h. absurd (omega (arith, h)); values = λ w. refl; variables = λ k d h. absurd (omega (arith, h)) }

pub low_more : (old mid new : List Shape) (word i : ℕ) (ids : List TermId) (id : TermId) → Grows old mid → Grows mid new → IsTerm old 32 word → AreLowBytes old mid word i ids
    → IsMade mid new (word ∷ []) 8 (λ w. value_at w mid word / 2 ^ (8 * i) % 2 ^ 8) id.number → AreLowBytes old new word (i + 1) (ids ++ id ∷ [])
low_more old mid new word i ids id first second is are made = record {
  many = length-append ids (id ∷ []) ∙ ap (λ n. n + 1) are.many;
  bytes = All-push (λ (t : TermId). IsTerm new 8 t.number) ids id (bytes_stay mid new ids second are.bytes) made.term;
  values = λ w.
      let v = value_at w old word in
      let same : value_at w new id.number ≡ v / 2 ^ (8 * i) % 2 ^ 8 = made.value w ∙ ap (λ n. n / 2 ^ (8 * i) % 2 ^ 8) (first.terms.value w word is.inside) in
      let next : suc i ≡ i + 1 = omega arith in
      map-append (λ (t : TermId). value_at w new t.number) ids (id ∷ [])
      ∙ ap (λ l. l ++ value_at w new id.number ∷ []) (values_stay w mid new ids second are.bytes ∙ are.values w)
      ∙ ap (λ n. bytes_of i v ++ n ∷ []) same ∙ sym (bytes_more i v) ∙ ap (λ n. bytes_of n v) next;
  variables = All-push (λ (t : TermId). (width number : ℕ) → Occurs new width number t.number → Occurs old width number word) ids id
      (λ k d h width number there. are.variables k d h width number (second.variables width number (slice_index_or ids k d).number (are.bytes k d h).inside there))
      (λ width number there. elim (made.occurs width number there) [
        | inl in_word ↦ first.variables width number word is.inside in_word
        | inr none ↦ absurd none
      ]);
}
