-- The registers of threads, one thread after the other.
use Rattle.std.proofs.Common.{◌≡◌, ℕ, ◌+◌, ◌*◌, ◌<◌, ◌≤◌, List, [], ◌++◌, length, get_or, refl, sym, ◌∙◌, ap, inl, inr, arith}
use Rattle.std.specs.Prelude.{Option, Some, None, slice_index_or}
use Rattle.std.proofs.lemmas.Bool.{cases_lt}
use Rattle.std.proofs.lemmas.List.{get_or_append_left, get_or-append-add, length-append}
use Rattle.std.proofs.lemmas.Option.{same_Some}
use Rattle.bv_terms.specs.declared.node.TermId.{TermId}
use Rattle.thread_terms.specs.Standing.{term_of}
use Rattle.path_exec.specs.declared.walker.Walker.{Walker}
use Rattle.path_exec.specs.Ending.{AreEndsOf}

abbrev no_term : TermId
no_term = record { number = 0 }

-- the registers of the first threads
pub record AreFirst (walkers : List (Option Walker)) (count : ℕ) (ends : List TermId) : Type 0 where
  pub long : length ends ≡ 32 * count
  pub each : (thread number : ℕ) (walker : Walker) → slice_index_or walkers thread None ≡ Some walker → thread < count → number < 32
      → (slice_index_or ends (32 * thread + number) no_term).number ≡ term_of walker.registers number

pub first_none : (walkers : List (Option Walker)) → AreFirst walkers 0 []
first_none walkers = record { long = refl; each = λ thread number walker e less inside. absurd (omega (arith, less)) }

pub first_more : (walkers : List (Option Walker)) (count : ℕ) (ends after : List TermId) (walker : Walker) → slice_index_or walkers count None ≡ Some walker → after ≡ ends ++ walker.registers → length walker.registers ≡ 32
    → AreFirst walkers count ends → AreFirst walkers (count + 1) after
first_more walkers count ends after walker is e long are = record {
  long = ap (length {A = TermId}) e ∙ length-append ends walker.registers ∙ omega (arith, are.long, long);
  each = λ thread number w here less inside. elim (cases_lt thread count) [
    | inl before ↦ (
        ap (λ (l : List TermId). (get_or l (32 * thread + number) no_term).number) e
        ∙ ap (λ (t : TermId). t.number) (get_or_append_left ends walker.registers no_term (32 * thread + number) (omega (arith, before, inside, are.long)))
        ∙ are.each thread number w here before inside)
    | inr ge ↦ (
        let same : thread ≡ count = omega (arith, less, ge) in
        let walker_is : walker ≡ w = same_Some walker w (sym is ∙ ap (λ k. slice_index_or walkers k None) (sym same) ∙ here) in
        let place : 32 * thread + number ≡ length ends + number = omega (arith, same, are.long) in
        ap (λ (l : List TermId). (get_or l (32 * thread + number) no_term).number) e
        ∙ ap (λ k. (get_or (ends ++ walker.registers) k no_term).number) place
        ∙ ap (λ (t : TermId). t.number) (get_or-append-add ends walker.registers number no_term)
        ∙ ap (λ (x : Walker). term_of x.registers number) walker_is)
  ];
}

pub first_all : (walkers : List (Option Walker)) (count : ℕ) (ends : List TermId) → length walkers ≤ count → count ≤ length walkers → AreFirst walkers count ends → AreEndsOf walkers ends
first_all walkers count ends past inside are =
    let same : count ≡ length walkers = omega (arith, past, inside) in
    record {
      count = are.long ∙ ap (λ n. 32 * n) same;
      each = λ thread number walker e less small. are.each thread number walker e (omega (arith, less, same)) small;
    }
