-- The recorded order of chosen steps is strict, by places.
use Rattle.std.proofs.Common.{◌≡◌, ◌↔◌, ℕ, ◌<◌, ◌+◌, ◌*◌, Bool, true, false, not, List, length, get_or, refl, sym, ap, subst, arith}
use Rattle.std.specs.Prelude.{nat_eq, All}
use Rattle.std.proofs.lemmas.Bool.{and_parts, and_from, false_from_ne_true, ne_eqb}
use Rattle.odr_log.specs.declared.log.Log.{Log}
use Rattle.odr_log.specs.declared.log.Pos.{Pos}
use Rattle.rv_model.specs.RecordedOrder.{One, More, Counted, RecordedOrder}
use Rattle.rv_model.specs.CallsFit.{CallsFit}
use Rattle.happens_before.proofs.ClosedForm.{before_in_thread}
use Rattle.order_clauses.specs.Orders.{IsStrictBelow}
use Rattle.order_clauses.specs.Grid.{recorded_at}
use Rattle.order_vars.specs.Chosen.{position}

recorded_then : (log : Log) (p q r : Pos) → RecordedOrder log p q → RecordedOrder log q r → RecordedOrder log p r
recorded_then log p q r (One edge) rest = More edge rest
recorded_then log p q r (More {q = m} edge more) rest = More edge (recorded_then log m q r more rest)

never_itself : (log : Log) → CallsFit log → (p : Pos) → Counted log p → RecordedOrder log p p → ⊥
never_itself log fit p counted r = omega (arith, (before_in_thread log fit p p counted counted refl).1 r)

-- what the cells say of two places
abbrev pub Cells : Log → List Pos → List Bool → Type 0
Cells log chosen cells =
    (i j : ℕ) → i < length chosen → j < length chosen
    → (get_or cells (i * length chosen + j) false ≡ true) ↔ RecordedOrder log (position chosen i) (position chosen j)

pub counted_at : (log : Log) (chosen : List Pos) → All (Counted log) chosen → (i : ℕ) → i < length chosen → Counted log (position chosen i)
counted_at log chosen all i i_in = all i (record { thread = 0; step = 0 }) i_in

pub recorded_order : (log : Log) → CallsFit log → (chosen : List Pos) → All (Counted log) chosen → (cells : List Bool) → Cells log chosen cells
    → (i j : ℕ) → i < length chosen → j < length chosen
    → (recorded_at cells (length chosen) i j ≡ true) ↔ RecordedOrder log (position chosen i) (position chosen j)
recorded_order log fit chosen all cells told i j i_in j_in = (
  λ e. (told i j i_in j_in).0 (and_parts (not (nat_eq i j)) (get_or cells (i * length chosen + j) false) e).1,
  λ r.
      and_from (not (nat_eq i j)) (get_or cells (i * length chosen + j) false)
      (ap (λ (t : Bool). not t)
      (ne_eqb i j
      (λ same.
      never_itself log fit (position chosen i) (counted_at log chosen all i i_in)
      (subst (λ (x : ℕ). RecordedOrder log (position chosen i) (position chosen x)) (sym same) r))))
      ((told i j i_in j_in).1 r),
)

pub recorded_strict : (log : Log) → CallsFit log → (chosen : List Pos) → All (Counted log) chosen → (cells : List Bool) → Cells log chosen cells
    → IsStrictBelow (length chosen) (recorded_at cells (length chosen))
recorded_strict log fit chosen all cells told =
    record {
      irreflexive =
          λ a a_in.
          false_from_ne_true (recorded_at cells (length chosen) a a)
          (λ e. never_itself log fit (position chosen a) (counted_at log chosen all a a_in) ((recorded_order log fit chosen all cells told a a a_in a_in).0 e));
      transitive =
          λ a b c a_in b_in c_in e f.
          (recorded_order log fit chosen all cells told a c a_in c_in).1
          (recorded_then log (position chosen a) (position chosen b) (position chosen c)
          ((recorded_order log fit chosen all cells told a b a_in b_in).0 e) ((recorded_order log fit chosen all cells told b c b_in c_in).0 f));
    }
