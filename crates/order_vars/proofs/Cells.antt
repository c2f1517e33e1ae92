-- Which of chosen steps is recorded to stand before which, cell by cell.
use Rattle.std.proofs.Common.{◌≡◌, ◌↔◌, ℕ, ◌<◌, ◌≤◌, ◌+◌, ◌*◌, ◌/◌, ◌%◌, ◌⊎◌, Bool, true, false, List, [], ◌∷◌, ◌++◌, length, get_or, refl, sym, ◌∙◌, ap, subst, inl, inr, arith}
use Rattle.std.specs.Prelude.{All}
use Rattle.std.proofs.Math.ListN.{get_or-append}
use Rattle.std.proofs.Math.Seq.{get_or-append_seam}
use Rattle.std.proofs.lemmas.Nat.{div-mul-add, mod-mul-add, div_below, mod_below}
use Rattle.std.proofs.lemmas.List.{length-append}
use Rattle.odr_log.specs.declared.log.Log.{Log}
use Rattle.odr_log.specs.declared.log.Pos.{Pos}
use Rattle.rv_model.specs.RecordedOrder.{Counted, RecordedOrder}
use Rattle.happens_before.specs.declared.table.ThreadCalls.{ThreadCalls}
use Rattle.happens_before.specs.Table.{IsOrderOf}
use Rattle.order_clauses.proofs.Counts.{split-below}
use Rattle.order_clauses.proofs.Numbered.{some_column}
use Rattle.order_clauses.proofs.Places.{place_within}
use Rattle.order_vars.specs.Chosen.{position}

-- a truth value says whether the steps of a cell's row and column are recorded so
abbrev pub Says : List ThreadCalls → List Pos → Bool → ℕ → Type 0
Says order chosen b m =
    (log : Log) → IsOrderOf order log → All (Counted log) chosen
    → (b ≡ true) ↔ RecordedOrder log (position chosen (m / length chosen)) (position chosen (m % length chosen))

pub record AreCells (order : List ThreadCalls) (chosen : List Pos) (cells : List Bool) (upto : ℕ) : Type 0 where
  pub counted : length cells ≡ upto
  pub bounded : upto ≤ length chosen * length chosen
  pub said : (m : ℕ) → m < upto → Says order chosen (get_or cells m false) m

pub cells_none : (order : List ThreadCalls) (chosen : List Pos) → AreCells order chosen [] 0
cells_none order chosen = record { counted = refl; bounded = omega arith; said = λ m h. absurd (omega (arith, h)) }

pub cells_more : (order : List ThreadCalls) (chosen : List Pos) (cells : List Bool) (b : Bool) (k : ℕ) → k < length chosen * length chosen
    → Says order chosen b k → AreCells order chosen cells k → AreCells order chosen (cells ++ b ∷ []) (k + 1)
cells_more order chosen cells b k below says are =
    record {
      counted = length-append cells (b ∷ []) ∙ ap (λ (n : ℕ). n + 1) are.counted;
      bounded = omega (arith, below);
      said = λ m h. go m (split-below m k (omega (arith, h)));
    }
  where
    last : get_or (cells ++ b ∷ []) k false ≡ b
    last = ap (λ (n : ℕ). get_or (cells ++ b ∷ []) n false) (sym are.counted) ∙ get_or-append_seam cells b [] false

    go : (m : ℕ) → (m < k) ⊎ (m ≡ k) → Says order chosen (get_or (cells ++ b ∷ []) m false) m
    go m (inl h) =
        subst (λ (t : Bool). Says order chosen t m)
        (sym (get_or-append cells (b ∷ []) false m (subst (λ (n : ℕ). m < n) (sym are.counted) h))) (are.said m h)
    go m (inr e) =
        subst (λ (n : ℕ). Says order chosen (get_or (cells ++ b ∷ []) n false) n) (sym e)
        (subst (λ (t : Bool). Says order chosen t k) (sym last) says)

pub cells_all : (order : List ThreadCalls) (chosen : List Pos) (cells : List Bool) (upto : ℕ) → length chosen * length chosen ≤ upto
    → AreCells order chosen cells upto → (log : Log) → IsOrderOf order log → All (Counted log) chosen → (i j : ℕ) → i < length chosen → j < length chosen
    → (get_or cells (i * length chosen + j) false ≡ true) ↔ RecordedOrder log (position chosen i) (position chosen j)
cells_all order chosen cells upto done are log is_order all i j i_in j_in =
    let n : ℕ = length chosen in
    let m : ℕ = i * n + j in
    subst (λ (x : ℕ). (get_or cells m false ≡ true) ↔ RecordedOrder log (position chosen x) (position chosen j)) (div-mul-add i n j j_in)
    (subst (λ (y : ℕ). (get_or cells m false ≡ true) ↔ RecordedOrder log (position chosen (m / n)) (position chosen y)) (mod-mul-add i n j j_in)
    (are.said m (omega (arith, place_within n i j i_in j_in, done)) log is_order all))

-- the next cell, by what the order says of its row and column
pub cells_push : (order : List ThreadCalls) (chosen : List Pos) (cells pushed : List Bool) (b : Bool) (k : ℕ) → k < length chosen * length chosen
    → ((log : Log) → IsOrderOf order log → Counted log (position chosen (k / length chosen)) → Counted log (position chosen (k % length chosen))
    → (b ≡ true) ↔ RecordedOrder log (position chosen (k / length chosen)) (position chosen (k % length chosen)))
    → pushed ≡ cells ++ b ∷ [] → AreCells order chosen cells k → AreCells order chosen pushed (k + 1)
cells_push order chosen cells pushed b k below told is are =
    subst (λ (bs : List Bool). AreCells order chosen bs (k + 1)) (sym is)
    (cells_more order chosen cells b k below
    (λ log is_order all.
    told log is_order (all (k / n) (record { thread = 0; step = 0 }) (div_below k n n some below))
    (all (k % n) (record { thread = 0; step = 0 }) (mod_below k n some))) are)
  where
    n : ℕ
    n = length chosen

    some : 0 < n
    some = some_column n k below
