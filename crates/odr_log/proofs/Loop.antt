-- Reading values one after the other, as a loop does.
use Rattle.std.proofs.Common.{◌≡◌, ℕ, suc, ◌-◌, ◌+◌, ◌≤◌, ◌<◌, List, [], ◌∷◌, ◌++◌, Result, Ok, Err, refl, sym, ap, ◌∙◌, append_assoc, arith}
use Rattle.std.proofs.lemmas.List.{append-nil}
use Rattle.odr_log.specs.declared.stop.Stop.{Stop}
use Rattle.odr_log.specs.declared.stop.Stop.TheVariants as stop
use Rattle.odr_log.specs.Reading.{◌>>=◌, Stops, list_at}

-- what was read before, and what is still read
abbrev pub with_front : {T : Type 0} → List T → Result (List T × List ℕ) ℕ → Result (List T × List ℕ) ℕ
with_front front read = read >>= λ x. Ok (front ++ x.0, x.1)

regroup : {T : Type 0} (front : List T) (first : T) (read : Result (List T × List ℕ) ℕ) → with_front front (read >>= λ x. Ok (first ∷ x.0, x.1)) ≡ with_front (front ++ first ∷ []) read
regroup {T} front first (Ok x) = ap (λ (values : List T). Ok (values, x.1)) (simp append_assoc)
regroup front first (Err left) = refl

pub goes_on : {T : Type 0} (value_at : List ℕ → Result (T × List ℕ) ℕ) (front : List T) (count i : ℕ) (bytes : List ℕ) (first : T) (after : List ℕ) (total : Result (List T × List ℕ) ℕ)
    → i < count → value_at bytes ≡ Ok (first, after)
    → with_front front (list_at value_at (count - i) bytes) ≡ total → with_front (front ++ first ∷ []) (list_at value_at (count - (i + 1)) after) ≡ total
unfolding list_at
goes_on value_at front count i bytes first after total lt h so_far =
    let k : count - i ≡ suc (count - (i + 1)) = omega arith in
    let one : with_front front (list_at value_at (count - i) bytes) ≡ with_front (front ++ first ∷ []) (list_at value_at (count - (i + 1)) after) =
    rw (k, h) (regroup front first (list_at value_at (count - (i + 1)) after)) in
    sym one ∙ so_far

pub ends : {T : Type 0} (value_at : List ℕ → Result (T × List ℕ) ℕ) (e : Stop) (front : List T) (count i : ℕ) (bytes : List ℕ) (total : Result (List T × List ℕ) ℕ)
    → i < count → Stops e (value_at bytes) → with_front front (list_at value_at (count - i) bytes) ≡ total → Stops e total
unfolding list_at
ends value_at stop.Memory front count i bytes total lt h so_far = tt
ends value_at (stop.Bad left) front count i bytes total lt h so_far =
    let k : count - i ≡ suc (count - (i + 1)) = omega arith in
    let one : with_front front (list_at value_at (count - i) bytes) ≡ Err left = rw (k, h) refl in
    sym so_far ∙ one

pub is_done : {T : Type 0} (value_at : List ℕ → Result (T × List ℕ) ℕ) (front : List T) (count i : ℕ) (bytes : List ℕ) (total : Result (List T × List ℕ) ℕ)
    → count ≤ i → with_front front (list_at value_at (count - i) bytes) ≡ total → total ≡ Ok (front, bytes)
unfolding list_at
is_done {T} value_at front count i bytes total le so_far =
    let k : count - i ≡ 0 = omega arith in
    let one : with_front front (list_at value_at (count - i) bytes) ≡ Ok (front, bytes) = rw k (ap (λ (values : List T). Ok (values, bytes)) (append-nil front)) in
    sym so_far ∙ one
