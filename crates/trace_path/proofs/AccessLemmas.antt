-- How many accesses places have, one place and one thread more at a time.
use Rattle.std.specs.Prelude.{◌≡◌, ℕ, suc, ◌+◌, Bool, true, false, cond, List, [], ◌∷◌, ◌++◌, length}
use Rattle.std.proofs.Common.{refl, sym, ◌∙◌, ap, arith}
use Rattle.std.proofs.lemmas.List.{length-append, append-nil}
use Rattle.odr_log.specs.declared.log.Pos.{Pos}
use Rattle.rv_model.specs.declared.state.Note.{Note}
use Rattle.rv_model.specs.declared.walk.Place.{Place}
use Rattle.rv_model.specs.Accesses.{is_access, accesses_from, accesses_by}

counted : (b : Bool) (at : Pos) (others : List Pos) → length (cond b (at ∷ others) others) ≡ cond b 1 0 + length others
counted true at others = let e : suc (length others) ≡ 1 + length others = omega arith in e
counted false at others = omega arith

abbrev pos_of : ℕ → ℕ → Pos
pos_of thread step = record { thread = thread; step = step }

count_first : (thread step : ℕ) (place : Place) (places : List Place) (shown : Note) (notes : List Note)
    → length (accesses_from thread step (place ∷ places) (shown ∷ notes)) ≡ cond (is_access place.instr shown) 1 0 + length (accesses_from thread (step + 1) places notes)
count_first thread step place places shown notes = counted (is_access place.instr shown) (pos_of thread step) (accesses_from thread (step + 1) places notes)

pub accesses_any : (thread other step from : ℕ) (places : List Place) (notes : List Note)
    → length (accesses_from thread step places notes) ≡ length (accesses_from other from places notes)
accesses_any thread other step from [] notes = refl
accesses_any thread other step from (place ∷ places) [] = refl
accesses_any thread other step from (place ∷ places) (shown ∷ notes) =
    count_first thread step place places shown notes
    ∙ ap (λ (n : ℕ). cond (is_access place.instr shown) 1 0 + n) (accesses_any thread other (step + 1) (from + 1) places notes)
    ∙ sym (count_first other from place places shown notes)

pub accesses_more : (thread step : ℕ) (places : List Place) (notes : List Note) (place : Place) (shown : Note) → length places ≡ length notes
    → length (accesses_from thread step (places ++ place ∷ []) (notes ++ shown ∷ []))
    ≡ length (accesses_from thread step places notes) + cond (is_access place.instr shown) 1 0
accesses_more thread step [] [] place shown e =
    let one : length (accesses_from thread step (place ∷ []) (shown ∷ [])) ≡ cond (is_access place.instr shown) 1 0 + 0 = count_first thread step place [] shown [] in omega arith
accesses_more thread step (p ∷ ps) (n ∷ ns) place shown e =
    let all : length (accesses_from thread step ((p ∷ ps) ++ place ∷ []) ((n ∷ ns) ++ shown ∷ []))
    ≡ cond (is_access p.instr n) 1 0 + length (accesses_from thread (step + 1) (ps ++ place ∷ []) (ns ++ shown ∷ [])) =
    count_first thread step p (ps ++ place ∷ []) n (ns ++ shown ∷ []) in
    let front : length (accesses_from thread step (p ∷ ps) (n ∷ ns)) ≡ cond (is_access p.instr n) 1 0 + length (accesses_from thread (step + 1) ps ns) =
    count_first thread step p ps n ns in
    let later : length (accesses_from thread (step + 1) (ps ++ place ∷ []) (ns ++ shown ∷ [])) ≡ length (accesses_from thread (step + 1) ps ns) + cond (is_access place.instr shown) 1 0 =
    accesses_more thread (step + 1) ps ns place shown (let h : suc (length ps) ≡ suc (length ns) = e in omega arith) in
    all ∙ (let sum : cond (is_access p.instr n) 1 0 + length (accesses_from thread (step + 1) (ps ++ place ∷ []) (ns ++ shown ∷ []))
    ≡ length (accesses_from thread step (p ∷ ps) (n ∷ ns)) + cond (is_access place.instr shown) 1 0 = omega arith in sum)
accesses_more thread step [] (n ∷ ns) place shown e = absurd (let h : 0 ≡ suc (length ns) = e in omega arith)
accesses_more thread step (p ∷ ps) [] place shown e = absurd (let h : suc (length ps) ≡ 0 = e in omega arith)

pub threads_more : (thread other : ℕ) (each : List (List Place)) (all : List (List Note)) (places : List Place) (notes : List Note) → length each ≡ length all
    → length (accesses_by thread (each ++ places ∷ []) (all ++ notes ∷ [])) ≡ length (accesses_by thread each all) + length (accesses_from other 0 places notes)
threads_more thread other [] [] places notes e =
    let one : length (accesses_from thread 0 places notes ++ []) ≡ length (accesses_from thread 0 places notes) = ap length (append-nil (accesses_from thread 0 places notes)) in
    let same : length (accesses_from thread 0 places notes) ≡ length (accesses_from other 0 places notes) = accesses_any thread other 0 0 places notes in
    one ∙ (let sum : length (accesses_from thread 0 places notes) ≡ 0 + length (accesses_from other 0 places notes) = omega arith in sum)
threads_more thread other (p ∷ ps) (n ∷ ns) places notes e =
    let first : List Pos = accesses_from thread 0 p n in
    let all : length (first ++ accesses_by (thread + 1) (ps ++ places ∷ []) (ns ++ notes ∷ [])) ≡ length first + length (accesses_by (thread + 1) (ps ++ places ∷ []) (ns ++ notes ∷ [])) =
    length-append first (accesses_by (thread + 1) (ps ++ places ∷ []) (ns ++ notes ∷ [])) in
    let front : length (first ++ accesses_by (thread + 1) ps ns) ≡ length first + length (accesses_by (thread + 1) ps ns) = length-append first (accesses_by (thread + 1) ps ns) in
    let later : length (accesses_by (thread + 1) (ps ++ places ∷ []) (ns ++ notes ∷ [])) ≡ length (accesses_by (thread + 1) ps ns) + length (accesses_from other 0 places notes) =
    threads_more (thread + 1) other ps ns places notes (let h : suc (length ps) ≡ suc (length ns) = e in omega arith) in
    all ∙ (let sum : length first + length (accesses_by (thread + 1) (ps ++ places ∷ []) (ns ++ notes ∷ []))
    ≡ length (first ++ accesses_by (thread + 1) ps ns) + length (accesses_from other 0 places notes) = omega arith in sum)
threads_more thread other [] (n ∷ ns) places notes e = absurd (let h : 0 ≡ suc (length ns) = e in omega arith)
threads_more thread other (p ∷ ps) [] places notes e = absurd (let h : suc (length ps) ≡ 0 = e in omega arith)
