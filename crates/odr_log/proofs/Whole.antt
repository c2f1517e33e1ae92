-- What reading all bytes tells: the log that has them, or where they stop to be one.
use Rattle.std.proofs.Common.{◌≡◌, ◌≢◌, ℕ, ◌+◌, ◌-◌, ◌<◌, ◌≤◌, Bool, true, false, cond, eqb, List, [], ◌∷◌, ◌++◌, length, take, drop, All, Result, Ok, Err, refl, sym, ap, subst, ◌∙◌, append_assoc, arith, inl, inr}
use Rattle.std.proofs.lemmas.Bool.{eqb-true, eqb-false, cases_order}
use Rattle.std.proofs.lemmas.List.{append-nil, nil_from_length, length-append, take_at, take-append-le, take-append-drop}
use Rattle.odr_log.specs.declared.log.Log.{Log}
use Rattle.odr_log.specs.Grammar.{log_bytes, IsInGrammar}
use Rattle.odr_log.specs.Faults.{IsSomeLog, BeginsLog, IsFirstWrong, FirstBad}
use Rattle.odr_log.specs.Reading.{◌>>=◌, log_at, whole_at}
use Rattle.odr_log.proofs.Fields.{bind_ok}
use Rattle.odr_log.proofs.Readers.{IsBytes, Stuck, one_text}
use Rattle.odr_log.proofs.Threads.{below-from_All}
use Rattle.odr_log.proofs.Logs.{log-reader}

-- ---- the law of prefixes

-- no log's bytes begin another's, and no two logs have the same bytes
pub no_prefix : (a b : Log) (rest : List ℕ) → IsInGrammar a → IsInGrammar b → log_bytes b ≡ log_bytes a ++ rest → (a ≡ b) × (rest ≡ [])
no_prefix a b rest f g e = one_text log-reader a b rest [] f g (sym e ∙ sym (append-nil (log_bytes b)))

-- ---- the log of all bytes

pub whole-again : (log : Log) → IsInGrammar log → whole_at (log_bytes log) ≡ Ok log
unfolding whole_at
whole-again log f =
    let read : log_at (log_bytes log) ≡ Ok (log, []) = ap log_at (sym (append-nil (log_bytes log))) ∙ log-reader.again log [] f in
    rw read refl

guard : {A : Type 0} (b : Bool) (left : ℕ) (x y : A) → cond b (Ok x) (Err left) ≡ Ok y → (b ≡ true) × (x ≡ y)
guard true left x y e = (refl, cc)
guard false left x y e = absurd cc

pub whole-takes : (bytes : List ℕ) (log : Log) → IsBytes bytes → whole_at bytes ≡ Ok log → IsInGrammar log × (bytes ≡ log_bytes log)
unfolding whole_at
whole-takes bytes log fits e =
    let a = bind_ok (log_at bytes) (λ x. cond (eqb (length x.1) 0) (Ok x.0) (Err (length x.1))) log e in
    let g = guard (eqb (length a.0.1) 0) (length a.0.1) a.0.0 log a.2 in
    let took = log-reader.takes bytes a.0.0 a.0.1 fits a.1 in
    let nothing : a.0.1 ≡ [] = nil_from_length a.0.1 (eqb-true _ _ g.0) in
    let whole : bytes ≡ log_bytes a.0.0 = took.0 ∙ ap (λ rest. log_bytes a.0.0 ++ rest) nothing ∙ append-nil (log_bytes a.0.0) in
    (subst IsInGrammar g.1 took.1, whole ∙ ap log_bytes g.1)

-- ---- where the bytes stop to be a log

-- the first q + 1 of the bytes before the stop begin a log
front-begins : (front rest tail : List ℕ) (log : Log) → IsInGrammar log → log_bytes log ≡ front ++ tail → (q : ℕ) → q < length front → BeginsLog (take (q + 1) (front ++ rest))
front-begins front rest tail log grammar goes_on q lt =
    let cut : take (q + 1) (front ++ rest) ≡ take (q + 1) front = take-append-le (q + 1) front rest (omega arith) in
    let parts : front ++ tail ≡ take (q + 1) front ++ (drop (q + 1) front ++ tail) =
    ap (λ text. text ++ tail) (sym (take-append-drop (q + 1) front)) ∙ append_assoc (take (q + 1) front) (drop (q + 1) front) tail in
    (log, drop (q + 1) front ++ tail, grammar, goes_on ∙ parts ∙ ap (λ text. text ++ (drop (q + 1) front ++ tail)) (sym cut))

one_more : (front : List ℕ) (b : ℕ) (after : List ℕ) → take (length front + 1) (front ++ b ∷ after) ≡ front ++ b ∷ []
one_more front b after =
    let regrouped : front ++ b ∷ after ≡ (front ++ b ∷ []) ++ after = sym (append_assoc front (b ∷ []) after) in
    let long : length (front ++ b ∷ []) ≡ length front + 1 = length-append front (b ∷ []) in
    rw regrouped (take_at (front ++ b ∷ []) after (length front + 1) long)

-- a stop: with the byte behind front no log goes on, and where there is none the bytes are no log
pub first_bad : (bytes front rest tail : List ℕ) (left : ℕ) (log : Log) → bytes ≡ front ++ rest → length rest ≡ left → IsInGrammar log → log_bytes log ≡ front ++ tail
    → ((b : ℕ) (after : List ℕ) → rest ≡ b ∷ after → (x : Log) (others : List ℕ) → IsInGrammar x → log_bytes x ≡ front ++ (b ∷ others) → ⊥)
    → (rest ≡ [] → tail ≢ []) → FirstBad bytes (length bytes - left)
first_bad bytes front [] tail left log parts left_is grammar goes_on stops ends =
    inr (record {
      at_end = omega arith;
      log = log;
      rest = tail;
      grammar = grammar;
      goes_on = goes_on ∙ ap (λ text. text ++ tail) (sym (parts ∙ append-nil front));
      more = ends refl;
    })
first_bad bytes front (b ∷ after) tail left log parts left_is grammar goes_on stops ends =
    let long : length bytes ≡ length front + length (b ∷ after) = ap length parts ∙ length-append front (b ∷ after) in
    let place : length front ≡ length bytes - left = omega arith in
    let at_front : IsFirstWrong bytes (length front) = record {
      within = omega arith;
      before = λ q lt. subst (λ text. BeginsLog (take (q + 1) text)) (sym parts) (front-begins front (b ∷ after) tail log grammar goes_on q lt);
      wrong = λ begins.
          let cut : take (length front + 1) bytes ≡ front ++ b ∷ [] = ap (take (length front + 1)) parts ∙ one_more front b after in
          stops b after refl begins.0 begins.1 begins.2
          (begins.3 ∙ ap (λ text. text ++ begins.1) cut ∙ append_assoc front (b ∷ []) begins.1);
    } in
    inl (subst (IsFirstWrong bytes) place at_front)

stuck-bad : (bytes : List ℕ) (left : ℕ) → log_at bytes ≡ Err left → Stuck IsInGrammar log_bytes bytes left → FirstBad bytes (length bytes - left)
stuck-bad bytes left e s =
    first_bad bytes s.front s.rest s.tail left s.value s.parts s.left_is s.fits s.goes_on
    (λ b after rest_is x others f text_is. s.stops b after rest_is x [] others f (append-nil (log_bytes x) ∙ text_is))
    (λ at_end tail_is.
    let is_log : bytes ≡ log_bytes s.value ++ [] =
    s.parts ∙ ap (λ rest. s.front ++ rest) at_end ∙ append-nil s.front ∙ sym (s.goes_on ∙ ap (λ rest. s.front ++ rest) tail_is ∙ append-nil s.front) ∙ sym (append-nil (log_bytes s.value)) in
    let read : log_at bytes ≡ Ok (s.value, []) = ap log_at is_log ∙ log-reader.again s.value [] s.fits in
    absurd cc)

trailing-bad : (bytes : List ℕ) (log : Log) (rest : List ℕ) (left : ℕ) → bytes ≡ log_bytes log ++ rest → IsInGrammar log → length rest ≡ left → rest ≢ [] → FirstBad bytes (length bytes - left)
trailing-bad bytes log rest left parts grammar left_is some =
    first_bad bytes (log_bytes log) rest [] left log parts left_is grammar (sym (append-nil (log_bytes log)))
    (λ b after rest_is x others f text_is.
    let none : b ∷ others ≡ [] = (no_prefix log x (b ∷ others) grammar f text_is).1 in
    absurd cc)
    (λ at_end. absurd (some at_end))

abbrev stop : {A : Type 0} → ℕ → Result A ℕ
stop left = Err left

refused : {A : Type 0} (b : Bool) (k left : ℕ) (x : A) → cond b (Ok x) (Err k) ≡ Err left → (b ≡ false) × (k ≡ left)
refused true k left x e = absurd cc
refused false k left x e = (refl, cc)

same_left : {A : Type 0} (k left : ℕ) → stop {A = A} k ≡ stop left → k ≡ left
same_left k left e = cc

whole-cases : (bytes : List ℕ) (left : ℕ) → IsBytes bytes → (read : Result (Log × List ℕ) ℕ) → log_at bytes ≡ read
    → (read >>= λ x. cond (eqb (length x.1) 0) (Ok x.0) (Err (length x.1))) ≡ Err left → (left ≤ length bytes) × FirstBad bytes (length bytes - left)
whole-cases bytes left fits (Ok x) is e =
    let h = refused (eqb (length x.1) 0) (length x.1) left x.0 e in
    let took = log-reader.takes bytes x.0 x.1 fits is in
    let long : length bytes ≡ length (log_bytes x.0) + length x.1 = ap length took.0 ∙ length-append (log_bytes x.0) x.1 in
    let some : x.1 ≢ [] = λ nothing. eqb-false (length x.1) 0 h.0 (ap length nothing) in
    (omega (arith, h.1), trailing-bad bytes x.0 x.1 left took.0 took.1 h.1 some)
whole-cases bytes left fits (Err k) is e =
    let stopped = is ∙ ap stop (same_left {A = Log} k left e) in
    let s = log-reader.stuck bytes left fits stopped in
    let long : length bytes ≡ length s.front + length s.rest = ap length s.parts ∙ length-append s.front s.rest in
    (omega (arith, s.left_is), stuck-bad bytes left stopped s)

pub whole-stuck : (bytes : List ℕ) (left : ℕ) → IsBytes bytes → whole_at bytes ≡ Err left → (left ≤ length bytes) × FirstBad bytes (length bytes - left)
unfolding whole_at
whole-stuck bytes left fits e = whole-cases bytes left fits (log_at bytes) refl e

-- ---- the place where bytes stop to be a log is one, and they are no log

shorter-begins : (bytes rest : List ℕ) (n : ℕ) (log : Log) → IsInGrammar log → log_bytes log ≡ bytes ++ rest → BeginsLog (take n bytes)
shorter-begins bytes rest n log grammar e =
    (log, drop n bytes ++ rest, grammar, e ∙ ap (λ text. text ++ rest) (sym (take-append-drop n bytes)) ∙ append_assoc (take n bytes) (drop n bytes) rest)

pub first_bad-no_log : (bytes : List ℕ) (p : ℕ) → FirstBad bytes p → (log : Log) → IsInGrammar log → bytes ≡ log_bytes log → ⊥
first_bad-no_log bytes p (inl w) log grammar spelled = w.wrong (shorter-begins bytes [] (p + 1) log grammar (sym spelled ∙ sym (append-nil bytes)))
first_bad-no_log bytes p (inr c) log grammar spelled =
    c.more (no_prefix log c.log c.rest grammar c.grammar (c.goes_on ∙ ap (λ text. text ++ c.rest) spelled)).1

pub first_bad-one : (bytes : List ℕ) (p q : ℕ) → FirstBad bytes p → FirstBad bytes q → p ≡ q
first_bad-one bytes p q (inl a) (inl b) =
    elim (cases_order p q) [
      | inl same ↦ same
      | inr (inl lt) ↦ absurd (a.wrong (b.before p lt))
      | inr (inr gt) ↦ absurd (b.wrong (a.before q gt))
    ]
first_bad-one bytes p q (inl a) (inr b) = absurd (a.wrong (shorter-begins bytes b.rest (p + 1) b.log b.grammar b.goes_on))
first_bad-one bytes p q (inr a) (inl b) = absurd (b.wrong (shorter-begins bytes a.rest (q + 1) a.log a.grammar a.goes_on))
first_bad-one bytes p q (inr a) (inr b) = a.at_end ∙ sym b.at_end

some-cases : (bytes : List ℕ) → IsBytes bytes → (read : Result Log ℕ) → whole_at bytes ≡ read → (IsSomeLog bytes → ⊥) → (p : ℕ) × FirstBad bytes p
some-cases bytes fits (Ok log) is none = let took = whole-takes bytes log fits is in absurd (none (log, took.0, took.1))
some-cases bytes fits (Err left) is none = (length bytes - left, (whole-stuck bytes left fits is).1)

pub some_first_bad : (bytes : List ℕ) → All (λ byte. byte < 256) bytes → (IsSomeLog bytes → ⊥) → (p : ℕ) × FirstBad bytes p
some_first_bad bytes all none = some-cases bytes (below-from_All bytes all) (whole_at bytes) refl none
