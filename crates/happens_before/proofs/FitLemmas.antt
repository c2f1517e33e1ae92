-- Calls at rising steps, and the halt of the last record.
use Rattle.std.specs.Prelude.{◌≡◌, ◌≢◌, ℕ, zero, suc, ◌+◌, ◌<◌, ◌≤◌, ◌⊎◌, List, [], ◌∷◌, length, slice_set, is_some, AllPairs}
use Rattle.std.specs.List.{list_all}
use Rattle.std.proofs.Common.{sym, ◌∙◌, ap, subst, inl, inr, arith, get_or}
use Rattle.std.proofs.lemmas.Bool.{cases_eq}
use Rattle.std.proofs.lemmas.List.{get_or_read, length-set, get_or-set_same, get_or-set_other}
use Rattle.odr_log.specs.declared.log.CallRec.{CallRec}
use Rattle.rv_model.specs.declared.state.Note.TheVariants as note
use Rattle.rv_model.specs.Step.{halt_then}
use Rattle.odr_log.specs.declared.log.Log.{Log}
use Rattle.odr_log.specs.Tape.{tape_of}
use Rattle.rv_model.specs.declared.state.Calls.{Calls}
use Rattle.rv_model.specs.Calls.{opening_calls, made}
use Rattle.rv_model.specs.CallsFit.{Pass, final_calls, final_halt, EndFits, CallsFit}
use Rattle.happens_before.specs.declared.shared.Shared.{Shared}
use Rattle.happens_before.specs.Shared.{with_tape, KeepsOrder, EndsSo}

-- The calls of each thread rise among the first i, and for each thread there stands the least step that a next call may
-- have: 0, or that after its last call.
pub record Rises (records : List CallRec) (least : List ℕ) (i : ℕ) : Type 0 where
  pub long : length least ≡ 256
  pub rising : (j k : ℕ) (d : CallRec) → j < k → k < i → (get_or records j d).tid ≡ (get_or records k d).tid → (get_or records j d).at < (get_or records k d).at
  pub below : (k : ℕ) (d : CallRec) → k < i → (get_or records k d).at < get_or least (get_or records k d).tid 0
  pub met : (t : ℕ) → t < 256
      → (get_or least t 0 ≡ 0) ⊎ ((k : ℕ) × (k < i) × ((d : CallRec) → ((get_or records k d).tid ≡ t) × (get_or least t 0 ≡ (get_or records k d).at + 1)))

pub rises_none : (records : List CallRec) (least : List ℕ) → length least ≡ 256 → ((t : ℕ) → t < 256 → get_or least t 0 ≡ 0) → Rises records least 0
rises_none records least long zeros = record {
  long = long;
  rising = λ j k d less never. absurd (omega (arith, never));
  below = λ k d never. absurd (omega (arith, never));
  met = λ t within. inl (zeros t within);
}

module _ (records : List CallRec) (least : List ℕ) (i : ℕ) (x : CallRec) (within : i < length records) (at : x ≡ get_or records i x) (so_far : Rises records least i) where
  here : (d : CallRec) → x ≡ get_or records i d
  here d = get_or_read records i x within at d

  pub rises_not : x.tid < 256 → x.at < get_or least x.tid 0 → AllPairs (λ earlier later. earlier.tid ≡ later.tid → earlier.at < later.at) records → ⊥
  rises_not room less pairs =
      elim (so_far.met x.tid room) [
        | inl zero_there ↦ omega (arith, less, zero_there)
        | inr seen ↦
            let tid : (get_or records seen.0 x).tid ≡ (get_or records i x).tid = (seen.2 x).0 ∙ ap (λ (r : CallRec). r.tid) at in
            let rises : (get_or records seen.0 x).at < (get_or records i x).at = pairs seen.0 i x seen.1 within tid in
            omega (arith, less, rises, (seen.2 x).1, ap (λ (r : CallRec). r.at) at)
      ]

  module _ (room : x.tid < 256) (more : get_or least x.tid 0 ≤ x.at) where
    after : List ℕ
    after = slice_set least x.tid (x.at + 1)

    same_there : get_or after x.tid 0 ≡ x.at + 1
    unfolding after
    same_there = get_or-set_same least x.tid (x.at + 1) 0 (omega (arith, so_far.long, room))

    other_there : (t : ℕ) → t ≢ x.tid → get_or after t 0 ≡ get_or least t 0
    unfolding after
    other_there t ne = get_or-set_other least x.tid t (x.at + 1) 0 ne

    rising_more : (j k : ℕ) (d : CallRec) → j < k → k < i + 1 → (get_or records j d).tid ≡ (get_or records k d).tid → (get_or records j d).at < (get_or records k d).at
    rising_more j k d less upto same =
        elim (cases_eq k i) [
          | inl last ↦
              let at_k : x ≡ get_or records k d = here d ∙ ap (λ (n : ℕ). get_or records n d) (sym last) in
              let tid : (get_or records j d).tid ≡ x.tid = same ∙ sym (ap (λ (r : CallRec). r.tid) at_k) in
              omega (arith, so_far.below j d (omega (arith, less, last)), ap (λ (n : ℕ). get_or least n 0) tid, more, ap (λ (r : CallRec). r.at) at_k)
          | inr earlier ↦ so_far.rising j k d less (omega (arith, upto, earlier)) same
        ]

    below_more : (k : ℕ) (d : CallRec) → k < i + 1 → (get_or records k d).at < get_or after (get_or records k d).tid 0
    below_more k d upto =
        elim (cases_eq k i) [
          | inl last ↦
              let at_k : x ≡ get_or records k d = here d ∙ ap (λ (n : ℕ). get_or records n d) (sym last) in
              let there : get_or after (get_or records k d).tid 0 ≡ x.at + 1 = ap (λ (r : CallRec). get_or after r.tid 0) (sym at_k) ∙ same_there in
              omega (arith, there, ap (λ (r : CallRec). r.at) at_k)
          | inr earlier ↦
              let old : (get_or records k d).at < get_or least (get_or records k d).tid 0 = so_far.below k d (omega (arith, upto, earlier)) in
              elim (cases_eq (get_or records k d).tid x.tid) [
                | inl same ↦ omega (arith, old, ap (λ (n : ℕ). get_or least n 0) same, ap (λ (n : ℕ). get_or after n 0) same, same_there, more)
                | inr ne ↦ omega (arith, old, other_there (get_or records k d).tid ne)
              ]
        ]

    met_more : (t : ℕ) → t < 256
        → (get_or after t 0 ≡ 0) ⊎ ((k : ℕ) × (k < i + 1) × ((d : CallRec) → ((get_or records k d).tid ≡ t) × (get_or after t 0 ≡ (get_or records k d).at + 1)))
    met_more t t_room =
        elim (cases_eq t x.tid) [
          | inl same ↦ inr (
            i,
            omega arith,
            λ d. (
              sym (ap (λ (r : CallRec). r.tid) (here d)) ∙ sym same,
              ap (λ (n : ℕ). get_or after n 0) same ∙ same_there ∙ ap (λ (r : CallRec). r.at + 1) (here d),
            ),
          )
          | inr ne ↦ elim (so_far.met t t_room) [
            | inl zero_there ↦ inl (other_there t ne ∙ zero_there)
            | inr seen ↦ inr (seen.0, omega (arith, seen.1), λ d. ((seen.2 d).0, other_there t ne ∙ (seen.2 d).1))
          ]
        ]

    pub rises_more : Rises records (slice_set least x.tid (x.at + 1)) (i + 1)
    unfolding after
    rises_more = record { long = length-set least x.tid (x.at + 1) ∙ so_far.long; rising = rising_more; below = below_more; met = met_more }

pub rises_all : (records : List CallRec) (least : List ℕ) (i : ℕ) → length records ≤ i → Rises records least i
    → AllPairs (λ earlier later. earlier.tid ≡ later.tid → earlier.at < later.at) records
rises_all records least i past so_far = λ j k d less within. so_far.rising j k d less (omega (arith, past, within))

-- the halt of the last record
pub last_halt : (records : List CallRec) (i : ℕ) (x : CallRec) → i + 1 ≡ length records → x ≡ get_or records i x
    → final_halt records ≡ halt_then x.tid (note.Called x.call)
last_halt [] i x count at = absurd (omega (arith, count))
last_halt (y ∷ []) zero x count at = ap (λ (r : CallRec). halt_then r.tid (note.Called r.call)) (sym at)
last_halt (y ∷ []) (suc i) x count at = absurd (omega (arith, count))
last_halt (y ∷ z ∷ zs) zero x count at = absurd (omega (arith, count))
last_halt (y ∷ z ∷ zs) (suc i) x count at = last_halt (z ∷ zs) i x (omega (arith, count)) at

-- the parts of "calls fit"

pub fit_from : (log : Log) (s : Shared) → Pass (opening_calls (tape_of log)) log.calls → with_tape s [] ≡ final_calls log
    → KeepsOrder log.calls → EndsSo log s → CallsFit log
fit_from log s pass final keeps ends = record {
  pass = pass;
  rising = keeps.rising;
  exit_last = keeps.exit_last;
  threads = ap made (sym final) ∙ ends.threads;
  end = subst (λ (c : Calls). EndFits (final_halt log.calls) (list_all is_some c.ended) log.end) final ends.end;
}

pub fit_keeps : (log : Log) → CallsFit log → KeepsOrder log.calls
fit_keeps log fit = record { rising = fit.rising; exit_last = fit.exit_last }

pub fit_ends : (log : Log) (s : Shared) → with_tape s [] ≡ final_calls log → CallsFit log → EndsSo log s
fit_ends log s final fit = record {
  threads = ap made final ∙ fit.threads;
  end = subst (λ (c : Calls). EndFits (final_halt log.calls) (list_all is_some c.ended) log.end) (sym final) fit.end;
}
