-- The walk through the records with the shared state that lacks the tape: one record more.
use Rattle.std.specs.Prelude.{◌≡◌, ◌↔◌, ℕ, ◌+◌, ◌<◌, ◌≤◌, min, Bool, true, false, ◌||◌, List, [], ◌∷◌, ◌++◌, length, take, drop, nat_lt, slice_get, Option, Some, None, IsTrue, refl}
use Rattle.std.specs.List.{fold}
use Rattle.std.proofs.Common.{sym, ◌∙◌, ap, subst, inl, inr, arith, get_or}
use Rattle.std.proofs.lemmas.Bool.{cases_lt, ltb-true, lt-ltb, false≢true, or_cases, or_left, or_right}
use Rattle.std.proofs.lemmas.Option.{slice_get_within, get_or_from_slice_get, slice_get-get_or}
use Rattle.std.proofs.lemmas.List.{append-nil, length-append, length-take, take_all, take_at, nil_from_length, at_drop_more, drop_all}
use Rattle.odr_log.specs.declared.log.Call.{Call}
use Rattle.odr_log.specs.declared.log.Call.TheVariants as call
use Rattle.odr_log.specs.declared.log.CallRec.{CallRec}
use Rattle.odr_log.specs.Tape.{read_by}
use Rattle.rv_model.specs.declared.state.Calls.{Calls}
use Rattle.rv_model.specs.declared.hearing.Asked.{Asked}
use Rattle.rv_model.specs.declared.hearing.Asked.TheVariants as asked
use Rattle.rv_model.specs.declared.hearing.Reply.{Reply}
use Rattle.rv_model.specs.Calls.{no_reply, opening_calls, waits, reply_to, asked_in}
use Rattle.rv_model.specs.CallsFit.{reply_in, IsPossible, after_record, FitsRecord, Pass}
use Rattle.happens_before.specs.declared.shared.Shared.{Shared}
use Rattle.happens_before.specs.Shared.{with_tape, IsAnswered, falls_short, FitsCall, FitsNow, tape_in, calls_in}

-- a read meets a front of the tape: no more than it wants, and all that is left where it falls short
front_split : (want : ℕ) (bytes later : List ℕ) → (take want (bytes ++ later) ≡ bytes) ↔ ((take want bytes ≡ bytes) × (nat_lt (length bytes) want ≡ true → later ≡ []))
front_split want bytes later = (
  λ e.
      let count : min want (length bytes + length later) ≡ length bytes =
      sym (ap (min want) (length-append bytes later)) ∙ sym (length-take want (bytes ++ later)) ∙ ap length e in
      (take_all want bytes (omega (arith, count)), λ short. nil_from_length later (omega (arith, count, ltb-true (length bytes) want short))),
  λ p.
      let count : min want (length bytes) ≡ length bytes = sym (length-take want bytes) ∙ ap length p.0 in
      elim (cases_lt (length bytes) want) [
        | inl short ↦ ap (λ (l : List ℕ). take want (bytes ++ l)) (p.1 (lt-ltb (length bytes) want short)) ∙ ap (take want) (append-nil bytes) ∙ p.0
        | inr full ↦ take_at bytes later want (omega (arith, count, full))
      ],
)

with_bytes : List ℕ → Reply
with_bytes bytes = record no_reply { bytes = bytes }

reply_split : (s : Shared) (tid : ℕ) (made : Call) (later : List ℕ)
    → (reply_to (with_tape s (read_by made ++ later)) tid (asked_in made) ≡ reply_in made)
    ↔ ((reply_to (with_tape s (read_by made)) tid (asked_in made) ≡ reply_in made) × (falls_short made ≡ true → later ≡ []))
unfolding with_bytes
reply_split s tid (call.Read want bytes) later =
    let split : (take want (bytes ++ later) ≡ bytes) ↔ ((take want bytes ≡ bytes) × (nat_lt (length bytes) want ≡ true → later ≡ [])) = front_split want bytes later in (
      λ e. let parts : (take want bytes ≡ bytes) × (nat_lt (length bytes) want ≡ true → later ≡ []) = split.0 (ap (λ (r : Reply). r.bytes) e) in (ap with_bytes parts.0, parts.1),
      λ p. ap with_bytes (split.1 (ap (λ (r : Reply). r.bytes) p.0, p.1)),
    )
reply_split s tid other later = (λ e. (e, λ short. absurd (false≢true short)), λ p. p.0)

same_waits : (s : Shared) (a b : List ℕ) (tid : ℕ) (o : Option Asked) → waits (with_tape s a) tid o ≡ waits (with_tape s b) tid o
same_waits s a b tid None = refl
same_waits s a b tid (Some (asked.Spawn entry)) = refl
same_waits s a b tid (Some (asked.Join target)) = refl
same_waits s a b tid (Some (asked.Lock mutex)) = refl
same_waits s a b tid (Some (asked.Unlock mutex)) = refl
same_waits s a b tid (Some (asked.TryLock mutex)) = refl
same_waits s a b tid (Some (asked.Read want)) = refl

-- a record fits a tape that begins with what it read exactly where it fits that alone, and the rest is empty where it fell short
fits_split : (s : Shared) (r : CallRec) (later : List ℕ)
    → FitsRecord (with_tape s (read_by r.call ++ later)) r ↔ (FitsRecord (with_tape s (read_by r.call)) r × (falls_short r.call ≡ true → later ≡ []))
fits_split s r later = (
  λ f.
      let parts : (reply_to (with_tape s (read_by r.call)) r.tid (asked_in r.call) ≡ reply_in r.call) × (falls_short r.call ≡ true → later ≡ []) =
      (reply_split s r.tid r.call later).0 f.answered in (
        record {
          exists = f.exists;
          live = f.live;
          ready = same_waits s (read_by r.call) (read_by r.call ++ later) r.tid (asked_in r.call) ∙ f.ready;
          answered = parts.0;
          possible = f.possible;
        },
        parts.1,
      ),
  λ p. record {
    exists = p.0.exists;
    live = p.0.live;
    ready = same_waits s (read_by r.call ++ later) (read_by r.call) r.tid (asked_in r.call) ∙ p.0.ready;
    answered = (reply_split s r.tid r.call later).1 (p.0.answered, p.1);
    possible = p.0.possible;
  },
)

-- what is left to pass: the records, over the tape that they read, which is empty where the tape is dry
abbrev pub Rest : Shared → List CallRec → Type 0
Rest s records = Pass (with_tape s (tape_in records)) records × (s.dry ≡ true → tape_in records ≡ [])

front_nil : (xs ys : List ℕ) → xs ++ ys ≡ [] → xs ≡ []
front_nil [] ys e = refl
front_nil (x ∷ xs) ys e = absurd (let f : x ∷ (xs ++ ys) ≡ [] = e in cc)

back_nil : (xs ys : List ℕ) → xs ++ ys ≡ [] → ys ≡ []
back_nil [] ys e = e
back_nil (x ∷ xs) ys e = absurd (let f : x ∷ (xs ++ ys) ≡ [] = e in cc)

both_nil : (xs ys : List ℕ) → xs ≡ [] → ys ≡ [] → xs ++ ys ≡ []
both_nil xs ys a b = ap (λ (l : List ℕ). l ++ ys) a ∙ b

pub rest_fits : (s : Shared) (r : CallRec) (later : List CallRec) → Rest s (r ∷ later) → FitsNow s r
rest_fits s r later rest =
    (((fits_split s r (tape_in later)).0 rest.0.0).0, λ dry. front_nil (read_by r.call) (tape_in later) (rest.1 dry))

pub rest_more : (s t : Shared) (r : CallRec) (later : List CallRec) → FitsNow s r
    → ((tape : List ℕ) → after_record (with_tape s (read_by r.call ++ tape)) r ≡ with_tape t tape)
    → t.dry ≡ (s.dry || falls_short r.call)
    → Rest s (r ∷ later) ↔ Rest t later
rest_more s t r later fits after dry = (
  λ rest. (
    subst (λ (c : Calls). Pass c later) (after (tape_in later)) rest.0.1,
    λ e. elim (or_cases s.dry (falls_short r.call) (sym dry ∙ e)) [
      | inl was ↦ back_nil (read_by r.call) (tape_in later) (rest.1 was)
      | inr short ↦ ((fits_split s r (tape_in later)).0 rest.0.0).1 short
    ],
  ),
  λ rest. (
    (
      (fits_split s r (tape_in later)).1 (fits.0, λ short. rest.1 (dry ∙ or_right s.dry (falls_short r.call) short)),
      subst (λ (c : Calls). Pass c later) (sym (after (tape_in later))) rest.0,
    ),
    λ was. both_nil (read_by r.call) (tape_in later) (fits.1 was) (rest.1 (dry ∙ or_left s.dry (falls_short r.call) was)),
  ),
)

-- a call that reads nothing and is possible fits where it is answered so
pub answered_fits : (s : Shared) (tid : ℕ) (made other : Call) (b : Bool) → made ≡ other → IsPossible other → (s.dry ≡ true → read_by other ≡ [])
    → (IsTrue b ↔ IsAnswered (with_tape s (read_by other)) tid other) → IsTrue b ↔ FitsCall s tid made
answered_fits s tid made other b same possible dry e = (
  λ t. subst (λ (c : Call). FitsCall s tid c) (sym same) (record { answered = e.0 t; possible = possible; dry = dry }),
  λ f. let g : FitsCall s tid other = subst (λ (c : Call). FitsCall s tid c) same f in e.1 g.answered,
)

-- a record fits where its thread is live and its call fits

pub fits_live : (s : Shared) (r : CallRec) → FitsNow s r → slice_get s.ended r.tid ≡ Some None
fits_live s r fits = slice_get-get_or s.ended r.tid None fits.0.exists ∙ ap (λ (o : Option ℕ). Some o) fits.0.live

pub fits_made : (s : Shared) (r : CallRec) → FitsNow s r → FitsCall s r.tid r.call
fits_made s r fits = record { answered = (fits.0.ready, fits.0.answered); possible = fits.0.possible; dry = fits.1 }

pub fits_both : (s : Shared) (r : CallRec) → slice_get s.ended r.tid ≡ Some None → FitsCall s r.tid r.call → FitsNow s r
fits_both s r live made = (
  record {
    exists = slice_get_within s.ended r.tid None live;
    live = get_or_from_slice_get s.ended r.tid None None live;
    ready = made.answered.0;
    answered = made.answered.1;
    possible = made.possible;
  },
  made.dry,
)

-- the walk so far: what passes all is what passes the rest, and so is what it leaves
pub record Walked (all : List CallRec) (s : Shared) (i : ℕ) : Type 0 where
  pub pass : Pass (opening_calls (tape_in all)) all ↔ Rest s (drop i all)
  pub final : calls_in all ≡ fold after_record (with_tape s (tape_in (drop i all))) (drop i all)

pub walked_none : (all : List CallRec) (s : Shared) → s.ended ≡ None ∷ [] → s.owners ≡ (opening_calls []).owners → s.dry ≡ false → Walked all s 0
walked_none all s ended owners dry =
    let same : with_tape s (tape_in all) ≡ opening_calls (tape_in all) =
    ap (λ (e : List (Option ℕ)). let made : Calls = record { ended = e; owners = s.owners; tape = tape_in all } in made) ended
    ∙ ap (λ (o : List (Option ℕ)). let made : Calls = record { ended = None ∷ []; owners = o; tape = tape_in all } in made) owners in
    record {
      pass = (
        λ pass. (subst (λ (c : Calls). Pass c all) (sym same) pass, λ is. absurd (false≢true (sym dry ∙ is))),
        λ rest. subst (λ (c : Calls). Pass c all) same rest.0,
      );
      final = ap (λ (c : Calls). fold after_record c all) (sym same);
    }

pub walked_more : (all : List CallRec) (s t : Shared) (i : ℕ) (r : CallRec) → i < length all → r ≡ get_or all i r → FitsNow s r
    → ((tape : List ℕ) → after_record (with_tape s (read_by r.call ++ tape)) r ≡ with_tape t tape)
    → t.dry ≡ (s.dry || falls_short r.call) → Walked all s i → Walked all t (i + 1)
walked_more all s t i r within at fits after dry walked =
    let later : List CallRec = drop (i + 1) all in
    let more : Rest s (r ∷ later) ↔ Rest t later = rest_more s t r later fits after dry in
    let here : drop i all ≡ r ∷ later = at_drop_more (λ (l : List CallRec). l) all i r within ∙ ap (λ (x : CallRec). x ∷ later) (sym at) in
    record {
      pass = (
        λ pass. more.0 (subst (λ (l : List CallRec). Rest s l) here (walked.pass.0 pass)),
        λ rest. walked.pass.1 (subst (λ (l : List CallRec). Rest s l) (sym here) (more.1 rest)),
      );
      final = walked.final ∙ ap (λ (l : List CallRec). fold after_record (with_tape s (tape_in l)) l) here
          ∙ ap (λ (c : Calls). fold after_record c later) (after (tape_in later));
    }

pub walked_stuck : (all : List CallRec) (s : Shared) (i : ℕ) (r : CallRec) → i < length all → r ≡ get_or all i r → Walked all s i
    → Pass (opening_calls (tape_in all)) all → FitsNow s r
walked_stuck all s i r within at walked pass =
    let here : drop i all ≡ r ∷ drop (i + 1) all = at_drop_more (λ (l : List CallRec). l) all i r within ∙ ap (λ (x : CallRec). x ∷ drop (i + 1) all) (sym at) in
    rest_fits s r (drop (i + 1) all) (subst (λ (l : List CallRec). Rest s l) here (walked.pass.0 pass))

pub walked_pass : (all : List CallRec) (s : Shared) (i : ℕ) → length all ≤ i → Walked all s i → Pass (opening_calls (tape_in all)) all
walked_pass all s i past walked = walked.pass.1 (subst (λ (l : List CallRec). Rest s l) (sym (drop_all i all past)) (tt, λ dry. refl))

pub walked_final : (all : List CallRec) (s : Shared) (i : ℕ) → length all ≤ i → Walked all s i → with_tape s [] ≡ calls_in all
walked_final all s i past walked =
    sym (walked.final ∙ ap (λ (l : List CallRec). fold after_record (with_tape s (tape_in l)) l) (drop_all i all past))
