-- What stands before the first of some byte, and after it.
use Rattle.std.proofs.Common.{◌≡◌, ◌≢◌, ℕ, suc, ◌+◌, ◌^◌, ◌<◌, Bool, true, false, cond, eqb, List, [], ◌∷◌, ◌++◌, length, take, drop, Option, Some, None, refl, ap, ◌∙◌, sym, subst, lit<, arith}
use Rattle.std.proofs.lemmas.Bool.{eqb-true, eqb-false}
use Rattle.std.specs.Fmt.{decimal}
use Rattle.std.specs.List.{position_from}
use Rattle.std.specs.Option.{IfNone, option_eq}
use Rattle.sched_text.specs.declared.run.Run.{Run}
use Rattle.sched_text.specs.LineLaws.{IsFreeOf, one_split, not_free, line_parts, decimal_free}
use Rattle.sched_text.specs.Text.{line_of}

-- the first such byte is at a place
pub record IsFirst (byte : ℕ) (bytes : List ℕ) (at : ℕ) : Type 0 where
  pub within : at < length bytes
  pub free : IsFreeOf byte (take at bytes)
  pub parts : bytes ≡ take at bytes ++ byte ∷ drop (suc at) bytes

record IsFirstFrom (byte : ℕ) (bytes : List ℕ) (start at : ℕ) : Type 0 where
  place : ℕ
  counted : start + place ≡ at
  first : IsFirst byte bytes place

first_from : (byte : ℕ) (bytes : List ℕ) (start at : ℕ) → position_from (λ b. eqb b byte) start bytes ≡ Some at → IsFirstFrom byte bytes start at
first_from byte [] start at e = cc
first_from byte (b ∷ bytes) start at e = pick (eqb b byte) refl (first_from byte bytes (start + 1) at) e
  where
    later : b ≢ byte → IsFirstFrom byte bytes (start + 1) at → IsFirstFrom byte (b ∷ bytes) start at
    later other f = record {
      place = suc f.place;
      counted = let c = f.counted in omega arith;
      first = record { within = let w = f.first.within in omega arith; free = (other, f.first.free); parts = ap (λ (rest : List ℕ). b ∷ rest) f.first.parts };
    }

    pick : (t : Bool) → eqb b byte ≡ t → (position_from (λ b. eqb b byte) (start + 1) bytes ≡ Some at → IsFirstFrom byte bytes (start + 1) at)
        → cond t (Some start) (position_from (λ b. eqb b byte) (start + 1) bytes) ≡ Some at → IsFirstFrom byte (b ∷ bytes) start at
    pick true same more e =
        let here : start ≡ at = cc in
        record { place = 0; counted = omega arith; first = record { within = omega arith; free = tt; parts = ap (λ (c : ℕ). c ∷ bytes) (eqb-true b byte same) } }
    pick false other more e = later (eqb-false b byte other) (more e)

free_from : (byte : ℕ) (bytes : List ℕ) (start : ℕ) → position_from (λ b. eqb b byte) start bytes ≡ None → IsFreeOf byte bytes
free_from byte [] start e = tt
free_from byte (b ∷ bytes) start e = pick (eqb b byte) refl (free_from byte bytes (start + 1)) e
  where
    pick : (t : Bool) → eqb b byte ≡ t → (position_from (λ b. eqb b byte) (start + 1) bytes ≡ None → IsFreeOf byte bytes)
        → cond t (Some start) (position_from (λ b. eqb b byte) (start + 1) bytes) ≡ None → IsFreeOf byte (b ∷ bytes)
    pick true same more e = cc
    pick false other more e = (eqb-false b byte other, more e)

pub is_first : (byte : ℕ) (bytes : List ℕ) (at : ℕ) → position_from (λ b. eqb b byte) 0 bytes ≡ Some at → IsFirst byte bytes at
is_first byte bytes at e =
    let f = first_from byte bytes 0 at e in
    let P : ℕ → Type 0 = λ n. IsFirst byte bytes n in
    let c = f.counted in
    let same : f.place ≡ at = omega arith in
    subst P same f.first

pub is_free : (byte : ℕ) (bytes : List ℕ) → position_from (λ b. eqb b byte) 0 bytes ≡ None → IsFreeOf byte bytes
is_free byte bytes e = free_from byte bytes 0 e

-- a fact that holds anyway
pub none_from : {X : Type 0} (o : Option X) (P : Type 0) → P → IfNone o P
none_from None P p = p
none_from (Some x) P p = tt

-- the two fields of a line that says a run, as the separators part it
pub record Fields (run : Run) (after a b : List ℕ) : Type 0 where
  pub thread : a ≡ decimal run.thread
  pub rest : b ≡ decimal run.count ++ 10 ∷ after

pub fields : (run : Run) (rest after a b : List ℕ) → run.thread < 2 ^ 64 → rest ≡ a ++ 32 ∷ b → IsFreeOf 32 a → rest ≡ line_of run ++ after → Fields run after a b
fields run rest after a b few split free line =
    let parts = one_split 32 a (decimal run.thread) b (decimal run.count ++ 10 ∷ after) free (decimal_free 32 run.thread (lit< tt) few) (sym split ∙ line ∙ line_parts run after) in
    record { thread = parts.0; rest = parts.1 }

pub no_fields : (run : Run) (rest after : List ℕ) → IsFreeOf 32 rest → rest ≡ line_of run ++ after → ⊥
no_fields run rest after free line = not_free 32 rest (decimal run.thread) (decimal run.count ++ 10 ∷ after) free (line ∙ line_parts run after)

pub count_field : (count : ℕ) (b after c d : List ℕ) → count < 2 ^ 64 → b ≡ c ++ 10 ∷ d → IsFreeOf 10 c → b ≡ decimal count ++ 10 ∷ after → c ≡ decimal count
count_field count b after c d few split free line =
    (one_split 10 c (decimal count) d after free (decimal_free 10 count (lit< tt) few) (sym split ∙ line)).0

-- what `==` says of a thread that may be missing
pub option_same : (o : Option ℕ) (n : ℕ) → true ≡ option_eq eqb o (Some n) → o ≡ Some n
option_same None n e = cc
option_same (Some m) n e = ap Some (eqb-true m n (sym e))
