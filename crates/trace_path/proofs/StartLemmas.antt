-- Where threads begin.
use Rattle.std.specs.Prelude.{◌≡◌, ℕ, zero, suc, Bool, true, false, cond, List, [], ◌∷◌, Option, Some, None, IfSome}
use Rattle.std.specs.List.{find}
use Rattle.std.proofs.Common.{refl, sym, ◌∙◌, ap, subst}
use Rattle.std.proofs.lemmas.Bool.{eqb-true}
use Rattle.elf_image.specs.Layout.{Layout}
use Rattle.odr_log.specs.declared.log.Call.{Call}
use Rattle.odr_log.specs.declared.log.Call.TheVariants as call
use Rattle.odr_log.specs.declared.log.CallRec.{CallRec}
use Rattle.odr_log.specs.declared.log.Log.{Log}
use Rattle.rv_model.specs.Walk.{makes, maker_of, BeginsAt}
use Rattle.trace_path.specs.Starts.{entry_of, entry_in}
use Rattle.trace_path.proofs.StepLemmas.{some_same}

found_by : {A : Type 0} (p : A → Bool) (x y : A) (b : Bool) (o : Option A) → p x ≡ b → cond b (Some x) o ≡ Some y → (o ≡ Some y → p y ≡ true) → p y ≡ true
found_by p x y true o here e later = ap p (sym (some_same x y e)) ∙ here
found_by p x y false o here e later = later e

found_passes : {A : Type 0} (p : A → Bool) (xs : List A) (y : A) → find p xs ≡ Some y → p y ≡ true
found_passes p [] y e = absurd (let f : None ≡ Some y = e in cc)
found_passes p (x ∷ xs) y e = found_by p x y (p x) (find p xs) refl e (found_passes p xs y)

-- a spawn that made a thread begins it at its entry
abbrev Begins : Call → ℕ → ℕ → Type 0
Begins made thread start = made ≡ call.Spawn start (Some thread)

spawn_begins : (thread : ℕ) (made : Call) → makes thread made ≡ true → IfSome (entry_of made) (Begins made thread)
spawn_begins thread (call.Spawn entry (Some child)) e = ap (λ (t : ℕ). call.Spawn entry (Some t)) (eqb-true child thread e)
spawn_begins thread (call.Spawn entry None) e = absurd (let f : false ≡ true = e in cc)
spawn_begins thread (call.Exit code) e = tt
spawn_begins thread call.EndThread e = tt
spawn_begins thread (call.Join target ok) e = tt
spawn_begins thread (call.Lock mutex ok) e = tt
spawn_begins thread (call.Unlock mutex ok) e = tt
spawn_begins thread (call.TryLock mutex got) e = tt
spawn_begins thread (call.Write bytes) e = tt
spawn_begins thread call.WriteBad e = tt
spawn_begins thread (call.Read want bytes) e = tt
spawn_begins thread call.ReadBad e = tt
spawn_begins thread call.SelfId e = tt
spawn_begins thread call.Yield e = tt
spawn_begins thread (call.Unknown number) e = tt

entry_begins : (image : Layout) (log : Log) (before : ℕ) (r : CallRec) (o : Option ℕ) → maker_of log (suc before) ≡ Some r → IfSome o (Begins r.call (suc before))
    → IfSome o (BeginsAt image log (suc before))
entry_begins image log before r None made begins = tt
entry_begins image log before r (Some start) made begins = (r, made, begins)

maker_begins : (image : Layout) (log : Log) (before : ℕ) (m : Option CallRec) → maker_of log (suc before) ≡ m → IfSome (entry_in m) (BeginsAt image log (suc before))
maker_begins image log before None made = tt
maker_begins image log before (Some r) made =
    entry_begins image log before r (entry_of r.call) made
    (spawn_begins (suc before) r.call (found_passes (λ (s : CallRec). makes (suc before) s.call) log.calls r made))

pub begins_some : (image : Layout) (log : Log) (thread : ℕ) (o : Option ℕ) → (thread ≡ 0 → ⊥) → o ≡ entry_in (maker_of log thread) → IfSome o (BeginsAt image log thread)
begins_some image log zero o other e = absurd (other refl)
begins_some image log (suc before) o other e =
    subst (λ (x : Option ℕ). IfSome x (BeginsAt image log (suc before))) (sym e) (maker_begins image log before (maker_of log (suc before)) refl)

pub begins_none : (image : Layout) (log : Log) (thread start : ℕ) → (thread ≡ 0 → ⊥) → None ≡ entry_in (maker_of log thread) → BeginsAt image log thread start → ⊥
begins_none image log zero start other e begins = other refl
begins_none image log (suc before) start other e begins =
    let f : None ≡ Some start = e ∙ ap entry_in begins.1 ∙ ap entry_of begins.2 in cc

pub begins_one : (image : Layout) (log : Log) (thread start other : ℕ) → BeginsAt image log thread start → BeginsAt image log thread other → start ≡ other
begins_one image log zero start other a b = a ∙ sym b
begins_one image log (suc before) start other a b =
    let same : a.0 ≡ b.0 = some_same a.0 b.0 (sym a.1 ∙ b.1) in
    let spawn : call.Spawn start (Some (suc before)) ≡ call.Spawn other (Some (suc before)) = sym a.2 ∙ ap (λ (r : CallRec). r.call) same ∙ b.2 in cc
