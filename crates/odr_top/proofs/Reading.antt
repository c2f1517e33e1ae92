-- Calls that read a store, one after another, and what comes of what they read.
use Rattle.std.specs.Prelude.{◌≡◌, ◌≢◌, ◌<◌, ℕ, List, length, Option, Some, None, Result, Ok, Err, IfOk, IfErr}
use Rattle.std.specs.Result.{IsErrAnd}
use Rattle.std.proofs.Common.{sym, ap, subst}
use Rattle.odr_io.specs.Outside.{Held}
use Rattle.odr_task.specs.declared.done.Done.{Done}
use Rattle.odr_task.specs.declared.refusal.Stop.{Stop}
use Rattle.odr_task.specs.declared.refusal.Stop.TheVariants as stop
use Rattle.odr_task.specs.Verdict.{Verdict}
use Rattle.odr_task.specs.Files.{Finds, Found, Turns, IsUnfit, Gives, Refuses, StopsBy, Reads}
use Rattle.odr_task.specs.Done.{Makes, Prepared, Works}

-- ---- stops

pub stops_by : (R S : Verdict → Type 0) (given : Stop) → ((v : Verdict) → R v → S v) → StopsBy R given → StopsBy S given
stops_by R S (stop.Refused refusal) f stops = f _ stops
stops_by R S stop.Device f stops = tt
stops_by R S stop.Memory f stops = tt

device_is : {X : Type 0} (given : Stop) → (let left : Result X Stop = Err given in let right : Result X Stop = Err stop.Device in left ≡ right) → given ≡ stop.Device
device_is {X} given e = cc

-- a call that stopped, as a stop of the whole
pub reads_stop : {X Y : Type 0} (G : X → Type 0) (H : Y → Type 0) (R S : Verdict → Type 0) (given : Stop) (before after : Option Held) (f f' : ℕ)
    → ((v : Verdict) → R v → S v) → Reads {X = X} G R (Err given) before after f f' → Reads {X = Y} H S (Err given) before after f f'
reads_stop {X} {Y} G H R S given before after f f' map reads = record {
  given = tt;
  refused = stops_by R S given map reads.refused;
  kept = reads.kept;
  failed = λ e. reads.failed (ap Err (device_is {X = Y} given e));
  steady = λ differs. reads.steady (λ e. differs (ap Err (device_is {X = X} given e)));
}

-- what a `?` hands on
pub reads_out : {Y : Type 0} (H : Y → Type 0) (S : Verdict → Type 0) (given : Stop) (r : Result Y Stop) (before after : Option Held) (f f' : ℕ)
    → IsErrAnd r (λ e. e ≡ given) → Reads {X = Y} H S (Err given) before after f f' → Reads {X = Y} H S r before after f f'
reads_out {Y} H S given (Ok y) before after f f' is reads = absurd is
reads_out {Y} H S given (Err e) before after f f' is reads = subst (λ (s : Stop). Reads {X = Y} H S (Err s) before after f f') (sym is) reads

-- want of memory after a call
pub reads_memory : {Y : Type 0} (H : Y → Type 0) (S : Verdict → Type 0) (before after : Option Held) (f f' : ℕ) → after ≡ before → f' ≡ f → Reads {X = Y} H S (Err stop.Memory) before after f f'
reads_memory {Y} H S before after f f' kept same = record {
  given = tt;
  refused = tt;
  kept = kept;
  failed = λ e. absurd (let d = device_is {X = Y} stop.Memory e in cc);
  steady = λ _. same;
}

-- what a call gave goes into what the whole gives
pub reads_given : {X Y : Type 0} (G : X → Type 0) (H : Y → Type 0) (R S : Verdict → Type 0) (x : X) (y : Y) (before after : Option Held) (f f' : ℕ)
    → Reads {X = X} G R (Ok x) before after f f' → H y → Reads {X = Y} H S (Ok y) before after f f'
reads_given {X} {Y} G H R S x y before after f f' reads given = record {
  given = given;
  refused = tt;
  kept = reads.kept;
  failed = λ e. absurd (let left : Result Y Stop = Ok y in let right : Result Y Stop = Err stop.Device in let d : left ≡ right = e in cc);
  steady = λ _. reads.steady (λ e. (let left : Result X Stop = Ok x in let right : Result X Stop = Err stop.Device in let d : left ≡ right = e in cc));
}

-- a call that gave something was steady
pub reads_steady : {X : Type 0} (G : X → Type 0) (R : Verdict → Type 0) (x : X) (before after : Option Held) (f f' : ℕ) → Reads {X = X} G R (Ok x) before after f f' → f' ≡ f
reads_steady {X} G R x before after f f' reads = reads.steady (λ e. (let left : Result X Stop = Ok x in let right : Result X Stop = Err stop.Device in let d : left ≡ right = e in cc))

-- a later call, of a store that holds the same and didn't fail
pub reads_later : {Y : Type 0} (H : Option Held → Y → Type 0) (S : Option Held → Verdict → Type 0) (r : Result Y Stop) (before mid after : Option Held) (f0 f1 f2 : ℕ)
    → mid ≡ before → f1 ≡ f0 → Reads {X = Y} (H mid) (S mid) r mid after f1 f2 → Reads {X = Y} (H before) (S before) r before after f0 f2
reads_later {Y} H S r before mid after f0 f1 f2 kept same reads =
    subst (λ (n : ℕ). Reads {X = Y} (H before) (S before) r before after n f2) same
    (subst (λ (m : Option Held). Reads {X = Y} (H m) (S m) r m after f1 f2) kept reads)

-- ---- one file

turned : (Not : List ℕ → Verdict → Type 0) (told : Option Held) (name : List ℕ) (limit : ℕ) (large verdict : Verdict) (content : Option (List ℕ))
    → ((file : List ℕ) → limit < length file → Not file large) → Finds told name content → IsUnfit name limit large content verdict → Refuses Not told name verdict
turned Not told name limit large verdict None not finds unfit = record { content = None; finds = finds; refused = unfit }
turned Not told name limit large verdict (Some bytes) not finds unfit =
    record { content = Some bytes; finds = finds; refused = subst (λ (v : Verdict). Not bytes v) (sym unfit.1) (not bytes unfit.0) }

-- a file that is absent or too large
pub turns_refuses : (Not : List ℕ → Verdict → Type 0) (told : Option Held) (name : List ℕ) (limit : ℕ) (large : Verdict)
    → ((file : List ℕ) → limit < length file → Not file large) → (v : Verdict) → Turns told name limit large v → Refuses Not told name v
turns_refuses Not told name limit large not v turns = turned Not told name limit large v turns.content not turns.finds turns.unfit

-- a file that was found, and what is in it
pub loaded : {X : Type 0} (Is : List ℕ → X → Type 0) (Not : List ℕ → Verdict → Type 0) (told after : Option Held) (name : List ℕ) (limit : ℕ) (large : Verdict) (bytes slice : List ℕ) (r : Result X Stop) (f f' : ℕ)
    → Reads (Found told name limit) (Turns told name limit large) (Ok bytes) told after f f' → slice ≡ bytes
    → IfOk r (Is slice) → IfErr r (StopsBy (Not slice)) → (r ≢ Err stop.Device) → Reads {X = X} (Gives Is told name) (Refuses Not told name) r told after f f'
loaded {X} Is Not told after name limit large bytes slice (Ok x) f f' found same is not no_fault =
    reads_given (Found told name limit) (Gives Is told name) (Turns told name limit large) (Refuses Not told name) bytes x told after f f' found
    (record { file = bytes; found = found.given.finds; is = subst (λ (b : List ℕ). Is b x) same is })
loaded {X} Is Not told after name limit large bytes slice (Err given) f f' found same is not no_fault = record {
  given = tt;
  refused = stops_by (Not slice) (Refuses Not told name) given
      (λ (v : Verdict) (n : Not slice v). record { content = Some bytes; finds = found.given.finds; refused = subst (λ (b : List ℕ). Not b v) same n }) not;
  kept = found.kept;
  failed = λ e. absurd (no_fault e);
  steady = λ _. reads_steady (Found told name limit) (Turns told name limit large) bytes told after f f' found;
}

-- ---- what a command comes to

-- the verdict of the work is owed
pub works_reads : (Owed : Verdict → Type 0) (name : Option (List ℕ)) (v : Verdict) (r : Result Done Stop) (before after : Option Held) (f f' : ℕ)
    → Owed v → Works v name r → after ≡ before → f' ≡ f → Reads (Prepared Owed name) Owed r before after f f'
works_reads Owed name v (Ok done) before after f f' owed works kept same = record {
  given = record { owed = subst Owed (sym works.done.is) owed; status = works.done.status; named = works.done.named };
  refused = tt;
  kept = kept;
  failed = λ e. absurd (let left : Result Done Stop = Ok done in let right : Result Done Stop = Err stop.Device in let d : left ≡ right = e in cc);
  steady = λ _. same;
}
works_reads Owed name v (Err given) before after f f' owed works kept same = record {
  given = tt;
  refused = stops_by (λ other. other ≡ v) Owed given (λ (u : Verdict) (e : u ≡ v). subst Owed (sym e) owed) works.refused;
  kept = kept;
  failed = λ e. absurd (works.no_fault e);
  steady = λ _. same;
}

pub makes_prepared : (Owed : Verdict → Type 0) (name : Option (List ℕ)) (v : Verdict) (done : Done) → Owed v → Makes v name done → Prepared Owed name done
makes_prepared Owed name v done owed makes = record { owed = subst Owed (sym makes.is) owed; status = makes.status; named = makes.named }
