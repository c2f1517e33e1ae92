-- What the files that a command loads give, and why they are refused, as far as the store tells what it holds.
use Rattle.std.specs.Prelude.{◌≡◌, ◌≢◌, ◌⊎◌, ℕ, ◌<◌, ◌≤◌, List, length, Option, Some, None, IfSome, Result, Err, IfOk, IfErr, IsErrOf}
use Rattle.odr_io.specs.Outside.{Held, held_at, Rose}
use Rattle.odr_task.specs.declared.refusal.Stop.{Stop}
use Rattle.odr_task.specs.declared.refusal.Stop.TheVariants as stop
use Rattle.odr_task.specs.Verdict.{Verdict, Refused}
use Rattle.odr_task.specs.Refusals.{no_file, verdict_of}

-- this is what a load finds under a name: what the store holds there, where it tells
abbrev pub Finds : Option Held → List ℕ → Option (List ℕ) → Type 0
Finds None name content = Unit {0}
Finds (Some held) name content = held_at held name ≡ content

-- ---- the bytes of a file

-- no more bytes than the limit, which are found under the name
pub record Found (told : Option Held) (name : List ℕ) (limit : ℕ) (bytes : List ℕ) : Type 0 where
  pub within : length bytes ≤ limit
  pub finds : Finds told name (Some bytes)

-- nothing is held, or more bytes than the limit, which this verdict refuses
abbrev pub IsUnfit : List ℕ → ℕ → Verdict → Option (List ℕ) → Verdict → Type 0
IsUnfit name limit large None verdict = verdict ≡ Refused (no_file name)
IsUnfit name limit large (Some bytes) verdict = (limit < length bytes) × (verdict ≡ large)

pub record Turns (told : Option Held) (name : List ℕ) (limit : ℕ) (large verdict : Verdict) : Type 0 where
  pub content : Option (List ℕ)
  pub finds : Finds told name content
  pub unfit : IsUnfit name limit large content verdict

-- ---- a file of some kind: `Is` says what it gives, `Not` with which verdicts it is refused

-- the file under the name gives this
pub record Gives {X : Type 0} (Is : List ℕ → X → Type 0) (told : Option Held) (name : List ℕ) (x : X) : Type 0 where
  pub file : List ℕ
  pub found : Finds told name (Some file)
  pub is : Is file x

-- nothing is held under the name, or a file that gives nothing
abbrev pub RefusesBytes : (List ℕ → Verdict → Type 0) → List ℕ → Option (List ℕ) → Verdict → Type 0
RefusesBytes Not name None verdict = verdict ≡ Refused (no_file name)
RefusesBytes Not name (Some file) verdict = Not file verdict

pub record Refuses (Not : List ℕ → Verdict → Type 0) (told : Option Held) (name : List ℕ) (verdict : Verdict) : Type 0 where
  pub content : Option (List ℕ)
  pub finds : Finds told name content
  pub refused : RefusesBytes Not name content verdict

-- a file that is refused with its verdict, or gives what the rest of the work goes by
abbrev pub FromFile : {X : Type 0} → (List ℕ → X → Type 0) → (List ℕ → Verdict → Type 0) → Option Held → List ℕ → (X → Verdict → Type 0) → Verdict → Type 0
FromFile {X} Is Not told name Next verdict = Refuses Not told name verdict ⊎ ((x : X) × Gives Is told name x × Next x verdict)

-- a command that stopped has a verdict of these, if it has one
abbrev pub StopsBy : (Verdict → Type 0) → Stop → Type 0
StopsBy Owed given = IfSome (verdict_of given) Owed

-- ---- calls that read a store and change nothing

-- It gave this, or stopped with one of these verdicts. What is held is as it was, and the count of faults rises only where
-- the store failed.
pub record Reads {X : Type 0} (Given : X → Type 0) (Refused : Verdict → Type 0) (result : Result X Stop) (before after : Option Held) (f f' : ℕ) : Type 0 where
  pub given : IfOk result Given
  pub refused : IfErr result (StopsBy Refused)
  pub kept : after ≡ before
  pub failed : IsErrOf result stop.Device → Rose f f'
  pub steady : result ≢ Err stop.Device → f' ≡ f
