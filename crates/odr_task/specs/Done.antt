-- What a command came to, before anything outside is changed.
use Rattle.std.specs.Prelude.{◌≡◌, ◌≢◌, ℕ, List, Option, Some, None, IfSome, Result, Ok, Err, IfOk, IfErr}
use Rattle.odr_io.specs.Outside.{Held, Holds, KeepsOthers}
use Rattle.odr_task.specs.declared.done.NamedFile.{NamedFile}
use Rattle.odr_task.specs.declared.done.Done.{Done}
use Rattle.odr_task.specs.declared.refusal.Stop.{Stop}
use Rattle.odr_task.specs.declared.refusal.Stop.TheVariants as stop
use Rattle.odr_task.specs.Verdict.{Verdict, Ended}
use Rattle.odr_task.specs.Refusals.{verdict_of}
use Rattle.odr_task.specs.Files.{StopsBy}

-- the text of a file that is to be saved
abbrev pub text_in : Option NamedFile → Option (List ℕ)
text_in None = None
text_in (Some file) = Some file.bytes

abbrev pub ended_by : Done → Verdict
ended_by done = Ended done.status done.printed (text_in done.file)

-- the verdict that the work came to, none where something outside stopped it
abbrev pub verdict_in : Result Done Stop → Option Verdict
verdict_in (Ok done) = Some (ended_by done)
verdict_in (Err given) = verdict_of given

-- the file that is to be saved
abbrev pub file_in : Result Done Stop → Option NamedFile
file_in (Ok done) = done.file
file_in (Err given) = None

-- ---- what is left in the files

-- the named file, if there is one, has its bytes
abbrev pub HasSaved : Option Held → Option Held → Option NamedFile → Type 0
HasSaved before after None = after ≡ before
HasSaved before after (Some file) = Holds after file.name.now file.bytes

-- every other file is as it was
abbrev pub KeepsBut : Option Held → Option Held → Option NamedFile → Type 0
KeepsBut before after None = after ≡ before
KeepsBut before after (Some file) = KeepsOthers before after file.name.now

-- ---- what a command comes to

-- the file that is to be saved, if there is one, has this name
abbrev pub IsNamed : Option (List ℕ) → Option NamedFile → Type 0
IsNamed name file = IfSome file (λ f. Some f.name.now ≡ name)

-- it came to its end with this verdict, of status 0
pub record Makes (verdict : Verdict) (name : Option (List ℕ)) (done : Done) : Type 0 where
  pub is : ended_by done ≡ verdict
  pub status : done.status ≡ 0
  pub named : IsNamed name done.file

-- it came to its end with a verdict that is owed, of status 0
pub record Prepared (Owed : Verdict → Type 0) (name : Option (List ℕ)) (done : Done) : Type 0 where
  pub owed : Owed (ended_by done)
  pub status : done.status ≡ 0
  pub named : IsNamed name done.file

-- Work without a store came to this verdict, or memory was wanting.
pub record Works (verdict : Verdict) (name : Option (List ℕ)) (result : Result Done Stop) : Type 0 where
  pub done : IfOk result (Makes verdict name)
  pub refused : IfErr result (StopsBy (λ other. other ≡ verdict))
  pub no_fault : result ≢ Err stop.Device
