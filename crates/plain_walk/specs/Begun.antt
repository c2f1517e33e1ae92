-- Threads that some spawn made.
use Rattle.std.specs.Prelude.{◌≡◌, ℕ, zero, suc, ◌<◌, ◌^◌, length, Some}
use Rattle.odr_log.specs.declared.log.Call.TheVariants as call
use Rattle.odr_log.specs.declared.log.Pos.{Pos}
use Rattle.rv_model.specs.declared.state.Note.{Note}
use Rattle.rv_model.specs.declared.state.Note.TheVariants as note
use Rattle.rv_model.specs.Noted.{reply_noted}
use Rattle.guided_walk.specs.Told.{Told, noted}

-- a spawn with a child
abbrev pub HandsOn : Note → Type 0
HandsOn (note.Called (call.Spawn entry (Some child))) = Unit {0}
HandsOn other = ⊥

-- a thread that the opening or a spawn begins
abbrev pub Begun : Told → ℕ → Type 0
Begun told zero = Unit {0}
Begun told (suc before) = (q : Pos) × (told.maker (suc before) ≡ Some q) × HandsOn (noted told q)

-- a step of a begun thread which is replied no more bytes than a word can count
pub record CanBegin (told : Told) (p : Pos) : Type 0 where
  pub begun : Begun told p.thread
  pub brief : length (reply_noted (noted told p)).bytes < 2 ^ 32
