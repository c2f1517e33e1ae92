-- One step further in a replay.
use Rattle.std.specs.Prelude.{◌≡◌, ℕ, Bool, true, List, [], ◌∷◌, ◌++◌}
use Rattle.elf_image.specs.Layout.{Layout}
use Rattle.odr_log.specs.declared.log.Log.{Log}
use Rattle.rv_model.specs.declared.state.State.{State}
use Rattle.rv_model.specs.declared.state.Event.{Event}
use Rattle.rv_model.specs.Step.{step}
use Rattle.rv_model.specs.Run.{fits, event_of}
use Rattle.guest_machine.specs.Whole.{Whole, StandsFor}
use Rattle.replay_check.specs.declared.met.Met.{Met}
use Rattle.replay_check.specs.Met.{HasMet}

-- the machine and what it has met are one step of the model further
pub record IsFurther (log : Log) (state : State) (happened : List Event) (thread : ℕ) (image : Layout) (machine : Whole) (met : Met) : Type 0 where
  pub image_is : machine.image ≡ image
  pub stands : StandsFor machine (step image state thread).state
  pub met_is : HasMet log (happened ++ event_of image state thread ∷ []) met

-- the answer is whether the thread's step is the log's next, and then it is done
pub record Advances (log : Log) (state : State) (happened : List Event) (thread : ℕ) (image : Layout) (next : Bool) (machine : Whole) (met : Met) : Type 0 where
  pub answer : next ≡ fits image log state happened thread
  pub further : next ≡ true → IsFurther log state happened thread image machine met
