-- What a call shows where nothing outside fails.
use Rattle.std.specs.Prelude.{ℕ, List, [], ◌∷◌, ◌++◌, codes, Option, None}

-- why something is refused: the exit status and the line that say it
pub record Reason : Type 0 where
  pub status : ℕ
  pub line : List ℕ

pub data Verdict : Type 0 where
  -- refused: the reason's line goes to err, and nothing else is left
  Refused : (reason : Reason) → Verdict
  -- done with this status: the text is saved, if there is one, and then this is printed
  Ended : (status : ℕ) (printed : List ℕ) (saved : Option (List ℕ)) → Verdict

abbrev pub status_of : Verdict → ℕ
status_of (Refused reason) = reason.status
status_of (Ended status printed saved) = status

-- what goes to err
abbrev pub err_text : Verdict → List ℕ
err_text (Refused reason) = reason.line
err_text (Ended status printed saved) = []

-- what goes to out
abbrev pub out_text : Verdict → List ℕ
out_text (Refused reason) = []
out_text (Ended status printed saved) = printed

-- what is saved
abbrev pub saved_text : Verdict → Option (List ℕ)
saved_text (Refused reason) = None
saved_text (Ended status printed saved) = saved

-- the work came to its end
abbrev pub IsEnd : Verdict → Type 0
IsEnd (Refused reason) = ⊥
IsEnd (Ended status printed saved) = Unit {0}

-- ---- calls that something outside cuts short

abbrev pub memory_line : List ℕ
memory_line = codes "odr: out of memory" ++ 10 ∷ []

abbrev pub device_line : List ℕ
device_line = codes "odr: device" ++ 10 ∷ []
