-- One digit of a long division.
use Rattle.std.specs.Prelude.{◌≡◌, ℕ, ◌-◌, ◌%◌, Bool, nat_le, if◌then◌else◌}

-- the digit says whether the divisor goes into what was brought down, and the rest is what remains, modulo `room`
pub record IsDigit (brought divisor room : ℕ) (digit : Bool) (rest : ℕ) : Type 0 where
  pub goes : digit ≡ nat_le divisor brought
  pub remains : rest ≡ (if nat_le divisor brought then brought - divisor else brought) % room
