-- Which of two literals stands first in a line.
use Rattle.std.specs.Prelude.{ℕ, Bool, true, false, ◌==◌, nat_lt, if◌then◌else◌}
use Rattle.cert_text.specs.declared.cert.CertLit.{CertLit}
use Rattle.cert_text.specs.declared.cert.CertLit.TheVariants.{Before, Var}

-- the lower of two numbers stands first; where they are equal, what comes later decides
abbrev pub first_by : ℕ → ℕ → Bool → Bool
first_by a b later = if a == b then later else nat_lt a b

-- steps stand before variables, those of steps in the order of their four numbers, those of variables in
-- the order of the number; a variable stands before its opposite
abbrev pub stands_before : CertLit → CertLit → Bool
stands_before (Before t i u j) (Before v k w l) = first_by t v (first_by i k (first_by u w (first_by j l false)))
stands_before (Before t i u j) (Var number positive) = true
stands_before (Var number positive) (Before t i u j) = false
stands_before (Var m true) (Var n true) = first_by m n false
stands_before (Var m true) (Var n false) = first_by m n true
stands_before (Var m false) (Var n positive) = first_by m n false
