-- Tests that hold of the same values are the same.
use Rattle.std.specs.Prelude.{◌≡◌, ◌↔◌, Bool, true, false, refl}
use Rattle.std.proofs.Common.{sym}
use Rattle.odr_log.specs.declared.log.Call.{Call}
use Rattle.odr_log.specs.Same.{same_call}
use Rattle.odr_log.specs.SameLaws.{same_call-exact}

pub same_tests : (a b : Bool) → (a ≡ true → b ≡ true) → (b ≡ true → a ≡ true) → a ≡ b
same_tests true b there back = sym (there refl)
same_tests false true there back = back refl
same_tests false false there back = refl

pub same_call_by : (a : Bool) (x y : Call) → (a ≡ true) ↔ (x ≡ y) → a ≡ same_call x y
same_call_by a x y tells =
    same_tests a (same_call x y) (λ (h : a ≡ true). (same_call-exact x y).1 (tells.0 h)) (λ (h : same_call x y ≡ true). tells.1 ((same_call-exact x y).0 h))

pub ruleset tests = (same_call_by)
