-- Accesses by their numbers and by their positions.
use Rattle.std.specs.Prelude.{◌≡◌, ℕ, zero, suc, ◌<◌, List, [], ◌∷◌, length, map, refl}
use Rattle.std.proofs.Common.{sym, ap, subst, arith, inl, inr}
use Rattle.odr_log.specs.declared.log.Pos.{Pos}
use Rattle.guided_walk.specs.Orders.{In, Distinct}
use Rattle.thread_terms.specs.declared.access.Access.{Access}
use Rattle.path_exec.specs.Paths.{position}
use Rattle.term_sources.specs.Sees.{access_at}

pub pos_in : (accesses : List Access) (x : ℕ) → x < length accesses → In (access_at accesses x).pos (map position accesses)
pos_in [] x less = absurd (omega (arith, less))
pos_in (a ∷ more) zero less = inl refl
pos_in (a ∷ more) (suc x) less = inr (pos_in more x (omega (arith, less)))

pub in_pos : (accesses : List Access) (p : Pos) → In p (map position accesses) → (x : ℕ) × (x < length accesses) × ((access_at accesses x).pos ≡ p)
in_pos [] p i = absurd i
in_pos (a ∷ more) p (inl e) = (zero, omega arith, e)
in_pos (a ∷ more) p (inr i) = let found : (x : ℕ) × (x < length more) × ((access_at more x).pos ≡ p) = in_pos more p i in (suc found.0, omega (arith, found.1), found.2)

pub one_number : (accesses : List Access) (x y : ℕ) → Distinct (map position accesses) → x < length accesses → y < length accesses
    → (access_at accesses x).pos ≡ (access_at accesses y).pos → x ≡ y
one_number [] x y distinct less_x less_y e = absurd (omega (arith, less_x))
one_number (a ∷ more) zero zero distinct less_x less_y e = refl
one_number (a ∷ more) zero (suc y) distinct less_x less_y e =
    absurd (distinct.0 (subst (λ (p : Pos). In p (map position more)) (sym e) (pos_in more y (omega (arith, less_y)))))
one_number (a ∷ more) (suc x) zero distinct less_x less_y e =
    absurd (distinct.0 (subst (λ (p : Pos). In p (map position more)) e (pos_in more x (omega (arith, less_x)))))
one_number (a ∷ more) (suc x) (suc y) distinct less_x less_y e = ap suc (one_number more x y distinct.1 (omega (arith, less_x)) (omega (arith, less_y)) e)
