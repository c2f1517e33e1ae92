-- What assignments and the unit rule say of the order of two places.
use Rattle.std.specs.Prelude.{ℕ, Bool, true, false, not, ◌&&◌, nat_eq, nat_lt, if◌then◌else◌, Option, Some, None}
use Rattle.clause_store.specs.declared.lit.Lit.{Lit}
use Rattle.clause_store.specs.Literals.{Assignment, literal_value}
use Rattle.clause_store.specs.UnitRule.{Partial}
use Rattle.order_clauses.specs.declared.order_lit.OrderLit.{OrderLit}
use Rattle.order_clauses.specs.declared.order_lit.OrderLit.TheVariants as order_lit

abbrev pub literal_of : ℕ → Bool → Lit
literal_of var positive = record { var = var; positive = positive }

-- whether an assignment makes it true
abbrev pub spelled : Assignment → OrderLit → Bool
spelled w order_lit.Always = true
spelled w order_lit.Never = false
spelled w (order_lit.Is l) = literal_value w l

-- whether this value is there
abbrev pub is_value : Option Bool → Bool → Bool
is_value None b = false
is_value (Some a) b = if a then b else not b

-- whether the values of some variables make it true
abbrev pub is_known : Partial → OrderLit → Bool
is_known v order_lit.Always = true
is_known v order_lit.Never = false
is_known v (order_lit.Is l) = is_value (v l.var) l.positive

-- each variable has its value
abbrev pub all_given : Assignment → Partial
all_given w x = Some (w x)

-- whether the values of some variables say that one place below n stands before another
abbrev pub known_before : ℕ → (ℕ → ℕ → OrderLit) → Partial → ℕ → ℕ → Bool
known_before n lit v a b = nat_lt a n && (nat_lt b n && (not (nat_eq a b) && is_known v (lit a b)))
