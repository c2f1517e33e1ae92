-- When a store-conditional succeeds, by what an assignment says of the order and of writes.
use Rattle.std.specs.Prelude.{◌≡◌, ◌↔◌, true, All}
use Rattle.clause_store.specs.Literals.{Assignment, literal_value}
use Rattle.order_clauses.specs.Literals.{spelled}
use Rattle.outcome_clauses.specs.declared.store_conditional.Ender.{Ender}
use Rattle.outcome_clauses.specs.declared.store_conditional.StoreConditional.{StoreConditional}

-- the write stands between the load-reserved and the store-conditional
pub record Between (w : Assignment) (ender : Ender) : Type 0 where
  pub after : spelled w ender.after ≡ true
  pub before : spelled w ender.before ≡ true

-- it ends the reservation: it stands between the two, takes place and touches the reserved word
pub record Ends (w : Assignment) (ender : Ender) : Type 0 where
  pub between : Between w ender
  pub hits : spelled w ender.hit ≡ true

-- the address is that of the load-reserved, and no write ends the reservation
pub record Succeeds (w : Assignment) (sc : StoreConditional) : Type 0 where
  pub same : spelled w sc.same ≡ true
  pub kept : All (λ ender. Ends w ender → ⊥) sc.enders

-- the outcome is true exactly where the store-conditional succeeds
abbrev pub HasOutcome : Assignment → StoreConditional → Type 0
HasOutcome w sc = (literal_value w sc.outcome ≡ true) ↔ Succeeds w sc
