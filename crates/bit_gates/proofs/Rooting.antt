-- Outputs that some variables decide.
use Rattle.std.proofs.Common.{Bool, true, false}
use Rattle.std.specs.Prelude.{IsSome}
use Rattle.clause_store.specs.UnitRule.{IsGiven}
use Rattle.clause_store.proofs.Rooting.{given_from_value, value_from_given}
use Rattle.bit_gates.specs.Laws.{JoinedIsRooted, ChosenIsRooted}

pub joined_rooted : JoinedIsRooted
joined_rooted gate clauses a b out roots gives ra rb v rest values =
    let va = given_from_value v a (ra v rest values) in
    let vb = given_from_value v b (rb v rest values) in
    value_from_given v out (gate va.0 vb.0) (gives v va.0 vb.0 rest va.1 vb.1)

pub chosen_rooted : ChosenIsRooted
chosen_rooted clauses when then_lit else_lit out roots gives when_rooted then_rooted else_rooted v rest values =
    let condition = given_from_value v when (when_rooted v rest values) in
    go condition.0 condition.1
  where
    go : (c : Bool) → IsGiven v when c → IsSome (v out.var)
    go true t =
        let vt = given_from_value v then_lit (then_rooted v rest values) in
        value_from_given v out vt.0 (gives.on_true v vt.0 rest t vt.1)
    go false f =
        let ve = given_from_value v else_lit (else_rooted v rest values) in
        value_from_given v out ve.0 (gives.on_false v ve.0 rest f ve.1)
