-- Lists of steps that keep an ordered relation tell one walk.
use Rattle.std.proofs.Common.{subst}
use Rattle.odr_log.specs.declared.log.Log.{Log}
use Rattle.rv_model.specs.CallsFit.{CallsFit}
use Rattle.guided_walk.proofs.OrderedLaw.{ordered_law}
use Rattle.walk_orders.specs.Law.{ListsAgree}

pub lists_agree : ListsAgree
lists_agree image log walk given before steps others start other is ordered listed kept last relisted rekept relast =
    let fits = subst (λ (l : Log). CallsFit l) (ordered.again steps listed kept last) (ordered.passes steps listed kept last) in
    ordered_law image log walk given before steps others start other is fits ordered listed relisted kept rekept
