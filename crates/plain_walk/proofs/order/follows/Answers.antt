use Rattle.std.proofs.Common.{refl}
use Rattle.std.proofs.lemmas.Bool.{false≢true}
use Rattle.plain_walk.proofs.order.follows.Goals as goal

pub returns : goal.returns
returns c = (
  λ t. record {
    place = c.if-not-is_place.ensures.0 refl;
    new = λ i. false≢true (c.if-contains.ensures.1 i);
    needs = c.has_needs.ensures.0 t;
  },
  λ follows. c.has_needs.ensures.1 follows.needs,
)
