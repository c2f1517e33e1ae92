use Rattle.std.proofs.Common.{◌≡◌, ◌∙◌, sym, arith, rules}
use Rattle.read_spots.proofs.Listing.{one_byte}
use Rattle.read_spots.proofs.spots.bytes_at.Goals as goal

pub returns-then-byte-count-clause-all : goal.returns-then-byte-count-clause-all
returns-then-byte-count-clause-all c =
    λ byte less meets.
    let same : c.from-byte.result ≡ byte =
    one_byte c.in-Some-Some.from byte c.byte.result c.from-byte.result (omega arith) (omega (arith, less))
    (meets c.in-Some-Some.from c.in-Some-Some.to (search rules) (search rules) ∙ sym c.byte.ensures) (omega arith) in (omega (arith, same), omega (arith, same))

pub returns-else-byte-count-clause-all : goal.returns-else-byte-count-clause-all
returns-else-byte-count-clause-all c =
    λ byte less meets.
    let same : c.from-byte.result ≡ byte =
    one_byte c.in-Some-Some.from byte c.byte.result c.from-byte.result (omega arith) (omega (arith, less))
    (meets c.in-Some-Some.from c.in-Some-Some.to (search rules) (search rules) ∙ sym c.byte.ensures) (omega arith) in absurd (omega (arith, same, less, c.if-byte-count.false))
