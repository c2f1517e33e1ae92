-- A packed literal's number is that of the literal that it stands for.
use Rattle.std.specs.Prelude.{◌≡◌, ℕ}
use Rattle.std.proofs.Common.{ap}
use Rattle.sat_trail.specs.declared.packed.Packed.TheInside.{Inside}
use Rattle.sat_trail.specs.Packing.{place_of, lit_of, place_of-lit_of}

pub same_inside : (a : Inside) → record { code = place_of (lit_of a.code) } ≡ a
same_inside a = let make : ℕ → Inside = λ n. record { code = n } in ap make (place_of-lit_of a.code)
