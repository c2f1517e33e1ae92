use Rattle.std.proofs.Common.{◌≡◌, ◌^◌, ◌<◌, ◌∙◌, sym, subst, arith}
use Rattle.std.proofs.lemmas.Nat.{pow_pos}
use Rattle.bv_terms.specs.Values.{Assignment, value_at}
use Rattle.hit_terms.specs.Hits.{place_of}
use Rattle.hit_terms.proofs.initial.initial.Goals as goal

-- an assignment, by which a constant's bound is read off
zero : Assignment
zero = record { value_of = λ width number. 0; below = λ width number. pow_pos width }

pub overflow_cast-place : goal.overflow_cast-place
overflow_cast-place g c =
    let is : place_of (value_at zero c.args.pool.now c.args.address.number) c.args.index ≡ c.in-Some.place =
    sym (c.in_ok-place.ensures.made.value zero) ∙ c.in-Some.ensures.value zero in
    let below : place_of (value_at zero c.args.pool.now c.args.address.number) c.args.index < 2 ^ 32 = omega arith in
    record { fits = subst (λ n. n < 2 ^ 32) is below }
