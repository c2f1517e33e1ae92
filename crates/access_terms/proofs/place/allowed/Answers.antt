use Rattle.std.proofs.Common.{◌≡◌, ◌+◌, ◌-◌, ◌<◌, ◌∷◌, [], ◌∙◌, sym, ap, cond, drop, length, List, rules, arith}
use Rattle.elf_image.specs.declared.region.Region.{Region}
use Rattle.elf_image.specs.Layout.{covers}
use Rattle.bv_terms.specs.BitVectors.{bit_of}
use Rattle.bv_terms.specs.Values.{Assignment, value_at}
use Rattle.step_terms.proofs.Making.{by_two, first_stays, grows_on, reworded}
use Rattle.access_terms.specs.Rights.{allows_in, grants}
use Rattle.access_terms.proofs.Allowing.{allows_first, rest_more}
use Rattle.access_terms.proofs.place.allowed.Goals as goal

pub loop-done-preserved : goal.loop-done-preserved
loop-done-preserved g c =
    let old = c.args.pool.now in
    let mid = c.loop-done.pool in
    let new = c.in_region.new.pool in
    let a = c.args.address.number in
    let t = c.loop-done.test.number in
    let right = c.args.right in
    let regions = c.args.regions.now in
    let region = c.index-regions-regions.result in
    let done = c.loop-done.done in
    let rest = drop (length regions - done) regions in
    let within : done < length regions = first_of (search rules, omega arith) in
    let next : drop (length regions - (done + 1)) regions ≡ region ∷ rest = rest_more regions done region within ∙ ap (λ (r : Region). r ∷ rest) (sym c.index-regions-regions.is) in
    let place = λ (w : Assignment). value_at w old a in
    let before = λ (w : Assignment). bit_of (allows_in right rest (value_at w old a)) in
    record {
      grows = grows_on old mid new c.loop-done.invariant.grows c.in_region.ensures.grows;
      made = reworded old new (a ∷ []) 1 (λ w. cond (covers region (place w)) (bit_of (grants right region.perm)) (before w)) (λ w. bit_of (allows_in right (drop (length regions - (done + 1)) regions) (value_at w old a))) _
          (by_two old mid new (a ∷ []) a t 32 1 1 place before (λ u v. cond (covers region u) (bit_of (grants right region.perm)) v) _
          (first_stays old mid a [] 32 c.loop-done.invariant.grows c.requires.address) c.loop-done.invariant.made c.in_ok-test-2.ensures.made)
          (λ w. allows_first right region rest (place w) ∙ ap (λ (l : List Region). bit_of (allows_in right l (place w))) (sym next));
    }
