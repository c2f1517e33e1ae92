use Rattle.std.proofs.Common.{◌≡◌, ◌+◌, ◌-◌, ◌<◌, ◌∷◌, [], ◌∙◌, sym, ap, cond, drop, length, List, rules, arith}
use Rattle.std.specs.Prelude.{slice_index}
use Rattle.elf_image.specs.declared.region.Region.{Region}
use Rattle.elf_image.specs.Layout.{covers, region_at}
use Rattle.elf_image.specs.Memory.{byte_in, cell_in}
use Rattle.bv_terms.specs.Values.{Assignment, value_at}
use Rattle.step_terms.proofs.Making.{by_two, first_stays, grows_on, reworded, stays}
use Rattle.access_terms.proofs.Allowing.{rest_more}
use Rattle.hit_terms.proofs.Selecting.{first_byte}
use Rattle.hit_terms.proofs.initial.searched.Goals as goal

pub in_region-requires-clause-address : goal.in_region-requires-clause-address
in_region-requires-clause-address g c = stays c.args.pool.now c.loop-done.pool 32 c.args.address.number c.loop-done.invariant.grows c.requires.address

pub loop-done-preserved : goal.loop-done-preserved
loop-done-preserved g c =
    let old = c.args.pool.now in
    let mid = c.loop-done.pool in
    let new = c.in_region.new.pool in
    let a = c.args.address.number in
    let t = c.loop-done.byte.number in
    let regions = c.args.regions.now in
    let region = c.index-regions-regions.result in
    let done = c.loop-done.done in
    let rest = drop (length regions - done) regions in
    let within : done < length regions = first_of (search rules, omega arith) in
    let next : drop (length regions - (done + 1)) regions ≡ region ∷ rest = rest_more regions done region within ∙ ap (λ (r : Region). r ∷ rest) (sym c.index-regions-regions.is) in
    let place = λ (w : Assignment). value_at w old a in
    let before = λ (w : Assignment). byte_in (cell_in (region_at rest (value_at w old a)) (value_at w old a)) in
    record {
      grows = grows_on old mid new c.loop-done.invariant.grows c.in_region.ensures.grows;
      made = reworded old new (a ∷ []) 8 (λ w. cond (covers region (place w)) (slice_index region.bytes (place w - region.start)) (before w))
          (λ w. byte_in (cell_in (region_at (drop (length regions - (done + 1)) regions) (value_at w old a)) (value_at w old a))) _
          (by_two old mid new (a ∷ []) a t 32 8 8 place before (λ u v. cond (covers region u) (slice_index region.bytes (u - region.start)) v) _
          (first_stays old mid a [] 32 c.loop-done.invariant.grows c.requires.address) c.loop-done.invariant.made c.in_ok-byte-2.ensures.made)
          (λ w. first_byte region rest (place w) ∙ ap (λ (l : List Region). byte_in (cell_in (region_at l (place w)) (place w))) (sym next));
    }
