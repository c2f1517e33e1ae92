-- Progress in a pool that grew, and the accesses among the steps that are done.
use Rattle.std.proofs.Common.{◌≡◌, ℕ, zero, suc, ◌<◌, List, [], ◌∷◌, length, map, filter, cond, Bool, true, false, refl, ◌∙◌, subst, inl, inr, arith}
use Rattle.std.specs.Prelude.{All, Option, Some, None, slice_index_or}
use Rattle.std.proofs.lemmas.List.{append-nil}
use Rattle.odr_log.specs.declared.log.Pos.{Pos}
use Rattle.bv_terms.specs.declared.node.TermId.{TermId}
use Rattle.bv_terms.specs.Shapes.{Shape}
use Rattle.guided_walk.specs.Orders.{In}
use Rattle.step_terms.specs.Made.{Grows}
use Rattle.step_terms.proofs.Making.{stays}
use Rattle.thread_terms.specs.declared.access.Access.{Access}
use Rattle.thread_terms.proofs.Standing.{registers_stay}
use Rattle.path_exec.specs.declared.progress.Progress.{Progress}
use Rattle.path_exec.specs.declared.walker.Walker.{Walker}
use Rattle.path_exec.specs.Paths.{IsListed, IsOfEarlier, IsOfOne, position}
use Rattle.path_exec.specs.Progress.{Ground, IsEnd, IsProgress, IsThread, IsWalker, step_of}
use Rattle.path_exec.proofs.Kept.{bits_kept, have_kept, listed_kept, meets_kept, registers_have_kept, shown_kept, stands_kept}

walker_grown : (ground : Ground) (old new : List Shape) (done : List Pos) (accesses : List Access) (thread : ℕ) (walker : Walker) → Grows old new
    → IsWalker ground old done accesses thread walker → IsWalker ground new done accesses thread walker
walker_grown ground old new done accesses thread walker grows is = record {
  words = registers_stay old new walker.registers grows is.words;
  stands = λ w step next hold. stands_kept w old new walker.registers (ground.address thread step) walker.link _ grows is.words (is.stands w step next hold);
  links = is.links;
  knows = λ step next. registers_have_kept (IsOfEarlier ground.log accesses (step_of thread step)) (IsOfEarlier ground.log accesses (step_of thread step)) old new walker.registers grows is.words
      (λ width number of. of) (is.knows step next);
}

thread_grown : (ground : Ground) (old new : List Shape) (done : List Pos) (accesses : List Access) (thread : ℕ) (walker : Option Walker) → Grows old new
    → IsThread ground old done accesses thread walker → IsThread ground new done accesses thread walker
thread_grown ground old new done accesses thread None grows is = is
thread_grown ground old new done accesses thread (Some walker) grows is = walker_grown ground old new done accesses thread walker grows is

end_grown : (ground : Ground) (old new : List Shape) (done : List Pos) (accesses : List Access) (thread : ℕ) (end : Option TermId) → Grows old new
    → IsEnd ground old done accesses thread end → IsEnd ground new done accesses thread end
end_grown ground old new done accesses thread None grows is = is
end_grown ground old new done accesses thread (Some id) grows is = record {
  ender = is.ender;
  ends = is.ends;
  there = is.there;
  word = stays old new 32 id.number grows is.word;
  value = λ w hold. grows.terms.value w id.number is.word.inside ∙ is.value w hold;
  knows = have_kept (IsOfEarlier ground.log accesses is.ender) (IsOfEarlier ground.log accesses is.ender) old new 32 id.number grows is.word (λ width number of. of) is.knows;
}

pub progress_grown : (ground : Ground) (old new : List Shape) (done : List Pos) (progress : Progress) → Grows old new → IsProgress ground old done progress → IsProgress ground new done progress
progress_grown ground old new done progress grows is = record {
  order = is.order;
  counted = is.counted;
  meets = λ w. (
    λ meets. (is.meets w).0 ((meets_kept w old new progress.constraints grows is.bits).1 meets),
    λ hold. (meets_kept w old new progress.constraints grows is.bits).0 ((is.meets w).1 hold),
  );
  bits = bits_kept old new progress.constraints grows is.bits;
  constraints_from = λ k d lt. have_kept (IsOfOne progress.accesses) (IsOfOne progress.accesses) old new 1 _ grows (is.bits k d lt) (λ width number of. of) (is.constraints_from k d lt);
  walker_count = is.walker_count;
  walkers = λ thread within. thread_grown ground old new done progress.accesses thread (slice_index_or progress.walkers thread None) grows (is.walkers thread within);
  end_count = is.end_count;
  ends = λ thread within. end_grown ground old new done progress.accesses thread (slice_index_or progress.ends thread None) grows (is.ends thread within);
  places = is.places;
  shows = λ w hold k d lt.
      let listed = is.each k d lt in
      shown_kept ground.image w old new _ _ grows listed.address listed.guard_bit listed.writes (is.shows w hold k d lt);
  each = λ k d lt. subst (λ (l : List Access). IsListed ground.log ground.walk new l (slice_index_or progress.accesses k d)) (append-nil progress.accesses)
      (listed_kept ground.log ground.walk old new progress.accesses [] (slice_index_or progress.accesses k d) grows (is.each k d lt));
}

-- ---- accesses

in_filter : (test : Pos → Bool) (x p : Pos) (xs : List Pos) → (b : Bool) → In p (cond b (x ∷ filter test xs) (filter test xs)) → (In p (filter test xs) → In p xs) → In p (x ∷ xs)
in_filter test x p xs true (inl e) rest = inl e
in_filter test x p xs true (inr i) rest = inr (rest i)
in_filter test x p xs false i rest = inr (rest i)

filtered_in : (test : Pos → Bool) (xs : List Pos) (p : Pos) → In p (filter test xs) → In p xs
filtered_in test [] p i = absurd i
filtered_in test (x ∷ xs) p i = in_filter test x p xs (test x) i (filtered_in test xs p)

in_map : (accesses : List Access) (k : ℕ) (d : Access) → k < length accesses → In (slice_index_or accesses k d).pos (map position accesses)
in_map [] k d lt = absurd (omega (arith, lt))
in_map (a ∷ accesses) zero d lt = inl refl
in_map (a ∷ accesses) (suc k) d lt = inr (in_map accesses k d (omega (arith, lt)))

-- the steps of the accesses are done
pub access_done : (accesses : List Access) (test : Pos → Bool) (done : List Pos) → map position accesses ≡ filter test done → All (λ (a : Access). In a.pos done) accesses
access_done accesses test done e k d lt = filtered_in test done (slice_index_or accesses k d).pos (subst (In (slice_index_or accesses k d).pos) e (in_map accesses k d lt))
