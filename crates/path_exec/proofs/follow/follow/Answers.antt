use Rattle.std.proofs.Common.{◌≡◌, List, ◌∙◌, ap, subst}
use Rattle.std.specs.Prelude.{None, Option, Some, slice_index_or}
use Rattle.std.proofs.lemmas.Result.{on_ok_weaker}
use Rattle.bv_terms.specs.declared.node.TermId.{TermId}
use Rattle.path_exec.specs.declared.walker.Walker.{Walker}
use Rattle.path_exec.specs.Following.{IsJoined, joined_end}
use Rattle.path_exec.specs.Links.{link_after}
use Rattle.path_exec.proofs.follow.follow.Goals as goal

pub returns-clause-followed : goal.returns-clause-followed
returns-clause-followed g c =
    let before = c.walker_of-before.result in
    on_ok_weaker c.keep.result
    (λ is. record {
      walker = before;
      stood = subst (λ (l : List (Option Walker)). slice_index_or l c.args.pos.thread None ≡ Some before) c.as_slice.ensures c.walker_of-before.ensures;
      one = c.joined.new.pool;
      two = c.made_child.new.pool;
      grows_one = c.joined.ensures.grows;
      grows_two = c.made_child.ensures.grows;
      grows_three = c.take.ensures.grows;
      joined = c.in_ok-joined.joined;
      joins = subst (λ (l : List (Option TermId)). IsJoined c.args.pool.now c.joined.new.pool (joined_end l c.args.shown.now) c.in_ok-joined.joined) c.as_slice-2.ensures c.in_ok-joined.ensures.joined;
      word = c.in_ok-joined.ensures.word;
      left = record {
        walker = record { registers = c.take.new.walker.registers; link = c.link_after-walker.result };
        child = c.in_ok-child.child;
        end = c.end_left-end.result;
        stepped = c.in_ok-stepped.stepped;
      };
      child = c.in_ok-child.ensures.child;
      taken = c.in_ok-stepped.ensures.taken;
      words = c.in_ok-stepped.ensures.registers;
      link = c.link_after-walker.ensures ∙ ap (λ n. link_after c.args.place.now.instr n before.link) (c.in_ok-number.ensures ∙ c.len.ensures);
      end = c.end_left-end.ensures;
      is = is;
    })
    c.keep.ensures
