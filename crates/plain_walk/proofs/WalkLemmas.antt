-- The walk along a list, one step more at a time.
use Rattle.std.specs.Prelude.{◌≡◌, ℕ, ◌+◌, ◌<◌, List, [], ◌∷◌, length, drop}
use Rattle.std.proofs.Common.{sym, ◌∙◌, ap, get_or}
use Rattle.std.proofs.lemmas.List.{drop_more}
use Rattle.elf_image.specs.Layout.{Layout}
use Rattle.odr_log.specs.declared.log.Pos.{Pos}
use Rattle.guided_walk.specs.Told.{Told}
use Rattle.guided_walk.specs.Guided.{Given, Visit, Visits, visit}
use Rattle.guided_walk.specs.Along.{put_at, walk_along}
use Rattle.plain_walk.specs.declared.table.Visited.{Visited}
use Rattle.plain_walk.specs.Data.{visit_of, visits_of}

pub step_more : (image : Layout) (told : Told) (given : Given) (steps : List Pos) (i : ℕ) (p : Pos) (v : Visits) → i < length steps → p ≡ get_or steps i p
    → walk_along image told given (drop (i + 1) steps) (put_at p (visit image told given v p.thread p.step) v) ≡ walk_along image told given (drop i steps) v
step_more image told given steps i p v within is =
    sym (ap (λ (ps : List Pos). walk_along image told given ps v) (drop_more steps i p within ∙ ap (λ (x : Pos). x ∷ drop (i + 1) steps) (sym is)))

put_same : (p q : Pos) (x y : Visit) (v : Visits) → p ≡ q → x ≡ y → put_at p x v ≡ put_at q y v
put_same p q x y v e f = ap (λ (r : Pos). put_at r x v) e ∙ ap (λ (z : Visit). put_at q z v) f

pub walked_on : (image : Layout) (told : Told) (given : Given) (steps : List Pos) (i : ℕ) (p : Pos) (nothing : Visited) (visits after : List Visited) (next : Visited)
    → i < length steps → p ≡ get_or steps i p → next.at ≡ p → visit_of next ≡ visit image told given (visits_of nothing visits) p.thread p.step → after ≡ next ∷ visits
    → walk_along image told given (drop i steps) (visits_of nothing visits) ≡ walk_along image told given steps (visits_of nothing [])
    → walk_along image told given (drop (i + 1) steps) (visits_of nothing after) ≡ walk_along image told given steps (visits_of nothing [])
walked_on image told given steps i p nothing visits after next within is at value push so_far =
    let v : Visits = visits_of nothing visits in
    ap (λ (vs : List Visited). walk_along image told given (drop (i + 1) steps) (visits_of nothing vs)) push
    ∙ ap (walk_along image told given (drop (i + 1) steps)) (put_same next.at p (visit_of next) (visit image told given v p.thread p.step) v at value)
    ∙ step_more image told given steps i p v within is
    ∙ so_far
