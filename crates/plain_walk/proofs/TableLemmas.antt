-- What a table holds at a step is its newest visit there.
use Rattle.std.specs.Prelude.{◌≡◌, Bool, true, false, cond, List, [], ◌∷◌, Option, Some, None, refl}
use Rattle.std.specs.List.{find}
use Rattle.std.proofs.Common.{sym, ◌∙◌, ap}
use Rattle.odr_log.specs.declared.log.Pos.{Pos}
use Rattle.guided_walk.specs.Guided.{Visit, at}
use Rattle.plain_walk.specs.declared.table.Visited.{Visited}
use Rattle.plain_walk.specs.Data.{visit_of, visits_of, is_place}
use Rattle.plain_walk.specs.Tables.{Tabled, visits_in, newest_or}

choose : (nothing visited : Visited) (later : Option Visited) (here : Visit) (b : Bool) → visit_of (newest_or nothing later) ≡ here
    → visit_of (newest_or nothing (cond b (Some visited) later)) ≡ cond b (visit_of visited) here
choose nothing visited later here true e = refl
choose nothing visited later here false e = e

pub newest_is : (nothing : Visited) (visits : List Visited) (p : Pos)
    → visit_of (newest_or nothing (find (λ (visited : Visited). is_place p visited.at) visits)) ≡ at (visits_of nothing visits) p
newest_is nothing [] p = refl
newest_is nothing (visited ∷ older) p =
    choose nothing visited (find (λ (v : Visited). is_place p v.at) older) (at (visits_of nothing older) p) (is_place p visited.at) (newest_is nothing older p)

pub is_seen : (nothing visited : Visited) (visits : List Visited) (p : Pos) → find (λ (v : Visited). is_place p v.at) visits ≡ Some visited
    → visit_of visited ≡ at (visits_of nothing visits) p
is_seen nothing visited visits p e = ap (λ (o : Option Visited). visit_of (newest_or nothing o)) (sym e) ∙ newest_is nothing visits p

pub is_unseen : (nothing : Visited) (visits : List Visited) (p : Pos) → find (λ (v : Visited). is_place p v.at) visits ≡ None
    → visit_of nothing ≡ at (visits_of nothing visits) p
is_unseen nothing visits p e = ap (λ (o : Option Visited). visit_of (newest_or nothing o)) (sym e) ∙ newest_is nothing visits p

-- the visit that is found in a table, or stands for every other step
pub holds_at : (nothing visited : Visited) (visits : List Visited) (table : Tabled) (p : Pos) (found : Option Visited) → record { nothing = nothing; visits = visits } ≡ table
    → find (λ (v : Visited). is_place p v.at) visits ≡ found → visited ≡ newest_or nothing found → visit_of visited ≡ at (visits_in table) p
holds_at nothing visited visits table p found view e is =
    ap visit_of is ∙ ap (λ (o : Option Visited). visit_of (newest_or nothing o)) (sym e) ∙ newest_is nothing visits p
    ∙ ap (λ (t : Tabled). at (visits_in t) p) view
