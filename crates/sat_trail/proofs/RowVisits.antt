-- Along one row: how the clauses, what they watch and the steps stay in order.
use Rattle.std.proofs.Common.{◌≡◌, ℕ, suc, ◌+◌, ◌<◌, ◌≤◌, ◌⊎◌, Bool, not, Option, Some, None, List, [], ◌∷◌, ◌++◌, take, set, length, slice_get, refl, sym, ◌∙◌, ap, subst, inl, inr, arith, add-one}
use Rattle.std.specs.Prelude.{Any, Contains}
use Rattle.std.proofs.lemmas.Bool.{cases_eq}
use Rattle.std.proofs.lemmas.Option.{none-some, same_Some, slice_get_within}
use Rattle.std.proofs.lemmas.List.{take-append-le, take_all, length-append, append_assoc, append-nil}
use Rattle.clause_store.specs.declared.lit.Lit.{Lit}
use Rattle.clause_store.specs.Literals.{opposite}
use Rattle.clause_store.specs.UnitRule.{Partial, MakesTrue, MakesFalse}
use Rattle.clause_store.proofs.Members.{Any-from_contains}
use Rattle.clause_store.proofs.Rest.{true_not_false}
use Rattle.sat_trail.specs.declared.step.Step.{Step}
use Rattle.sat_trail.specs.declared.watcher.Pair.{Pair}
use Rattle.sat_trail.specs.declared.watcher.Watcher.{Watcher}
use Rattle.sat_trail.specs.Paths.{Path, IsFresh, IsWhy, IsReason, IsWalk, value_in, step_of, with_step}
use Rattle.sat_trail.specs.Watching.{Watched, IsOneOf, IsPairOf, IsIndexed, ListsFrom, IsSafe, AllSafe, IsWatching, CanMove, IsMoved, pair_of, row_in}
use Rattle.sat_trail.specs.Visits.{CanKeep, CanPush, IsGrown, IsEngine, IsStepped, IsHalf}
use Rattle.sat_trail.proofs.Listing.{push-cases, get-append, take-more_get, get-set_same, get-set_other, one_var_cases, not-twice}
use Rattle.sat_trail.proofs.Fronts.{value-append, value-push_same, value-push_other, value-whole, step-true_whole}
use Rattle.sat_trail.proofs.Trailing.{path-push}
use Rattle.sat_trail.proofs.Moving.{stay-differs}

-- what holds of some literal, where less is asked of it
pub any-more : {X : Type 0} (P Q : X → Type 0) (xs : List X) → ((x : X) → P x → Q x) → Any P xs → Any Q xs
any-more P Q xs more some = (some.0, some.1, some.2, some.3, more some.1 some.4)

-- the same steps

pub grown-same : (steps : List Step) → IsGrown steps steps
grown-same steps = record { more = []; grown = sym (append-nil steps); forced = λ p s found none. found }

pub grown-push : (old new : List Step) (l : Lit) (c : ℕ) → IsGrown old new → IsGrown old (new ++ step_of l (Some c) ∷ [])
grown-push old new l c is =
    record {
      more = is.more ++ step_of l (Some c) ∷ [];
      grown = ap (λ (xs : List Step). xs ++ step_of l (Some c) ∷ []) is.grown ∙ append_assoc old is.more (step_of l (Some c) ∷ []);
      forced = λ p s found none. go p s none (push-cases new (step_of l (Some c)) p s found);
    }
  where
    go : (p : ℕ) (s : Step) → s.reason ≡ None → (slice_get new p ≡ Some s) ⊎ ((p ≡ length new) × (step_of l (Some c) ≡ s)) → slice_get old p ≡ Some s
    go p s none (inl found) = is.forced p s found none
    go p s none (inr last) = absurd (none-some c (sym none ∙ ap (λ (x : Step). x.reason) (sym last.1)))

pub walk-push : (clauses : List (List Lit)) (steps : List Step) (l : Lit) (reason : Option ℕ) → IsWalk clauses steps → IsWhy clauses (value_in steps) l reason
    → IsWalk clauses (steps ++ step_of l reason ∷ [])
walk-push clauses steps l reason walk why =
    record { why = λ p s found. go p s (push-cases steps (step_of l reason) p s found) }
  where
    along : (p : ℕ) (s : Step) → (front : List Step) → take p (steps ++ step_of l reason ∷ []) ≡ front → IsWhy clauses (value_in front) s.lit s.reason
        → IsWhy clauses (value_in (take p (steps ++ step_of l reason ∷ []))) s.lit s.reason
    along p s front e why' = subst (λ (xs : List Step). IsWhy clauses (value_in xs) s.lit s.reason) (sym e) why'

    go : (p : ℕ) (s : Step) → (slice_get steps p ≡ Some s) ⊎ ((p ≡ length steps) × (step_of l reason ≡ s)) → IsWhy clauses (value_in (take p (steps ++ step_of l reason ∷ []))) s.lit s.reason
    go p s (inl found) =
        let within : p < length steps = slice_get_within steps p s found in
        along p s (take p steps) (take-append-le p steps (step_of l reason ∷ []) (omega arith)) (walk.why p s found)
    go p s (inr last) =
        let at_end : p ≤ length steps = omega (arith, last.0) in
        let all : length steps ≤ p = omega (arith, last.0) in
        along p s steps (take-append-le p steps (step_of l reason ∷ []) at_end ∙ take_all p steps all)
        (subst (λ (x : Step). IsWhy clauses (value_in steps) x.lit x.reason) last.1 why)

-- what is safe stays so where more is true in the second values, and less is false in the first
pub safe-more : (v v' w w' : Partial) (clauses : List (List Lit)) (pairs : List Pair) → ((l : Lit) → MakesFalse v' l → MakesFalse v l) → ((l : Lit) → MakesTrue w l → MakesTrue w' l)
    → AllSafe v w clauses pairs → AllSafe v' w' clauses pairs
safe-more v v' w w' clauses pairs less more safe c clause pair found found' =
    let is : IsSafe v w clause pair = safe c clause pair found found' in
    record {
      watched = λ l one falsified. any-more (MakesTrue w) (MakesTrue w') clause more (is.watched l one (less l falsified));
      alone = λ e. any-more (MakesTrue w) (MakesTrue w') clause more (is.alone e);
    }

pub safe-along : (xs ys : List Step) (clauses : List (List Lit)) (pairs : List Pair) → xs ≡ ys → AllSafe (value_in xs) (value_in xs) clauses pairs → AllSafe (value_in ys) (value_in ys) clauses pairs
safe-along xs ys clauses pairs e safe = subst (λ (zs : List Step). AllSafe (value_in zs) (value_in zs) clauses pairs) e safe

-- a forced step more: all fronts that are spoken of stay
pub watching-push : (clauses : List (List Lit)) (pairs : List Pair) (steps : List Step) (next : ℕ) (l : Lit) (r : ℕ) → IsWatching clauses pairs steps next → next ≤ length steps
    → IsWatching clauses pairs (steps ++ step_of l (Some r) ∷ []) next
watching-push clauses pairs steps next l r is within =
    record {
      now =
          safe-more (value_in (take next steps)) (value_in (take next (steps ++ step_of l (Some r) ∷ []))) (value_in steps) (value_in (steps ++ step_of l (Some r) ∷ [])) clauses pairs
          (λ k falsified. subst (λ (xs : List Step). MakesFalse (value_in xs) k) (take-append-le next steps (step_of l (Some r) ∷ []) within) falsified)
          (λ k holds. value-append steps (step_of l (Some r) ∷ []) k.var k.positive holds) is.now;
      before = λ p s found none. go p s none (push-cases steps (step_of l (Some r)) p s found);
    }
  where
    go : (p : ℕ) (s : Step) → s.reason ≡ None → (slice_get steps p ≡ Some s) ⊎ ((p ≡ length steps) × (step_of l (Some r) ≡ s))
        → AllSafe (value_in (take p (steps ++ step_of l (Some r) ∷ []))) (value_in (take p (steps ++ step_of l (Some r) ∷ []))) clauses pairs
    go p s none (inl found) =
        let within' : p < length steps = slice_get_within steps p s found in
        safe-along (take p steps) (take p (steps ++ step_of l (Some r) ∷ [])) clauses pairs (sym (take-append-le p steps (step_of l (Some r) ∷ []) (omega arith))) (is.before p s found none)
    go p s none (inr last) = absurd (none-some r (sym none ∙ ap (λ (x : Step). x.reason) (sym last.1)))

-- A clause watches another literal, which is false in no front: the one that stays was safe.
pub watching-moved : (w : Watched) (steps : List Step) (next : ℕ) (from : Lit) (gap c : ℕ) (stay to : Lit) (pairs : List Pair) → IsWatching w.clauses w.pairs steps next → CanMove w from gap c stay to
    → (MakesFalse (value_in steps) to → ⊥) → pairs ≡ set w.pairs c (pair_of to stay) → IsWatching w.clauses pairs steps next
watching-moved w steps next from gap c stay to pairs is can free changed =
    record {
      now = turned (value_in (take next steps)) (value_in steps) (λ l falsified. value-whole steps next l.var (not l.positive) falsified) is.now;
      before = λ p s found none.
          turned (value_in (take p steps)) (value_in (take p steps)) (λ l falsified. value-whole steps p l.var (not l.positive) falsified) (is.before p s found none);
    }
  where
    turned : (v u : Partial) → ((l : Lit) → MakesFalse v l → MakesFalse (value_in steps) l) → AllSafe v u w.clauses w.pairs → AllSafe v u w.clauses pairs
    turned v u whole safe d clause pair found found' = go (cases_eq d c)
      where
        at : slice_get (set w.pairs c (pair_of to stay)) d ≡ Some pair
        at = subst (λ (ps : List Pair). slice_get ps d ≡ Some pair) changed found'

        old : d ≡ c → IsSafe v u clause can.pair
        old same = safe d clause can.pair found (subst (λ (n : ℕ). slice_get w.pairs n ≡ Some can.pair) (sym same) can.paired)

        stays : IsOneOf can.pair stay
        stays = elim can.both [ inl b ↦ inr (sym b.1) | inr b ↦ inl (sym b.1) ]

        new : d ≡ c → IsSafe v u clause (pair_of to stay)
        new same =
            record {
              watched = λ l one falsified. which l one falsified (old same);
              alone = λ e. absurd (can.differs e);
            }
          where
            which : (l : Lit) → (l ≡ to) ⊎ (l ≡ stay) → MakesFalse v l → IsSafe v u clause can.pair → Any (MakesTrue u) clause
            which l (inl e) falsified before = absurd (free (whole to (subst (λ (k : Lit). MakesFalse v k) e falsified)))
            which l (inr e) falsified before = before.watched stay stays (subst (λ (k : Lit). MakesFalse v k) e falsified)

        go : (d ≡ c) ⊎ (d ≡ c → ⊥) → IsSafe v u clause pair
        go (inl same) =
            subst (λ (p : Pair). IsSafe v u clause p) (get-set_same w.pairs c (pair_of to stay) pair (subst (λ (n : ℕ). slice_get (set w.pairs c (pair_of to stay)) n ≡ Some pair) same at)) (new same)
        go (inr ne) = safe d clause pair found (sym (get-set_other w.pairs c d (pair_of to stay) ne) ∙ at)

-- false one step later is false before, or the opposite of the step
pub false-next : (steps : List Step) (at : ℕ) (s : Step) (l : Lit) → IsFresh steps → slice_get steps at ≡ Some s → MakesFalse (value_in (take (suc at) steps)) l
    → MakesFalse (value_in (take at steps)) l ⊎ (l ≡ opposite s.lit)
false-next steps at s l fresh there falsified = go (cases_eq l.var s.lit.var)
  where
    then' : value_in (take at steps ++ s ∷ []) l.var ≡ Some (not l.positive)
    then' = subst (λ (xs : List Step). value_in xs l.var ≡ Some (not l.positive)) (take-more_get steps at s there) falsified

    sign : MakesTrue (value_in (take at steps ++ s ∷ [])) s.lit
    sign = value-push_same (take at steps) s (fresh at s there)

    go : (l.var ≡ s.lit.var) ⊎ (l.var ≡ s.lit.var → ⊥) → MakesFalse (value_in (take at steps)) l ⊎ (l ≡ opposite s.lit)
    go (inl same) = elim (one_var_cases l s.lit same) [ inl one ↦ absurd (true_not_false (value_in (take at steps ++ s ∷ [])) l (subst (λ (k : Lit). MakesTrue (value_in (take at steps ++ s ∷ [])) k) (sym one) sign) then') | inr opp ↦ inr opp ]
    go (inr ne) = inl (sym (value-push_other (take at steps) s l.var ne) ∙ then')

pub half-start : (t : Path) (w : Watched) (at : ℕ) (s : Step) → IsEngine t w at → IsIndexed w → slice_get t.steps at ≡ Some s → IsHalf t w t w at (opposite s.lit) 0
half-start t w at s engine is there =
    record {
      stepped = record { engine = engine; same_vars = refl; same_clauses = refl; grown = grown-same t.steps };
      step = s;
      there = there;
      turned = refl;
      seen = λ c clause pair found found' one. inr (is.complete c pair (opposite s.lit) found' one);
    }

pub half-keep : (t0 : Path) (w0 : Watched) (t : Path) (w : Watched) (at : ℕ) (from : Lit) (place : ℕ) → IsHalf t0 w0 t w at from place → CanKeep w (value_in t.steps) from place
    → IsHalf t0 w0 t w at from (place + 1)
half-keep t0 w0 t w at from place half keep =
    record {
      stepped = half.stepped;
      step = half.step;
      there = half.there;
      turned = half.turned;
      seen = λ c clause pair found found' one. go c clause pair found found' one (half.seen c clause pair found found' one);
    }
  where
    go : (c : ℕ) (clause : List Lit) (pair : Pair) → slice_get w.clauses c ≡ Some clause → slice_get w.pairs c ≡ Some pair → IsOneOf pair from
        → Any (MakesTrue (value_in t.steps)) clause ⊎ ListsFrom place (row_in w.rows from) c → Any (MakesTrue (value_in t.steps)) clause ⊎ ListsFrom (place + 1) (row_in w.rows from) c
    go c clause pair found found' one (inl some) = inl some
    go c clause pair found found' one (inr lists) = next (cases_eq lists.place place)
      where
        next : (lists.place ≡ place) ⊎ (lists.place ≡ place → ⊥) → Any (MakesTrue (value_in t.steps)) clause ⊎ ListsFrom (place + 1) (row_in w.rows from) c
        next (inl same) =
            let x_is : keep.watcher ≡ lists.watcher = same_Some keep.watcher lists.watcher (sym keep.found ∙ subst (λ (n : ℕ). slice_get (row_in w.rows from) n ≡ Some lists.watcher) same lists.found) in
            let named : c ≡ keep.watcher.clause = sym lists.named ∙ ap (λ (x : Watcher). x.clause) (sym x_is) in
            inl
            (keep.holds clause pair (subst (λ (n : ℕ). slice_get w.clauses n ≡ Some clause) named found) (subst (λ (n : ℕ). slice_get w.pairs n ≡ Some pair) named found') one)
        next (inr differs) =
            inr record { place = lists.place; watcher = lists.watcher; low = omega (arith, lists.low, differs); found = lists.found; named = lists.named }

pub reason-push : (w : Watched) (v : Partial) (from : Lit) (gap c : ℕ) (l : Lit) → CanPush w v from gap c l → IsReason w.clauses v l c
reason-push w v from gap c l can =
    record {
      within = slice_get_within w.clauses c can.clause can.numbered;
      others = λ clause found k listed differs.
          can.others k (subst (λ (d : List Lit). Contains d k) (same_Some clause can.clause (sym found ∙ can.numbered)) listed) differs;
    }

pub half-push : (t0 : Path) (w0 : Watched) (t t' : Path) (w : Watched) (at : ℕ) (from : Lit) (place c : ℕ) (l : Lit) → IsHalf t0 w0 t w at from place → CanPush w (value_in t.steps) from place c l
    → t' ≡ with_step t l (Some c) → IsHalf t0 w0 t' w at from (place + 1)
half-push t0 w0 t t' w at from place c l half can made = subst (λ (u : Path). IsHalf t0 w0 u w at from (place + 1)) (sym made) pushed
  where
    more : (k : Lit) → MakesTrue (value_in t.steps) k → MakesTrue (value_in (t.steps ++ step_of l (Some c) ∷ [])) k
    more k holds = value-append t.steps (step_of l (Some c) ∷ []) k.var k.positive holds

    holds : MakesTrue (value_in (t.steps ++ step_of l (Some c) ∷ [])) l
    holds = value-push_same t.steps (step_of l (Some c)) can.still_open

    old : IsEngine t w at
    old = half.stepped.engine

    engine : IsEngine (with_step t l (Some c)) w at
    engine =
        record {
          vars = old.vars;
          path = path-push t.vars t.steps (step_of l (Some c)) old.path (omega (arith, can.known, old.vars)) can.still_open;
          within = omega (arith, old.within, length-append t.steps (step_of l (Some c) ∷ []));
          walk = walk-push w.clauses t.steps l (Some c) old.walk (reason-push w (value_in t.steps) from place c l can);
          watching = watching-push w.clauses w.pairs t.steps at l c old.watching old.within;
        }

    go : (d : ℕ) (clause : List Lit) → slice_get w.clauses d ≡ Some clause → Any (MakesTrue (value_in t.steps)) clause ⊎ ListsFrom place (row_in w.rows from) d
        → Any (MakesTrue (value_in (t.steps ++ step_of l (Some c) ∷ []))) clause ⊎ ListsFrom (place + 1) (row_in w.rows from) d
    go d clause found (inl some) = inl (any-more (MakesTrue (value_in t.steps)) (MakesTrue (value_in (t.steps ++ step_of l (Some c) ∷ []))) clause more some)
    go d clause found (inr lists) = next (cases_eq lists.place place)
      where
        next : (lists.place ≡ place) ⊎ (lists.place ≡ place → ⊥) → Any (MakesTrue (value_in (t.steps ++ step_of l (Some c) ∷ []))) clause ⊎ ListsFrom (place + 1) (row_in w.rows from) d
        next (inl same) =
            let x_is : can.watcher ≡ lists.watcher = same_Some can.watcher lists.watcher (sym can.found ∙ subst (λ (n : ℕ). slice_get (row_in w.rows from) n ≡ Some lists.watcher) same lists.found) in
            let named : d ≡ c = sym lists.named ∙ ap (λ (x : Watcher). x.clause) (sym x_is) ∙ can.named in
            let clause_is : can.clause ≡ clause = same_Some can.clause clause (sym can.numbered ∙ subst (λ (n : ℕ). slice_get w.clauses n ≡ Some clause) named found) in
            inl (Any-from_contains (MakesTrue (value_in (t.steps ++ step_of l (Some c) ∷ []))) clause l (subst (λ (x : List Lit). Contains x l) clause_is can.listed) holds)
        next (inr differs) =
            inr record { place = lists.place; watcher = lists.watcher; low = omega (arith, lists.low, differs); found = lists.found; named = lists.named }

    pushed : IsHalf t0 w0 (with_step t l (Some c)) w at from (place + 1)
    pushed =
        record {
          stepped =
              record {
                engine = engine;
                same_vars = half.stepped.same_vars;
                same_clauses = half.stepped.same_clauses;
                grown = grown-push t0.steps t.steps l c half.stepped.grown;
              };
          step = half.step;
          there = get-append t.steps (step_of l (Some c) ∷ []) at half.step half.there;
          turned = half.turned;
          seen = λ d clause pair found found' one. go d clause found (half.seen d clause pair found found' one);
        }

pub half-move : (t0 : Path) (w0 : Watched) (t : Path) (w w' : Watched) (at : ℕ) (from : Lit) (place c : ℕ) (stay to : Lit) → IsHalf t0 w0 t w at from place → CanMove w from place c stay to
    → (MakesFalse (value_in t.steps) to → ⊥) → IsMoved w w' from place c stay to → IsIndexed w → IsHalf t0 w0 t w' at from place
half-move t0 w0 t w w' at from place c stay to half can free moved is =
    record {
      stepped =
          record {
            engine =
                record {
                  vars = old.vars ∙ sym moved.same_vars;
                  path = old.path;
                  within = old.within;
                  walk = subst (λ (cs : List (List Lit)). IsWalk cs t.steps) (sym moved.same_clauses) old.walk;
                  watching =
                      subst (λ (cs : List (List Lit)). IsWatching cs w'.pairs t.steps at) (sym moved.same_clauses)
                      (watching-moved w t.steps at from place c stay to w'.pairs old.watching can free moved.changed);
                };
            same_vars = half.stepped.same_vars;
            same_clauses = moved.same_clauses ∙ half.stepped.same_clauses;
            grown = half.stepped.grown;
          };
      step = half.step;
      there = half.there;
      turned = half.turned;
      seen = λ d clause pair found found' one. go d clause pair (subst (λ (cs : List (List Lit)). slice_get cs d ≡ Some clause) moved.same_clauses found) (subst (λ (ps : List Pair). slice_get ps d ≡ Some pair) moved.changed found') one (cases_eq d c);
    }
  where
    old : IsEngine t w at
    old = half.stepped.engine

    of : IsPairOf can.clause can.pair
    of = is.paired c can.clause can.pair can.numbered can.paired

    -- neither of the two that are watched now is the row's
    other : (pair : Pair) → pair_of to stay ≡ pair → IsOneOf pair from → ⊥
    other pair made one = go (subst (λ (p : Pair). IsOneOf p from) (sym made) one)
      where
        go : (from ≡ to) ⊎ (from ≡ stay) → ⊥
        go (inl e) = can.moves (sym e)
        go (inr e) = stay-differs w from place c stay to is can (sym e)

    go : (d : ℕ) (clause : List Lit) (pair : Pair) → slice_get w.clauses d ≡ Some clause → slice_get (set w.pairs c (pair_of to stay)) d ≡ Some pair → IsOneOf pair from → (d ≡ c) ⊎ (d ≡ c → ⊥)
        → Any (MakesTrue (value_in t.steps)) clause ⊎ ListsFrom place (row_in w'.rows from) d
    go d clause pair found found' one (inl same) =
        absurd (other pair (get-set_same w.pairs c (pair_of to stay) pair (subst (λ (n : ℕ). slice_get (set w.pairs c (pair_of to stay)) n ≡ Some pair) same found')) one)
    go d clause pair found found' one (inr ne) = kept (half.seen d clause pair found (sym (get-set_other w.pairs c d (pair_of to stay) ne) ∙ found') one)
      where
        kept : Any (MakesTrue (value_in t.steps)) clause ⊎ ListsFrom place (row_in w.rows from) d → Any (MakesTrue (value_in t.steps)) clause ⊎ ListsFrom place (row_in w'.rows from) d
        kept (inl some) = inl some
        kept (inr lists) = inr (moved.still d ne lists)

pub half-end : (t0 : Path) (w0 : Watched) (t : Path) (w : Watched) (at : ℕ) (from : Lit) (place : ℕ) → IsHalf t0 w0 t w at from place → length (row_in w.rows from) ≤ place
    → IsStepped t0 w0 t w (at + 1)
half-end t0 w0 t w at from place half done =
    record {
      engine =
          record {
            vars = old.vars;
            path = old.path;
            within = omega (arith, slice_get_within t.steps at half.step half.there);
            walk = old.walk;
            watching = record { now = safe; before = old.watching.before };
          };
      same_vars = half.stepped.same_vars;
      same_clauses = half.stepped.same_clauses;
      grown = half.stepped.grown;
    }
  where
    old : IsEngine t w at
    old = half.stepped.engine

    safe : AllSafe (value_in (take (at + 1) t.steps)) (value_in t.steps) w.clauses w.pairs
    safe c clause pair found found' =
        let is : IsSafe (value_in (take at t.steps)) (value_in t.steps) clause pair = old.watching.now c clause pair found found' in
        record { watched = λ l one falsified. go l one is (false-next t.steps at half.step l old.path.fresh half.there (later l falsified)); alone = is.alone }
      where
        later : (l : Lit) → MakesFalse (value_in (take (at + 1) t.steps)) l → MakesFalse (value_in (take (suc at) t.steps)) l
        later l falsified = subst (λ (n : ℕ). MakesFalse (value_in (take n t.steps)) l) (add-one at) falsified

        all : IsOneOf pair from → Any (MakesTrue (value_in t.steps)) clause
        all one = elim (half.seen c clause pair found found' one) [ inl some ↦ some | inr lists ↦ absurd (omega (arith, lists.low, slice_get_within (row_in w.rows from) lists.place lists.watcher lists.found, done)) ]

        go : (l : Lit) → IsOneOf pair l → IsSafe (value_in (take at t.steps)) (value_in t.steps) clause pair → MakesFalse (value_in (take at t.steps)) l ⊎ (l ≡ opposite half.step.lit) → Any (MakesTrue (value_in t.steps)) clause
        go l one is (inl before) = is.watched l one before
        go l one is (inr opp) = all (subst (λ (k : Lit). IsOneOf pair k) (opp ∙ sym half.turned) one)

-- the row's literal is false
pub half-false : (t0 : Path) (w0 : Watched) (t : Path) (w : Watched) (at : ℕ) (from : Lit) (place : ℕ) → IsHalf t0 w0 t w at from place → MakesFalse (value_in t.steps) from
half-false t0 w0 t w at from place half =
    let holds : MakesTrue (value_in t.steps) half.step.lit = step-true_whole t.steps at half.step half.stepped.engine.path.fresh half.there in
    subst (λ (k : Lit). MakesFalse (value_in t.steps) k) (sym half.turned) (holds ∙ ap (λ (b : Bool). Some b) (sym (not-twice half.step.lit.positive)))
