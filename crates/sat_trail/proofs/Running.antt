-- What holds of an engine after each of its methods.
use Rattle.std.proofs.Common.{◌≡◌, ◌≢◌, ℕ, zero, suc, ◌+◌, ◌<◌, ◌≤◌, ◌⊎◌, Bool, not, Option, Some, None, List, [], ◌∷◌, ◌++◌, take, length, get_or, slice_get, refl, sym, ◌∙◌, ap, subst, inl, inr, arith}
use Rattle.std.specs.Prelude.{Any, Contains}
use Rattle.std.proofs.lemmas.Bool.{cases_eq}
use Rattle.std.proofs.lemmas.Option.{none-some, same_Some, slice_get_within, get_or_from_slice_get}
use Rattle.std.proofs.lemmas.List.{take-append-le, take-take, take_all, length-append, length-take-le}
use Rattle.std.proofs.lemmas.List.Elements.{All-push, All-nil, All-contains}
use Rattle.clause_store.specs.declared.lit.Lit.{Lit}
use Rattle.clause_store.specs.UnitRule.{Partial, MakesTrue, MakesFalse, LeavesOpen, IsAtRest, AllAtRest, Follows}
use Rattle.clause_store.proofs.Members.{All-from_contains, Any-from_contains, All-slice_get}
use Rattle.clause_store.proofs.Rest.{lit_cases, forced, rest-not_false, open_not_false}
use Rattle.clause_store.proofs.StepLemmas.{lit_eq_cases}
use Rattle.sat_trail.specs.declared.step.Step.{Step}
use Rattle.sat_trail.specs.declared.watcher.Pair.{Pair}
use Rattle.sat_trail.specs.Paths.{Path, IsWhy, IsReason, IsWalk, IsDecision, NoDecision, value_in, step_of, with_step}
use Rattle.sat_trail.specs.Watching.{Watched, IsPairOf, IsIndexed, WithWatched, IsSafe, AllSafe, IsWatching, pair_of}
use Rattle.sat_trail.specs.Visits.{IsFalseClause, IsEngine, IsRun, IsEnd}
use Rattle.sat_trail.specs.declared.propagate.Run.{Run}
use Rattle.sat_trail.specs.Engines.{State, CanOpen, CanUnit, IsLoading, IsPropagated, IsSettled}
use Rattle.sat_trail.proofs.Listing.{push-cases, get-take, get-last, get-within}
use Rattle.sat_trail.proofs.Fronts.{StepOf, step-of, value-append, value-push_same, open-whole}
use Rattle.sat_trail.proofs.Trailing.{path-push, path-take}
use Rattle.sat_trail.proofs.RowVisits.{any-more, walk-push, watching-push, safe-more, safe-along}

-- where what is watched is safe, all clauses are at rest

two_open : (v : Partial) (clause : List Lit) (one two : Lit) → Contains clause one → Contains clause two → one ≢ two → LeavesOpen v one → LeavesOpen v two → IsAtRest v clause
two_open v clause one two listed listed' differ o o' =
    inr record { one = one; other = two; one_listed = listed; other_listed = listed'; differ = differ; one_open = o; other_open = o' }

safe-rest : (v : Partial) (clause : List Lit) (pair : Pair) → IsSafe v v clause pair → IsPairOf clause pair → IsAtRest v clause
safe-rest v clause pair safe of = go (lit_cases v pair.one) (lit_cases v pair.two) (lit_eq_cases pair.one pair.two)
  where
    go : MakesTrue v pair.one ⊎ MakesFalse v pair.one ⊎ LeavesOpen v pair.one → MakesTrue v pair.two ⊎ MakesFalse v pair.two ⊎ LeavesOpen v pair.two → (pair.one ≡ pair.two) ⊎ (pair.one ≢ pair.two)
        → IsAtRest v clause
    go (inl holds) _ _ = inl (Any-from_contains (MakesTrue v) clause pair.one of.one holds)
    go (inr (inl falsified)) _ _ = inl (safe.watched pair.one (inl refl) falsified)
    go (inr (inr o)) (inl holds) _ = inl (Any-from_contains (MakesTrue v) clause pair.two of.two holds)
    go (inr (inr o)) (inr (inl falsified)) _ = inl (safe.watched pair.two (inr refl) falsified)
    go (inr (inr o)) (inr (inr o')) (inl same) = inl (safe.alone same)
    go (inr (inr o)) (inr (inr o')) (inr differ) = two_open v clause pair.one pair.two of.one of.two differ o o'

pub all-rest : (v : Partial) (w : Watched) → AllSafe v v w.clauses w.pairs → IsIndexed w → AllAtRest v w.clauses
all-rest v w safe is = λ k d below. rest k (get-within w.clauses k below) d below
  where
    rest : (k : ℕ) → (clause : List Lit) × (slice_get w.clauses k ≡ Some clause) → (d : List Lit) → k < length w.clauses → IsAtRest v (get_or w.clauses k d)
    rest k found d below =
        let pair = get-within w.pairs k (omega (arith, below, is.even)) in
        subst (λ (c : List Lit). IsAtRest v c) (sym (get_or_from_slice_get w.clauses k found.0 d found.1))
        (safe-rest v found.0 pair.0 (safe k found.0 pair.0 found.1 pair.1) (is.paired k found.0 pair.0 found.1 pair.1))

-- safe in all steps, once all rows are done
settled-safe : (t : Path) (w : Watched) (next : ℕ) → IsEngine t w next → next ≡ length t.steps → AllSafe (value_in t.steps) (value_in t.steps) w.clauses w.pairs
settled-safe t w next engine done =
    subst (λ (xs : List Step). AllSafe (value_in xs) (value_in t.steps) w.clauses w.pairs) (take_all next t.steps (omega (arith, done))) engine.watching.now

pub engine-rest : (t : Path) (w : Watched) (next : ℕ) → IsEngine t w next → IsIndexed w → next ≡ length t.steps → AllAtRest (value_in t.steps) w.clauses
engine-rest t w next engine is done = all-rest (value_in t.steps) w (settled-safe t w next engine done) is

-- a decision

pub engine-decided : (t t' : Path) (w : Watched) (next : ℕ) (l : Lit) → IsEngine t w next → IsIndexed w → next ≡ length t.steps → l.var < t.vars → LeavesOpen (value_in t.steps) l
    → t' ≡ with_step t l None → IsEngine t' w next
engine-decided t t' w next l engine is done known o made =
    subst (λ (u : Path). IsEngine u w next) (sym made)
    record {
      vars = engine.vars;
      path = path-push t.vars t.steps (step_of l None) engine.path known o;
      within = omega (arith, engine.within, length-append t.steps (step_of l None ∷ []));
      walk = walk-push w.clauses t.steps l None engine.walk (engine-rest t w next engine is done);
      watching = record { now = now; before = λ p s found none. before p s none (push-cases t.steps (step_of l None) p s found) };
    }
  where
    more : (k : Lit) → MakesTrue (value_in t.steps) k → MakesTrue (value_in (t.steps ++ step_of l None ∷ [])) k
    more k holds = value-append t.steps (step_of l None ∷ []) k.var k.positive holds

    now : AllSafe (value_in (take next (t.steps ++ step_of l None ∷ []))) (value_in (t.steps ++ step_of l None ∷ [])) w.clauses w.pairs
    now =
        safe-more (value_in (take next t.steps)) (value_in (take next (t.steps ++ step_of l None ∷ []))) (value_in t.steps) (value_in (t.steps ++ step_of l None ∷ [])) w.clauses w.pairs
        (λ k falsified. subst (λ (xs : List Step). MakesFalse (value_in xs) k) (take-append-le next t.steps (step_of l None ∷ []) engine.within) falsified) more engine.watching.now

    front : (p : ℕ) (xs : List Step) → take p (t.steps ++ step_of l None ∷ []) ≡ xs → AllSafe (value_in xs) (value_in xs) w.clauses w.pairs
        → AllSafe (value_in (take p (t.steps ++ step_of l None ∷ []))) (value_in (take p (t.steps ++ step_of l None ∷ []))) w.clauses w.pairs
    front p xs e safe = safe-along xs (take p (t.steps ++ step_of l None ∷ [])) w.clauses w.pairs (sym e) safe

    before : (p : ℕ) (s : Step) → s.reason ≡ None → (slice_get t.steps p ≡ Some s) ⊎ ((p ≡ length t.steps) × (step_of l None ≡ s))
        → AllSafe (value_in (take p (t.steps ++ step_of l None ∷ []))) (value_in (take p (t.steps ++ step_of l None ∷ []))) w.clauses w.pairs
    before p s none (inl found) =
        let within : p < length t.steps = slice_get_within t.steps p s found in
        front p (take p t.steps) (take-append-le p t.steps (step_of l None ∷ []) (omega arith)) (engine.watching.before p s found none)
    before p s none (inr last) =
        front p t.steps (take-append-le p t.steps (step_of l None ∷ []) (omega (arith, last.0)) ∙ take_all p t.steps (omega (arith, last.0))) (settled-safe t w next engine done)

-- steps taken back to a decision: what was safe before it is safe now

pub walk-take : (clauses : List (List Lit)) (steps : List Step) (n : ℕ) → IsWalk clauses steps → IsWalk clauses (take n steps)
walk-take clauses steps n walk =
    record {
      why = λ p s found.
          let at = get-take n steps p s found in
          subst (λ (xs : List Step). IsWhy clauses (value_in xs) s.lit s.reason) (sym (take-take p n steps (omega (arith, at.1)))) (walk.why p s at.0);
    }

pub engine-undone : (t t' : Path) (w : Watched) (next n : ℕ) → IsEngine t w next → IsDecision t.steps n → t' ≡ record { vars = t.vars; steps = take n t.steps } → IsEngine t' w n
engine-undone t t' w next n engine decision made =
    subst (λ (u : Path). IsEngine u w n) (sym made)
    record {
      vars = engine.vars;
      path = path-take t.vars t.steps n engine.path;
      within = omega (arith, length-take-le n t.steps (omega (arith, slice_get_within t.steps n decision.step decision.there)));
      walk = walk-take w.clauses t.steps n engine.walk;
      watching =
          record {
            now =
                subst (λ (xs : List Step). AllSafe (value_in xs) (value_in (take n t.steps)) w.clauses w.pairs) (sym (take-take n n t.steps (omega arith)))
                (engine.watching.before n decision.step decision.there decision.decided);
            before = λ p s found none.
                let at = get-take n t.steps p s found in
                safe-along (take p t.steps) (take p (take n t.steps)) w.clauses w.pairs (sym (take-take p n t.steps (omega (arith, at.1)))) (engine.watching.before p s at.0 none);
          };
    }

-- one clause more

pub walk-more : (clauses : List (List Lit)) (line : List Lit) (steps : List Step) → IsWalk clauses steps → ((p : ℕ) → IsDecision steps p → IsAtRest (value_in (take p steps)) line) → IsWalk (clauses ++ line ∷ []) steps
walk-more clauses line steps walk rests = record { why = λ p s found. go p s s.reason found refl (walk.why p s found) }
  where
    go : (p : ℕ) (s : Step) (reason : Option ℕ) → slice_get steps p ≡ Some s → s.reason ≡ reason → IsWhy clauses (value_in (take p steps)) s.lit reason → IsWhy (clauses ++ line ∷ []) (value_in (take p steps)) s.lit reason
    go p s None found none rest = All-push (IsAtRest (value_in (take p steps))) clauses line rest (rests p record { step = s; there = found; decided = none })
    go p s (Some r) found some why =
        record {
          within = omega (arith, why.within, length-append clauses (line ∷ []));
          others = λ c numbered. other c (push-cases clauses line r c numbered);
        }
      where
        other : (c : List Lit) → (slice_get clauses r ≡ Some c) ⊎ ((r ≡ length clauses) × (line ≡ c)) → (k : Lit) → Contains c k → k ≢ s.lit → MakesFalse (value_in (take p steps)) k
        other c (inl old) = why.others c old
        other c (inr last) = absurd (omega (arith, last.0, why.within))

pub safe-add : (v u : Partial) (clauses : List (List Lit)) (pairs : List Pair) (line : List Lit) (pair : Pair) → length pairs ≡ length clauses → AllSafe v u clauses pairs → IsSafe v u line pair
    → AllSafe v u (clauses ++ line ∷ []) (pairs ++ pair ∷ [])
safe-add v u clauses pairs line pair even safe new c clause other found found' = go (push-cases clauses line c clause found) (push-cases pairs pair c other found')
  where
    go : (slice_get clauses c ≡ Some clause) ⊎ ((c ≡ length clauses) × (line ≡ clause)) → (slice_get pairs c ≡ Some other) ⊎ ((c ≡ length pairs) × (pair ≡ other)) → IsSafe v u clause other
    go (inl old) (inl old') = safe c clause other old old'
    go (inr last) (inr last') = subst (λ (p : Pair). IsSafe v u clause p) last'.1 (subst (λ (d : List Lit). IsSafe v u d pair) last.1 new)
    go (inl old) (inr last') = absurd (omega (arith, slice_get_within clauses c clause old, last'.0, even))
    go (inr last) (inl old') = absurd (omega (arith, slice_get_within pairs c other old', last.0, even))

watching-more : (clauses : List (List Lit)) (pairs : List Pair) (steps : List Step) (next : ℕ) (line : List Lit) (pair : Pair) → length pairs ≡ length clauses → IsWatching clauses pairs steps next
    → IsSafe (value_in (take next steps)) (value_in steps) line pair
    → ((p : ℕ) → IsDecision steps p → IsSafe (value_in (take p steps)) (value_in (take p steps)) line pair)
    → IsWatching (clauses ++ line ∷ []) (pairs ++ pair ∷ []) steps next
watching-more clauses pairs steps next line pair even is now before =
    record {
      now = safe-add (value_in (take next steps)) (value_in steps) clauses pairs line pair even is.now now;
      before = λ p s found none.
          safe-add (value_in (take p steps)) (value_in (take p steps)) clauses pairs line pair even (is.before p s found none) (before p record { step = s; there = found; decided = none });
    }

-- the index with one clause more
engine-along : (t : Path) (w w' : Watched) (line : List Lit) (pair : Pair) (next : ℕ) → WithWatched w w' line pair
    → IsEngine t record { vars = w.vars; clauses = w.clauses ++ line ∷ []; pairs = w.pairs ++ pair ∷ []; rows = w'.rows } next → IsEngine t w' next
engine-along t w w' line pair next more engine =
    record {
      vars = engine.vars ∙ sym more.same_vars;
      path = engine.path;
      within = engine.within;
      walk = subst (λ (cs : List (List Lit)). IsWalk cs t.steps) (sym more.more_clauses) engine.walk;
      watching =
          subst (λ (ps : List Pair). IsWatching w'.clauses ps t.steps next) (sym more.more_pairs)
          (subst (λ (cs : List (List Lit)). IsWatching cs (w.pairs ++ pair ∷ []) t.steps next) (sym more.more_clauses) engine.watching);
    }

pub engine-open : (t : Path) (w w' : Watched) (next : ℕ) (line : List Lit) (one two : Lit) → IsEngine t w next → IsIndexed w → WithWatched w w' line (pair_of one two) → CanOpen t.steps line one two → IsEngine t w' next
engine-open t w w' next line one two engine is more can =
    engine-along t w w' line (pair_of one two) next more
    record {
      vars = engine.vars;
      path = engine.path;
      within = engine.within;
      walk = walk-more w.clauses line t.steps engine.walk (λ p decision. two_open (value_in (take p t.steps)) line one two can.one_listed can.two_listed can.differ (open-whole t.steps p one.var can.one_open) (open-whole t.steps p two.var can.two_open));
      watching = watching-more w.clauses w.pairs t.steps next line (pair_of one two) is.even engine.watching (safe next (value_in t.steps)) (λ p decision. safe p (value_in (take p t.steps)));
    }
  where
    safe : (n : ℕ) (u : Partial) → IsSafe (value_in (take n t.steps)) u line (pair_of one two)
    safe n u = record { watched = λ l which falsified. absurd (go l which falsified); alone = λ e. absurd (can.differ e) }
      where
        go : (l : Lit) → (l ≡ one) ⊎ (l ≡ two) → MakesFalse (value_in (take n t.steps)) l → ⊥
        go l (inl e) falsified = open_not_false (value_in (take n t.steps)) one (open-whole t.steps n one.var can.one_open) (subst (λ (k : Lit). MakesFalse (value_in (take n t.steps)) k) e falsified)
        go l (inr e) falsified = open_not_false (value_in (take n t.steps)) two (open-whole t.steps n two.var can.two_open) (subst (λ (k : Lit). MakesFalse (value_in (take n t.steps)) k) e falsified)

pub engine-unit : (t t' : Path) (w w' : Watched) (next : ℕ) (line : List Lit) (key second : Lit) → IsEngine t w next → IsIndexed w → WithWatched w w' line (pair_of key second) → CanUnit t.steps line key second
    → key.var < t.vars → t' ≡ with_step t key (Some (length w.clauses)) → IsEngine t' w' next
engine-unit t t' w w' next line key second engine is more can known made =
    subst (λ (u : Path). IsEngine u w' next) (sym made)
    (engine-along (with_step t key (Some (length w.clauses))) w w' line (pair_of key second) next more
    record {
      vars = engine.vars;
      path = path-push t.vars t.steps (step_of key (Some (length w.clauses))) engine.path known can.still_open;
      within = omega (arith, engine.within, length-append t.steps (step_of key (Some (length w.clauses)) ∷ []));
      walk = walk-push (w.clauses ++ line ∷ []) t.steps key (Some (length w.clauses)) (walk-more w.clauses line t.steps engine.walk rests) reason;
      watching =
          watching-more w.clauses w.pairs (t.steps ++ step_of key (Some (length w.clauses)) ∷ []) next line (pair_of key second) is.even
          (watching-push w.clauses w.pairs t.steps next key (length w.clauses) engine.watching engine.within) now before;
    })
  where
    key_open : (p : ℕ) → LeavesOpen (value_in (take p t.steps)) key
    key_open p = open-whole t.steps p key.var can.still_open

    rests : (p : ℕ) → IsDecision t.steps p → IsAtRest (value_in (take p t.steps)) line
    rests p decision = two_open (value_in (take p t.steps)) line key second can.key_listed can.second_listed (can.held p decision).0 (key_open p) (can.held p decision).1

    reason : IsReason (w.clauses ++ line ∷ []) (value_in t.steps) key (length w.clauses)
    reason =
        record {
          within = omega (arith, length-append w.clauses (line ∷ []));
          others = λ c found k listed differs.
              can.others k (subst (λ (d : List Lit). Contains d k) (same_Some c line (sym found ∙ get-last w.clauses line)) listed) differs;
        }

    holds : Any (MakesTrue (value_in (t.steps ++ step_of key (Some (length w.clauses)) ∷ []))) line
    holds = Any-from_contains (MakesTrue (value_in (t.steps ++ step_of key (Some (length w.clauses)) ∷ []))) line key can.key_listed (value-push_same t.steps (step_of key (Some (length w.clauses))) can.still_open)

    now : IsSafe (value_in (take next (t.steps ++ step_of key (Some (length w.clauses)) ∷ []))) (value_in (t.steps ++ step_of key (Some (length w.clauses)) ∷ [])) line (pair_of key second)
    now = record { watched = λ l which falsified. holds; alone = λ e. holds }

    safe : (p : ℕ) → IsDecision t.steps p → IsSafe (value_in (take p t.steps)) (value_in (take p t.steps)) line (pair_of key second)
    safe p decision = record { watched = λ l which falsified. absurd (go l which falsified); alone = λ e. absurd ((can.held p decision).0 e) }
      where
        go : (l : Lit) → (l ≡ key) ⊎ (l ≡ second) → MakesFalse (value_in (take p t.steps)) l → ⊥
        go l (inl e) falsified = open_not_false (value_in (take p t.steps)) key (key_open p) (subst (λ (k : Lit). MakesFalse (value_in (take p t.steps)) k) e falsified)
        go l (inr e) falsified = open_not_false (value_in (take p t.steps)) second (can.held p decision).1 (subst (λ (k : Lit). MakesFalse (value_in (take p t.steps)) k) e falsified)

    before : (p : ℕ) → IsDecision (t.steps ++ step_of key (Some (length w.clauses)) ∷ []) p
        → IsSafe (value_in (take p (t.steps ++ step_of key (Some (length w.clauses)) ∷ []))) (value_in (take p (t.steps ++ step_of key (Some (length w.clauses)) ∷ []))) line (pair_of key second)
    before p decision = go (push-cases t.steps (step_of key (Some (length w.clauses))) p decision.step decision.there)
      where
        go : (slice_get t.steps p ≡ Some decision.step) ⊎ ((p ≡ length t.steps) × (step_of key (Some (length w.clauses)) ≡ decision.step))
            → IsSafe (value_in (take p (t.steps ++ step_of key (Some (length w.clauses)) ∷ []))) (value_in (take p (t.steps ++ step_of key (Some (length w.clauses)) ∷ []))) line (pair_of key second)
        go (inl found) =
            let within : p < length t.steps = slice_get_within t.steps p decision.step found in
            subst (λ (xs : List Step). IsSafe (value_in xs) (value_in xs) line (pair_of key second)) (sym (take-append-le p t.steps (step_of key (Some (length w.clauses)) ∷ []) (omega arith)))
            (safe p record { step = decision.step; there = found; decided = decision.decided })
        go (inr last) = absurd (none-some (length w.clauses) (sym decision.decided ∙ ap (λ (x : Step). x.reason) (sym last.1)))

-- the first clauses

-- What is at rest makes each step true, if it makes the decided ones true.
pub walk-true : (clauses : List (List Lit)) (steps : List Step) (v : Partial) → IsWalk clauses steps → AllAtRest v clauses
    → ((p : ℕ) (s : Step) → slice_get steps p ≡ Some s → s.reason ≡ None → MakesTrue v s.lit)
    → (n p : ℕ) (s : Step) → p < n → slice_get steps p ≡ Some s → MakesTrue v s.lit
walk-true clauses steps v walk rest decided zero p s below found = absurd (omega (arith, below))
walk-true clauses steps v walk rest decided (suc n) p s below found =
    go s.reason refl (walk.why p s found) (λ q x below' found'. walk-true clauses steps v walk rest decided n q x (omega (arith, below', below)) found')
  where
    go : (reason : Option ℕ) → s.reason ≡ reason → IsWhy clauses (value_in (take p steps)) s.lit reason → ((q : ℕ) (x : Step) → q < p → slice_get steps q ≡ Some x → MakesTrue v x.lit) → MakesTrue v s.lit
    go None none why earlier = decided p s found none
    go (Some r) some why earlier =
        let clause = get-within clauses r why.within in
        forced v clause.0 s.lit (All-slice_get (IsAtRest v) clauses r clause.0 rest clause.1)
        (λ k listed. elim (lit_eq_cases k s.lit) [ inl e ↦ inl e | inr differs ↦ inr (kept k (why.others clause.0 clause.1 k listed differs)) ])
      where
        kept : (k : Lit) → MakesFalse (value_in (take p steps)) k → MakesFalse v k
        kept k falsified =
            let of : StepOf (take p steps) k.var (not k.positive) = step-of (take p steps) k.var (not k.positive) falsified in
            let at = get-take p steps of.place of.step of.there in
            ap (λ (x : ℕ). v x) (sym of.named) ∙ earlier of.place of.step at.1 at.0 ∙ ap (λ (b : Bool). Some b) of.gives

-- what the steps say is so at each such rest
pub walk-values : (clauses : List (List Lit)) (steps : List Step) (v : Partial) → IsWalk clauses steps → AllAtRest v clauses
    → ((p : ℕ) (s : Step) → slice_get steps p ≡ Some s → s.reason ≡ None → MakesTrue v s.lit)
    → (x : ℕ) (b : Bool) → value_in steps x ≡ Some b → v x ≡ Some b
walk-values clauses steps v walk rest decided x b e =
    let of : StepOf steps x b = step-of steps x b e in
    ap (λ (y : ℕ). v y) (sym of.named)
    ∙ walk-true clauses steps v walk rest decided (length steps) of.place of.step (slice_get_within steps of.place of.step of.there) of.there
    ∙ ap (λ (c : Bool). Some c) of.gives

-- a false clause without decisions: nothing is at rest
pub clash-follows : (clauses : List (List Lit)) (steps : List Step) (c : ℕ) → IsWalk clauses steps → NoDecision steps → IsFalseClause clauses (value_in steps) c → Follows clauses []
clash-follows clauses steps c walk none clash v line rest =
    rest-not_false v clash.clause (All-slice_get (IsAtRest v) clauses c clash.clause rest clash.found)
    (All-from_contains (MakesFalse v) clash.clause
    (λ k listed.
    walk-values clauses steps v walk rest (λ p s found decided. absurd (none p record { step = s; there = found; decided = decided })) k.var (not k.positive)
    (All-contains (MakesFalse (value_in steps)) clash.clause k clash.is_false listed)))

pub loading-start : (t : Path) (w : Watched) (vars : ℕ) → t ≡ record { vars = vars; steps = [] } → vars ≡ w.vars → IsLoading t w 0
loading-start t w vars made same =
    subst (λ (u : Path). IsLoading u w 0) (sym made)
    record {
      vars = same;
      path =
          record {
            known = All-nil (λ (s : Step). s.lit.var < vars);
            fresh = λ p s found. absurd (none-some s found);
            few = omega arith;
          };
      walk = record { why = λ p s found. absurd (none-some s found) };
      forced = λ p decision. none-some decision.step decision.there;
      alone = λ c clause pair below. absurd (omega (arith, below));
    }

pub loading-skip : (t : Path) (w : Watched) (at : ℕ) → IsLoading t w at → ((clause : List Lit) (pair : Pair) → slice_get w.clauses at ≡ Some clause → slice_get w.pairs at ≡ Some pair → pair.one ≡ pair.two → Any (MakesTrue (value_in t.steps)) clause)
    → IsLoading t w (at + 1)
loading-skip t w at is here =
    record {
      vars = is.vars;
      path = is.path;
      walk = is.walk;
      forced = is.forced;
      alone = λ c clause pair below found found' e. go c clause pair below found found' e (cases_eq c at);
    }
  where
    go : (c : ℕ) (clause : List Lit) (pair : Pair) → c < at + 1 → slice_get w.clauses c ≡ Some clause → slice_get w.pairs c ≡ Some pair → pair.one ≡ pair.two → (c ≡ at) ⊎ (c ≡ at → ⊥) → Any (MakesTrue (value_in t.steps)) clause
    go c clause pair below found found' e (inl same) =
        here clause pair (subst (λ (n : ℕ). slice_get w.clauses n ≡ Some clause) same found) (subst (λ (n : ℕ). slice_get w.pairs n ≡ Some pair) same found') e
    go c clause pair below found found' e (inr ne) = is.alone c clause pair (omega (arith, below, ne)) found found' e

pub loading-differ : (t : Path) (w : Watched) (at : ℕ) (pair : Pair) → IsLoading t w at → slice_get w.pairs at ≡ Some pair → (pair.one ≡ pair.two → ⊥) → IsLoading t w (at + 1)
loading-differ t w at pair is found differ =
    loading-skip t w at is (λ clause other numbered found' e. absurd (differ (subst (λ (p : Pair). p.one ≡ p.two) (same_Some other pair (sym found' ∙ found)) e)))

one-true : (w : Watched) (at : ℕ) (pair : Pair) (v : Partial) → IsIndexed w → slice_get w.pairs at ≡ Some pair → MakesTrue v pair.one → (clause : List Lit) → slice_get w.clauses at ≡ Some clause → Any (MakesTrue v) clause
one-true w at pair v is found holds clause numbered = Any-from_contains (MakesTrue v) clause pair.one (is.paired at clause pair numbered found).one holds

pub loading-true : (t : Path) (w : Watched) (at : ℕ) (pair : Pair) → IsLoading t w at → IsIndexed w → slice_get w.pairs at ≡ Some pair → MakesTrue (value_in t.steps) pair.one → IsLoading t w (at + 1)
loading-true t w at pair is indexed found holds = loading-skip t w at is (λ clause other numbered found' e. one-true w at pair (value_in t.steps) indexed found holds clause numbered)

only-one : (w : Watched) (at : ℕ) (pair : Pair) (clause : List Lit) (k : Lit) → IsIndexed w → slice_get w.pairs at ≡ Some pair → pair.one ≡ pair.two → slice_get w.clauses at ≡ Some clause → Contains clause k → k ≡ pair.one
only-one w at pair clause k is found same numbered listed = (is.paired at clause pair numbered found).alone same k listed

pub loading-false : (t : Path) (w : Watched) (at : ℕ) (pair : Pair) → IsLoading t w at → IsIndexed w → slice_get w.pairs at ≡ Some pair → pair.one ≡ pair.two → MakesFalse (value_in t.steps) pair.one → Follows w.clauses []
loading-false t w at pair is indexed found same falsified =
    let clause = get-within w.clauses at (omega (arith, slice_get_within w.pairs at pair found, indexed.even)) in
    clash-follows w.clauses t.steps at is.walk is.forced
    record {
      clause = clause.0;
      found = clause.1;
      is_false =
          All-from_contains (MakesFalse (value_in t.steps)) clause.0
          (λ k listed. subst (λ (l : Lit). MakesFalse (value_in t.steps) l) (sym (only-one w at pair clause.0 k indexed found same clause.1 listed)) falsified);
    }

pub loading-push : (t t' : Path) (w : Watched) (at : ℕ) (pair : Pair) → IsLoading t w at → IsIndexed w → slice_get w.pairs at ≡ Some pair → pair.one ≡ pair.two → LeavesOpen (value_in t.steps) pair.one → pair.one.var < t.vars
    → t' ≡ with_step t pair.one (Some at) → IsLoading t' w (at + 1)
loading-push t t' w at pair is indexed found same o known made =
    subst (λ (u : Path). IsLoading u w (at + 1)) (sym made)
    (loading-true (with_step t pair.one (Some at)) w at pair pushed indexed found (value-push_same t.steps (step_of pair.one (Some at)) o))
  where
    more : (k : Lit) → MakesTrue (value_in t.steps) k → MakesTrue (value_in (t.steps ++ step_of pair.one (Some at) ∷ [])) k
    more k holds = value-append t.steps (step_of pair.one (Some at) ∷ []) k.var k.positive holds

    reason : IsReason w.clauses (value_in t.steps) pair.one at
    reason =
        record {
          within = omega (arith, slice_get_within w.pairs at pair found, indexed.even);
          others = λ clause numbered k listed differs. absurd (differs (only-one w at pair clause k indexed found same numbered listed));
        }

    pushed : IsLoading (with_step t pair.one (Some at)) w at
    pushed =
        record {
          vars = is.vars;
          path = path-push t.vars t.steps (step_of pair.one (Some at)) is.path known o;
          walk = walk-push w.clauses t.steps pair.one (Some at) is.walk reason;
          forced = λ p decision. go p decision (push-cases t.steps (step_of pair.one (Some at)) p decision.step decision.there);
          alone = λ c clause other below numbered found' e.
              any-more (MakesTrue (value_in t.steps)) (MakesTrue (value_in (t.steps ++ step_of pair.one (Some at) ∷ []))) clause more (is.alone c clause other below numbered found' e);
        }
      where
        go : (p : ℕ) → (decision : IsDecision (t.steps ++ step_of pair.one (Some at) ∷ []) p) → (slice_get t.steps p ≡ Some decision.step) ⊎ ((p ≡ length t.steps) × (step_of pair.one (Some at) ≡ decision.step)) → ⊥
        go p decision (inl old) = is.forced p record { step = decision.step; there = old; decided = decision.decided }
        go p decision (inr last) = none-some at (sym decision.decided ∙ ap (λ (x : Step). x.reason) (sym last.1))

pub loading-end : (t : Path) (w : Watched) (at : ℕ) → IsLoading t w at → length w.clauses ≤ at → IsEngine t w 0
loading-end t w at is done =
    record {
      vars = is.vars;
      path = is.path;
      within = omega arith;
      walk = is.walk;
      watching =
          record {
            now = λ c clause pair found found'.
                record {
                  watched = λ l one falsified. absurd (none-some (not l.positive) falsified);
                  alone = λ e. is.alone c clause pair (omega (arith, slice_get_within w.clauses c clause found, done)) found found' e;
                };
            before = λ p s found none. absurd (is.forced p record { step = s; there = found; decided = none });
          };
    }

pub propagated : (t0 : Path) (w0 : Watched) (next : ℕ) (t : Path) (w : Watched) (ran : Run) (s : State) → record { vars = t0.vars; clauses = w0.clauses; steps = t0.steps; next = next } ≡ s → IsRun t0 w0 t w ran → IsIndexed w
    → IsPropagated s record { vars = t.vars; clauses = w.clauses; steps = t.steps; next = ran.next } ran.clash
propagated t0 w0 next t w ran s e is indexed =
    subst (λ (o : State). IsPropagated o record { vars = t.vars; clauses = w.clauses; steps = t.steps; next = ran.next } ran.clash) e
    record {
      same_vars = is.stepped.same_vars;
      same_clauses = is.stepped.same_clauses;
      grown = is.stepped.grown;
      settled = go ran.clash is.ends;
    }
  where
    go : (clash : Option ℕ) → IsEnd t w ran.next clash → IsSettled record { vars = t.vars; clauses = w.clauses; steps = t.steps; next = ran.next } clash
    go None done = (done, engine-rest t w ran.next is.stepped.engine indexed done)
    go (Some c) clash = clash
