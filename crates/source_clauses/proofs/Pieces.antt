-- Clauses added by implications, and what is known of what a reader's clauses name.
use Rattle.std.proofs.Common.{◌≡◌, ℕ, ◌<◌, ◌≤◌, ◌+◌, ◌⊎◌, suc, Bool, true, false, cond, Option, Some, None, List, [], ◌∷◌, ◌++◌, length, refl, sym, ◌∙◌, ap, subst, inl, inr, arith}
use Rattle.std.specs.Prelude.{Contains, IfSome}
use Rattle.std.proofs.lemmas.List.{append_assoc, length_push, get_or_push, get_or_append_left}
use Rattle.clause_store.specs.declared.lit.Lit.{Lit}
use Rattle.clause_store.specs.Literals.{opposite}
use Rattle.clause_store.specs.Formula.{Formula}
use Rattle.order_clauses.specs.declared.order_lit.OrderLit.{OrderLit}
use Rattle.order_clauses.specs.declared.order_lit.OrderLit.TheVariants as order_lit
use Rattle.order_clauses.specs.declared.table.Table.{Table}
use Rattle.order_clauses.specs.Clauses.{Adds}
use Rattle.order_clauses.specs.Grid.{IsKnownOrder}
use Rattle.clause_store.proofs.Members.{Contains-nil, Contains-head, Contains-cons_cases}
use Rattle.order_clauses.proofs.Added.{adds_both}
use Rattle.order_clauses.proofs.Counts.{split-below}
use Rattle.source_clauses.specs.declared.reader.Candidate.{Candidate}
use Rattle.source_clauses.specs.declared.reader.Reader.{Reader}
use Rattle.source_clauses.specs.declared.named.Named.{Named}
use Rattle.source_clauses.specs.Clauses.{implied, copied, selection_at, AreSelected, older_at, next_at, IsNext, AreNexts, is_apart, OlderClause, NewestClause, UnwrittenClause, WrittenBits, Copied}
use Rattle.source_clauses.specs.Contract.{KnowsPlaces, KnowsReader}
use Rattle.source_clauses.specs.Named.{KnowsNamed, ReaderClause}

-- exactly these clauses
pub listed_added : (old new : Formula) (more : List (List Lit)) → new ≡ record old { clauses = old.clauses ++ more } → Adds old new (λ k. Contains more k)
listed_added old new more is =
    subst (λ (f : Formula). Adds old f (λ k. Contains more k)) (sym is)
    (record { vars = refl; more = more; clauses = refl; only = λ c listed. listed; each = λ c listed. listed })

pub implied_added : (old new : Formula) (c : Lit) (g f : OrderLit) (d : Lit) (h e : OrderLit) → c ≡ d → g ≡ h → f ≡ e
    → new ≡ record old { clauses = old.clauses ++ implied c g f } → Adds old new (λ k. Contains (implied d h e) k)
implied_added old new c g f d h e same_c same_g same_f is =
    subst (λ (x : Lit). Adds old new (λ k. Contains (implied x h e) k)) same_c
    (subst (λ (x : OrderLit). Adds old new (λ k. Contains (implied c x e) k)) same_g
    (subst (λ (x : OrderLit). Adds old new (λ k. Contains (implied c g x) k)) same_f (listed_added old new (implied c g f) is)))

pub copied_added : (old between new : Formula) (c bit read other_bit other_read : Lit) → other_bit ≡ opposite bit → other_read ≡ opposite read
    → between ≡ record old { clauses = old.clauses ++ implied c (order_lit.Is bit) (order_lit.Is read) }
    → new ≡ record between { clauses = between.clauses ++ implied c (order_lit.Is other_bit) (order_lit.Is other_read) }
    → Adds old new (λ k. Contains (copied c bit read) k)
copied_added old between new c bit read other_bit other_read e f one two =
    listed_added old new (copied c bit read)
    (two
    ∙ ap (λ (g : Formula). record { vars = g.vars; clauses = g.clauses ++ implied c (order_lit.Is other_bit) (order_lit.Is other_read) }) one
    ∙ ap (λ (cs : List (List Lit)). record { vars = old.vars; clauses = cs })
    (append_assoc old.clauses (implied c (order_lit.Is bit) (order_lit.Is read)) (implied c (order_lit.Is other_bit) (order_lit.Is other_read)))
    ∙ ap (λ (x : Lit). record { vars = old.vars; clauses = old.clauses ++ (implied c (order_lit.Is bit) (order_lit.Is read) ++ implied c (order_lit.Is x) (order_lit.Is other_read)) }) e
    ∙ ap (λ (x : Lit). record { vars = old.vars; clauses = old.clauses ++ (implied c (order_lit.Is bit) (order_lit.Is read) ++ implied c (order_lit.Is (opposite bit)) (order_lit.Is x)) }) f)

pub copied_as : (old new : Formula) (c d : Lit) (bits more read others : List Lit) → c ≡ d → bits ≡ more → read ≡ others
    → Adds old new (Copied c bits read) → Adds old new (Copied d more others)
copied_as old new c d bits more read others e f g adds =
    subst (λ (x : Lit). Adds old new (Copied x more others)) e
    (subst (λ (x : List Lit). Adds old new (Copied c x others)) f (subst (λ (x : List Lit). Adds old new (Copied c bits x)) g adds))

-- the clauses of two candidates that differ, one not covered by the other, and of two others

pub newest_some : (old new : Formula) (table : Table) (candidates : List Candidate) (next : Option ℕ) (i j : ℕ)
    (apart : Bool) → apart ≡ is_apart table candidates next i j → apart ≡ true → (kept : List (List Lit))
    → Adds old new (λ k. Contains kept k) → Adds old new (λ k. Contains (cond (is_apart table candidates next i j) kept []) k)
newest_some old new table candidates next i j apart is e kept adds =
    subst (λ (t : Bool). Adds old new (λ k. Contains (cond t kept []) k)) (sym e ∙ is) adds

append_none : (cs : List (List Lit)) → cs ≡ cs ++ []
append_none [] = refl
append_none (c ∷ cs) = ap (λ (x : List (List Lit)). c ∷ x) (append_none cs)

pub newest_none : (f : Formula) (table : Table) (candidates : List Candidate) (next : Option ℕ) (i j : ℕ) (apart : Bool)
    → apart ≡ is_apart table candidates next i j → apart ≡ false → (kept : List (List Lit))
    → Adds f f (λ k. Contains (cond (is_apart table candidates next i j) kept []) k)
newest_none f table candidates next i j apart is e kept =
    subst (λ (t : Bool). Adds f f (λ k. Contains (cond t kept []) k)) (sym e ∙ is)
    (listed_added f f [] (ap (λ (cs : List (List Lit)). record { vars = f.vars; clauses = cs }) (append_none f.clauses)))

-- what is known

pub known_selection : (vars : ℕ) (table : Table) (reader : Reader) (named : Named) → KnowsNamed vars table reader named
    → (i : ℕ) → i < length reader.candidates + 1 → (l : Lit) → l ≡ selection_at named.selected i → l.var < vars
known_selection vars table reader named knows i i_in l is = subst (λ (x : Lit). x.var < vars) (sym is) (knows.selected i i_in)

pub known_older : (vars : ℕ) (table : Table) (reader : Reader) (named : Named) → KnowsNamed vars table reader named
    → (i : ℕ) → i < length reader.candidates → (o : OrderLit) → o ≡ older_at named.olders i → IsKnownOrder vars o
known_older vars table reader named knows i i_in o is = subst (λ (x : OrderLit). IsKnownOrder vars x) (sym is) (knows.olders i i_in)

pub known_same : (old now : ℕ) (table : Table) (reader : Reader) (named : Named) → now ≡ old → KnowsNamed old table reader named → KnowsNamed now table reader named
known_same old now table reader named e knows = subst (λ (n : ℕ). KnowsNamed n table reader named) (sym e) knows

pub reader_same : (old now : ℕ) (table : Table) (reader : Reader) → now ≡ old → KnowsReader old table reader → KnowsReader now table reader
reader_same old now table reader e knows = subst (λ (n : ℕ). KnowsReader n table reader) (sym e) knows

pub places_known : (vars : ℕ) (table : Table) (reader : Reader) → KnowsReader vars table reader → KnowsPlaces table reader.candidates
places_known vars table reader knows = record { square = knows.square; at = λ i i_in. (knows.candidates i i_in).at }

pub next_known : (table : Table) (candidates : List Candidate) (nexts : List (Option ℕ)) → AreNexts table candidates (length candidates) nexts
    → (i : ℕ) → i < length candidates → (o : Option ℕ) → o ≡ next_at nexts i → IfSome o (λ k. k < length candidates)
next_known table candidates nexts are i i_in o is = subst (λ (p : Option ℕ). IfSome p (λ k. k < length candidates)) (sym is) (weaker (next_at nexts i) (are.each i i_in))
  where
    weaker : (o : Option ℕ) → IfSome o (IsNext table candidates i) → IfSome o (λ k. k < length candidates)
    weaker None h = h
    weaker (Some k) h = h.within

-- lists of next ones and of selections, one after another

pub nexts_none : (table : Table) (candidates : List Candidate) → AreNexts table candidates 0 []
nexts_none table candidates = record { counted = refl; each = λ i h. absurd (none i h) }
  where
    none : (i : ℕ) → i < 0 → ⊥
    none i h = omega (arith, h)

as_suc : (i k : ℕ) → i < k + 1 → i < suc k
as_suc i k h = omega (arith, h)

pub nexts_more : (table : Table) (candidates : List Candidate) (k : ℕ) (nexts : List (Option ℕ)) (next : Option ℕ) → AreNexts table candidates k nexts
    → IfSome next (IsNext table candidates k) → AreNexts table candidates (k + 1) (nexts ++ next ∷ [])
nexts_more table candidates k nexts next are is =
    record {
      counted = length_push nexts next ∙ ap (λ (n : ℕ). n + 1) are.counted;
      each = λ i h. at i (split-below i k (as_suc i k h));
    }
  where
    at : (i : ℕ) → (i < k) ⊎ (i ≡ k) → IfSome (next_at (nexts ++ next ∷ []) i) (IsNext table candidates i)
    at i (inl h) =
        subst (λ (o : Option ℕ). IfSome o (IsNext table candidates i))
        (sym (get_or_append_left nexts (next ∷ []) None i (subst (λ (n : ℕ). i < n) (sym are.counted) h))) (are.each i h)
    at i (inr e) =
        subst (λ (j : ℕ). IfSome (next_at (nexts ++ next ∷ []) j) (IsNext table candidates j)) (sym e)
        (subst (λ (o : Option ℕ). IfSome o (IsNext table candidates k)) (sym (get_or_push nexts next None k are.counted)) is)

pub nexts_all : (table : Table) (candidates : List Candidate) (k count : ℕ) (nexts : List (Option ℕ)) → AreNexts table candidates k nexts → k ≡ count
    → AreNexts table candidates count nexts
nexts_all table candidates k count nexts are e = subst (λ (n : ℕ). AreNexts table candidates n nexts) e are

-- so many new variables
pub record AreFresh (old now : Formula) (count k : ℕ) (selected : List Lit) : Type 0 where
  pub formula : now ≡ record old { vars = old.vars + k }
  pub selected_are : AreSelected old.vars k selected
  pub upto : k ≤ count

pub fresh_none : (f : Formula) (count : ℕ) → AreFresh f f count 0 []
fresh_none f count =
    record {
      formula = ap (λ (n : ℕ). record { vars = n; clauses = f.clauses }) (plus_none f.vars);
      selected_are = record { counted = refl; each = λ i h. absurd (none i h) };
      upto = least count;
    }
  where
    plus_none : (n : ℕ) → n ≡ n + 0
    plus_none n = omega arith

    none : (i : ℕ) → i < 0 → ⊥
    none i h = omega (arith, h)

    least : (n : ℕ) → 0 ≤ n
    least n = omega arith

pub fresh_more : (old now new : Formula) (count k : ℕ) (selected : List Lit) (var : ℕ) → k < count → AreFresh old now count k selected → var ≡ now.vars
    → new ≡ record now { vars = now.vars + 1 } → AreFresh old new count (k + 1) (selected ++ record { var = var; positive = true } ∷ [])
fresh_more old now new count k selected var below are number is =
    record {
      formula =
          is
          ∙ ap (λ (f : Formula). record { vars = f.vars + 1; clauses = f.clauses }) are.formula
          ∙ ap (λ (n : ℕ). record { vars = n; clauses = old.clauses }) (plus_one old.vars k);
      selected_are =
          record {
            counted = length_push selected lit ∙ ap (λ (n : ℕ). n + 1) are.selected_are.counted;
            each = λ i h. at i (split-below i k (as_suc i k h));
          };
      upto = next k count below;
    }
  where
    lit : Lit
    lit = record { var = var; positive = true }

    plus_one : (m k : ℕ) → m + k + 1 ≡ m + (k + 1)
    plus_one m k = omega arith

    next : (k n : ℕ) → k < n → k + 1 ≤ n
    next k n h = omega (arith, h)

    at : (i : ℕ) → (i < k) ⊎ (i ≡ k) → selection_at (selected ++ lit ∷ []) i ≡ record { var = old.vars + i; positive = true }
    at i (inl h) =
        get_or_append_left selected (lit ∷ []) (record { var = 0; positive = false }) i (subst (λ (n : ℕ). i < n) (sym are.selected_are.counted) h)
        ∙ are.selected_are.each i h
    at i (inr e) =
        subst (λ (j : ℕ). selection_at (selected ++ lit ∷ []) j ≡ record { var = old.vars + j; positive = true }) (sym e)
        (get_or_push selected lit (record { var = 0; positive = false }) k are.selected_are.counted
        ∙ ap (λ (n : ℕ). record { var = n; positive = true }) (number ∙ ap (λ (f : Formula). f.vars) are.formula))

pub fresh_selected : (old now : Formula) (count k : ℕ) (selected : List Lit) → count ≤ k → AreFresh old now count k selected → AreSelected old.vars count selected
fresh_selected old now count k selected done are =
    subst (λ (n : ℕ). AreSelected old.vars n selected) (same k count are.upto done) are.selected_are
  where
    same : (k n : ℕ) → k ≤ n → n ≤ k → k ≡ n
    same k n h g = omega (arith, h, g)

pub fresh_formula : (old now : Formula) (count k : ℕ) (selected : List Lit) → count ≤ k → AreFresh old now count k selected
    → now ≡ record old { vars = old.vars + count }
fresh_formula old now count k selected done are =
    subst (λ (n : ℕ). now ≡ record old { vars = old.vars + n }) (same k count are.upto done) are.formula
  where
    same : (k n : ℕ) → k ≤ n → n ≤ k → k ≡ n
    same k n h g = omega (arith, h, g)

-- one clause
pub one_added : (old new : Formula) (clause : List Lit) → new ≡ record old { clauses = old.clauses ++ clause ∷ [] } → Adds old new (λ c. c ≡ clause)
one_added old new clause is =
    let adds : Adds old new (λ k. Contains (clause ∷ []) k) = listed_added old new (clause ∷ []) is in
    record {
      vars = adds.vars;
      more = adds.more;
      clauses = adds.clauses;
      only = λ c listed. sole c (Contains-cons_cases clause [] c (adds.only c listed));
      each = λ c e. adds.each c (subst (λ (x : List Lit). Contains (clause ∷ []) x) (sym e) (Contains-head clause []));
    }
  where
    sole : (c : List Lit) → (clause ≡ c) ⊎ Contains [] c → c ≡ clause
    sole c (inl e) = sym e
    sole c (inr none) = absurd (Contains-nil c none)

pub reader_clauses : (table : Table) (reader : Reader) (named : Named) (old seen older newest unwritten written new : Formula)
    → seen ≡ record old { clauses = old.clauses ++ named.selected ∷ [] }
    → Adds seen older (OlderClause (length reader.candidates) named.selected named.olders)
    → Adds older newest (NewestClause table reader.candidates named.nexts named.selected named.olders)
    → Adds newest unwritten (UnwrittenClause (length reader.candidates) (selection_at named.selected (length reader.candidates)) named.olders)
    → Adds unwritten written (WrittenBits reader named.selected)
    → Adds written new (Copied (selection_at named.selected (length reader.candidates)) reader.initial reader.read)
    → Adds old new (ReaderClause table reader named)
reader_clauses table reader named old seen older newest unwritten written new is a b c d e =
    let n : ℕ = length reader.candidates in
    let Older : List Lit → Type 0 = OlderClause n named.selected named.olders in
    let Newest : List Lit → Type 0 = NewestClause table reader.candidates named.nexts named.selected named.olders in
    let Unwritten : List Lit → Type 0 = UnwrittenClause n (selection_at named.selected n) named.olders in
    let Written : List Lit → Type 0 = WrittenBits reader named.selected in
    let Initial : List Lit → Type 0 = Copied (selection_at named.selected n) reader.initial reader.read in
    adds_both old seen new (λ k. k ≡ named.selected) (λ k. Older k ⊎ (Newest k ⊎ (Unwritten k ⊎ (Written k ⊎ Initial k)))) (one_added old seen named.selected is)
    (adds_both seen older new Older (λ k. Newest k ⊎ (Unwritten k ⊎ (Written k ⊎ Initial k))) a
    (adds_both older newest new Newest (λ k. Unwritten k ⊎ (Written k ⊎ Initial k)) b
    (adds_both newest unwritten new Unwritten (λ k. Written k ⊎ Initial k) c
    (adds_both unwritten written new Written Initial d e))))
