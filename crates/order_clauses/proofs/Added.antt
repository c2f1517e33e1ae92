-- Clauses of one kind after those of another, or of one number after those of the numbers below it.
use Rattle.std.proofs.Common.{◌≡◌, ℕ, ◌<◌, ◌≤◌, ◌+◌, ◌⊎◌, Bool, List, [], ◌∷◌, ◌++◌, refl, sym, ◌∙◌, ap, subst, inl, inr, arith}
use Rattle.std.specs.Prelude.{Contains}
use Rattle.std.proofs.lemmas.List.{append_assoc}
use Rattle.std.proofs.lemmas.List.Elements.{Contains-append_left, Contains-append_right, Contains-append_cases}
use Rattle.clause_store.specs.declared.lit.Lit.{Lit}
use Rattle.clause_store.specs.Formula.{Formula, Grows}
use Rattle.clause_store.proofs.Members.{Contains-nil}
use Rattle.order_clauses.specs.declared.order_lit.OrderLit.{OrderLit}
use Rattle.order_clauses.specs.declared.table.Table.{Table}
use Rattle.order_clauses.specs.Clauses.{Adds, Below, PairClause, TripleClause, AreNeighbours, NeighbourClause}
use Rattle.order_clauses.specs.Grid.{lit_in, IsKnownOrder, KnowsTable}
use Rattle.order_clauses.proofs.Counts.{split-below}

pub adds_grows : (old new : Formula) (Kind : List Lit → Type 0) → Adds old new Kind → Grows old new
adds_grows old new Kind adds = record { vars = omega (arith, adds.vars); more = adds.more; clauses = adds.clauses }

-- no clause, of a kind that none is of
pub adds_none : (f : Formula) (Kind : List Lit → Type 0) → ((c : List Lit) → Kind c → ⊥) → Adds f f Kind
adds_none f Kind none =
    record {
      vars = refl;
      more = [];
      clauses = append-none f.clauses;
      only = λ c listed. absurd (Contains-nil c listed);
      each = λ c kind. absurd (none c kind);
    }
  where
    append-none : (cs : List (List Lit)) → cs ≡ cs ++ []
    append-none [] = refl
    append-none (c ∷ cs) = ap (λ (x : List (List Lit)). c ∷ x) (append-none cs)

pub adds_then : (old between new : Formula) (First Next Kind : List Lit → Type 0) → Adds old between First → Adds between new Next
    → ((c : List Lit) → First c ⊎ Next c → Kind c) → ((c : List Lit) → Kind c → First c ⊎ Next c) → Adds old new Kind
adds_then old between new First Next Kind one two to from =
    record {
      vars = two.vars ∙ one.vars;
      more = one.more ++ two.more;
      clauses = two.clauses ∙ ap (λ (cs : List (List Lit)). cs ++ two.more) one.clauses ∙ append_assoc old.clauses one.more two.more;
      only = λ c listed. to c (told c (Contains-append_cases one.more two.more c listed));
      each = λ c kind. found c (from c kind);
    }
  where
    told : (c : List Lit) → Contains one.more c ⊎ Contains two.more c → First c ⊎ Next c
    told c (inl listed) = inl (one.only c listed)
    told c (inr listed) = inr (two.only c listed)

    found : (c : List Lit) → First c ⊎ Next c → Contains (one.more ++ two.more) c
    found c (inl kind) = Contains-append_left one.more two.more c (one.each c kind)
    found c (inr kind) = Contains-append_right one.more two.more c (two.each c kind)

pub adds_both : (old between new : Formula) (First Next : List Lit → Type 0) → Adds old between First → Adds between new Next
    → Adds old new (λ c. First c ⊎ Next c)
adds_both old between new First Next one two = adds_then old between new First Next (λ c. First c ⊎ Next c) one two (λ c kind. kind) (λ c kind. kind)

pub adds_zero : (f : Formula) (Kind : ℕ → List Lit → Type 0) → Adds f f (Below 0 Kind)
adds_zero f Kind = adds_none f (Below 0 Kind) (λ c kind. omega (arith, kind.within))

pub adds_step : (old between new : Formula) (k : ℕ) (Kind : ℕ → List Lit → Type 0) → Adds old between (Below k Kind) → Adds between new (Kind k)
    → Adds old new (Below (k + 1) Kind)
adds_step old between new k Kind one two = adds_then old between new (Below k Kind) (Kind k) (Below (k + 1) Kind) one two to from
  where
    to : (c : List Lit) → Below k Kind c ⊎ Kind k c → Below (k + 1) Kind c
    to c (inl kind) = record { at = kind.at; within = omega (arith, kind.within); kind = kind.kind }
    to c (inr kind) = record { at = k; within = omega arith; kind = kind }

    from : (c : List Lit) → Below (k + 1) Kind c → Below k Kind c ⊎ Kind k c
    from c kind = go (split-below kind.at k (omega (arith, kind.within)))
      where
        go : (kind.at < k) ⊎ (kind.at ≡ k) → Below k Kind c ⊎ Kind k c
        go (inl below) = inl (record { at = kind.at; within = below; kind = kind.kind })
        go (inr e) = inr (subst (λ (x : ℕ). Kind x c) e kind.kind)

-- the clauses of the numbers below k, of those below count
pub record Added (old new : Formula) (count : ℕ) (Kind : ℕ → List Lit → Type 0) (k : ℕ) : Type 0 where
  pub adds : Adds old new (Below k Kind)
  pub upto : k ≤ count

pub added_none : (f : Formula) (count : ℕ) (Kind : ℕ → List Lit → Type 0) → Added f f count Kind 0
added_none f count Kind = record { adds = adds_zero f Kind; upto = omega arith }

pub added_more : (old between new : Formula) (count : ℕ) (Kind : ℕ → List Lit → Type 0) (k : ℕ) → k < count
    → Added old between count Kind k → Adds between new (Kind k) → Added old new count Kind (k + 1)
added_more old between new count Kind k below added adds =
    record { adds = adds_step old between new k Kind added.adds adds; upto = omega (arith, below) }

pub added_all : (old new : Formula) (count : ℕ) (Kind : ℕ → List Lit → Type 0) (k : ℕ) → count ≤ k → Added old new count Kind k
    → Adds old new (Below count Kind)
added_all old new count Kind k done added =
    let same : k ≡ count = omega (arith, done, added.upto) in
    subst (λ (x : ℕ). Adds old new (Below x Kind)) same added.adds

-- known literals

pub known_by : (vars : ℕ) (table : Table) → KnowsTable vars table → (i j : ℕ) → i < table.count → j < table.count
    → (o : OrderLit) → o ≡ lit_in table i j → IsKnownOrder vars o
known_by vars table knows i j i_in j_in o is_lit l e = knows i j i_in j_in l (sym is_lit ∙ e)

pub known_later : (vars more : ℕ) (table : Table) → more ≡ vars → KnowsTable vars table → KnowsTable more table
known_later vars more table same knows = subst (λ (n : ℕ). KnowsTable n table) (sym same) knows

-- the same clauses of literals that are the same

pub pair_of : (old new : Formula) (p q x y : OrderLit) → p ≡ x → q ≡ y → Adds old new (PairClause p q) → Adds old new (PairClause x y)
pair_of old new p q x y e f adds =
    subst (λ (o : OrderLit). Adds old new (PairClause x o)) f (subst (λ (o : OrderLit). Adds old new (PairClause o q)) e adds)

pub triple_of : (old new : Formula) (p q r x y z : OrderLit) → p ≡ x → q ≡ y → r ≡ z → Adds old new (TripleClause p q r) → Adds old new (TripleClause x y z)
triple_of old new p q r x y z e f g adds =
    subst (λ (o : OrderLit). Adds old new (TripleClause x y o)) g
    (subst (λ (o : OrderLit). Adds old new (TripleClause x o r)) f (subst (λ (o : OrderLit). Adds old new (TripleClause o q r)) e adds))

pub adds_reworded : (old new : Formula) (Kind Other : List Lit → Type 0) → ((c : List Lit) → Kind c → Other c) → ((c : List Lit) → Other c → Kind c)
    → Adds old new Kind → Adds old new Other
adds_reworded old new Kind Other to from adds =
    record { vars = adds.vars; more = adds.more; clauses = adds.clauses; only = λ c listed. to c (adds.only c listed); each = λ c kind. adds.each c (from c kind) }

pub neighbour_added : (old new : Formula) (n : ℕ) (recorded : ℕ → ℕ → Bool) (lit : ℕ → ℕ → OrderLit) (a b : ℕ) → AreNeighbours n recorded a b
    → Adds old new (Below n (λ x. PairClause (lit x b) (lit a x))) → Adds old new (NeighbourClause n recorded lit a b)
neighbour_added old new n recorded lit a b near adds =
    adds_reworded old new (Below n (λ x. PairClause (lit x b) (lit a x))) (NeighbourClause n recorded lit a b)
    (λ c kind. record { neighbours = near; clause = kind }) (λ c kind. kind.clause) adds
