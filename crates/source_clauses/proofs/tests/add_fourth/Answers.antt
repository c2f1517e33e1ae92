use Rattle.std.proofs.Common.{◌≡◌, ℕ, zero, suc, ◌<◌, List, [], ◌∷◌, refl, sym, subst, arith}
use Rattle.std.proofs.lemmas.List.Elements.{All-nil, All-cons}
use Rattle.clause_store.specs.declared.lit.Lit.{Lit}
use Rattle.clause_store.specs.Formula.{IsKnown}
use Rattle.order_clauses.specs.declared.order_lit.OrderLit.TheVariants as order_lit
use Rattle.order_clauses.specs.declared.table.Table.{Table}
use Rattle.order_clauses.specs.Grid.{IsSquare, KnowsTable}
use Rattle.source_clauses.specs.declared.reader.Candidate.{Candidate}
use Rattle.source_clauses.specs.Sees.{candidate_at}
use Rattle.source_clauses.specs.Contract.{KnowsCandidate, KnowsReader}
use Rattle.source_clauses.proofs.Alike.{always_is}
use Rattle.source_clauses.proofs.tests.add_fourth.Goals as goal

one_known : (vars : ℕ) (l : Lit) → l.var < vars → IsKnown vars (l ∷ [])
one_known vars l h = All-cons (λ (k : Lit). k.var < vars) l [] h (All-nil (λ (k : Lit). k.var < vars))

abbrev write : ℕ → Lit → Candidate
write at l = record { at = at; hit = order_lit.Always; bits = l ∷ [] }

write_known : (vars : ℕ) (table : Table) (at : ℕ) (l : Lit) → at < table.count → l.var < vars → KnowsCandidate vars table 1 (write at l)
write_known vars table at l at_in h =
    record { at = at_in; hit = λ k e. absurd (always_is k e); bits = one_known vars l h; width_is = refl }

below_three : (i : ℕ) → suc (suc (suc i)) < 3 → ⊥
below_three i h = omega (arith, h)

abbrev writes : Lit → Lit → Lit → List Candidate
writes a b d = write 0 a ∷ write 1 b ∷ write 2 d ∷ []

knows_fourth : (vars : ℕ) (table : Table) (a b d i r : Lit) → IsSquare table → KnowsTable vars table → 3 < table.count
    → a.var < vars → b.var < vars → d.var < vars → i.var < vars → r.var < vars
    → KnowsReader vars table (record { at = 3; candidates = writes a b d; initial = i ∷ []; read = r ∷ [] })
knows_fourth vars table a b d i r square known places a_known b_known d_known i_known r_known =
    record {
      square = square;
      known = known;
      at = places;
      read = one_known vars r r_known;
      initial = one_known vars i i_known;
      width_is = refl;
      candidates = each;
    }
  where
    each : (k : ℕ) → k < 3 → KnowsCandidate vars table 1 (candidate_at (writes a b d) k)
    each zero h = write_known vars table 0 a (omega (arith, places)) a_known
    each (suc zero) h = write_known vars table 1 b (omega (arith, places)) b_known
    each (suc (suc zero)) h = write_known vars table 2 d (omega (arith, places)) d_known
    each (suc (suc (suc k))) h = absurd (below_three k h)

knows_made : (vars : ℕ) (table : Table) (a b d i r : Lit) (candidates : List Candidate) (initial read : List Lit)
    → candidates ≡ writes a b d → initial ≡ i ∷ [] → read ≡ r ∷ []
    → KnowsReader vars table (record { at = 3; candidates = writes a b d; initial = i ∷ []; read = r ∷ [] })
    → KnowsReader vars table (record { at = 3; candidates = candidates; initial = initial; read = read })
knows_made vars table a b d i r candidates initial read e f g knows =
    subst (λ (cs : List Candidate). KnowsReader vars table (record { at = 3; candidates = cs; initial = initial; read = read })) (sym e)
    (subst (λ (ls : List Lit). KnowsReader vars table (record { at = 3; candidates = writes a b d; initial = ls; read = read })) (sym f)
    (subst (λ (ls : List Lit). KnowsReader vars table (record { at = 3; candidates = writes a b d; initial = i ∷ []; read = ls })) (sym g) knows))

pub add_reader-requires : goal.add_reader-requires
add_reader-requires c =
    let vars = c.args.clauses.now.vars in
    let table = c.args.table.now in
    let bits = c.args.bits.now in
    record {
      known =
          knows_made vars table bits.first bits.second bits.third bits.initial bits.read c.in_ok-candidates.candidates c.in_ok-initial.initial c.in_ok-read.read
          c.in_ok-candidates.ensures c.in_ok-initial.ensures c.in_ok-read.ensures
          (knows_fourth vars table bits.first bits.second bits.third bits.initial bits.read c.requires.square c.requires.known c.requires.places
          c.requires.first_known c.requires.second_known c.requires.third_known c.requires.initial_known c.requires.read_known);
    }
