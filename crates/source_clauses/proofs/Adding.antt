-- All that a reader's clauses promise, from the parts that are added one after the other.
use Rattle.std.proofs.Common.{◌≡◌, ℕ, ◌<◌, ◌≤◌, ◌+◌, ◌-◌, ◌⊎◌, Bool, List, [], ◌∷◌, ◌++◌, length, refl, sym, ◌∙◌, ap, subst, inl, inr, arith}
use Rattle.std.specs.Prelude.{IsSome, nat_eq}
use Rattle.std.proofs.lemmas.Bool.{cases_lt}
use Rattle.std.proofs.lemmas.List.Elements.{All-append}
use Rattle.clause_store.specs.declared.lit.Lit.{Lit}
use Rattle.clause_store.specs.Literals.{Assignment, IsTrueUnder, Satisfies}
use Rattle.clause_store.specs.UnitRule.{Partial, AllAtRest}
use Rattle.clause_store.specs.Formula.{Formula, AllKnown, Grows, Extension}
use Rattle.clause_store.proofs.Members.{All-from_contains}
use Rattle.clause_store.proofs.Agreement.{alike}
use Rattle.clause_store.proofs.Growth.{growth_then, older_satisfied, older_at_rest}
use Rattle.order_clauses.specs.declared.table.Table.{Table}
use Rattle.order_clauses.specs.Clauses.{Adds}
use Rattle.order_clauses.proofs.Added.{adds_grows}
use Rattle.source_clauses.specs.declared.reader.Reader.{Reader}
use Rattle.source_clauses.specs.declared.named.Named.{Named}
use Rattle.source_clauses.specs.Sees.{SeesNewest}
use Rattle.source_clauses.specs.Clauses.{selection_at, AreSelected, AreNexts}
use Rattle.source_clauses.specs.Contract.{KnowsReader, SpellsStrict, IsPlaced, AddsReader}
use Rattle.source_clauses.specs.Named.{KnowsNamed, ReaderClause}
use Rattle.source_clauses.specs.Olders.{AreOlders}
use Rattle.source_clauses.proofs.Alike.{source_of, sees_alike, source_alike}
use Rattle.source_clauses.proofs.Force.{in_force}
use Rattle.source_clauses.proofs.Sound.{sees_sound}
use Rattle.source_clauses.proofs.Settled.{Placing, older_is, older_known, Settles, settles, selection_some}
use Rattle.source_clauses.proofs.Complete.{with_source, with_source-below, selecting, selecting_true, selected_value}
use Rattle.source_clauses.proofs.Gathered.{later_reader}

-- The formulas: with the conditions of the candidates, with the selections, and with the clauses.
pub record Parts (old gated varied new : Formula) (table : Table) (reader : Reader) (named : Named) : Type 0 where
  pub knows : KnowsReader old.vars table reader
  pub gated_known : AllKnown gated
  pub olders : AreOlders old gated table reader (length reader.candidates) named.olders
  pub selected : AreSelected gated.vars (length reader.candidates + 1) named.selected
  pub varied_is : varied ≡ record gated { vars = gated.vars + (length reader.candidates + 1) }
  pub nexts : AreNexts table reader.candidates (length reader.candidates) named.nexts
  pub adds : Adds varied new (ReaderClause table reader named)

gated_grows : (gated varied : Formula) (n : ℕ) → varied ≡ record gated { vars = gated.vars + n } → Grows gated varied
gated_grows gated varied n e =
    subst (λ (f : Formula). Grows gated f) (sym e)
    (record { vars = le_add gated.vars n; more = []; clauses = none gated.clauses })
  where
    le_add : (m n : ℕ) → m ≤ m + n
    le_add m n = omega arith

    none : (cs : List (List Lit)) → cs ≡ cs ++ []
    none [] = refl
    none (c ∷ cs) = ap (λ (x : List (List Lit)). c ∷ x) (none cs)

parts_grow : (old gated varied new : Formula) (table : Table) (reader : Reader) (named : Named) → Parts old gated varied new table reader named → Grows gated new
parts_grow old gated varied new table reader named p =
    growth_then gated varied new (gated_grows gated varied (length reader.candidates + 1) p.varied_is)
    (adds_grows varied new (ReaderClause table reader named) p.adds)

-- each assignment that satisfies them
sound_of : (old gated varied new : Formula) (table : Table) (reader : Reader) (named : Named) → Parts old gated varied new table reader named
    → (w : Assignment) → Satisfies w new.clauses → SpellsStrict table w → SeesNewest w table reader
sound_of old gated varied new table reader named p w sat strict =
    sees_sound w new.clauses old.vars table reader named sat p.knows strict p.selected.counted p.nexts (in_force varied new table reader named p.adds)
    (λ i i_in. p.olders.has_value w (older_satisfied gated new w (parts_grow old gated varied new table reader named p) sat) i i_in)

-- and where the reader sees the newest write
extends_of : (old gated varied new : Formula) (table : Table) (reader : Reader) (named : Named) → Parts old gated varied new table reader named
    → (w : Assignment) → Satisfies w old.clauses → SeesNewest w table reader → Extension old.vars w new.clauses
extends_of old gated varied new table reader named p w sat sees =
    let first : Extension old.vars w gated.clauses = p.olders.extends w sat in
    let source : ℕ = source_of w table reader sees in
    let u : Assignment = with_source gated.vars source first.extended in
    let kept : (x : ℕ) → x < gated.vars → u x ≡ first.extended x = λ x below. with_source-below gated.vars source first.extended x below in
    let agrees : (x : ℕ) → x < old.vars → u x ≡ w x = λ x below. kept x (wider x old.vars gated.vars below p.olders.grows.vars) ∙ first.agrees x below in
    let gated_sat : Satisfies u gated.clauses = alike gated first.extended u p.gated_known kept first.satisfies in
    record {
      extended = u;
      agrees = agrees;
      satisfies =
          subst (λ (cs : List (List Lit)). Satisfies u cs) (sym new_clauses)
          (All-append (IsTrueUnder u) gated.clauses p.adds.more gated_sat
          (All-from_contains (IsTrueUnder u) p.adds.more
          (λ k listed.
          selecting_true u table reader named (source_of u table reader (sees_alike old.vars w u agrees table reader p.knows sees))
          (selecting u table reader named (sees_alike old.vars w u agrees table reader p.knows sees)
          (λ i i_in.
          selected_value first.extended gated.vars (length reader.candidates + 1) source named.selected p.selected i i_in
          ∙ ap (λ (m : ℕ). nat_eq i m) (sym (source_alike old.vars w u agrees table reader p.knows sees)))
          p.selected.counted (λ i i_in. p.olders.has_value u gated_sat i i_in))
          k (p.adds.only k listed))));
    }
  where
    wider : (x m n : ℕ) → x < m → m ≤ n → x < n
    wider x m n h g = omega (arith, h, g)

    new_clauses : new.clauses ≡ gated.clauses ++ p.adds.more
    new_clauses = p.adds.clauses ∙ ap (λ (f : Formula). f.clauses ++ p.adds.more) p.varied_is

-- where the unit rule has nothing to do

placing_of : (old gated varied new : Formula) (table : Table) (reader : Reader) (named : Named) → Parts old gated varied new table reader named
    → (v : Partial) (lt : ℕ → ℕ → Bool) → AllAtRest v new.clauses → IsPlaced v table reader lt → Placing v new.clauses table reader named lt
placing_of old gated varied new table reader named p v lt rest placed =
    record {
      rest = rest;
      placed = placed;
      force = in_force varied new table reader named p.adds;
      nexts = p.nexts;
      selected = p.selected.counted;
      given =
          λ a b i i_in g h.
          p.olders.given v a b (older_at_rest gated new v (parts_grow old gated varied new table reader named p) rest) i i_in g h;
    }

decides_of : (old gated varied new : Formula) (table : Table) (reader : Reader) (named : Named) → Parts old gated varied new table reader named
    → (v : Partial) (lt : ℕ → ℕ → Bool) → AllAtRest v new.clauses → IsPlaced v table reader lt → (x : ℕ) → old.vars ≤ x → x < new.vars → IsSome (v x)
decides_of old gated varied new table reader named p v lt rest placed x from to = by_place (cases_lt x gated.vars)
  where
    placing : Placing v new.clauses table reader named lt
    placing = placing_of old gated varied new table reader named p v lt rest placed

    settled : Settles v reader named lt
    settled = settles v new.clauses table reader named lt placing

    count : ℕ
    count = length reader.candidates + 1

    new_vars : new.vars ≡ gated.vars + count
    new_vars = p.adds.vars ∙ ap (λ (f : Formula). f.vars) p.varied_is

    by_place : (x < gated.vars) ⊎ (gated.vars ≤ x) → IsSome (v x)
    by_place (inl h) =
        p.olders.decides v
        (λ i i_in.
        (older_known v named i, (older_is v new.clauses table reader named lt placing i i_in).decided)) x from h
    by_place (inr h) =
        let i : ℕ = x - gated.vars in
        let i_in : i < count = offset_in x gated.vars count new.vars h to new_vars in
        subst (λ (y : ℕ). IsSome (v y))
        (ap (λ (l : Lit). l.var) (p.selected.each i i_in) ∙ offset_back x gated.vars h)
        (selection_some v reader named settled.source settled.chosen i i_in)
      where
        offset_in : (x m n k : ℕ) → m ≤ x → x < k → k ≡ m + n → x - m < n
        offset_in x m n k h g e = omega (arith, h, g, e)

        offset_back : (x m : ℕ) → m ≤ x → m + (x - m) ≡ x
        offset_back x m h = omega (arith, h)

pub reader_added : (old gated varied new : Formula) (table : Table) (reader : Reader) (named : Named) → Parts old gated varied new table reader named
    → AddsReader old new table reader
reader_added old gated varied new table reader named p =
    record {
      grows = growth_then old gated new p.olders.grows (parts_grow old gated varied new table reader named p);
      sound = sound_of old gated varied new table reader named p;
      extends = extends_of old gated varied new table reader named p;
      decides = decides_of old gated varied new table reader named p;
      reads =
          λ v lt rest placed written b b_in.
          (settles v new.clauses table reader named lt (placing_of old gated varied new table reader named p v lt rest placed)).reads written b b_in;
    }

-- what the clauses name is known
pub named_known : (old gated varied : Formula) (table : Table) (reader : Reader) (named : Named)
    → AreOlders old gated table reader (length reader.candidates) named.olders → AreSelected gated.vars (length reader.candidates + 1) named.selected
    → varied ≡ record gated { vars = gated.vars + (length reader.candidates + 1) } → AreNexts table reader.candidates (length reader.candidates) named.nexts
    → KnowsNamed varied.vars table reader named
named_known old gated varied table reader named olders selected is nexts =
    record {
      selected_counted = selected.counted;
      selected = λ i i_in. below (selection_at named.selected i).var gated.vars i (length reader.candidates + 1) varied.vars (ap (λ (l : Lit). l.var) (selected.each i i_in)) i_in vars_are;
      olders_counted = olders.counted;
      olders = λ i i_in l e. later l.var gated.vars (length reader.candidates + 1) varied.vars (olders.known i i_in l e) vars_are;
      nexts = nexts;
    }
  where
    vars_are : varied.vars ≡ gated.vars + (length reader.candidates + 1)
    vars_are = ap (λ (f : Formula). f.vars) is

    below : (x m i n k : ℕ) → x ≡ m + i → i < n → k ≡ m + n → x < k
    below x m i n k e h f = omega (arith, e, h, f)

    later : (x m n k : ℕ) → x < m → k ≡ m + n → x < k
    later x m n k h e = omega (arith, h, e)

pub reader_known : (old gated varied : Formula) (table : Table) (reader : Reader) (n : ℕ) → KnowsReader old.vars table reader → Grows old gated
    → varied ≡ record gated { vars = gated.vars + n } → KnowsReader varied.vars table reader
reader_known old gated varied table reader n knows grows is =
    later_reader old.vars varied.vars (wide old.vars gated.vars n varied.vars grows.vars (ap (λ (f : Formula). f.vars) is)) table reader knows
  where
    wide : (m k n x : ℕ) → m ≤ k → x ≡ k + n → m ≤ x
    wide m k n x h e = omega (arith, h, e)
