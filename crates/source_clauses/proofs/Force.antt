-- The clauses of a reader, among those of a formula.
use Rattle.std.proofs.Common.{ℕ, ◌<◌, List, length, refl, sym, subst, inl, inr}
use Rattle.std.specs.Prelude.{Contains}
use Rattle.std.proofs.lemmas.List.Elements.{Contains-append_left, Contains-append_right}
use Rattle.clause_store.specs.declared.lit.Lit.{Lit}
use Rattle.clause_store.specs.Literals.{opposite}
use Rattle.clause_store.specs.Formula.{Formula}
use Rattle.order_clauses.specs.declared.order_lit.OrderLit.TheVariants as order_lit
use Rattle.order_clauses.specs.declared.table.Table.{Table}
use Rattle.order_clauses.specs.Clauses.{Adds}
use Rattle.source_clauses.specs.declared.reader.Reader.{Reader}
use Rattle.source_clauses.specs.declared.named.Named.{Named}
use Rattle.source_clauses.specs.Sees.{candidate_at, bit_at}
use Rattle.source_clauses.specs.Clauses.{implied, copied, selection_at, older_at, newest}
use Rattle.source_clauses.specs.Named.{ReaderClause}
use Rattle.source_clauses.proofs.Conditional.{HasImplied}

-- where the selection is true, the bits that are read are these
pub record HasBits (clauses : List (List Lit)) (c : Lit) (bits read : List Lit) : Type 0 where
  pub up : (b : ℕ) → b < length read → HasImplied clauses c (order_lit.Is (bit_at bits b)) (order_lit.Is (bit_at read b))
  pub down : (b : ℕ) → b < length read → HasImplied clauses c (order_lit.Is (opposite (bit_at bits b))) (order_lit.Is (opposite (bit_at read b)))

pub record InForce (clauses : List (List Lit)) (table : Table) (reader : Reader) (named : Named) : Type 0 where
  pub seen : Contains clauses named.selected
  pub older : (i : ℕ) → i < length reader.candidates → HasImplied clauses (selection_at named.selected i) order_lit.Always (older_at named.olders i)
  pub newest_so : (i j : ℕ) → i < length reader.candidates → j < length reader.candidates → (k : List Lit)
      → Contains (newest table reader.candidates named.nexts named.selected named.olders i j) k → Contains clauses k
  pub unwritten : (j : ℕ) → j < length reader.candidates
      → HasImplied clauses (selection_at named.selected (length reader.candidates)) (older_at named.olders j) order_lit.Never
  pub written : (i : ℕ) → i < length reader.candidates
      → HasBits clauses (selection_at named.selected i) (candidate_at reader.candidates i).bits reader.read
  pub initial : HasBits clauses (selection_at named.selected (length reader.candidates)) reader.initial reader.read

bits_from : (clauses : List (List Lit)) (c : Lit) (bits read : List Lit)
    → ((b : ℕ) → b < length read → (k : List Lit) → Contains (copied c (bit_at bits b) (bit_at read b)) k → Contains clauses k)
    → HasBits clauses c bits read
bits_from clauses c bits read has =
    record {
      up =
          λ b b_in k listed.
          has b b_in k
          (Contains-append_left (implied c (order_lit.Is (bit_at bits b)) (order_lit.Is (bit_at read b)))
          (implied c (order_lit.Is (opposite (bit_at bits b))) (order_lit.Is (opposite (bit_at read b)))) k listed);
      down =
          λ b b_in k listed.
          has b b_in k
          (Contains-append_right (implied c (order_lit.Is (bit_at bits b)) (order_lit.Is (bit_at read b)))
          (implied c (order_lit.Is (opposite (bit_at bits b))) (order_lit.Is (opposite (bit_at read b)))) k listed);
    }

pub in_force : (old new : Formula) (table : Table) (reader : Reader) (named : Named) → Adds old new (ReaderClause table reader named)
    → InForce new.clauses table reader named
in_force old new table reader named adds =
    record {
      seen = has named.selected (inl refl);
      older = λ i i_in k listed. has k (inr (inl (record { at = i; within = i_in; kind = listed })));
      newest_so =
          λ i j i_in j_in k listed.
          has k (inr (inr (inl (record { at = i; within = i_in; kind = record { at = j; within = j_in; kind = listed } }))));
      unwritten = λ j j_in k listed. has k (inr (inr (inr (inl (record { at = j; within = j_in; kind = listed })))));
      written =
          λ i i_in.
          bits_from new.clauses (selection_at named.selected i) (candidate_at reader.candidates i).bits reader.read
          (λ b b_in k listed.
          has k (inr (inr (inr (inr (inl (record { at = i; within = i_in; kind = record { at = b; within = b_in; kind = listed } })))))));
      initial =
          bits_from new.clauses (selection_at named.selected (length reader.candidates)) reader.initial reader.read
          (λ b b_in k listed. has k (inr (inr (inr (inr (inr (record { at = b; within = b_in; kind = listed })))))));
    }
  where
    has : (k : List Lit) → ReaderClause table reader named k → Contains new.clauses k
    has k kind =
        subst (λ (cs : List (List Lit)). Contains cs k) (sym adds.clauses) (Contains-append_right old.clauses adds.more k (adds.each k kind))
