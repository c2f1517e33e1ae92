-- What the tables of an index say of one clause.
use Rattle.std.proofs.Common.{◌≡◌, ℕ, ◌<◌, Some, List, length, slice_get, arith}
use Rattle.std.specs.Prelude.{Contains}
use Rattle.std.proofs.lemmas.Option.{slice_get_within}
use Rattle.std.proofs.lemmas.List.Elements.{All-contains}
use Rattle.clause_store.specs.declared.lit.Lit.{Lit}
use Rattle.clause_store.specs.Formula.{IsKnown}
use Rattle.clause_store.proofs.Members.{All-slice_get}
use Rattle.sat_trail.specs.declared.watcher.Pair.{Pair}
use Rattle.sat_trail.specs.declared.watcher.Watcher.{Watcher}
use Rattle.sat_trail.specs.Watching.{Watched, IsPairOf, HasLiteral, IsIndexed, row_in}
use Rattle.sat_trail.proofs.Listing.{get-within}

pub literal-known : (w : Watched) (c : ℕ) (clause : List Lit) (l : Lit) → IsIndexed w → slice_get w.clauses c ≡ Some clause → Contains clause l → l.var < w.vars
literal-known w c clause l is found listed = All-contains (λ (k : Lit). k.var < w.vars) clause l (All-slice_get (IsKnown w.vars) w.clauses c clause is.known found) listed

pub clause-known : (w : Watched) (c : ℕ) (clause : List Lit) → IsIndexed w → slice_get w.clauses c ≡ Some clause → IsKnown w.vars clause
clause-known w c clause is found = All-slice_get (IsKnown w.vars) w.clauses c clause is.known found

pub pair-known : (w : Watched) (c : ℕ) (pair : Pair) → IsIndexed w → slice_get w.pairs c ≡ Some pair → (pair.one.var < w.vars) × (pair.two.var < w.vars)
pair-known w c pair is found =
    let clause = get-within w.clauses c (omega (arith, slice_get_within w.pairs c pair found, is.even)) in
    let of : IsPairOf clause.0 pair = is.paired c clause.0 pair clause.1 found in
    (literal-known w c clause.0 pair.one is clause.1 of.one, literal-known w c clause.0 pair.two is clause.1 of.two)

pub watcher-numbered : (w : Watched) (l : Lit) (i : ℕ) (x : Watcher) → IsIndexed w → slice_get (row_in w.rows l) i ≡ Some x → x.clause < length w.clauses
watcher-numbered w l i x is found =
    let has : HasLiteral w.clauses x.clause x.blocker = is.sound l i x found in
    slice_get_within w.clauses x.clause has.clause has.found

pub watcher-known : (w : Watched) (l : Lit) (i : ℕ) (x : Watcher) → IsIndexed w → slice_get (row_in w.rows l) i ≡ Some x → x.blocker.var < w.vars
watcher-known w l i x is found =
    let has : HasLiteral w.clauses x.clause x.blocker = is.sound l i x found in
    literal-known w x.clause has.clause x.blocker is has.found has.listed
