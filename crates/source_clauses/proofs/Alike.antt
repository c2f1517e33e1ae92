-- Assignments that agree on the variables of a reader see the same write.
use Rattle.std.proofs.Common.{◌≡◌, ℕ, ◌<◌, Bool, true, false, ◌&&◌, cond, List, length, refl, sym, ◌∙◌, ap, subst, inl, inr}
use Rattle.std.specs.Prelude.{nat_eq, nat_lt}
use Rattle.std.proofs.lemmas.Bool.{false≢true}
use Rattle.clause_store.specs.declared.lit.Lit.{Lit}
use Rattle.clause_store.specs.Literals.{Assignment, literal_value}
use Rattle.clause_store.specs.Formula.{IsKnown}
use Rattle.clause_store.proofs.Agreement.{literal_value-agree}
use Rattle.order_clauses.specs.declared.order_lit.OrderLit.{OrderLit}
use Rattle.order_clauses.specs.declared.order_lit.OrderLit.TheVariants as order_lit
use Rattle.order_clauses.specs.declared.table.Table.{Table}
use Rattle.order_clauses.specs.Literals.{spelled}
use Rattle.order_clauses.specs.Grid.{lit_in, IsKnownOrder}
use Rattle.order_clauses.proofs.Known.{never_is}
use Rattle.source_clauses.specs.declared.reader.Reader.{Reader}
use Rattle.source_clauses.specs.Sees.{candidate_at, bit_at, before_reader, between, is_older, ReadsBits, SeesWrite, SeesInitial, SeesNewest}
use Rattle.source_clauses.specs.Contract.{KnowsReader, KnowsCandidate}

-- the assignments agree on the first variables
abbrev pub Agree : ℕ → Assignment → Assignment → Type 0
Agree vars w u = (x : ℕ) → x < vars → u x ≡ w x

pub bit_known : (vars : ℕ) (bits : List Lit) → IsKnown vars bits → (b : ℕ) → b < length bits → (bit_at bits b).var < vars
bit_known vars bits known b b_in = known b (record { var = 0; positive = false }) b_in

pub spelled_alike : (vars : ℕ) (w u : Assignment) → Agree vars w u → (o : OrderLit) → IsKnownOrder vars o → spelled u o ≡ spelled w o
spelled_alike vars w u agree order_lit.Always known = refl
spelled_alike vars w u agree order_lit.Never known = refl
spelled_alike vars w u agree (order_lit.Is l) known = literal_value-agree w u l (agree l.var (known l refl))

pub bit_alike : (vars : ℕ) (w u : Assignment) → Agree vars w u → (bits : List Lit) → IsKnown vars bits → (b : ℕ) → b < length bits
    → literal_value u (bit_at bits b) ≡ literal_value w (bit_at bits b)
bit_alike vars w u agree bits known b b_in = literal_value-agree w u (bit_at bits b) (agree (bit_at bits b).var (bit_known vars bits known b b_in))

abbrev is_sure : OrderLit → Bool
is_sure order_lit.Always = true
is_sure order_lit.Never = false
is_sure (order_lit.Is l) = false

pub always_is : (l : Lit) → order_lit.Always ≡ order_lit.Is l → ⊥
always_is l e = false≢true (sym (ap (λ (o : OrderLit). is_sure o) e))

-- the conditions of a reader are known

pub before_known : (vars : ℕ) (table : Table) (reader : Reader) → KnowsReader vars table reader → (i : ℕ) → i < length reader.candidates
    → IsKnownOrder vars (before_reader table reader i)
before_known vars table reader knows i i_in = knows.known (candidate_at reader.candidates i).at reader.at (knows.candidates i i_in).at knows.at

in_list_known : (vars : ℕ) (b : Bool) → IsKnownOrder vars (cond b order_lit.Always order_lit.Never)
in_list_known vars true l e = absurd (always_is l e)
in_list_known vars false l e = absurd (never_is l e)

pub between_known : (vars : ℕ) (table : Table) (reader : Reader) → KnowsReader vars table reader → (i j : ℕ) → i < length reader.candidates
    → j < length reader.candidates → IsKnownOrder vars (between table reader.candidates i j)
between_known vars table reader knows i j i_in j_in =
    go (nat_eq (candidate_at reader.candidates i).at (candidate_at reader.candidates j).at)
  where
    lit : OrderLit
    lit = lit_in table (candidate_at reader.candidates i).at (candidate_at reader.candidates j).at

    go : (same : Bool) → IsKnownOrder vars (cond same (cond (nat_lt i j) order_lit.Always order_lit.Never) lit)
    go true = in_list_known vars (nat_lt i j)
    go false = knows.known (candidate_at reader.candidates i).at (candidate_at reader.candidates j).at (knows.candidates i i_in).at (knows.candidates j j_in).at

pub older_alike : (vars : ℕ) (w u : Assignment) → Agree vars w u → (table : Table) (reader : Reader) → KnowsReader vars table reader
    → (i : ℕ) → i < length reader.candidates → is_older u table reader i ≡ is_older w table reader i
older_alike vars w u agree table reader knows i i_in =
    ap (λ (p : Bool). p && spelled u (candidate_at reader.candidates i).hit)
    (spelled_alike vars w u agree (before_reader table reader i) (before_known vars table reader knows i i_in))
    ∙ ap (λ (q : Bool). spelled w (before_reader table reader i) && q)
    (spelled_alike vars w u agree (candidate_at reader.candidates i).hit (knows.candidates i i_in).hit)

reads_alike : (vars : ℕ) (w u : Assignment) → Agree vars w u → (reader : Reader) → IsKnown vars reader.read → (bits : List Lit)
    → IsKnown vars bits → length bits ≡ length reader.read → ReadsBits w reader bits → ReadsBits u reader bits
reads_alike vars w u agree reader read_known bits known same reads b b_in =
    bit_alike vars w u agree reader.read read_known b b_in ∙ reads b b_in
    ∙ sym (bit_alike vars w u agree bits known b (subst (λ (n : ℕ). b < n) (sym same) b_in))

write_alike : (vars : ℕ) (w u : Assignment) → Agree vars w u → (table : Table) (reader : Reader) → KnowsReader vars table reader
    → SeesWrite w table reader → SeesWrite u table reader
write_alike vars w u agree table reader knows sees =
    let i : ℕ = sees.source in
    let i_in = sees.is_newest.listed in
    let one : KnowsCandidate vars table (length reader.read) (candidate_at reader.candidates i) = knows.candidates i i_in in
    record {
      source = i;
      is_newest =
          record {
            listed = i_in;
            older = older_alike vars w u agree table reader knows i i_in ∙ sees.is_newest.older;
            newest =
                λ j j_in differ older.
                spelled_alike vars w u agree (between table reader.candidates j i) (between_known vars table reader knows j i j_in i_in)
                ∙ sees.is_newest.newest j j_in differ (sym (older_alike vars w u agree table reader knows j j_in) ∙ older);
          };
      reads = reads_alike vars w u agree reader knows.read (candidate_at reader.candidates i).bits one.bits one.width_is sees.reads;
    }

initial_alike : (vars : ℕ) (w u : Assignment) → Agree vars w u → (table : Table) (reader : Reader) → KnowsReader vars table reader
    → SeesInitial w table reader → SeesInitial u table reader
initial_alike vars w u agree table reader knows sees =
    record {
      none_older = λ i i_in. older_alike vars w u agree table reader knows i i_in ∙ sees.none_older i i_in;
      reads = reads_alike vars w u agree reader knows.read reader.initial knows.initial knows.width_is sees.reads;
    }

pub sees_alike : (vars : ℕ) (w u : Assignment) → Agree vars w u → (table : Table) (reader : Reader) → KnowsReader vars table reader
    → SeesNewest w table reader → SeesNewest u table reader
sees_alike vars w u agree table reader knows (inl write) = inl (write_alike vars w u agree table reader knows write)
sees_alike vars w u agree table reader knows (inr initial) = inr (initial_alike vars w u agree table reader knows initial)

-- the source that a reader sees: a candidate, or behind all of them the initial bits
abbrev pub source_of : (w : Assignment) (table : Table) (reader : Reader) → SeesNewest w table reader → ℕ
source_of w table reader (inl write) = write.source
source_of w table reader (inr initial) = length reader.candidates

-- it is the same
pub source_alike : (vars : ℕ) (w u : Assignment) (agree : Agree vars w u) (table : Table) (reader : Reader) (knows : KnowsReader vars table reader)
    (sees : SeesNewest w table reader)
    → source_of u table reader (sees_alike vars w u agree table reader knows sees) ≡ source_of w table reader sees
unfolding sees_alike write_alike initial_alike
source_alike vars w u agree table reader knows (inl write) = refl
source_alike vars w u agree table reader knows (inr initial) = refl
