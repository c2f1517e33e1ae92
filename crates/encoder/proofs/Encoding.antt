-- What is added for terms, one after the other.
use Rattle.std.specs.Prelude.{◌≡◌, ℕ, zero, suc, ◌+◌, ◌<◌, ◌≤◌, Bool, true, false, List, [], ◌∷◌, ◌++◌, ◌*◌, length, map, Contains, refl}
use Rattle.std.proofs.Common.{get_or, take, take-suc, sym, ◌∙◌, ap, subst, inl, inr, arith}
use Rattle.std.proofs.lemmas.List.{append_assoc}
use Rattle.std.proofs.lemmas.List.Elements.{All-contains, All-push, Contains-append_left, Contains-append_right, Contains-push, Contains-push_cases}
use Rattle.std.proofs.lemmas.Bool.{cases_lt}
use Rattle.bv_terms.specs.declared.node.TermId.{TermId}
use Rattle.bv_terms.specs.Shapes.{Shape}
use Rattle.bv_terms.specs.Values.{KeepsTerms, value_at}
use Rattle.bv_terms.specs.Values.{Assignment as TermAssignment}
use Rattle.bv_terms.specs.Shapes.{Var}
use Rattle.bv_terms.specs.Variables.{KeepsVariables, Occurs, Here, Inside}
use Rattle.clause_store.specs.declared.lit.Lit.{Lit}
use Rattle.clause_store.specs.Literals.{Assignment, IsTrueUnder, Satisfies, literal_value}
use Rattle.clause_store.specs.Formula.{Formula, Grows}
use Rattle.clause_store.specs.UnitRule.{Partial, AllAtRest}
use Rattle.bit_clauses.specs.Bits.{Asserts, Bits, IsBlasted, IsBuilt, IsOf, KeepsBits, TermExtension}
use Rattle.bit_clauses.specs.Nodes.{lits_at}
use Rattle.bit_clauses.specs.Spelled.{spelled}
use Rattle.bit_clauses.proofs.Blasted.{agrees_older, built_later, keeps_none, keeps_both}
use Rattle.bit_clauses.proofs.Sure.{known_later}
use Rattle.bv_terms.specs.BitVectors.{bit_of}
use Rattle.clause_store.proofs.Growth.{growth_then, older_at_rest, older_satisfied}
use Rattle.std.proofs.lemmas.Option.{slice_get_within}
use Rattle.encoder.specs.declared.encoder.Encoder.{Encoder}
use Rattle.encoder.specs.Encodes.{AllVariablesDecided, AreBuilt, Encodes, IsKnown, DecidesBy, Keeps, Requires, Spells, joined}

pub take_more : {X : Type 0} (xs : List X) (k : ℕ) (x : X) → k < length xs → x ≡ get_or xs k x → take (k + 1) xs ≡ take k xs ++ x ∷ []
take_more xs k x within is =
    let next : k + 1 ≡ suc k = omega arith in
    ap (λ (n : ℕ). take n xs) next ∙ take-suc xs k x within ∙ ap (λ y. take k xs ++ y ∷ []) (sym is)

pub get_or_any : {X : Type 0} (xs : List X) (k : ℕ) (d e : X) → k < length xs → get_or xs k d ≡ get_or xs k e
get_or_any [] k d e within = absurd (omega (arith, within))
get_or_any (x ∷ xs) zero d e within = refl
get_or_any (x ∷ xs) (suc k) d e within = get_or_any xs k d e (omega (arith, within))

-- ---- one term

pub terms_same : (nodes : List Shape) → KeepsTerms nodes nodes
terms_same nodes = record { grows = omega arith; node = λ id h. refl; width = λ id h. refl; value = λ w id h. refl }

pub variables_same : (nodes : List Shape) → KeepsVariables nodes nodes
variables_same nodes width number id inside there = there

pub one_of : (id other : ℕ) → Contains (id ∷ []) other → id ≡ other
one_of id other (zero, lt, e) = e
one_of id other (suc k, lt, e) = absurd (omega (arith, lt))

-- an encoder of these parts
abbrev pub made_of : List Shape → Bits → Formula → Encoder
made_of pool blaster clauses = record { pool = pool; blaster = blaster; clauses = clauses }

pub encodes_one : (pool : List Shape) (b b' : Bits) (f f' : Formula) (id : ℕ) → IsBlasted b b' pool f f' id → Encodes (made_of pool b f) (made_of pool b' f') (id ∷ [])
encodes_one pool b b' f f' id blasted = record {
  keeps = record { known = blasted.known; terms = terms_same pool; variables = variables_same pool; bits = blasted.keeps; grows = blasted.grows };
  extends = λ (w : Assignment) (t : TermAssignment) (s : Spells (made_of pool b f) t w). blasted.extends w t s.satisfies s.agrees;
  decides = λ (v : Partial) (rest : AllAtRest v f'.clauses) (all : AllVariablesDecided (made_of pool b' f') v (id ∷ [])) (x : ℕ) (from : f.vars ≤ x) (below : x < f'.vars).
      blasted.decides v rest (all id (zero, omega arith, refl)) x from below;
}

-- ---- nothing, and one thing after another

pub grows_none : (f : Formula) → Grows f f
grows_none f = record { vars = omega arith; more = []; clauses = sym (append_none f.clauses) } where
  append_none : (xs : List (List Lit)) → xs ++ [] ≡ xs
  append_none [] = refl
  append_none (x ∷ xs) = ap (λ (ys : List (List Lit)). x ∷ ys) (append_none xs)

pub terms_then : (one two three : List Shape) → KeepsTerms one two → KeepsTerms two three → KeepsTerms one three
terms_then one two three first second = let more = first.grows in record {
  grows = omega (arith, more, second.grows);
  node = λ id h. second.node id (omega (arith, h, more)) ∙ first.node id h;
  width = λ id h. second.width id (omega (arith, h, more)) ∙ first.width id h;
  value = λ w id h. second.value w id (omega (arith, h, more)) ∙ first.value w id h;
}

pub occurs_more : (nodes more : List Shape) (width number id : ℕ) → KeepsTerms nodes more → Occurs nodes width number id → Occurs more width number id
occurs_more nodes more width number at keeps (Here id found) = Here id (keeps.node id (slice_get_within nodes id (Var width number) found) ∙ found)
occurs_more nodes more width number at keeps (Inside id child node found listed o) =
    Inside id child node (keeps.node id (slice_get_within nodes id node found) ∙ found) listed (occurs_more nodes more width number child keeps o)

pub keeps_then : (one two three : Encoder) → Keeps one two → Keeps two three → Keeps one three
keeps_then one two three first second = let more = first.terms.grows in record {
  known = second.known;
  terms = terms_then one.pool two.pool three.pool first.terms second.terms;
  variables = λ width number id inside there. first.variables width number id inside (second.variables width number id (omega (arith, inside, more)) there);
  bits = keeps_both one.blaster two.blaster three.blaster first.bits second.bits;
  grows = growth_then one.clauses two.clauses three.clauses first.grows second.grows;
}

-- what was decided of terms is so of older ones
pub all_older : (old new : Encoder) (v : Partial) (terms : List ℕ) → Keeps old new → AllVariablesDecided new v terms → AllVariablesDecided old v terms
all_older old new v terms keeps all id listed width number first there found =
    all id listed width number first (occurs_more old.pool new.pool width number id keeps.terms there) (keeps.bits.variables width number first found)

-- an assignment that spells what is new spells what is older
pub spells_older : (old new : Encoder) (t : TermAssignment) (w : Assignment) → Keeps old new → Spells new t w → Spells old t w
spells_older old new t w keeps spells = record {
  satisfies = older_satisfied old.clauses new.clauses w keeps.grows spells.satisfies;
  agrees = agrees_older old.blaster new.blaster keeps.bits t w spells.agrees;
}

-- one extension after another
pub extends_then : (one two three : Encoder) (t : TermAssignment) (w : Assignment) → Keeps one two
    → (first : TermExtension two.blaster t one.clauses.vars w two.clauses.clauses)
    → TermExtension three.blaster t two.clauses.vars first.extended three.clauses.clauses
    → TermExtension three.blaster t one.clauses.vars w three.clauses.clauses
extends_then one two three t w keeps first second = let more = keeps.grows.vars in record {
  extended = second.extended;
  agrees = λ (x : ℕ) (below : x < one.clauses.vars). second.agrees x (omega (arith, below, more)) ∙ first.agrees x below;
  satisfies = second.satisfies;
  spells = second.spells;
}

listed_later : (first : ℕ) (more : List ℕ) (id : ℕ) → Contains more id → Contains (first ∷ more) id
listed_later first more id (k, lt, e) = (suc k, omega (arith, lt), e)

pub decides_then : (one two three : Encoder) (xs ys : List ℕ) → Keeps one two → Keeps two three → DecidesBy one two xs → DecidesBy two three ys → DecidesBy one three (xs ++ ys)
decides_then one two three xs ys first second by_first by_second v rest all x from below = elim (cases_lt x two.clauses.vars) [
  | inl less ↦ by_first v (older_at_rest two.clauses three.clauses v second.grows rest)
      (all_older two three v xs second (λ (id : ℕ) (i : Contains xs id). all id (Contains-append_left xs ys id i))) x from less
  | inr more ↦ by_second v rest (λ (id : ℕ) (i : Contains ys id). all id (Contains-append_right xs ys id i)) x more below
]

pub encodes_none : (encoder : Encoder) (terms : List ℕ) → IsKnown encoder → Encodes encoder encoder terms
encodes_none encoder terms known = record {
  keeps = record { known = known; terms = terms_same encoder.pool; variables = variables_same encoder.pool; bits = keeps_none encoder.blaster; grows = grows_none encoder.clauses };
  extends = λ (w : Assignment) (t : TermAssignment) (s : Spells encoder t w).
      record { extended = w; agrees = λ x h. refl; satisfies = s.satisfies; spells = s.agrees };
  decides = λ (v : Partial) (rest : AllAtRest v encoder.clauses.clauses) (all : AllVariablesDecided encoder v terms) (x : ℕ) (from : encoder.clauses.vars ≤ x) (below : x < encoder.clauses.vars).
      absurd (omega (arith, from, below));
}

pub encodes_then : (one two three : Encoder) (xs ys : List ℕ) → Encodes one two xs → Encodes two three ys → Encodes one three (xs ++ ys)
encodes_then one two three xs ys first second = record {
  keeps = keeps_then one two three first.keeps second.keeps;
  extends = λ (w : Assignment) (t : TermAssignment) (s : Spells one t w).
      let e : TermExtension two.blaster t one.clauses.vars w two.clauses.clauses = first.extends w t s in
      extends_then one two three t w first.keeps e (second.extends e.extended t (record { satisfies = e.satisfies; agrees = e.spells }));
  decides = decides_then one two three xs ys first.keeps second.keeps first.decides second.decides;
}

-- the terms that have literals keep them
pub joined_later : (b b' : Bits) (terms : List ℕ) → KeepsBits b b' → ((id : ℕ) → Contains terms id → IsBuilt b id) → joined b'.terms terms ≡ joined b.terms terms
joined_later b b' [] keeps built = refl
joined_later b b' (id ∷ more) keeps built =
    ap (λ (xs : List Lit). xs ++ joined b'.terms more) (keeps.terms id (built id (zero, omega arith, refl)))
    ∙ ap (λ (xs : List Lit). lits_at b.terms id ++ xs) (joined_later b b' more keeps (λ (x : ℕ) (i : Contains more x). built x (listed_later id more x i)))

pub joined_push : (lits : List (List Lit)) (terms : List ℕ) (id : ℕ) → joined lits (terms ++ id ∷ []) ≡ joined lits terms ++ lits_at lits id
joined_push lits [] id = append_nil (lits_at lits id) where
  append_nil : (xs : List Lit) → xs ++ [] ≡ xs
  append_nil [] = refl
  append_nil (x ∷ xs) = ap (λ (ys : List Lit). x ∷ ys) (append_nil xs)
joined_push lits (first ∷ more) id = ap (λ (xs : List Lit). lits_at lits first ++ xs) (joined_push lits more id) ∙ sym (append_assoc (lits_at lits first) (joined lits more) (lits_at lits id))

-- ---- the terms of a list

abbrev pub numbers : List TermId → List ℕ
numbers terms = map (λ (id : TermId). id.number) terms

map_push : (terms : List TermId) (id : TermId) → numbers (terms ++ id ∷ []) ≡ numbers terms ++ id.number ∷ []
map_push [] id = refl
map_push (first ∷ more) id = ap (λ (xs : List ℕ). first.number ∷ xs) (map_push more id)

pub numbers_more : (terms : List TermId) (k : ℕ) (id : TermId) → k < length terms → id ≡ get_or terms k id
    → numbers (take (k + 1) terms) ≡ numbers (take k terms) ++ id.number ∷ []
numbers_more terms k id within is = ap numbers (take_more terms k id within is) ∙ map_push (take k terms) id

-- after some terms, one more
pub record HasJoined (old new : Encoder) (terms : List ℕ) (lits : List Lit) : Type 0 where
  pub encodes : Encodes old new terms
  pub built : AreBuilt new terms
  pub lits_are : lits ≡ joined new.blaster.terms terms
  pub same : new.pool ≡ old.pool

pub joined_more : (old mid new : Encoder) (terms : List ℕ) (lits later : List Lit) (id : ℕ) → HasJoined old mid terms lits → Encodes mid new (id ∷ [])
    → IsBuilt new.blaster id → later ≡ lits ++ lits_at new.blaster.terms id → new.pool ≡ mid.pool → HasJoined old new (terms ++ id ∷ []) later
joined_more old mid new terms lits later id has encodes built is same = record {
  encodes = encodes_then old mid new terms (id ∷ []) has.encodes encodes;
  built = λ (x : ℕ) (i : Contains (terms ++ id ∷ []) x). elim (Contains-push_cases terms id x i) [
    | inl j ↦ built_later mid.blaster new.blaster x encodes.keeps.bits (has.built x j)
    | inr e ↦ subst (IsBuilt new.blaster) e built
  ];
  lits_are = is
      ∙ ap (λ (xs : List Lit). xs ++ lits_at new.blaster.terms id) (has.lits_are ∙ sym (joined_later mid.blaster new.blaster terms encodes.keeps.bits has.built))
      ∙ sym (joined_push new.blaster.terms terms id);
  same = same ∙ has.same;
}

-- ---- a term that is required to be 1

bit_is : (w : Assignment) (l : Lit) (n : ℕ) → spelled w (l ∷ []) ≡ n → bit_of (literal_value w l) ≡ n
bit_is w l n e = let none : bit_of (literal_value w l) ≡ bit_of (literal_value w l) + 2 * 0 = omega arith in none ∙ e

bit_true : (b : Bool) → bit_of b ≡ 1 → b ≡ true
bit_true true e = refl
bit_true false e = absurd (omega (arith, e))

unit_true : (w : Assignment) (l : Lit) → IsTrueUnder w (l ∷ []) → literal_value w l ≡ true
unit_true w l (zero, x, lt, is, e) = ap (literal_value w) is ∙ e
unit_true w l (suc k, x, lt, is, e) = absurd (omega (arith, lt))

-- one more clause
pub grows_by : (f g : Formula) (c : List Lit) → g ≡ record f { clauses = f.clauses ++ c ∷ [] } → Grows f g
grows_by f g c added = record {
  vars = let same : g.vars ≡ f.vars = ap (λ (x : Formula). x.vars) added in omega (arith, same);
  more = c ∷ [];
  clauses = ap (λ (x : Formula). x.clauses) added;
}

requires_keeps : (pool : List Shape) (b b' : Bits) (f f' : Formula) (id : ℕ) → IsOf b pool f → Asserts b b' pool f f' id → Keeps (made_of pool b f) (made_of pool b' f')
requires_keeps pool b b' f f' id known asserts =
    let last : Grows asserts.between f' = grows_by asserts.between f' (asserts.literal ∷ []) asserts.added in record {
      known = known_later b' pool pool asserts.between f' (terms_same pool) last asserts.blasted.known;
      terms = terms_same pool;
      variables = variables_same pool;
      bits = asserts.blasted.keeps;
      grows = growth_then f asserts.between f' asserts.blasted.grows last;
    }

requires_sound : (pool : List Shape) (b b' : Bits) (f f' : Formula) (id : ℕ) → Asserts b b' pool f f' id → (w : Assignment) (t : TermAssignment)
    → Spells (made_of pool b' f') t w → value_at t pool id ≡ 1
unfolding grows_by
requires_sound pool b b' f f' id asserts w t spells =
    let last : Grows asserts.between f' = grows_by asserts.between f' (asserts.literal ∷ []) asserts.added in
    let unit : IsTrueUnder w (asserts.literal ∷ []) = All-contains (IsTrueUnder w) f'.clauses (asserts.literal ∷ []) spells.satisfies
    (subst (λ (cs : List (List Lit)). Contains cs (asserts.literal ∷ [])) (sym last.clauses) (Contains-push asserts.between.clauses (asserts.literal ∷ []))) in
    let value : spelled w (lits_at b'.terms id) ≡ value_at t pool id = asserts.built.value w t (older_satisfied asserts.between f' w last spells.satisfies) spells.agrees in
    sym value ∙ ap (spelled w) asserts.bits
    ∙ sym (bit_is w asserts.literal (spelled w (asserts.literal ∷ [])) refl) ∙ ap bit_of (unit_true w asserts.literal unit)

requires_extends : (pool : List Shape) (b b' : Bits) (f f' : Formula) (id : ℕ) → Asserts b b' pool f f' id → (w : Assignment) (t : TermAssignment)
    → Spells (made_of pool b f) t w → value_at t pool id ≡ 1 → TermExtension b' t f.vars w f'.clauses
requires_extends pool b b' f f' id asserts w t spells one =
    let e : TermExtension b' t f.vars w asserts.between.clauses = asserts.blasted.extends w t spells.satisfies spells.agrees in
    let value : spelled e.extended (lits_at b'.terms id) ≡ value_at t pool id = asserts.built.value e.extended t e.satisfies e.spells in
    let holds : literal_value e.extended asserts.literal ≡ true = bit_true (literal_value e.extended asserts.literal)
    (bit_is e.extended asserts.literal 1 (sym (ap (spelled e.extended) asserts.bits) ∙ value ∙ one)) in record {
      extended = e.extended;
      agrees = e.agrees;
      satisfies = subst (λ (cs : List (List Lit)). Satisfies e.extended cs) (sym (ap (λ (x : Formula). x.clauses) asserts.added))
          (All-push (IsTrueUnder e.extended) asserts.between.clauses (asserts.literal ∷ []) e.satisfies (zero, asserts.literal, omega arith, refl, holds));
      spells = e.spells;
    }

requires_decides : (pool : List Shape) (b b' : Bits) (f f' : Formula) (id : ℕ) → Asserts b b' pool f f' id → DecidesBy (made_of pool b f) (made_of pool b' f') (id ∷ [])
requires_decides pool b b' f f' id asserts v rest all x from below =
    let last : Grows asserts.between f' = grows_by asserts.between f' (asserts.literal ∷ []) asserts.added in
    let same : f'.vars ≡ asserts.between.vars = ap (λ (g : Formula). g.vars) asserts.added in
    asserts.blasted.decides v (older_at_rest asserts.between f' v last rest) (all id (zero, omega arith, refl)) x from (omega (arith, below, same))

pub requires_one : (pool : List Shape) (b b' : Bits) (f f' : Formula) (id : ℕ) → IsOf b pool f → Asserts b b' pool f f' id → Requires (made_of pool b f) (made_of pool b' f') id
requires_one pool b b' f f' id known asserts = record {
  keeps = requires_keeps pool b b' f f' id known asserts;
  sound = requires_sound pool b b' f f' id asserts;
  extends = requires_extends pool b b' f f' id asserts;
  decides = requires_decides pool b b' f f' id asserts;
}
