-- What a turn of the search ends with.
use Rattle.std.proofs.Common.{◌≡◌, ℕ, ◌+◌, ◌-◌, ◌<◌, ◌≤◌, ◌⊎◌, inl, inr, Bool, true, Option, Some, None, List, [], ◌∷◌, ◌++◌, length, refl, sym, ◌∙◌, ap, subst, arith}
use Rattle.std.specs.Prelude.{Result, IfOk, IfSome, Contains, slice_set, slice_index_or}
use Rattle.std.proofs.lemmas.Bool.{cases_eq}
use Rattle.std.proofs.lemmas.Option.{slice_get_within, get_or_from_slice_get}
use Rattle.std.proofs.lemmas.Result.{IfOk-weaker}
use Rattle.std.proofs.lemmas.List.{length-append}
use Rattle.clause_store.specs.declared.lit.Lit.{Lit}
use Rattle.clause_store.proofs.Members.{Contains-slice_get}
use Rattle.clause_store.specs.Literals.{Satisfies}
use Rattle.clause_store.specs.Formula.{Formula, AllKnown}
use Rattle.clause_store.specs.UnitRule.{Follows}
use Rattle.sat_trail.proofs.Listing.{get-set_other, get-within}
use Rattle.sat_trail.specs.Paths.{IsWalk, value_in}
use Rattle.sat_trail.specs.Visits.{IsFalseClause}
use Rattle.sat_trail.specs.Engines.{State, IsLoaded}
use Rattle.sat_core.specs.declared.analysis.Learned.{Learned}
use Rattle.sat_core.specs.declared.search.Turn.{Turn}
use Rattle.sat_core.specs.declared.search.Turn.TheVariants.{Closed}
use Rattle.sat_core.specs.Analyses.{IsAnalysed, IsLearned}
use Rattle.sat_core.specs.Lines.{AreLines, NoneEmpty, value_at}
use Rattle.sat_core.specs.Searching.{MarksFirst, IsBack, IsDescent, IsBottom, IsModel, IsRefutation, IsSoFar, IsTurn}
use Rattle.sat_core.proofs.Answering as answering

pub clash-false : (s : State) (clash : Option ℕ) (number : ℕ) → IsBottom s clash → clash ≡ Some number → IsFalseClause s.clauses (value_in s.steps) number
clash-false s clash number bottom e = subst (λ (o : Option ℕ). IsBottom s o) e bottom

pub clash-within : (s : State) (clash : Option ℕ) (number : ℕ) → IsBottom s clash → clash ≡ Some number → number < length s.clauses
clash-within s clash number bottom e =
    let is : IsFalseClause s.clauses (value_in s.steps) number = clash-false s clash number bottom e in
    slice_get_within s.clauses number is.clause is.found

pub loaded-descent : (f : Formula) (first : List ℕ) (lines : List (List Lit)) (o : Option State) (s : State) → IsLoaded f.vars (f.clauses ++ lines) o → o ≡ Some s → IsDescent f.vars f.clauses first lines s
loaded-descent f first lines o s is e = answering.descent-first f.vars f.clauses lines first s (answering.loaded-first f.vars (f.clauses ++ lines) o s is e)

longer : (before lines : List (List Lit)) (line : List Lit) → lines ≡ before ++ line ∷ [] → length lines ≡ length before + 1
longer before lines line made = ap (λ (xs : List (List Lit)). length xs) made ∙ length-append before (line ∷ [])

-- the empty line follows from what nothing can make true

refutation : (f : Formula) (first : List ℕ) (budget : ℕ) (before : List (List Lit)) → IsSoFar f first budget before → Follows (f.clauses ++ before) [] → IsRefutation f first budget (before ++ [] ∷ [])
refutation f first budget before is follows =
    let ended = answering.closed-lines f first budget before is follows in
    (ended.0, ended.1, omega (arith, is.fewer, longer before (before ++ [] ∷ []) [] refl))

pub closed-load : (f : Formula) (first : List ℕ) (budget : ℕ) (before : List (List Lit)) (o : Option State) → IsSoFar f first budget before → IsLoaded f.vars (f.clauses ++ before) o → o ≡ None
    → IsRefutation f first budget (before ++ [] ∷ [])
closed-load f first budget before o is loaded e = refutation f first budget before is (answering.loaded-none f.vars (f.clauses ++ before) o loaded e)

closed-analysis : (f : Formula) (first : List ℕ) (budget : ℕ) (before : List (List Lit)) (s : State) → IsSoFar f first budget before → IsDescent f.vars f.clauses first before s → Follows s.clauses []
    → IsRefutation f first budget (before ++ [] ∷ [])
closed-analysis f first budget before s is descent follows = refutation f first budget before is (subst (λ (cs : List (List Lit)). Follows cs []) descent.holds follows)

learned-none : (s : State) (marks : List Bool) (o : Option Learned) → IsAnalysed s marks o → o ≡ None → Follows s.clauses []
learned-none s marks o is e = subst (λ (p : Option Learned). IsAnalysed s marks p) e is

pub learned-some : (s : State) (marks : List Bool) (o : Option Learned) (l : Learned) → IsAnalysed s marks o → o ≡ Some l → IsLearned s marks l.line.items l.key l.second l.to
learned-some s marks o l is e = subst (λ (p : Option Learned). IsAnalysed s marks p) e is

pub closed-analysed : (f : Formula) (first : List ℕ) (budget : ℕ) (before : List (List Lit)) (s : State) (marks : List Bool) (o : Option Learned) → IsSoFar f first budget before → IsDescent f.vars f.clauses first before s
    → IsAnalysed s marks o → o ≡ None → IsRefutation f first budget (before ++ [] ∷ [])
closed-analysed f first budget before s marks o is descent analysed e = closed-analysis f first budget before s is descent (learned-none s marks o analysed e)

-- a turn that ends with the empty line
pub closed-turn : {E : Type 0} (f : Formula) (first : List ℕ) (budget : ℕ) (start before : List (List Lit)) (r : Result Turn E) → IsRefutation f first budget (before ++ [] ∷ [])
    → IfOk r (λ turn. turn ≡ Closed (before ++ [] ∷ [])) → IfOk r (λ turn. IsTurn f first budget start turn)
closed-turn f first budget start before r is closed = IfOk-weaker r _ _ (λ turn e. subst (λ (t : Turn). IsTurn f first budget start t) (sym e) is) closed

-- one line more

pub next-so_far : (f : Formula) (first : List ℕ) (budget : ℕ) (s : State) (marks : List Bool) (before lines : List (List Lit)) (line : List Lit) (key second : Lit) (to : ℕ) → IsSoFar f first budget before
    → IsDescent f.vars f.clauses first before s → IsLearned s marks line key second to → MarksFirst marks first → IsWalk s.clauses s.steps → lines ≡ before ++ line ∷ [] → length lines < budget → IsSoFar f first budget lines
next-so_far f first budget s marks before lines line key second to is descent learned sound walk made below =
    subst (λ (xs : List (List Lit)). IsSoFar f first budget xs) (sym made)
    (answering.so_far-push f first budget before line is (answering.new-line s marks f.clauses before first f.vars line key second to learned descent sound walk)
    (answering.line-not_empty line key learned.key_listed) (omega (arith, below, longer before lines line made)))

pub last-lines : (f : Formula) (first : List ℕ) (budget : ℕ) (s : State) (marks : List Bool) (before lines : List (List Lit)) (line : List Lit) (key second : Lit) (to : ℕ) → IsSoFar f first budget before
    → IsDescent f.vars f.clauses first before s → IsLearned s marks line key second to → MarksFirst marks first → IsWalk s.clauses s.steps → lines ≡ before ++ line ∷ [] → budget ≤ length lines
    → AreLines f.vars f.clauses first lines × (length lines ≡ budget) × NoneEmpty lines
last-lines f first budget s marks before lines line key second to is descent learned sound walk made reached =
    subst (λ (xs : List (List Lit)). AreLines f.vars f.clauses first xs × (length xs ≡ budget) × NoneEmpty xs) (sym made)
    (answering.ended-push f first budget before line is (answering.new-line s marks f.clauses before first f.vars line key second to learned descent sound walk)
    (answering.line-not_empty line key learned.key_listed) (omega (arith, reached, longer before lines line made)))

pub more-lines : (start before lines : List (List Lit)) (line : List Lit) → length start ≤ length before → lines ≡ before ++ line ∷ [] → length start < length lines
more-lines start before lines line grown made = omega (arith, grown, longer before lines line made)

pub made : (before lines : List (List Lit)) (pushed unpacked packed line : List Lit) → lines ≡ before ++ pushed ∷ [] → pushed ≡ unpacked → unpacked ≡ packed → packed ≡ line → lines ≡ before ++ line ∷ []
made before lines pushed unpacked packed line e same same' same'' = e ∙ ap (λ (l : List Lit). before ++ l ∷ []) (same ∙ same' ∙ same'')

pub fewer-left : (budget : ℕ) (before lines : List (List Lit)) (line : List Lit) → length before < budget → lines ≡ before ++ line ∷ [] → budget - length lines < budget - length before
fewer-left budget before lines line below e = omega (arith, below, longer before lines line e)

pub next-descent : (f : Formula) (first : List ℕ) (before lines : List (List Lit)) (s t : State) (line given : List Lit) → IsDescent f.vars f.clauses first before s → IsBack s given t → given ≡ line → lines ≡ before ++ line ∷ []
    → IsDescent f.vars f.clauses first lines t
next-descent f first before lines s t line given descent back same e =
    subst (λ (ls : List (List Lit)). IsDescent f.vars f.clauses first ls t) (sym e)
    (answering.descent-back f.vars f.clauses before first s t line descent (subst (λ (l : List Lit). IsBack s l t) same back))

pub learned-given : (s : State) (marks : List Bool) (l : Learned) (given : List Lit) → IsLearned s marks l.line.items l.key l.second l.to → given ≡ l.line.items → IsLearned s marks given l.key l.second l.to
learned-given s marks l given is same = subst (λ (line : List Lit). IsLearned s marks line l.key l.second l.to) (sym same) is

-- the values of an engine that is at rest
pub found-values : (f : Formula) (s : State) (first : List ℕ) (lines : List (List Lit)) (clash : Option ℕ) (values : List Bool) → AllKnown f → IsDescent f.vars f.clauses first lines s → IsBottom s clash → clash ≡ None → IsModel s values
    → (length values ≡ f.vars) × Satisfies (value_at values) f.clauses
found-values f s first lines clash values known descent bottom e model =
    answering.model-satisfies f s first lines values known descent (subst (λ (o : Option ℕ). IsBottom s o) e bottom) model

pub if_some : {X : Type 0} (P : X → Type 0) (o : Option X) (x : X) → IfSome o P → o ≡ Some x → P x
if_some P o x is e = subst (λ p. IfSome p P) e is

-- marks on listed variables alone
marks-set : (marks : List Bool) (listed : List ℕ) (v : ℕ) → MarksFirst marks listed → Contains listed v → MarksFirst (slice_set marks v true) listed
marks-set marks listed v old at x marked = go (cases_eq x v)
  where
    go : (x ≡ v) ⊎ (x ≡ v → ⊥) → Contains listed x
    go (inl same) = subst (λ (y : ℕ). Contains listed y) (sym same) at
    go (inr ne) = old x (sym (get-set_other marks v x true ne) ∙ marked)

pub marks-next : (marks : List Bool) (listed : List ℕ) (i : ℕ) → i < length listed → MarksFirst marks listed → MarksFirst (slice_set marks (slice_index_or listed i 0) true) listed
marks-next marks listed i within old =
    let at = get-within listed i within in
    marks-set marks listed (slice_index_or listed i 0) old
    (subst (λ (v : ℕ). Contains listed v) (sym (get_or_from_slice_get listed i at.0 0 at.1)) (Contains-slice_get listed i at.0 at.1))
