-- What stands outside: a store's files, what a source has left, what a sink was given, and counts of faults.
use Rattle.std.specs.Prelude.{◌≡◌, ◌≢◌, ℕ, ◌-◌, ◌^◌, ◌<◌, ◌≤◌, ◌⊎◌, List, length, cond, Option, IfSome, IsSomeAnd, None, Some}
use Rattle.std.specs.Ordering.{nat_cmp}
use Rattle.std.specs.Cmp.Lexicographic.{slice_cmp, nat_list_cmp_total}
use Rattle.std.specs.Cmp.{eq_by_cmp_equiv}
use Rattle.std.specs.FinMap as map
use Rattle.std.specs.FinMap.{get-empty, get-insert}
use Rattle.std.proofs.Common.{ap, sym, ◌∙◌}
use Rattle.std.proofs.lemmas.Bool.{false_from_ne_true}
use Rattle.std.proofs.lemmas.Map.Text.{is_eq-slice_cmp}
use Rattle.std.proofs.lemmas.Slice.Eq.{bytes_eq-Decides}

-- the files of a store: names, and under each its bytes
abbrev pub Held : Type 0
Held = map.FinMap (slice_cmp nat_cmp) (List ℕ)

-- the bytes under a name, or none
abbrev pub held_at : Held → List ℕ → Option (List ℕ)
held_at held name = map.get held name

-- no file at all
abbrev pub no_files : Held
no_files = map.empty

-- the files once these bytes are under the name
abbrev pub holding : Held → List ℕ → List ℕ → Held
holding held name bytes = map.insert held name bytes

-- where it is told, these bytes are under the name
abbrev pub Holds : Option Held → List ℕ → List ℕ → Type 0
Holds told name bytes = IfSome told (λ held. held_at held name ≡ Some bytes)

-- where it is told, nothing is under the name
abbrev pub HoldsNothing : Option Held → List ℕ → Type 0
HoldsNothing told name = IfSome told (λ held. held_at held name ≡ None)

-- where it is told, more than `limit` bytes are under the name
abbrev pub HoldsMore : Option Held → List ℕ → ℕ → Type 0
HoldsMore told name limit = IfSome told (λ held. IsSomeAnd (held_at held name) (λ bytes. limit < length bytes))

-- where it is told, bytes are under the name, and at most `limit` of them
abbrev pub HoldsWithin : Option Held → List ℕ → ℕ → Type 0
HoldsWithin told name limit = IfSome told (λ held. IsSomeAnd (held_at held name) (λ bytes. length bytes ≤ limit))

-- where it is told, every other name is as it was
abbrev pub KeepsOthers : Option Held → Option Held → List ℕ → Type 0
KeepsOthers old new name =
    IfSome old (λ before. IfSome new (λ after.
    (other : List ℕ) → other ≢ name → held_at after other ≡ held_at before other))

-- a count of faults rose, or stands at a counter's last value
abbrev pub Rose : ℕ → ℕ → Type 0
Rose old new = (old < new) ⊎ (new ≡ 2 ^ 64 - 1)

-- without a file, nothing is under a name
pub held_at-no_files : (name : List ℕ) → held_at no_files name ≡ None
held_at-no_files name = get-empty (slice_cmp nat_cmp) name

-- the named file holds the bytes that were put under its name
pub held_at-holding : (held : Held) (name bytes : List ℕ) → held_at (holding held name bytes) name ≡ Some bytes
held_at-holding held name bytes =
    get-insert nat_list_cmp_total held name bytes name
    ∙ ap (λ same. cond same (Some bytes) (held_at held name)) ((eq_by_cmp_equiv nat_list_cmp_total).refl name)

-- and every other name is as it was
pub held_at-holding_other : (held : Held) (name bytes other : List ℕ) → other ≢ name
    → held_at (holding held name bytes) other ≡ held_at held other
held_at-holding_other held name bytes other differs =
    get-insert nat_list_cmp_total held name bytes other
    ∙ ap (λ same. cond same (Some bytes) (held_at held other))
    (false_from_ne_true _ (λ same. differs ((bytes_eq-Decides other name).0 (sym (is_eq-slice_cmp other name) ∙ same))))

-- for `grind`: what is held once a file was put there
pub ruleset held_after = (held_at-no_files, held_at-holding, held_at-holding_other)
