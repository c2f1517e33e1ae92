-- What holds of every row of a table.
use Rattle.std.proofs.Common.{◌≡◌, ℕ, zero, suc, Bool, true, nat_eq, ◌&&◌, List, [], ◌∷◌, ◌++◌, map, Some, subst}
use Rattle.std.specs.Prelude.{slice_get}
use Rattle.std.proofs.lemmas.Bool.{and_parts, eqb-true}
use Rattle.rv32_decode.specs.Table.{Row}

-- each of these rows is such
pub data Every (P : Row → Type 0) : List Row → Type 0 where
  none : Every P []
  one : {r : Row} {rs : List Row} → P r → Every P rs → Every P (r ∷ rs)

pub both : {P : Row → Type 0} {rs more : List Row} → Every P rs → Every P more → Every P (rs ++ more)
both none there = there
both (one here rest) there = one here (both rest there)

pub mapped : {O : Type 0} (P : Row → Type 0) (of : ℕ × O → Row) → ((code : ℕ × O) → P (of code)) → (codes : List (ℕ × O)) → Every P (map of codes)
mapped P of each [] = none
mapped P of each (code ∷ codes) = one (each code) (mapped P of each codes)

-- whether a function of the operations gives the match that stands beside each
abbrev pub gives : {O : Type 0} → (O → ℕ) → List (ℕ × O) → Bool
gives f [] = true
gives f (code ∷ codes) = nat_eq (f code.1) code.0 && gives f codes

pub mapped_where : {O : Type 0} (P : Row → Type 0) (of : ℕ × O → Row) (f : O → ℕ) → ((code : ℕ × O) → f code.1 ≡ code.0 → P (of code)) → (codes : List (ℕ × O)) → gives f codes ≡ true → Every P (map of codes)
mapped_where P of f each [] all = none
mapped_where P of f each (code ∷ codes) all =
    let parts = and_parts (nat_eq (f code.1) code.0) (gives f codes) all in
    one (each code (eqb-true (f code.1) code.0 parts.0)) (mapped_where P of f each codes parts.1)

pub some_is : (a b : Row) → Some a ≡ Some b → a ≡ b
some_is a b e = cc

pub at_place : (P : Row → Type 0) {rs : List Row} → Every P rs → (place : ℕ) (r : Row) → slice_get rs place ≡ Some r → P r
at_place P none place r there = cc
at_place P (one {r = q} here rest) zero r there = subst P (some_is q r there) here
at_place P (one here rest) (suc place) r there = at_place P rest place r there
