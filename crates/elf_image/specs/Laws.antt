-- Laws of the checks.
use Rattle.std.proofs.Common.{◌≡◌, ℕ, ◌+◌, ◌<◌, ◌≤◌, Bool, true, false, cond, List, [], ◌∷◌, ◌++◌, refl, arith, Some, None, inl, inr}
use Rattle.std.specs.Prelude.{◌↔◌}
use Rattle.std.proofs.lemmas.Bool.{or_parts, cases_lt}
use Rattle.std.proofs.lemmas.Bool.Decides.{nat_tests}
use Rattle.std.specs.List.{All, list_any, find}
use Rattle.std.proofs.lemmas.List.Elements.{All-nil, All-cons}
use Rattle.std.proofs.lemmas.List.Folds.{find-append}
use Rattle.std.specs.Option.{option_or}
use Rattle.elf_image.specs.declared.fault.Check.{Check}
use Rattle.elf_image.specs.declared.header.ProgramHeader.{ProgramHeader}
use Rattle.elf_image.specs.Checks.{fails, first_of, shares_address}

-- a search that finds nothing
find_nothing : {X : Type 0} (test : X → Bool) (x : X) (xs : List X) → find test (x ∷ xs) ≡ None → (test x ≡ false) × (find test xs ≡ None)
find_nothing test x xs e = pick (test x) e
  where
    pick : (b : Bool) → cond b (Some x) (find test xs) ≡ None → (b ≡ false) × (find test xs ≡ None)
    pick true h = cc
    pick false h = (refl, h)

-- where no check fails, each of them holds
pub first_of-none : (checks : List Check) (file : List ℕ) → first_of checks file ≡ None → All (λ c. fails c file ≡ false) checks
unfolding first_of
first_of-none [] file e = All-nil (λ c. fails c file ≡ false)
first_of-none (check ∷ checks) file e =
    let parts = find_nothing (λ (c : Check). fails c file) check checks e in
    All-cons (λ c. fails c file ≡ false) check checks parts.0 (first_of-none checks file parts.1)

-- where the first check fails, it is the first that fails, and where it holds, the others decide
pub first_of-fails : (check : Check) (checks : List Check) (file : List ℕ) → fails check file ≡ true → first_of (check ∷ checks) file ≡ Some check
unfolding first_of
first_of-fails check checks file fails = rw fails

pub first_of-holds : (check : Check) (checks : List Check) (file : List ℕ) → fails check file ≡ false → first_of (check ∷ checks) file ≡ first_of checks file
unfolding first_of
first_of-holds check checks file holds = rw holds

-- the checks of two lists, one after the other
pub first_of-append : (first second : List Check) (file : List ℕ) → first_of (first ++ second) file ≡ option_or (first_of first file) (first_of second file)
unfolding first_of
first_of-append first second file = find-append (λ (c : Check). fails c file) first second

-- where no element passes, each fails
pub list_any-none : {X : Type 0} (test : X → Bool) (xs : List X) → list_any test xs ≡ false → All (λ x. test x ≡ false) xs
list_any-none test [] e = All-nil (λ x. test x ≡ false)
list_any-none test (x ∷ xs) e =
    let parts = or_parts (test x) (list_any test xs) e in
    All-cons (λ x. test x ≡ false) x xs parts.0 (list_any-none test xs parts.1)

-- an address of a segment
pub record IsIn (header : ProgramHeader) (address : ℕ) : Type 0 where
  pub from : header.p_vaddr ≤ address
  pub to : address < header.p_vaddr + header.p_memsz

-- the test of a shared address says that there is one
pub shares_address_tells : (a b : ProgramHeader) → 0 < a.p_memsz → 0 < b.p_memsz → (shares_address a b ≡ true) ↔ ((address : ℕ) × IsIn a address × IsIn b address)
shares_address_tells a b some_a some_b = (found, shared)
  where
    found : shares_address a b ≡ true → (address : ℕ) × IsIn a address × IsIn b address
    found shares = elim (cases_lt a.p_vaddr b.p_vaddr) [ inl before ↦ (b.p_vaddr, grind (arith, nat_tests), grind (arith, nat_tests)) | inr after ↦ (a.p_vaddr, grind (arith, nat_tests), grind (arith, nat_tests)) ]

    shared : (address : ℕ) × IsIn a address × IsIn b address → shares_address a b ≡ true
    shared common = let in_a = common.1 in let in_b = common.2 in grind (arith, nat_tests)
