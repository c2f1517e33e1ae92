-- Accesses by their positions, and the bytes that they write.
use Rattle.std.specs.Prelude.{◌≡◌, ◌⊎◌, ℕ, zero, suc, ◌+◌, ◌-◌, ◌%◌, ◌^◌, ◌<◌, ◌&&◌, ◌||◌, Bool, true, false, cond, List, [], ◌∷◌, length, map, nat_eq, refl}
use Rattle.std.proofs.Common.{sym, ◌∙◌, ap, subst, arith, inl, inr, eq-eqb}
use Rattle.std.proofs.lemmas.Bool.{and_from, and_parts, cases_lt, eqb-true, false≢true}
use Rattle.odr_log.specs.declared.log.Pos.{Pos}
use Rattle.guided_walk.specs.Orders.{In, Distinct}
use Rattle.guided_walk.proofs.Table.{same_pos}
use Rattle.thread_terms.specs.declared.access.Access.{Access}
use Rattle.hit_terms.specs.Hits.{place_of}
use Rattle.path_exec.specs.Paths.{position}
use Rattle.term_sources.specs.Sees.{access_at}
use Rattle.term_sources.proofs.Listed.{pos_in}

-- ---- numbers of positions

abbrev pub is_pos : Pos → Pos → Bool
is_pos p q = nat_eq p.thread q.thread && nat_eq p.step q.step

is_pos_same : (p : Pos) → is_pos p p ≡ true
is_pos_same p = and_from _ _ (eq-eqb p.thread p.thread refl) (eq-eqb p.step p.step refl)

pos_of_test : (p q : Pos) → is_pos p q ≡ true → p ≡ q
pos_of_test p q e =
    let parts = and_parts (nat_eq p.thread q.thread) (nat_eq p.step q.step) e in
    same_pos p q (sym (eqb-true p.thread q.thread parts.0)) (sym (eqb-true p.step q.step parts.1))

-- the number of the access at a position
abbrev pub number_of : List Access → Pos → ℕ
number_of [] p = 0
number_of (a ∷ more) p = cond (is_pos a.pos p) 0 (suc (number_of more p))

number_by : (a : Access) (more : List Access) (x : ℕ) (b : Bool) → (In a.pos (map position more) → ⊥) → x < length more
    → is_pos a.pos (access_at more x).pos ≡ b → number_of more (access_at more x).pos ≡ x → cond b 0 (suc (number_of more (access_at more x).pos)) ≡ suc x
number_by a more x true once less e rest =
    absurd (once (subst (λ (p : Pos). In p (map position more)) (sym (pos_of_test a.pos (access_at more x).pos e)) (pos_in more x less)))
number_by a more x false once less e rest = ap suc rest

pub number_is : (accesses : List Access) (x : ℕ) → Distinct (map position accesses) → x < length accesses → number_of accesses (access_at accesses x).pos ≡ x
number_is [] x distinct less = absurd (omega (arith, less))
number_is (a ∷ more) zero distinct less = ap (λ (b : Bool). cond b 0 (suc (number_of more a.pos))) (is_pos_same a.pos)
number_is (a ∷ more) (suc x) distinct less =
    number_by a more x (is_pos a.pos (access_at more x).pos) distinct.0 (omega (arith, less)) refl (number_is more x distinct.1 (omega (arith, less)))

-- ---- bytes at an address

-- one of the first bytes from an address on is at another
abbrev pub reaches : (count address byte : ℕ) → Bool
reaches zero address byte = false
reaches (suc m) address byte = reaches m address byte || nat_eq (place_of address m) byte

or_either : (p q : Bool) → (p || q) ≡ true → (p ≡ true) ⊎ (q ≡ true)
or_either true q e = inl refl
or_either false q e = inr e

or_first : (p q : Bool) → p ≡ true → (p || q) ≡ true
or_first p q e = ap (λ (b : Bool). b || q) e

or_second : (p q : Bool) → q ≡ true → (p || q) ≡ true
or_second true q e = refl
or_second false q e = e

pub reaches_to : (count a byte : ℕ) → reaches count a byte ≡ true → (m : ℕ) × (m < count) × (place_of a m ≡ byte)
reaches_to zero a byte e = absurd (false≢true e)
reaches_to (suc n) a byte e = elim (or_either (reaches n a byte) (nat_eq (place_of a n) byte) e) [
  | inl before ↦ let found : (m : ℕ) × (m < n) × (place_of a m ≡ byte) = reaches_to n a byte before in (found.0, omega (arith, found.1), found.2)
  | inr here ↦ (n, omega arith, eqb-true (place_of a n) byte here)
]

pub reaches_from : (count a byte m : ℕ) → m < count → place_of a m ≡ byte → reaches count a byte ≡ true
reaches_from zero a byte m less e = absurd (omega (arith, less))
reaches_from (suc n) a byte m less e = elim (cases_lt m n) [
  | inl before ↦ or_first (reaches n a byte) (nat_eq (place_of a n) byte) (reaches_from n a byte m before e)
  | inr past ↦ let same : m ≡ n = omega (arith, less, past) in
      or_second (reaches n a byte) (nat_eq (place_of a n) byte) (eq-eqb (place_of a n) byte (sym (ap (place_of a) same) ∙ e))
]

-- bytes of one access at one address are one
pub one_byte : (a m k byte : ℕ) → m < 2 ^ 32 → k < 2 ^ 32 → place_of a m ≡ byte → place_of a k ≡ byte → m ≡ k
one_byte a m k byte few_m few_k e f =
    let same : (a + m) % 2 ^ 32 ≡ (a + k) % 2 ^ 32 = e ∙ sym f in omega (arith, same, few_m, few_k)

-- how far a byte stands after a first one
pub far_back : (first m : ℕ) → first < 2 ^ 32 → m < 2 ^ 32 → ((first + m) % 2 ^ 32 + (2 ^ 32 - first)) % 2 ^ 32 ≡ m
far_back first m below less = omega (arith, below, less)

pub far_there : (first byte : ℕ) → first < 2 ^ 32 → byte < 2 ^ 32 → (first + (byte + (2 ^ 32 - first)) % 2 ^ 32) % 2 ^ 32 ≡ byte
far_there first byte below less = omega (arith, below, less)
