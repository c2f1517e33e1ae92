-- What a search finds passes its test.
use Rattle.std.proofs.Common.{◌≡◌, ℕ, ◌≤◌, Bool, true, false, cond, ◌&&◌, List, [], ◌∷◌, length, Some, subst, refl, arith}
use Rattle.std.specs.Prelude.{find, nat_eq}
use Rattle.std.specs.List.{starts_with}
use Rattle.rv32_asm.specs.declared.mnemonic.Atomic.{Atomic}
use Rattle.rv32_asm.specs.Names.{atomic_of, atomics, atomic_name_of}

pub find_true : {X : Type 0} (p : X → Bool) (xs : List X) (x : X) → find p xs ≡ Some x → p x ≡ true
find_true p [] x e = cc
find_true {X} p (y ∷ ys) x e = pick (p y) refl e (find_true p ys x)
  where
    pick : (b : Bool) → p y ≡ b → cond b (Some y) (find p ys) ≡ Some x → (find p ys ≡ Some x → p x ≡ true) → p x ≡ true
    pick true passes e later = let same : y ≡ x = cc in subst (λ z. p z ≡ true) same passes
    pick false fails e later = later e

second : (a b : Bool) → (a && b) ≡ true → b ≡ true
second true b e = e
second false b e = cc

-- a word is at least as long as what it begins with
pub length-starts_with : (word needle : List ℕ) → starts_with nat_eq word needle ≡ true → length needle ≤ length word
length-starts_with word [] e = omega arith
length-starts_with [] (n ∷ ns) e = cc
length-starts_with (w ∷ ws) (n ∷ ns) e = let shorter = length-starts_with ws ns (second (nat_eq n w) (starts_with nat_eq ws ns) e) in omega arith

-- a word is at least as long as the name of its atomic operation
pub atomic_fits : (word : List ℕ) (a : Atomic) → atomic_of word ≡ Some a → length (atomic_name_of a) ≤ length word
unfolding atomic_of
atomic_fits word a e = length-starts_with word (atomic_name_of a) (find_true (λ x. starts_with nat_eq word (atomic_name_of x)) atomics a e)
