-- What single fields give.
use Rattle.std.proofs.Common.{◌≡◌, ℕ, zero, suc, ◌≤◌, Bool, true, false, cond, leb, ◌&&◌, List, [], ◌∷◌, length, Result, Ok, Err, refl, sym, ap, ◌∙◌}
use Rattle.std.proofs.lemmas.Bool.{leb-true, and_parts}
use Rattle.odr_log.specs.Reading.{◌>>=◌, byte_at, list_at}

-- the value of a step that did not stop
pub bind_ok : {A B : Type 0} (r : Result A ℕ) (f : A → Result B ℕ) (y : B) → (r >>= f) ≡ Ok y → (x : A) × (r ≡ Ok x) × (f x ≡ Ok y)
bind_ok (Ok x) f y e = (x, refl, e)
bind_ok (Err left) f y e = absurd cc

abbrev done : {A : Type 0} → A → Result A ℕ
done x = Ok x

pub ok_is : {A : Type 0} (x y : A) → done x ≡ done y → x ≡ y
ok_is x y e = cc

-- a test that passed
pub passed : {A : Type 0} (b : Bool) (left : ℕ) (x y : A) → cond b (Ok x) (Err left) ≡ Ok y → (b ≡ true) × (x ≡ y)
passed true left x y e = (refl, cc)
passed false left x y e = absurd cc

pub byte_at-within : (low high : ℕ) (bytes : List ℕ) (b : ℕ) (rest : List ℕ) → byte_at low high bytes ≡ Ok (b, rest) → (low ≤ b) × (b ≤ high)
byte_at-within low high [] b rest e = absurd cc
byte_at-within low high (c ∷ bytes) b rest e =
    let h = passed (leb low c && leb c high) (length (c ∷ bytes)) (c, bytes) (b, rest) e in
    let g = and_parts (leb low c) (leb c high) h.0 in
    let same : c ≡ b = ap (λ (x : ℕ × List ℕ). x.0) h.1 in
    rw (← same) (leb-true low c g.0, leb-true c high g.1)

-- as many as were asked for
pub length-list_at : {T : Type 0} (value_at : List ℕ → Result (T × List ℕ) ℕ) (n : ℕ) (bytes : List ℕ) (x : List T × List ℕ) → list_at value_at n bytes ≡ Ok x → length x.0 ≡ n
unfolding list_at
length-list_at {T} value_at zero bytes x e = ap (λ (y : List T × List ℕ). length y.0) (sym (ok_is ([], bytes) x e))
length-list_at {T} value_at (suc n) bytes x e =
    let a = bind_ok (value_at bytes) (λ first. list_at value_at n first.1 >>= λ others. Ok (first.0 ∷ others.0, others.1)) x e in
    let b = bind_ok (list_at value_at n a.0.1) (λ others. Ok (a.0.0 ∷ others.0, others.1)) x a.2 in
    ap (λ (y : List T × List ℕ). length y.0) (sym (ok_is (a.0.0 ∷ b.0.0, b.0.1) x b.2)) ∙ ap suc (length-list_at value_at n a.0.1 b.0 b.1)
