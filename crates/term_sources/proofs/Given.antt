-- An assignment for what is given.
use Rattle.std.specs.Prelude.{◌≡◌, ℕ, ◌/◌, ◌%◌, ◌^◌, ◌<◌, Bool, true, false, cond, nat_eq, refl}
use Rattle.std.proofs.Common.{sym, ◌∙◌, ap, subst, arith}
use Rattle.std.proofs.lemmas.Bool.{eqb-true}
use Rattle.std.proofs.lemmas.Nat.{pow_pos}
use Rattle.bv_terms.specs.BitVectors.{bit_of}
use Rattle.bv_terms.specs.Values.{Assignment}
use Rattle.guided_walk.specs.Guided.{Given}
use Rattle.thread_terms.specs.Given.{given_by}
use Rattle.thread_terms.specs.Variables.{byte_number, step_number}

-- what the variable with a number stands for
byte_from : Given → ℕ → ℕ
byte_from given number = given.bytes (number / 2 ^ 26) (number / 2 ^ 8 % 2 ^ 18) (number % 2 ^ 8) % 2 ^ 8

bit_from : Given → ℕ → ℕ
bit_from given number = bit_of (given.won (number / 2 ^ 18) (number % 2 ^ 18))

value_from : Given → ℕ → ℕ → ℕ
value_from given width number = cond (nat_eq width 8) (byte_from given number) (cond (nat_eq width 1) (bit_from given number) 0)

bit_below : (b : Bool) → bit_of b < 2
bit_below true = omega arith
bit_below false = omega arith

below_by : (given : Given) (width number : ℕ) (eight one : Bool) → nat_eq width 8 ≡ eight → nat_eq width 1 ≡ one
    → cond eight (byte_from given number) (cond one (bit_from given number) 0) < 2 ^ width
unfolding byte_from bit_from
below_by given width number true one e f =
    subst (λ (n : ℕ). byte_from given number < 2 ^ n) (sym (eqb-true width 8 e))
    (let h : given.bytes (number / 2 ^ 26) (number / 2 ^ 8 % 2 ^ 18) (number % 2 ^ 8) % 2 ^ 8 < 2 ^ 8 = omega arith in h)
below_by given width number false true e f =
    subst (λ (n : ℕ). bit_from given number < 2 ^ n) (sym (eqb-true width 1 f)) (bit_below (given.won (number / 2 ^ 18) (number % 2 ^ 18)))
below_by given width number false false e f = pow_pos width

pub assigned : Given → Assignment
unfolding value_from
assigned given = record {
  value_of = value_from given;
  below = λ (width number : ℕ). below_by given width number (nat_eq width 8) (nat_eq width 1) refl refl;
}

same_byte : (given : Given) (thread step i a b c : ℕ) → a ≡ thread → b ≡ step → c ≡ i → given.bytes a b c % 2 ^ 8 ≡ given.bytes thread step i % 2 ^ 8
same_byte given thread step i a b c e f g =
    ap (λ (n : ℕ). given.bytes n b c % 2 ^ 8) e ∙ ap (λ (n : ℕ). given.bytes thread n c % 2 ^ 8) f ∙ ap (λ (n : ℕ). given.bytes thread step n % 2 ^ 8) g

pub assigned_byte : (given : Given) (thread step i : ℕ) → step < 2 ^ 18 → i < 2 ^ 8
    → (given_by (assigned given)).bytes thread step i ≡ given.bytes thread step i % 2 ^ 8
unfolding assigned value_from byte_from
assigned_byte given thread step i few less =
    same_byte given thread step i (byte_number thread step i / 2 ^ 26) (byte_number thread step i / 2 ^ 8 % 2 ^ 18) (byte_number thread step i % 2 ^ 8)
    (omega (arith, few, less)) (omega (arith, few, less)) (omega (arith, few, less))

bit_is : (b : Bool) → nat_eq (bit_of b) 1 ≡ b
bit_is true = refl
bit_is false = refl

pub assigned_won : (given : Given) (thread step : ℕ) → step < 2 ^ 18 → (given_by (assigned given)).won thread step ≡ given.won thread step
unfolding assigned value_from bit_from
assigned_won given thread step few =
    let one : step_number thread step / 2 ^ 18 ≡ thread = omega (arith, few) in
    let two : step_number thread step % 2 ^ 18 ≡ step = omega (arith, few) in
    bit_is (given.won (step_number thread step / 2 ^ 18) (step_number thread step % 2 ^ 18))
    ∙ ap (λ (n : ℕ). given.won n (step_number thread step % 2 ^ 18)) one ∙ ap (given.won thread) two
