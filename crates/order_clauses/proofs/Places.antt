-- Places in rows.
use Rattle.std.proofs.Common.{◌≡◌, ℕ, suc, ◌<◌, ◌≤◌, ◌+◌, ◌*◌, arith}
use Rattle.std.proofs.Math.Nat.{mul-le-mul_right, suc-mul}

pub place_within : (n i j : ℕ) → i < n → j < n → i * n + j < n * n
place_within n i j row column =
    let rows : suc i * n ≤ n * n = mul-le-mul_right n (omega (arith, row)) in
    let split : suc i * n ≡ i * n + n = suc-mul i n in
    step (i * n) j n (suc i * n) (n * n) column split rows
  where
    step : (x j n y z : ℕ) → j < n → y ≡ x + n → y ≤ z → x + j < z
    step x j n y z h e le = omega (arith, h, e, le)
