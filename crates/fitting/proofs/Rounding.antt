-- A quotient to the nearest whole number, a half going up. Assumes nothing.
use Rattle.std.proofs.Common.{ℕ, ◌+◌, ◌*◌, ◌/◌, ◌%◌, ◌<◌, ◌≤◌, mod-lt, div-add-mod', arith}

-- r is n / d to the nearest
pub record Rounded (n d r : ℕ) : Type 0 where
  pub low : 2 * d * r ≤ 2 * n + d
  pub high : 2 * n + d < 2 * d * (r + 1)

pub round_down : (n d : ℕ) → 0 < d → 2 * (n % d) < d → Rounded n d (n / d)
round_down n d some h =
    let e = div-add-mod' n d in
    record { low = omega arith; high = omega arith }

pub round_up : (n d : ℕ) → 0 < d → d ≤ 2 * (n % d) → Rounded n d (n / d + 1)
round_up n d some h =
    let e = div-add-mod' n d in
    let s = mod-lt n some in
    record { low = omega arith; high = omega arith }
