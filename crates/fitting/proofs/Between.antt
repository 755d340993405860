-- On a curve the level is from 0 to the greatest of its three pegs' levels. Assumes nothing.
-- The curve's peg has the level a, the peg at the stretch's other end b, the peg beyond c; the station is d from the first
-- and y from the second; g is the run of the stretch, o the run beyond, l the curve's length and p = l - 2 d.
-- The level is (8 l o (a y + b d) + (c g + b o) p² - a (g + o) p²) / (8 l o g).
use Rattle.std.proofs.Common.{◌≡◌, ℕ, ◌+◌, ◌-◌, ◌*◌, ◌≤◌, ap, mul-le-mul_left, arith}

-- of its own peg's level the curve takes at most what the grade line gives
taken : (g o l d y p : ℕ) → g ≡ d + y → l ≡ p + 2 * d → l ≤ 2 * g → l ≤ 2 * o → (g + o) * (p * p) ≤ 8 * l * o * y
taken g o l d y p s t f h =
    let m = 2 * g - l in
    let gm : 2 * g ≡ l + m = omega arith in
    let ym : 2 * y ≡ m + p = omega arith in
    let h1 : g * p * p ≤ g * p * (2 * o) = mul-le-mul_left (g * p) (omega arith) in
    let h2 : o * p * p ≤ o * p * l = mul-le-mul_left (o * p) (omega arith) in
    let h3 : o * m * p ≤ o * m * l = mul-le-mul_left (o * m) (omega arith) in
    let e1 = ap (λ (z : ℕ). z * (p * o)) gm in
    let e2 = ap (λ (z : ℕ). z * (l * o)) ym in
    omega arith

pub not_below : (a b c g o l d y p : ℕ) → g ≡ d + y → l ≡ p + 2 * d → l ≤ 2 * g → l ≤ 2 * o →
    a * (g + o) * (p * p) ≤ 8 * l * o * (a * y + b * d) + (c * g + b * o) * (p * p)
not_below a b c g o l d y p s t f h = let w = mul-le-mul_left a (taken g o l d y p s t f h) in omega arith

-- levels, and what they lack to m, add up to m
grade_adds : (m a b a' b' g k d y : ℕ) → g ≡ d + y → a + a' ≡ m → b + b' ≡ m → k * (a * y + b * d) + k * (a' * y + b' * d) ≡ m * (k * g)
grade_adds m a b a' b' g k d y s ea eb =
    let e1 = ap (λ (z : ℕ). z * (k * y)) ea in
    let e2 = ap (λ (z : ℕ). z * (k * d)) eb in
    let e3 = ap (λ (z : ℕ). z * (m * k)) s in
    omega arith

pull_adds : (m b c b' c' g o q : ℕ) → b + b' ≡ m → c + c' ≡ m → (c * g + b * o) * q + (c' * g + b' * o) * q ≡ m * (g + o) * q
pull_adds m b c b' c' g o q eb ec =
    let e1 = ap (λ (z : ℕ). z * (g * q)) ec in
    let e2 = ap (λ (z : ℕ). z * (o * q)) eb in
    omega arith

-- so the upper bound is the lower one of what the levels lack
turned_over : (m a b c a' b' c' g o k d y q : ℕ) → g ≡ d + y → a + a' ≡ m → b + b' ≡ m → c + c' ≡ m →
    a' * (g + o) * q ≤ k * (a' * y + b' * d) + (c' * g + b' * o) * q →
    k * (a * y + b * d) + (c * g + b * o) * q ≤ m * (k * g) + a * (g + o) * q
turned_over m a b c a' b' c' g o k d y q s ea eb ec low =
    let e1 = grade_adds m a b a' b' g k d y s ea eb in
    let e2 = pull_adds m b c b' c' g o q eb ec in
    let e3 : a * (g + o) * q + a' * (g + o) * q ≡ m * (g + o) * q = omega (arith, ap (λ (z : ℕ). z * ((g + o) * q)) ea) in
    omega arith

pub not_above : (m a b c g o l d y p : ℕ) → g ≡ d + y → l ≡ p + 2 * d → l ≤ 2 * g → l ≤ 2 * o → a ≤ m → b ≤ m → c ≤ m →
    8 * l * o * (a * y + b * d) + (c * g + b * o) * (p * p) ≤ m * (8 * l * o * g) + a * (g + o) * (p * p)
not_above m a b c g o l d y p s t f h am bm cm =
    turned_over m a b c (m - a) (m - b) (m - c) g o (8 * l * o) d y (p * p) s (omega arith) (omega arith) (omega arith)
    (not_below (m - a) (m - b) (m - c) g o l d y p s t f h)
