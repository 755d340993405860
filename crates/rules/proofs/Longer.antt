-- Under the Indian standard a longer curve passes wherever a shorter one does. Assumes nothing.
use Rattle.std.proofs.Common.{◌≡◌, ℕ, ◌-◌, ◌*◌, ◌<◌, ◌≤◌, true, mul-le-mul_right, mul-le-mul_left, arith}
use Rattle.std.proofs.lemmas.Bool.Decides.{nat_tests}
use Rattle.rules.specs.Irc.{seen, curve_by, clause_number}
use Rattle.rules.specs.declared.irc.Clause.{Clause}
use Rattle.rules.specs.declared.irc.SightRule.{SightRule}
use Rattle.rules.specs.declared.speeds.Asked.{Asked}

-- each clause has a number above 0
clause_told : (x : Clause) → 0 < clause_number x
clause_told x = grind arith

-- both lengths at least the sight distance
long_long : (s q w b l m : ℕ) → l ≤ m → w * (s * s) ≤ l * q * b → w * (s * s) ≤ m * q * b
long_long s q w b l m h p = omega (arith, mul-le-mul_right (q * b) h)

-- both below it
short_short : (s q w b l m : ℕ) → l ≤ m → (2 * s - l) * w ≤ q * b → (2 * s - m) * w ≤ q * b
short_short s q w b l m h p = let d : 2 * s - m ≤ 2 * s - l = omega arith in omega (arith, mul-le-mul_right w d)

-- one below and one from it on
short_long : (s q w b l m : ℕ) → l < s → s ≤ m → (2 * s - l) * w ≤ q * b → w * (s * s) ≤ m * q * b
short_long s q w b l m below above p =
    let d : s ≤ 2 * s - l = omega arith in
    let one = mul-le-mul_right w d in
    let two = mul-le-mul_left s one in
    let three = mul-le-mul_left s p in
    let four = mul-le-mul_right (q * b) above in
    omega arith

seen_longer : (s q w b l m : ℕ) → l ≤ m → seen s q w b l ≡ true → seen s q w b m ≡ true
seen_longer s q w b l m h e = grind (arith, nat_tests, long_long s q w b l m, short_short s q w b l m, short_long s q w b l m)

pub curve_longer : (a : Asked) (rule : SightRule) (w b l m : ℕ) → l ≤ m → curve_by a rule w b l ≡ 0 → curve_by a rule w b m ≡ 0
curve_longer a rule w b l m h e =
    let told = clause_told rule.clause in
    let sees = seen_longer rule.distance rule.q w b l m h in
    grind (arith, nat_tests)
