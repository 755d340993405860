-- Answers that can't be two things at once. Assumes nothing.
use Rattle.std.proofs.Common.{◌≡◌, ℕ, Ok, Err, Result, arith}

pub ok_or_err : {X Y : Type 0} (x : X) (y : Y) → ◌≡◌ {A = Result X Y} (Ok x) (Err y) → ⊥
ok_or_err x y e = let z : ◌≡◌ {A = ℕ} 0 1 = cc in omega arith

pub same_err : {X Y : Type 0} (y z : Y) → ◌≡◌ {A = Result X Y} (Err y) (Err z) → y ≡ z
same_err y z e = cc
