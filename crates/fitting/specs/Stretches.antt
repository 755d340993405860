-- What the arithmetic of levels rests on: the figures of a stretch, and lengths that leave room. Assumes nothing.
use Rattle.std.specs.Prelude.{◌≡◌, ℕ, ◌+◌, ◌*◌, ◌<◌, ◌≤◌, pos, ◌-ℤ◌, ◌*ℤ◌}
use Rattle.rules.specs.Points.{run}
use Rattle.fitting.specs.declared.level.Exact.{Exact}
use Rattle.fitting.specs.declared.level.Stretch.{Stretch}
use Rattle.fitting.specs.Levels.{Fraction}

-- stations and levels as they may be
pub record Sound (t : Stretch) : Type 0 where
  pub behind : t.before.station ≤ t.from.station
  pub apart : t.from.station + 10 ≤ t.to.station
  pub ahead : t.to.station ≤ t.after.station
  pub last : t.after.station ≤ 10000
  pub levels : (t.before.level ≤ 9000000) × (t.from.level ≤ 9000000) × (t.to.level ≤ 9000000) × (t.after.level ≤ 9000000)

-- the two lengths together are at most twice the gap; an end peg, with no gap on one side, has none
pub record Lengths (t : Stretch) (left right : ℕ) : Type 0 where
  pub long : (left ≤ 2000) × (right ≤ 2000)
  pub together : left + right ≤ 2 * run t.from t.to
  pub turns : (0 < left → t.before.station < t.from.station) × (0 < right → t.to.station < t.after.station)

-- the lengths leave room on the neighbouring stretches too
abbrev pub Room : Stretch → ℕ → ℕ → Type 0
Room t left right = (left ≤ 2 * run t.before t.from) × (right ≤ 2 * run t.to t.after)

-- the station lies on the stretch
abbrev pub Inside : Stretch → ℕ → Type 0
Inside t s = (t.from.station ≤ s) × (s ≤ t.to.station)

-- the exact numbers of the code, (up - down) / den, are the fraction f
pub record Stands (f : Fraction) (x : Exact) : Type 0 where
  pub there : 0 < f.den
  pub some : 0 < x.den
  pub same : f.num *ℤ pos x.den ≡ (pos x.up -ℤ pos x.down) *ℤ pos f.den
