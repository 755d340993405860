-- The exact level of the road at a station, as a fraction. Assumes nothing.
use Rattle.std.specs.Prelude.{ℕ, ◌+◌, ◌-◌, ◌*◌, cond, List, get_or, ℤ, pos, ◌+ℤ◌, ◌*ℤ◌, ◌≤ℤ◌, ◌<ℤ◌, nat_lt, slice_index_or}
use Rattle.rules.specs.Points.{rise, run}
use Rattle.rules.specs.Turns.{base, bend_of, twist}
use Rattle.rules.specs.declared.point.Point.{Point}
use Rattle.rules.specs.declared.turn.Bend.{Bend}
use Rattle.fitting.specs.Line.{nobody, point}
use Rattle.fitting.specs.declared.level.Stretch.{Stretch}
use Rattle.fitting.specs.declared.alignment.Standing.{Standing}

-- num / den
pub record Fraction : Type 0 where
  pub num : ℤ
  pub den : ℕ

-- the sum of two fractions
infixl 6 ◌⊕◌
abbrev pub ◌⊕◌ : Fraction → Fraction → Fraction
f ⊕ h = record { num = f.num *ℤ pos h.den +ℤ h.num *ℤ pos f.den; den = f.den * h.den }

-- the grade line from one point to the next, at the station s
abbrev pub grade_line : Point → Point → ℕ → Fraction
grade_line a b s = record { num = pos a.level *ℤ pos (run a b) +ℤ rise a b *ℤ pos (s - a.station); den = run a b }

-- what a curve of the length l adds at the distance d from its peg: W (l - 2d)² / (8 l B) where 2d < l, else nothing
abbrev pub lift : Bend → ℕ → ℕ → Fraction
lift b l d = cond (nat_lt (2 * d) l)
    (record { num = twist b *ℤ pos ((l - 2 * d) * (l - 2 * d)); den = 8 * l * base b })
    (record { num = pos 0; den = 1 })

-- the level on a stretch with the lengths of its two pegs: the grade line's, and what the curve at either end adds
unfoldable pub level_at : Stretch → (left right s : ℕ) → Fraction
level_at t left right s =
    grade_line t.from t.to s
    ⊕ lift (bend_of t.before t.from t.to) left (s - t.from.station)
    ⊕ lift (bend_of t.from t.to t.after) right (t.to.station - s)

-- the stretch from the i-th peg to the next, with the pegs on both sides of it; an end peg stands for the one beyond
abbrev pub stretch : List Standing → ℕ → Stretch
stretch ps i = record { before = point ps (i - 1); from = point ps i; to = point ps (i + 1); after = (get_or ps (i + 2) (slice_index_or ps (i + 1) nobody)).point }

-- k ≤ f, and f ≤ k, with the fraction multiplied out
abbrev pub AtLeast : ℕ → Fraction → Type 0
AtLeast k f = pos (k * f.den) ≤ℤ f.num

abbrev pub AtMost : ℕ → Fraction → Type 0
AtMost k f = f.num ≤ℤ pos (k * f.den)

-- r is f to the nearest whole number, a half going up: 2r - 1 ≤ 2f < 2r + 1
abbrev pub Nearest : Fraction → ℕ → Type 0
Nearest f r =
    (pos (2 * f.den * r) ≤ℤ (f.num *ℤ pos 2 +ℤ pos f.den)) × ((f.num *ℤ pos 2 +ℤ pos f.den) <ℤ pos (2 * f.den * (r + 1)))
