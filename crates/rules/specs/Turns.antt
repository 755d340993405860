-- What a turn's figures say: how much the grade changes there, and which way. Assumes nothing.
use Rattle.std.specs.Prelude.{ℕ, ◌*◌, cond, ℤ, pos, ◌-ℤ◌, ◌*ℤ◌, int_lt, unsigned_abs}
use Rattle.rules.specs.declared.point.Point.{Point}
use Rattle.rules.specs.declared.turn.Bend.{Bend}
use Rattle.rules.specs.declared.turn.Kind.{Kind}
use Rattle.rules.specs.declared.turn.Kind.TheVariants.{Summit, Valley}
use Rattle.rules.specs.Points.{run, rise}

-- the figures of the turn at the second of three points
abbrev pub bend_of : Point → Point → Point → Bend
bend_of p q r = record { rise_in = rise p q; run_in = run p q; rise_out = rise q r; run_out = run q r }

-- W: rise out times run in, less rise in times run out
unfoldable pub twist : Bend → ℤ
twist b = (b.rise_out *ℤ pos b.run_in) -ℤ (b.rise_in *ℤ pos b.run_out)

-- B: both runs multiplied
unfoldable pub base : Bend → ℕ
base b = b.run_in * b.run_out

-- |W|: the change of grade is |W| / (1000 × B)
unfoldable pub change : Bend → ℕ
change b = unsigned_abs (twist b)

-- W below zero is a summit, else a valley
unfoldable pub kind : Bend → Kind
kind b = cond (int_lt (twist b) (pos 0)) Summit Valley

-- the figure that rows of a length table know a kind by
abbrev pub kind_number : Kind → ℕ
kind_number Summit = 0
kind_number Valley = 1
