-- The verdicts of the Indian standard's road code. Assumes nothing.
use Rattle.std.specs.Prelude.{◌≡◌, ℕ, ◌+◌, ◌-◌, ◌*◌, ◌≤◌, ◌≢◌, Bool, cond, Result, MatchResult, ℤ, nat_le, nat_lt, unsigned_abs, unwrap_or}
use Rattle.rules.specs.declared.irc.Clause.{Clause}
use Rattle.rules.specs.declared.irc.Clause.TheVariants.{Gradient, LeastLength, StoppingSight, IntermediateSight, OvertakingSight, ValleySight}
use Rattle.rules.specs.declared.irc.GradientLimit.{GradientLimit}
use Rattle.rules.specs.declared.irc.GradientLimit.TheVariants.{OneIn, PerThousand}
use Rattle.rules.specs.declared.irc.SightRule.{SightRule}
use Rattle.rules.specs.declared.irc.UnknownClause.{UnknownClause}
use Rattle.rules.specs.declared.refusal.Refusal.{Refusal}
use Rattle.rules.specs.declared.refusal.Refusal.TheVariants.{StationTooHigh, LevelTooHigh, UnknownRoadFigure, OvertakingTooSlow, UnlawfulTable, LengthOutOfStep, StationsNotRising}
use Rattle.rules.specs.declared.road.GradientKind.{GradientKind}
use Rattle.rules.specs.declared.road.GradientKind.TheVariants as gradient
use Rattle.rules.specs.declared.road.Road.{Road}
use Rattle.rules.specs.declared.road.RoadFigures.{RoadFigures}
use Rattle.rules.specs.declared.road.Sight.{Sight}
use Rattle.rules.specs.declared.road.Sight.TheVariants.{Stopping, Intermediate, Overtaking}
use Rattle.rules.specs.declared.road.Terrain.{Terrain}
use Rattle.rules.specs.declared.road.Terrain.TheVariants.{Plain, Rolling, Mountainous, Steep}
use Rattle.rules.specs.declared.speeds.Asked.{Asked}
use Rattle.rules.specs.declared.turn.Bend.{Bend}
use Rattle.rules.specs.declared.turn.Kind.{Kind}
use Rattle.rules.specs.declared.turn.Kind.TheVariants.{Summit, Valley}
use Rattle.rules.specs.Roads.{Known, Named}
use Rattle.rules.specs.Speeds.{asked, design_speed}
use Rattle.rules.specs.Turns.{base, change, kind}

-- the numbers by which the standard's clauses are told
abbrev pub clause_number : Clause → ℕ
clause_number Gradient = 1
clause_number LeastLength = 2
clause_number StoppingSight = 3
clause_number IntermediateSight = 4
clause_number OvertakingSight = 5
clause_number ValleySight = 6

-- the clause that is told by a number, or that none is told by it
abbrev pub ClauseOf : ℕ → Result Clause UnknownClause → Type 0
ClauseOf number r = MatchResult r (λ x. clause_number x ≡ number) (λ e. (e.0 ≡ number) × ((x : Clause) → clause_number x ≢ number))

-- the first for ruling, the second for limiting, the third for exceptional
abbrev pub by_gradient : GradientKind → GradientLimit → GradientLimit → GradientLimit → GradientLimit
by_gradient gradient.Ruling r l e = r
by_gradient gradient.Limiting r l e = l
by_gradient gradient.Exceptional r l e = e

-- the steepest grades of each terrain
abbrev pub gradient_in : Terrain → GradientKind → GradientLimit
gradient_in Plain k = by_gradient k (OneIn 30) (OneIn 20) (OneIn 15)
gradient_in Rolling k = by_gradient k (OneIn 30) (OneIn 20) (OneIn 15)
gradient_in Mountainous k = by_gradient k (PerThousand 50) (PerThousand 60) (PerThousand 70)
gradient_in Steep k = by_gradient k (PerThousand 60) (PerThousand 70) (PerThousand 80)

-- the steepest grade of a road
abbrev pub gradient_limit : Road → GradientLimit
gradient_limit r = gradient_in r.terrain r.gradient

-- millimetres of rise over metres of run, multiplied out
abbrev pub grade_within : GradientLimit → ℤ → ℕ → Bool
grade_within (OneIn n) rise run = nat_le (unsigned_abs rise * n) (1000 * run)
grade_within (PerThousand p) rise run = nat_le (unsigned_abs rise) (p * run)

-- the verdict on a grade
abbrev pub irc_grade : Road → ℤ → ℕ → ℕ
irc_grade r rise run = cond (grade_within (gradient_limit r) rise run) 0 (clause_number Gradient)

-- over a summit: the distance that the road's sight asks, with its figure and clause
abbrev pub summit_rule : Sight → Asked → SightRule
summit_rule Stopping a = record { distance = a.stopping; q = 4400; clause = StoppingSight }
summit_rule Intermediate a = record { distance = 2 * a.stopping; q = 9600; clause = IntermediateSight }
summit_rule Overtaking a = record { distance = unwrap_or a.overtaking 0; q = 9600; clause = OvertakingSight }

-- through a valley: the stopping distance, whatever sight the road asks over summits
abbrev pub valley_rule : Asked → SightRule
valley_rule a = record { distance = a.stopping; q = 1500 + 35 * a.stopping; clause = ValleySight }

-- the rule of sight at a turn of this kind
abbrev pub sight_rule : Road → Kind → SightRule
sight_rule r Summit = summit_rule r.sight (asked (design_speed r))
sight_rule r Valley = valley_rule (asked (design_speed r))

-- whether the distance s is seen along a curve of length l: by one formula from s on, by the other below s
abbrev pub seen : (s q change base l : ℕ) → Bool
seen s q w b l = cond (nat_le s l) (nat_le (w * (s * s)) (l * q * b)) (nat_le ((2 * s - l) * w) (q * b))

-- the verdict on a curve: free where the grade hardly changes, else the least length, else the rule of sight
abbrev pub curve_by : Asked → SightRule → (change base l : ℕ) → ℕ
curve_by a rule w b l =
    cond (nat_le w (a.free_change * b)) 0
    (cond (nat_lt l a.least_length) (clause_number LeastLength)
    (cond (seen rule.distance rule.q w b l) 0 (clause_number rule.clause)))

-- the same by the road and the turn
abbrev pub irc_curve : Road → Bend → ℕ → ℕ
irc_curve r b l = curve_by (asked (design_speed r)) (sight_rule r (kind b)) (change b) (base b) l

-- overtaking sight is given from 40 km/h on
abbrev pub OvertakingGiven : Road → Type 0
OvertakingGiven r = r.sight ≡ Overtaking → 40 ≤ (asked (design_speed r)).kmh

-- a refusal of road figures: its own reason applies, and none that is told before it
abbrev pub IrcRefused : RoadFigures → Refusal → Type 0
IrcRefused f UnknownRoadFigure = Known f → ⊥
IrcRefused f OvertakingTooSlow = (r : Road) × Named f r × (OvertakingGiven r → ⊥)
IrcRefused f StationTooHigh = ⊥
IrcRefused f LevelTooHigh = ⊥
IrcRefused f (UnlawfulTable fault) = ⊥
IrcRefused f LengthOutOfStep = ⊥
IrcRefused f StationsNotRising = ⊥
