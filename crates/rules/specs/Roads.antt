-- The five figures of a road, and what each stands for. Assumes nothing.
use Rattle.std.specs.Prelude.{◌≡◌, ℕ, ◌<◌, ◌≤◌, Result, MatchResult}
use Rattle.rules.specs.declared.road.Class.{Class}
use Rattle.rules.specs.declared.road.Class.TheVariants as class
use Rattle.rules.specs.declared.road.Terrain.{Terrain}
use Rattle.rules.specs.declared.road.Terrain.TheVariants as terrain
use Rattle.rules.specs.declared.road.SpeedKind.{SpeedKind}
use Rattle.rules.specs.declared.road.SpeedKind.TheVariants as speed
use Rattle.rules.specs.declared.road.GradientKind.{GradientKind}
use Rattle.rules.specs.declared.road.GradientKind.TheVariants as gradient
use Rattle.rules.specs.declared.road.Sight.{Sight}
use Rattle.rules.specs.declared.road.Sight.TheVariants as sight
use Rattle.rules.specs.declared.road.RoadFigures.{RoadFigures}
use Rattle.rules.specs.declared.road.Road.{Road}
use Rattle.rules.specs.declared.refusal.Refusal.{Refusal}
use Rattle.rules.specs.declared.refusal.Refusal.TheVariants.{UnknownRoadFigure}

abbrev pub class_figure : Class → ℕ
class_figure class.NhSh = 0
class_figure class.Mdr = 1
class_figure class.Odr = 2
class_figure class.Vr = 3

abbrev pub terrain_figure : Terrain → ℕ
terrain_figure terrain.Plain = 0
terrain_figure terrain.Rolling = 1
terrain_figure terrain.Mountainous = 2
terrain_figure terrain.Steep = 3

abbrev pub speed_figure : SpeedKind → ℕ
speed_figure speed.Ruling = 0
speed_figure speed.Minimum = 1

abbrev pub gradient_figure : GradientKind → ℕ
gradient_figure gradient.Ruling = 0
gradient_figure gradient.Limiting = 1
gradient_figure gradient.Exceptional = 2

abbrev pub sight_figure : Sight → ℕ
sight_figure sight.Stopping = 0
sight_figure sight.Intermediate = 1
sight_figure sight.Overtaking = 2

-- every figure is one that the standard knows
pub record Known (f : RoadFigures) : Type 0 where
  pub class : f.class < 4
  pub terrain : f.terrain < 4
  pub speed : f.speed < 2
  pub gradient : f.gradient < 3
  pub sight : f.sight < 3

-- the figures name this road
pub record Named (f : RoadFigures) (r : Road) : Type 0 where
  pub class : class_figure r.class ≡ f.class
  pub terrain : terrain_figure r.terrain ≡ f.terrain
  pub speed : speed_figure r.speed ≡ f.speed
  pub gradient : gradient_figure r.gradient ≡ f.gradient
  pub sight : sight_figure r.sight ≡ f.sight

-- the kind that has this figure, or a refusal where the figure isn't below so many
abbrev pub KindOf : {K : Type 0} → (K → ℕ) → ℕ → ℕ → Result K Refusal → Type 0
KindOf number many figure r = MatchResult r (λ kind. number kind ≡ figure) (λ e. (e ≡ UnknownRoadFigure) × (many ≤ figure))

-- the road that the figures name, or a refusal where one of them is unknown
abbrev pub RoadOf : RoadFigures → Result Road Refusal → Type 0
RoadOf f r = MatchResult r (λ road. Named f road) (λ e. (e ≡ UnknownRoadFigure) × (Known f → ⊥))
