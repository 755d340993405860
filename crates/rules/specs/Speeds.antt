-- The standard's tables of speeds, and of what each speed asks. Assumes nothing.
use Rattle.std.specs.Prelude.{◌≤◌, Some, None, IfSome}
use Rattle.rules.specs.declared.road.Class.{Class}
use Rattle.rules.specs.declared.road.Class.TheVariants.{NhSh, Mdr, Odr, Vr}
use Rattle.rules.specs.declared.road.Terrain.{Terrain}
use Rattle.rules.specs.declared.road.Terrain.TheVariants.{Plain, Rolling, Mountainous, Steep}
use Rattle.rules.specs.declared.road.SpeedKind.{SpeedKind}
use Rattle.rules.specs.declared.road.SpeedKind.TheVariants.{Ruling, Minimum}
use Rattle.rules.specs.declared.road.Road.{Road}
use Rattle.rules.specs.declared.speeds.Asked.{Asked}
use Rattle.rules.specs.declared.speeds.DesignSpeed.{DesignSpeed}
use Rattle.rules.specs.declared.speeds.DesignSpeed.TheVariants.{Kmh20, Kmh25, Kmh30, Kmh35, Kmh40, Kmh50, Kmh65, Kmh80, Kmh100}

-- the first for ruling, the second for minimum
abbrev pub by_kind : SpeedKind → DesignSpeed → DesignSpeed → DesignSpeed
by_kind Ruling r m = r
by_kind Minimum r m = m

-- ruling and minimum design speed of each class in each terrain
abbrev pub speed_in : Class → Terrain → SpeedKind → DesignSpeed
speed_in NhSh Plain k = by_kind k Kmh100 Kmh80
speed_in NhSh Rolling k = by_kind k Kmh80 Kmh65
speed_in NhSh Mountainous k = by_kind k Kmh50 Kmh40
speed_in NhSh Steep k = by_kind k Kmh40 Kmh30
speed_in Mdr Plain k = by_kind k Kmh80 Kmh65
speed_in Mdr Rolling k = by_kind k Kmh65 Kmh50
speed_in Mdr Mountainous k = by_kind k Kmh40 Kmh30
speed_in Mdr Steep k = by_kind k Kmh30 Kmh20
speed_in Odr Plain k = by_kind k Kmh65 Kmh50
speed_in Odr Rolling k = by_kind k Kmh50 Kmh40
speed_in Odr Mountainous k = by_kind k Kmh30 Kmh25
speed_in Odr Steep k = by_kind k Kmh25 Kmh20
speed_in Vr Plain k = by_kind k Kmh50 Kmh40
speed_in Vr Rolling k = by_kind k Kmh40 Kmh35
speed_in Vr Mountainous k = by_kind k Kmh25 Kmh20
speed_in Vr Steep k = by_kind k Kmh25 Kmh20

-- the design speed of a road
abbrev pub design_speed : Road → DesignSpeed
design_speed r = speed_in r.class r.terrain r.speed

-- sight distances and least length (m) and free change of grade (thousandths) at each speed; no overtaking distance where there is none
abbrev pub asked : DesignSpeed → Asked
asked Kmh20 = record { kmh = 20; stopping = 20; overtaking = None; free_change = 15; least_length = 15 }
asked Kmh25 = record { kmh = 25; stopping = 25; overtaking = None; free_change = 15; least_length = 15 }
asked Kmh30 = record { kmh = 30; stopping = 30; overtaking = None; free_change = 15; least_length = 15 }
asked Kmh35 = record { kmh = 35; stopping = 45; overtaking = None; free_change = 15; least_length = 15 }
asked Kmh40 = record { kmh = 40; stopping = 45; overtaking = Some 165; free_change = 12; least_length = 20 }
asked Kmh50 = record { kmh = 50; stopping = 60; overtaking = Some 235; free_change = 10; least_length = 30 }
asked Kmh65 = record { kmh = 65; stopping = 90; overtaking = Some 340; free_change = 8; least_length = 40 }
asked Kmh80 = record { kmh = 80; stopping = 120; overtaking = Some 470; free_change = 6; least_length = 50 }
asked Kmh100 = record { kmh = 100; stopping = 180; overtaking = Some 640; free_change = 5; least_length = 60 }

-- the greatest figures of the table
pub record WithinTable (a : Asked) : Type 0 where
  pub stopping : a.stopping ≤ 180
  pub overtaking : IfSome a.overtaking (λ s. s ≤ 640)
  pub free : a.free_change ≤ 15
  pub least : a.least_length ≤ 60
