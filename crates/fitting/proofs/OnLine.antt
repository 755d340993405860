-- Every stretch of a line of pegs is sound, and lengths that fit the line fit the stretch. Assumes nothing.
use Rattle.std.proofs.Common.{◌≡◌, ℕ, ◌+◌, ◌-◌, ◌*◌, ◌<◌, ◌≤◌, List, length, get_or, ap, ◌∙◌, ⊎_elim, arith}
use Rattle.std.proofs.lemmas.List.{get_or_default, get_or_past}
use Rattle.std.proofs.lemmas.Bool.{cases_eq, cases_lt}
use Rattle.rules.specs.Points.{run}
use Rattle.fitting.specs.declared.alignment.Standing.{Standing}
use Rattle.fitting.specs.Levels.{stretch}
use Rattle.fitting.specs.Line.{FiguresFine, OnRoad, Rising, gap, nobody, point, station}
use Rattle.fitting.specs.Rules.{OnStretch}
use Rattle.fitting.specs.Stretches.{Inside, Lengths, Room, Sound}

-- the station of the peg behind is at most this one's, and lower except at the first peg
behind : (ps : List Standing) (i : ℕ) → Rising ps → i + 1 < length ps → (station ps (i - 1) ≤ station ps i) × (0 < i → station ps (i - 1) < station ps i)
behind ps i rising h =
    ⊎_elim
    (λ (z : i ≡ 0). let e = ap (station ps) (same z) in omega arith)
    (λ n. let e : i - 1 + 1 ≡ i = omega arith in let r = rw e at (rising (i - 1) (omega arith)) in omega arith)
    (cases_eq i 0)
  where
    same : i ≡ 0 → i - 1 ≡ i
    same z = omega arith

-- past the last peg, that peg again
ahead_last : (ps : List Standing) (i : ℕ) → length ps ≤ i + 2 → (stretch ps i).after ≡ point ps (i + 1)
ahead_last ps i h = ap (λ s. s.point) (get_or_past ps (i + 2) (get_or ps (i + 1) nobody) h)

ahead_next : (ps : List Standing) (i : ℕ) → i + 2 < length ps → (stretch ps i).after ≡ point ps (i + 2)
ahead_next ps i h = ap (λ s. s.point) (get_or_default ps (i + 2) (get_or ps (i + 1) nobody) nobody h)

rises_on : (ps : List Standing) (i : ℕ) → Rising ps → i + 2 < length ps → station ps (i + 1) + 10 ≤ station ps (i + 2)
rises_on ps i rising h = let e : i + 1 + 1 ≡ i + 2 = omega arith in rw e at (rising (i + 1) (omega arith))

-- the same of the peg ahead
ahead : (ps : List Standing) (i : ℕ) → Rising ps → i + 1 < length ps →
    (station ps (i + 1) ≤ (stretch ps i).after.station) × (i + 2 < length ps → station ps (i + 1) < (stretch ps i).after.station)
ahead ps i rising h =
    ⊎_elim
    (λ m. let r = rises_on ps i rising m in rw (ahead_next ps i m) (omega arith))
    (λ n. rw (ahead_last ps i n) (omega arith))
    (cases_lt (i + 2) (length ps))

ahead_fine : (ps : List Standing) (i : ℕ) → FiguresFine ps → i + 1 < length ps → ((stretch ps i).after.station ≤ 10000) × ((stretch ps i).after.level ≤ 9000000)
ahead_fine ps i fine h =
    ⊎_elim
    (λ m. rw (ahead_next ps i m) (fine (i + 2) m))
    (λ n. rw (ahead_last ps i n) (fine (i + 1) h))
    (cases_lt (i + 2) (length ps))

pub stretch_sound : (ps : List Standing) (i : ℕ) → Rising ps → FiguresFine ps → i + 1 < length ps → Sound (stretch ps i)
stretch_sound ps i rising fine h =
    let next = ahead_fine ps i fine h in
    record {
      behind = (behind ps i rising h).0;
      apart = rising i h;
      ahead = (ahead ps i rising h).0;
      last = next.0;
      levels = ((fine (i - 1) (omega arith)).1, (fine i (omega arith)).1, (fine (i + 1) h).1, next.1);
    }

pub stretch_lengths : (ps : List Standing) (i l r : ℕ) → Rising ps → i + 1 < length ps → l ≤ 2000 → r ≤ 2000 → l + r ≤ 2 * gap ps i →
    (i ≡ 0 → l ≡ 0) → (i + 2 ≡ length ps → r ≡ 0) → Lengths (stretch ps i) l r
stretch_lengths ps i l r rising h lm rm together first last = record {
  long = (lm, rm);
  together = together;
  turns = (
    λ some. (behind ps i rising h).1 (⊎_elim (λ z. absurd (omega (arith, first z))) (λ n. omega arith) (cases_eq i 0)),
    λ some. (ahead ps i rising h).1 (⊎_elim (λ z. absurd (omega (arith, last z))) (λ n. omega arith) (cases_eq (i + 2) (length ps))),
  );
}

-- a length has room on the stretch behind its peg
room_behind : (ps : List Standing) (ls : List ℕ) (i : ℕ) → i + 1 < length ps → get_or ls 0 0 ≡ 0 →
    ((j : ℕ) → j + 1 < length ps → get_or ls j 0 + get_or ls (j + 1) 0 ≤ 2 * gap ps j) → get_or ls i 0 ≤ 2 * run (point ps (i - 1)) (point ps i)
room_behind ps ls i h first together =
    ⊎_elim
    (λ z. let e : get_or ls i 0 ≡ 0 = ap (λ n. get_or ls n 0) z ∙ first in omega arith)
    (λ n. let e : i - 1 + 1 ≡ i = omega arith in let t = rw e at (together (i - 1) (omega arith)) in omega arith)
    (cases_eq i 0)

-- and on the stretch ahead of it
room_ahead : (ps : List Standing) (ls : List ℕ) (i : ℕ) → i + 1 < length ps → get_or ls (length ps - 1) 0 ≡ 0 →
    ((j : ℕ) → j + 1 < length ps → get_or ls j 0 + get_or ls (j + 1) 0 ≤ 2 * gap ps j) → get_or ls (i + 1) 0 ≤ 2 * run (point ps (i + 1)) (stretch ps i).after
room_ahead ps ls i h last together =
    ⊎_elim
    (λ m.
    let e : i + 1 + 1 ≡ i + 2 = omega arith in
    let t = rw e at (together (i + 1) (omega arith)) in
    rw (ahead_next ps i m) (omega arith))
    (λ n.
    let b : length ps - 1 ≡ i + 1 = omega arith in
    let e : get_or ls (i + 1) 0 ≡ 0 = rw b at last in
    omega arith)
    (cases_lt (i + 2) (length ps))

pub stretch_room : (ps : List Standing) (ls : List ℕ) (i : ℕ) → Rising ps → i + 1 < length ps → get_or ls 0 0 ≡ 0 → get_or ls (length ps - 1) 0 ≡ 0 →
    ((j : ℕ) → j + 1 < length ps → get_or ls j 0 + get_or ls (j + 1) 0 ≤ 2 * gap ps j) → Room (stretch ps i) (get_or ls i 0) (get_or ls (i + 1) 0)
stretch_room ps ls i rising h first last together = (room_behind ps ls i h first together, room_ahead ps ls i h last together)

-- a station that belongs to a stretch of the road lies on it
pub stretch_inside : (ps : List Standing) (i s : ℕ) → i + 1 < length ps → OnRoad ps s → OnStretch ps i s → Inside (stretch ps i) s
stretch_inside ps i s l road on =
    ⊎_elim
    (λ (more : i + 2 < length ps). (on.0, omega (arith, on.1 more)))
    (λ (end : length ps ≤ i + 2). let e : length ps - 1 ≡ i + 1 = omega arith in (on.0, rw e at road.1))
    (cases_lt (i + 2) (length ps))
