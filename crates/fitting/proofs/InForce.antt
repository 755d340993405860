-- The pegs in force, gathered slot by slot. Assumes nothing.
use Rattle.std.proofs.Common.{◌≡◌, ℕ, zero, suc, ◌≤◌, List, [], ◌∷◌, Some, None, Option, refl, arith}
use Rattle.pegs.specs.declared.peg.Peg.{Peg}
use Rattle.pegs.specs.declared.slot.Slot.{Slot}
use Rattle.fitting.specs.declared.alignment.Standing.{Standing}
use Rattle.fitting.specs.Line.{FiguresFine}
use Rattle.fitting.specs.Ready.{PegsFine, in_force, standing_from, then_standing}

fine_then : (n : ℕ) (h : Option Peg) (ps : List Standing) → ((p : Peg) → h ≡ Some p → (p.station ≤ 10000) × (p.level ≤ 9000000)) → FiguresFine ps → FiguresFine (then_standing n h ps)
fine_then n None ps one rest i low = rest i low
fine_then n (Some p) ps one rest zero low = one p refl
fine_then n (Some p) ps one rest (suc i) low = rest i (omega arith)

fine_from : (n : ℕ) (ss : List (Slot Peg)) → PegsFine ss → FiguresFine (standing_from n ss)
fine_from n [] h i low = absurd (omega arith)
fine_from n (s ∷ ss) h i low = fine_then n s.held (standing_from (suc n) ss) (h 0) (fine_from (suc n) ss (λ m. h (suc m))) i low

-- figures of pegs in force are in range
pub figures_fine : (slots : List (Slot Peg)) → PegsFine slots → FiguresFine (in_force slots)
figures_fine slots fine = fine_from 0 slots fine
