use Rattle.std.proofs.Common.{◌≡◌, ℕ, ◌+◌, ◌-◌, ◌/◌, ◌<◌, ◌≤◌, length, slice_index, sym, subst, arith}
use Rattle.fitting.specs.Rules.{len}
use Rattle.fitting.specs.Walked.{Leads, Picked}
use Rattle.fitting.specs.Rows.{entry}
use Rattle.fitting.proofs.Walks.{here_leads, walked_best, walked_more, walked_total}
use Rattle.fitting.proofs.passed.PassedLine.walk.Goals as goal

-- a length's place in its row
step_in : (l : ℕ) → l ≤ 2000 → l / 5 < 401
step_in l most = omega arith

pub overflow_sub-goal : goal.overflow_sub-goal
overflow_sub-goal g c =
    let l = len c.loop-t.lengths c.loop-t.t in
    let here : slice_index c.row.result.now (l / 5) ≡ entry c.args.store.now c.loop-t.t (l / 5) = c.row.ensures.entries (l / 5) (step_in l (c.loop-t.invariant.pegs c.loop-t.t (omega arith)).most) in
    subst (λ z. l ≤ z) (sym here) (here_leads _ _ _ _ c.requires.rows c.requires.reached _ _ (omega arith) c.loop-t.invariant).0

pub pick-requires-clause-reached : goal.pick-requires-clause-reached
pick-requires-clause-reached g c =
    let line = c.args.self.now.line in
    let store = c.args.store.now in
    let t = c.loop-t.t in
    let l = len c.loop-t.lengths t in
    let here : slice_index c.row.result.now (l / 5) ≡ entry store t (l / 5) = c.row.ensures.entries (l / 5) (step_in l (c.loop-t.invariant.pegs t (omega arith)).most) in
    subst (λ z. (j : ℕ) × (j < 401) × Leads line.pegs.now line.fixed.now (entry store (t + 1)) t l (z - l) j) (sym here)
    (here_leads _ _ _ _ c.requires.rows c.requires.reached _ _ (omega arith) c.loop-t.invariant).1

pub loop-t-preserved : goal.loop-t-preserved
loop-t-preserved g c =
    let line = c.args.self.now.line in
    let store = c.args.store.now in
    let t = c.loop-t.t in
    let l = len c.loop-t.lengths t in
    let here : slice_index c.row.result.now (l / 5) ≡ entry store t (l / 5) = c.row.ensures.entries (l / 5) (step_in l (c.loop-t.invariant.pegs t (omega arith)).most) in
    walked_more _ _ _ _ c.requires.rows c.requires.reached _ _ (omega arith) c.loop-t.invariant c.args.self.now.grades _
    (subst (λ z. Picked line.pegs.now line.fixed.now (entry store (t + 1)) t l (z - l) c.pick.result) here c.pick.ensures)

pub returns : goal.returns
returns g c =
    let last : c.loop-t.t + 1 ≡ length c.args.self.now.line.pegs.now = omega (arith, c.args.self.now.line.sound.least) in
    record {
      best = walked_best _ _ _ _ c.requires.rows c.requires.reached _ _ last c.loop-t.invariant;
      total = walked_total _ _ _ _ c.requires.rows c.requires.reached _ _ last c.loop-t.invariant;
    }
