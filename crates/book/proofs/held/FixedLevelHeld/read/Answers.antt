use Rattle.std.proofs.Common.{[], ◌∷◌}
use Rattle.std.proofs.lemmas.Result.{err_from_is_err_and}
use Rattle.book.specs.declared.entry.Table.TheVariants.{Fixed}
use Rattle.book.specs.Wanted.{high_bound, low_bound, station}
use Rattle.book.proofs.Paths.{after_way_in, misfit, passed_cons, passed_one, way_field}
use Rattle.book.proofs.held.FixedLevelHeld.read.Goals as goal

pub returns-in_err-station : goal.returns-in_err-station
returns-in_err-station c =
    let p = err_from_is_err_and c.from_residual.result c.from_residual.ensures.1 in
    rw (p.1, p.2) (λ left lowest. misfit c.args.cursor.now c.field.new.self Fixed left lowest station c.in_err-station.field-0.0 c.in_err-station.ensures)

pub returns-in_err-low : goal.returns-in_err-low
returns-in_err-low c =
    let p = err_from_is_err_and c.from_residual-in_err-low.result c.from_residual-in_err-low.ensures.1 in
    rw (p.1, p.2)
    (λ left lowest. after_way_in (way_field Fixed left lowest station c.in_ok-station.ensures) (misfit c.field.new.self c.field-2.new.self Fixed left lowest low_bound c.in_err-low.field-0.0 c.in_err-low.ensures))

pub returns-in_err-high : goal.returns-in_err-high
returns-in_err-high c =
    let p = err_from_is_err_and c.from_residual-in_err-high.result c.from_residual-in_err-high.ensures.1 in
    rw (p.1, p.2)
    (λ left lowest. after_way_in (way_field Fixed left lowest station c.in_ok-station.ensures)
    (after_way_in (way_field Fixed left lowest low_bound c.in_ok-low.ensures)
    (misfit c.field-2.new.self c.field-3.new.self Fixed left lowest (high_bound c.in_ok-low.low) c.in_err-high.field-0.0 c.in_err-high.ensures)))

pub returns : goal.returns
returns c =
    let s = c.in_ok-station.ensures in
    let l = c.in_ok-low.ensures in
    let h = c.in_ok-high.ensures in
    let low = c.in_ok-low.low in
    let high = c.in_ok-high.high in
    record {
      passed = passed_cons c.in_ok-station.station (low ∷ high ∷ []) s.passed (passed_cons low (high ∷ []) l.passed (passed_one high h.passed));
      good = (s.below, h.above, h.below);
    }
