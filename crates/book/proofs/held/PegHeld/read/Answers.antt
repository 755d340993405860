use Rattle.std.proofs.Common.{[], ◌∷◌}
use Rattle.std.proofs.lemmas.Result.{err_from_is_err_and}
use Rattle.book.specs.declared.entry.Table.TheVariants.{Pegs}
use Rattle.book.specs.Wanted.{level, station}
use Rattle.book.proofs.Paths.{after_way_in, misfit, passed_cons, passed_one, way_field}
use Rattle.book.proofs.held.PegHeld.read.Goals as goal

pub returns-in_err-station : goal.returns-in_err-station
returns-in_err-station c =
    let p = err_from_is_err_and c.from_residual.result c.from_residual.ensures.1 in
    rw (p.1, p.2) (λ left lowest. misfit c.args.cursor.now c.field.new.self Pegs left lowest station c.in_err-station.field-0.0 c.in_err-station.ensures)

pub returns-in_err-level : goal.returns-in_err-level
returns-in_err-level c =
    let p = err_from_is_err_and c.from_residual-in_err-level.result c.from_residual-in_err-level.ensures.1 in
    rw (p.1, p.2)
    (λ left lowest. after_way_in (way_field Pegs left lowest station c.in_ok-station.ensures) (misfit c.field.new.self c.field-2.new.self Pegs left lowest level c.in_err-level.field-0.0 c.in_err-level.ensures))

pub returns : goal.returns
returns c =
    let s = c.in_ok-station.ensures in
    let l = c.in_ok-level.ensures in
    record { passed = passed_cons c.in_ok-station.station (c.in_ok-level.level ∷ []) s.passed (passed_one c.in_ok-level.level l.passed); good = (s.below, l.below) }
