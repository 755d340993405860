use Rattle.std.proofs.Common.{sym, subst, arith}
use Rattle.std.proofs.lemmas.List.{length-take}
use Rattle.fitting.specs.Line.{FiguresFine}
use Rattle.fitting.proofs.InForce.{figures_fine}
use Rattle.fitting.proofs.alignment.Alignment.ready.Goals as goal

pub invariant_of-result : goal.invariant_of-result
invariant_of-result c =
    let from = c.args.from.now in
    let w = c.collect-count.ensures in
    let h = c.in_ok-check.ensures in
    record {
      forty = w.most.1;
      sixteen = from.sixteen;
      least = omega (arith, h.least, w.most, length-take c.collect-count.result c.collect-count.new.pegs);
      most = w.most.0;
      figures = subst FiguresFine (sym w.line) (figures_fine from.tables.pegs from.pegs_fine);
      rising = h.rising;
      fixed_fine = from.fixed_fine;
      fixed_on = h.fixed_on;
    }
