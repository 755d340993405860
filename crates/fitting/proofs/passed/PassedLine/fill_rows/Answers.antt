use Rattle.std.proofs.Common.{◌-◌, sym, subst, inl, inr, arith}
use Rattle.std.proofs.lemmas.Bool.{cases_eq}
use Rattle.fitting.specs.Rules.{verdicts}
use Rattle.fitting.specs.Rows.{entry}
use Rattle.fitting.specs.Walked.{RowOpen}
use Rattle.fitting.proofs.Entries.{first_open, row_closed, row_open}
use Rattle.fitting.proofs.passed.PassedLine.fill_rows.Goals as goal

pub returns-then-is_closed-clause-filled : goal.returns-then-is_closed-clause-filled
returns-then-is_closed-clause-filled g c = record {
  there = omega arith;
  closed = row_closed _ _ _ c.args.self.now.line.sound.most (entry c.fill_row.new.store (c.loop-t.t - 1)) _ (omega arith) (c.fill_row.ensures.filled _ (omega arith) (omega arith)) c.if-is_closed.ensures;
  open_after = λ u a b. c.loop-t.invariant.1 u (omega arith) b;
}

pub loop-t-preserved : goal.loop-t-preserved
loop-t-preserved g c =
    let v = verdicts g.C.RoadCode c.args.self.now.code.now in (
      c.fill_row.ensures.filled,
      λ u a b closed. elim (cases_eq u (c.loop-t.t - 1)) [
        | inl e ↦ row_open v c.args.self.now.line.pegs.now c.args.self.now.line.fixed.now (entry c.fill_row.new.store u) u (c.fill_row.ensures.filled u a b) (subst (λ z. RowOpen (entry c.fill_row.new.store z)) (sym e) c.if-is_closed.ensures) closed
        | inr ne ↦ c.loop-t.invariant.1 u (omega arith) b closed
      ],
    )

pub returns-clause-filled : goal.returns-clause-filled
returns-clause-filled g c =
    let some = c.args.self.now.line.sound.least in (
      (λ u a b. c.loop-t.invariant.0 u (omega arith) b),
      first_open _ _ _ c.args.self.now.line.sound.most (entry c.loop-t.store 0) (omega arith) (c.loop-t.invariant.0 0 (omega arith) (omega arith)) (c.loop-t.invariant.1 0 (omega arith) (omega arith)),
    )
