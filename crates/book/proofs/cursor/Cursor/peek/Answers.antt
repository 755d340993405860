use Rattle.std.proofs.Common.{◌+◌, ◌*◌, get_or, refl, inr, arith}
use Rattle.book.proofs.Groups.{byte_at, next, last, under}
use Rattle.book.proofs.cursor.Cursor.peek.Goals as goal

pub returns-then-whole : goal.returns-then-whole
returns-then-whole c =
    let bs = c.args.self.now.bytes.now in
    let at = c.args.self.now.at in
    let k = c.loop-k.k in
    let e = byte_at bs at _ _ k c.loop-k-test.true in
    rw c.no_number-then-whole.ensures (
      refl,
      inr (
        c.loop-k.value + c.loop-k.scale * get_or bs (at + k) 0,
        at + k + 1,
        rw (← e.0) (omega arith),
        under bs at k c.loop-k.value c.loop-k.scale c.loop-k.invariant e.1 (omega (arith, e.0)) (omega (arith, e.2)),
        last bs at k c.loop-k.value c.loop-k.scale c.loop-k.invariant e.1 (omega (arith, e.0)) (λ h. omega (arith, e.0)) (omega (arith, e.2)),
      ),
    )

pub returns-then-byte-lt128 : goal.returns-then-byte-lt128
returns-then-byte-lt128 c =
    let bs = c.args.self.now.bytes.now in
    let at = c.args.self.now.at in
    let k = c.loop-k.k in
    let e = byte_at bs at _ _ k c.loop-k-test.true in (
      omega arith,
      rw e.0 (last bs at k c.loop-k.value c.loop-k.scale c.loop-k.invariant e.1 (omega (arith, e.0)) (λ h. omega (arith, e.0)) (omega (arith, e.2))),
    )

pub loop-k-preserved : goal.loop-k-preserved
loop-k-preserved c =
    let bs = c.args.self.now.bytes.now in
    let at = c.args.self.now.at in
    let e = byte_at bs at _ _ c.loop-k.k c.loop-k-test.true in
    rw e.0 (next bs at c.loop-k.k c.loop-k.value c.loop-k.scale c.loop-k.invariant e.1 (omega (arith, e.0)) (omega (arith, e.0)))
