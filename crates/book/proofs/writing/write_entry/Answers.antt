use Rattle.std.proofs.Common.{[], ◌∷◌, arith}
use Rattle.book.specs.Book.{written}
use Rattle.book.proofs.Paths.{written-append}
use Rattle.book.proofs.Writes.{finish, first, length_both, room_all}
use Rattle.book.proofs.writing.write_entry.Goals as goal

pub write_numbers-middle-requires : goal.write_numbers-middle-requires
write_numbers-middle-requires g c =
    let fits = rw c.in-Some.is at c.requires in
    omega (arith, fits, length_both (c.args.number ∷ c.args.slot.now.last ∷ 1 ∷ []) (g.T.Held.figures c.in-Some.held))

pub write-requires : goal.write-requires
write-requires g c =
    let head = c.args.number ∷ c.args.slot.now.last ∷ 1 ∷ [] in
    let figures = g.T.Held.figures c.in-Some.held in
    let fits = rw c.in-Some.is at c.requires in
    let m = c.write_numbers-middle in
    room_all (first c.args.out.now _ m.new.out (written head) (written figures) m.result (written-append head figures) fits m.ensures.size m.ensures.text) (omega (arith, fits))

pub returns-in-Some : goal.returns-in-Some
returns-in-Some g c =
    let head = c.args.number ∷ c.args.slot.now.last ∷ 1 ∷ [] in
    let figures = g.T.Held.figures c.in-Some.held in
    let fits = rw c.in-Some.is at c.requires in
    let m = c.write_numbers-middle in
    let s = finish (first c.args.out.now _ m.new.out (written head) (written figures) m.result (written-append head figures) fits m.ensures.size m.ensures.text) (omega (arith, fits))
    c.write.new.out c.write.result c.write.ensures.size c.write.ensures.text in
    rw c.in-Some.is (record { size = s.0; text = s.1 })
