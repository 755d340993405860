use Rattle.book.proofs.Laws.{one_book_lem}
use Rattle.book.proofs.writing.one_book.Goals as goal

pub returns : goal.returns
returns c = one_book_lem
