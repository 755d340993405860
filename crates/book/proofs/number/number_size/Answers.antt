use Rattle.std.proofs.Common.{length, sym, ap, arith}
use Rattle.book.proofs.Groups.{length_five, length_four, length_three, length_two, one}
use Rattle.book.proofs.number.number_size.Goals as goal

pub returns-then-n-lt128-clause-is : goal.returns-then-n-lt128-clause-is
returns-then-n-lt128-clause-is c = sym (ap length (one 4 c.args.n (omega arith)))

pub returns-then-n-lt16384-clause-is : goal.returns-then-n-lt16384-clause-is
returns-then-n-lt16384-clause-is c = length_two c.args.n (omega arith) (omega arith)

pub returns-then-n-lt2097152-clause-is : goal.returns-then-n-lt2097152-clause-is
returns-then-n-lt2097152-clause-is c = length_three c.args.n (omega arith) (omega arith)

pub returns-then-n-lt268435456-clause-is : goal.returns-then-n-lt268435456-clause-is
returns-then-n-lt268435456-clause-is c = length_four c.args.n (omega arith) (omega arith)

pub returns-else-n-lt268435456-clause-is : goal.returns-else-n-lt268435456-clause-is
returns-else-n-lt268435456-clause-is c = length_five c.args.n (omega arith) (omega arith)
