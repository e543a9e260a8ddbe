use lib.ListN.{length}
use Rattle.report.proofs.Reporting.{Laying, Chunked}
use Rattle.report.proofs.rows.put_rows.Given as goal

abbrev pub invariant-loop-k : goal.invariant-loop-k
invariant-loop-k l =
    Laying l.settings l.initial.out (length l.yielded) l.out l.total
    × Chunked l.settings (length l.yielded) l.k-iterator.count l.k-iterator.iter.size l.k-iterator.iter.rest.now
