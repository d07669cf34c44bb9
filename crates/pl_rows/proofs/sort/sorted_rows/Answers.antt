use Rattle.pl_rows.proofs.sort.sorted_rows.Goals as goal

pub returns-in-1-clause-same : goal.returns-in-1-clause-same
returns-in-1-clause-same c = rw c.in-1.is c.sorted_arrays.ensures.same

pub returns-in-2-clause-same : goal.returns-in-2-clause-same
returns-in-2-clause-same c = rw c.in-2.is c.sorted_arrays-in-2.ensures.same

pub returns-in-3-clause-same : goal.returns-in-3-clause-same
returns-in-3-clause-same c = rw c.in-3.is c.sorted_arrays-in-3.ensures.same

pub returns-in-4-clause-same : goal.returns-in-4-clause-same
returns-in-4-clause-same c = rw c.in-4.is c.sorted_arrays-in-4.ensures.same
