use Rattle.std.proofs.Common.{◌∙◌, subst, arith}
use Rattle.pl_rows.specs.Rows.{rows_of, AreRows}
use Rattle.pl_rows.proofs.Canonical.{length-le_ascending}
use Rattle.pl_rows.proofs.Places.{length-rows_of, width-rows_of}
use Rattle.pl_rows.proofs.table.Table.from_rows.Goals as goal

pub returns-then-are_ascending-clause-rows : goal.returns-then-are_ascending-clause-rows
returns-then-are_ascending-clause-rows c =
    subst (λ flat. AreRows c.args.arity (rows_of c.args.arity c.args.rows flat))
    c.deref.ensures.value (record {
      width = width-rows_of _ _ _ (c.deref.ensures.len ∙ c.requires);
      ascending = c.are_ascending.ensures.0 c.if-are_ascending.true;
    })

pub invariant_of-result-2 : goal.invariant_of-result-2
invariant_of-result-2 c =
    let told = c.in_ok-count.ensures in
    record { whole = told.whole; ascending = told.ascending; values = told.values }

pub returns-clause-rows : goal.returns-clause-rows
returns-clause-rows c =
    let told = c.in_ok-count.ensures in
    record { width = width-rows_of _ _ _ told.whole; ascending = told.ascending }

pub returns-clause-same : goal.returns-clause-same
returns-clause-same c row = rw c.deref-2.ensures.value at (c.in_ok-count.ensures.same row)

pub returns-then-are_ascending-clause-most : goal.returns-then-are_ascending-clause-most
returns-then-are_ascending-clause-most c =
    omega (arith, length-rows_of c.args.arity c.args.rows c.args.flat.items)

pub returns-clause-most : goal.returns-clause-most
returns-clause-most c =
    let told = c.in_ok-count.ensures in
    let fewer = length-le_ascending _ _ told.ascending told.same in
    omega (arith, fewer, length-rows_of c.args.arity c.args.rows c.deref-2.result.now)
