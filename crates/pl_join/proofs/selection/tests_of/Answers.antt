use Rattle.std.proofs.Common.{length, refl, arith}
use Rattle.std.proofs.lemmas.List.Elements.{All-push}
use Rattle.pl_join.specs.Source.{IsTestOf, picked}
use Rattle.pl_join.proofs.Selecting.{test_more, test_left, tests_are}
use Rattle.pl_join.proofs.selection.tests_of.Goals as goal
use Rattle.pl_join.proofs.selection.tests_of.Goals.{then-not-is_column+in_ok-push, else-not-is_column}

pub loop-column-preserved : goal.loop-column-preserved
loop-column-preserved c = elim c.if-not-is_column.branch [
  | then-not-is_column+in_ok-push w ↦ record {
    within = rw (w.tests-is, w.in_ok-push.ensures.ok)
        (All-push (IsTestOf (length c.args.sources.now)) _ _ c.loop-column.invariant.within
        (record {
          column = c.loop-column-test.true;
          source = c.source_through-source.ensures.within _
              c.requires.columns;
        }));
    tests = λ row l. rw (w.tests-is, w.in_ok-push.ensures.ok)
        (test_more _ _ row (picked c.args.columns.now row) c.args.sources.now c.loop-column.column _
        (omega arith) c.loop-column-test.true refl
        (c.source_through-source.ensures.value row) (c.loop-column.invariant.tests row l));
  }
  | else-not-is_column w ↦ record {
    within = rw w.tests-is c.loop-column.invariant.within;
    tests = λ row l. rw w.tests-is
        (test_left _ c.source_through-source.result row (picked c.args.columns.now row) c.args.sources.now
        c.loop-column.column _ (omega arith) c.loop-column-test.true
        (c.is_column.ensures.0 w.if-not-is_column.false)
        (c.source_through-source.ensures.value row) (c.loop-column.invariant.tests row l));
  }
]

pub returns-clause-tests : goal.returns-clause-tests
returns-clause-tests c row l =
    tests_are _ row c.args.sources.now c.args.columns.now c.loop-column.column (omega arith) (omega arith)
    (c.loop-column.invariant.tests row l)
