use Rattle.std.proofs.lemmas.Result.{err_from_is_err_and}
use Rattle.pl_top.proofs.ReadLemmas.{after_problem, moved, no_domain, no_problem}
use Rattle.pl_top.proofs.ResultLemmas.{if_err}
use Rattle.pl_top.proofs.reading.read_task_files.Goals as goal

pub returns-in_err-domain-clause-refused : goal.returns-in_err-domain-clause-refused
returns-in_err-domain-clause-refused g c = λ request begins.
    let handed = err_from_is_err_and c.from_residual.result c.from_residual.ensures.1 in
    let one = c.read_file.ensures in
    if_err _ _ handed.0 _ handed.1 handed.2
    (no_domain begins (g.S.Shelf.seen c.args.shelf.now) (g.S.Shelf.seen c.read_file.new.shelf) _ one.files
    one.faults one.begun c.in_err-domain.ensures.unread)

pub returns-in_err-problem-clause-refused : goal.returns-in_err-problem-clause-refused
returns-in_err-problem-clause-refused g c = λ request begins.
    let handed = err_from_is_err_and c.from_residual-in_err-problem.result
    c.from_residual-in_err-problem.ensures.1 in
    let one = c.in_ok-domain.ensures in
    let two = c.read_file-2.ensures in
    if_err _ _ handed.0 _ handed.1 handed.2
    (no_problem begins (g.S.Shelf.seen c.args.shelf.now) (g.S.Shelf.seen c.read_file.new.shelf)
    (g.S.Shelf.seen c.read_file-2.new.shelf) _ _ one.whole one.files one.faults one.begun two.files two.faults
    two.begun c.in_err-problem.ensures.unread)

pub returns-clause-problem : goal.returns-clause-problem
returns-clause-problem g c = moved _ _ _ _ c.in_ok-domain.ensures.files c.in_ok-problem.ensures.whole

pub returns-clause-begun : goal.returns-clause-begun
returns-clause-begun g c = λ request begins.
    let one = c.in_ok-domain.ensures in
    let two = c.in_ok-problem.ensures in
    after_problem begins (g.S.Shelf.seen c.args.shelf.now) (g.S.Shelf.seen c.read_file.new.shelf)
    (g.S.Shelf.seen c.read_file-2.new.shelf) one.files one.faults one.begun two.files two.faults two.begun
