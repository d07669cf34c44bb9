use Rattle.pl_check.proofs.CheckingLemmas.{task_stated, end_given}
use Rattle.pl_check.proofs.checking.check.Goals as goal

pub returns-clause-task : goal.returns-clause-task
returns-clause-task c =
    task_stated c.args.domain.now c.args.problem.now c.small_word.result.now c.small_word-2.result.now
    c.as_slice.result.now c.into_forms.result.items c.in-Ok.forms c.in-Ok-read_forms.forms
    c.check_forms.result c.small_word.ensures c.small_word-2.ensures c.as_slice.ensures c.into_forms.ensures
    c.in-Ok.ensures.read c.in-Ok-read_forms.ensures.read c.check_forms.ensures

pub returns-clause-err : goal.returns-clause-err
returns-clause-err c =
    end_given c.args.domain.now c.args.problem.now c.small_word.result.now c.small_word-2.result.now
    c.as_slice.result.now c.into_forms.result.items c.in-Ok.forms c.in-Ok-read_forms.forms
    c.check_forms.result c.small_word.ensures c.small_word-2.ensures c.as_slice.ensures c.into_forms.ensures
    c.in-Ok.ensures.read c.in-Ok-read_forms.ensures.read c.check_forms.ensures
