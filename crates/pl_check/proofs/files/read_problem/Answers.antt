use Rattle.std.proofs.Common.{List, length, subst}
use Rattle.pl_text.specs.declared.form.Form.{Form}
use Rattle.pl_check.specs.declared.role.FileRole.TheVariants as role_of
use Rattle.pl_check.specs.Elements.{trees}
use Rattle.pl_check.specs.Files.{file_faults}
use Rattle.pl_check.specs.Reading.{Refuses}
use Rattle.pl_check.proofs.OpeningLemmas.{opens_refuses}
use Rattle.pl_check.proofs.files.read_problem.Goals as goal

pub returns-in-Err : goal.returns-in-Err
returns-in-Err c =
    subst (λ (fs : List Form). Refuses (file_faults role_of.Problem c.args.text.now c.args.known.now
    (length c.args.text.now) (trees fs)) c.in-Err.end) c.as_slice.ensures.value
    (opens_refuses role_of.Problem c.args.text.now c.args.known.now
    (trees c.as_slice.result.now) c.read_file.result
    c.in-Err.end c.in-Err.is (c.read_file.ensures c.args.known.now))
