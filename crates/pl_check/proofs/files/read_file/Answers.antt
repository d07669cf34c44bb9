use Rattle.pl_check.proofs.OpeningLemmas.{file_opens}
use Rattle.pl_check.proofs.files.read_file.Goals as goal

pub returns-in-len1-up : goal.returns-in-len1-up
returns-in-len1-up c =
    λ known. file_opens c.args.role c.args.text.now known c.args.forms.now c.file-item.result
    c.read_form.result
    c.in-len1-up.len_at_least c.file-item.is (c.read_form.ensures known)
