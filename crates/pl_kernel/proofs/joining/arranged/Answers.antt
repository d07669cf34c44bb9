use Rattle.std.proofs.Common.{◌≡◌, ◌∙◌, true}
use Rattle.std.proofs.lemmas.List.Elements.{Contains-get_or}
use Rattle.std.proofs.lemmas.Slice.Eq.{bytes_eq-Decides}
use Rattle.pl_kernel.proofs.SameJoin.{arranged_rows}
use Rattle.pl_kernel.proofs.joining.arranged.Goals as goal

pub project-requires-clause-held : goal.project-requires-clause-held
project-requires-clause-held g c k d h = (c.requires.members _).0 (Contains-get_or c.args.classes.now k d h)

pub returns-clause-rows : goal.returns-clause-rows
returns-clause-rows g c =
    arranged_rows c.project.result c.args.relation c.args.classes.now c.requires.members
    c.project.ensures.classes c.project.ensures.rows

pub returns-clause-cost : goal.returns-clause-cost
returns-clause-cost g c same =
    let found : c.eq.result ≡ true = c.eq.ensures
    ∙ (bytes_eq-Decides c.classes.result.now c.args.classes.now).1 (c.classes.ensures.classes ∙ same) in
    absurd (cc)
