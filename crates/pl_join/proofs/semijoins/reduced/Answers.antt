use Rattle.pl_join.proofs.semijoins.reduced.Goals as goal

pub looked_up-requires-clause-held : goal.looked_up-requires-clause-held
looked_up-requires-clause-held g c = rw (c.classes.ensures.classes, c.classes-wanted.ensures.classes)
    c.requires

pub returns-clause-same : goal.returns-clause-same
returns-clause-same g c =
    rw (c.classes.ensures.classes, c.table-2.ensures, c.classes-wanted.ensures.classes, c.table.ensures) at
    c.looked_up.ensures.same

pub returns-clause-rows : goal.returns-clause-rows
returns-clause-rows g c =
    rw (c.classes.ensures.classes, c.table-2.ensures, c.classes-wanted.ensures.classes, c.table.ensures) at
    c.looked_up.ensures.rows
