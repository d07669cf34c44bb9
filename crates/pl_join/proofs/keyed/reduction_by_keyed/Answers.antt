use Rattle.std.proofs.Common.{map, take, ap, sym, ◌∙◌, Option, IfSome, IfNone}
use Rattle.std.proofs.lemmas.Option.{IfSome_then}
use Rattle.std.proofs.lemmas.Result.{IfOk-weaker}
use Rattle.pl_rows.specs.Rows.{IndexedRows}
use Rattle.pl_join.specs.Relation.{ClassRows, IsJoinOf, IsSemijoinOf}
use Rattle.pl_join.specs.Keyed.{key_of}
use Rattle.pl_join.specs.Source.{of_rows}
use Rattle.pl_join.proofs.Operations.{none_weaker}
use Rattle.pl_join.proofs.Keys.{semijoin_by_key}
use Rattle.pl_join.proofs.keyed.reduction_by_keyed.Goals as goal

pub looked_up-requires-clause-held : goal.looked_up-requires-clause-held
looked_up-requires-clause-held g c = rw (c.classes.ensures.classes, c.key.ensures.key) c.requires.key

pub looked_up-requires-clause-width : goal.looked_up-requires-clause-width
looked_up-requires-clause-width g c = ap (λ (x : IndexedRows). x.width) c.indexed.ensures
    ∙ sym c.key.ensures.width

pub returns-clause-same : goal.returns-clause-same
returns-clause-same g c =
    IfOk-weaker _
    (λ (r : Option ClassRows). IfNone r
    (IsJoinOf c.args.keep.now
    (of_rows (key_of c.args.by.now) (map (take c.args.by.now.width) c.args.by.now.relation.rows))
    c.args.keep.now))
    (λ (r : Option ClassRows). IfNone r
    (IsSemijoinOf c.args.keep.now c.args.by.now.relation c.args.keep.now))
    (λ r h. none_weaker r
    (semijoin_by_key c.args.keep.now c.args.by.now c.args.keep.now c.key.ensures.relation c.requires) h)
    (rw (c.classes.ensures.classes, c.table.ensures, c.key.ensures.key, c.indexed.ensures) at
    c.looked_up.ensures.same)

pub returns-clause-rows : goal.returns-clause-rows
returns-clause-rows g c =
    IfOk-weaker _
    (λ (r : Option ClassRows). IfSome r
    (IsJoinOf c.args.keep.now
    (of_rows (key_of c.args.by.now) (map (take c.args.by.now.width) c.args.by.now.relation.rows))))
    (λ (r : Option ClassRows). IfSome r (IsSemijoinOf c.args.keep.now c.args.by.now.relation))
    (λ r h. IfSome_then r h
    (λ kept. semijoin_by_key c.args.keep.now c.args.by.now kept c.key.ensures.relation c.requires))
    (rw (c.classes.ensures.classes, c.table.ensures, c.key.ensures.key, c.indexed.ensures) at
    c.looked_up.ensures.rows)
