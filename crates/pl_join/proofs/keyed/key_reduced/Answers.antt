use Rattle.std.proofs.Common.{◌≡◌, length, filter, ap, sym, ◌∙◌, subst, Option, IfOk}
use Rattle.std.proofs.Common.{IfSome, IfNone}
use Rattle.pl_rows.specs.Rows.{Rows, IndexedRows, SameRows}
use Rattle.pl_join.specs.Relation.{IsJoinOf}
use Rattle.pl_join.specs.Found.{has_key}
use Rattle.pl_join.specs.Source.{of_rows}
use Rattle.pl_join.proofs.Keys.{keyed_made, keyed_whole, front_within}
use Rattle.pl_join.proofs.keyed.key_reduced.Goals as goal

pub looked_up-requires-clause-held : goal.looked_up-requires-clause-held
looked_up-requires-clause-held g c =
    rw (c.classes.ensures.classes, c.key-key.ensures.key)
    (front_within c.args.keep.now.width c.args.keep.now.relation.classes)

pub returns-then-len-clause-same : goal.returns-then-len-clause-same
returns-then-len-clause-same g c =
    subst (λ cs. IfOk c.looked_up.result
    (λ r. IfNone r
    (IsJoinOf c.args.keep.now.relation (of_rows cs c.args.keys.now.rows) c.args.keep.now.relation)))
    (sym c.requires)
    (rw (c.classes.ensures.classes, c.table-table.ensures, c.key-key.ensures.key, c.table-then-len.ensures) at
    c.looked_up.ensures.same)

pub returns-then-len-clause-rows : goal.returns-then-len-clause-rows
returns-then-len-clause-rows g c =
    subst (λ cs. IfOk c.looked_up.result
    (λ r. IfSome r (IsJoinOf c.args.keep.now.relation (of_rows cs c.args.keys.now.rows))))
    (sym c.requires)
    (rw (c.classes.ensures.classes, c.table-table.ensures, c.key-key.ensures.key, c.table-then-len.ensures) at
    c.looked_up.ensures.rows)

pub rows_found-requires : goal.rows_found-requires
rows_found-requires g c = record {
  width = ap (λ (t : Rows). t.arity) c.table-2.ensures ∙ ap length c.requires
      ∙ sym (ap length c.key-key.ensures.key) ∙ c.key-key.ensures.width
      ∙ sym (ap (λ (x : IndexedRows). x.width) c.indexed.ensures);
}

pub returns-in_ok-from_slice-in-Some-clause-rows : goal.returns-in_ok-from_slice-in-Some-clause-rows
returns-in_ok-from_slice-in-Some-clause-rows g c =
    let same = subst
    (λ (o : Option Rows). IfSome o
    (λ t. SameRows t.rows
    (filter (has_key c.table-2.result.now.rows c.indexed.result.now.width)
    c.indexed.result.now.table.rows))) c.in-Some.is c.in_ok-kept.ensures.same in
    keyed_made c.args.keep.now c.args.keys.now c.new.result c.in-Some.kept c.table-2.result.now
    c.indexed.result.now c.classes-in-Some.result.now _ c.requires c.indexed.ensures c.table-2.ensures
    same
    c.classes-in-Some.ensures.classes c.in_ok-from_slice-in-Some.ensures.ok c.new.ensures

pub returns-in-None-clause-same : goal.returns-in-None-clause-same
returns-in-None-clause-same g c =
    let all = subst
    (λ (o : Option Rows). IfNone o
    (filter (has_key c.table-2.result.now.rows c.indexed.result.now.width)
    c.indexed.result.now.table.rows ≡ c.indexed.result.now.table.rows)) c.in-None.is
    c.in_ok-kept.ensures.all in
    keyed_whole c.args.keep.now c.args.keys.now c.table-2.result.now c.indexed.result.now c.requires
    c.indexed.ensures c.table-2.ensures all
