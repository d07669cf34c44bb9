use Rattle.std.proofs.Common.{◌≡◌, filter, subst, Option, IfSome, IfNone}
use Rattle.pl_rows.specs.Rows.{Rows}
use Rattle.pl_join.specs.Lookup.{keys_of}
use Rattle.pl_join.specs.declared.filters.Keep.TheVariants.{Found}
use Rattle.pl_join.specs.Source.{is_kept}
use Rattle.pl_join.proofs.Operations.{found_made, found_whole}
use Rattle.pl_join.proofs.semijoins.looked_up.Goals as goal

pub returns-in-Some-clause-rows : goal.returns-in-Some-clause-rows
returns-in-Some-clause-rows g c =
    let kept = subst
    (λ (o : Option Rows). IfSome o
    (λ t. t.rows ≡ filter (is_kept Found (keys_of c.args.other) c.as_slice.result.now)
    c.args.table.now.rows)) c.in-Some.is c.in_ok-kept.ensures.kept in
    found_made c.args.classes.now c.args.wanted.now _ c.args.table.now.rows
    (keys_of c.args.other) _ c.in-Some.kept c.in_ok-sources.sources.items _
    c.in_ok-sources.ensures.values c.as_slice.ensures kept
    c.in_ok-from_slice-in-Some.ensures.ok c.new.ensures

pub returns-clause-same : goal.returns-clause-same
returns-clause-same g c =
    let all = subst
    (λ (o : Option Rows). IfNone o
    (filter (is_kept Found (keys_of c.args.other) c.as_slice.result.now)
    c.args.table.now.rows ≡ c.args.table.now.rows)) c.in-None.is c.in_ok-kept.ensures.all in
    found_whole c.args.classes.now c.args.wanted.now c.args.table.now.rows
    (keys_of c.args.other) c.in_ok-sources.sources.items _
    c.in_ok-sources.ensures.values c.as_slice.ensures all
