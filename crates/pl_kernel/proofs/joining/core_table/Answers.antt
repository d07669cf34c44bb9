use Rattle.std.proofs.Common.{rules, Bor, arith}
use Rattle.std.proofs.lemmas.List.Elements.{Contains-get_or}
use Rattle.pl_join.specs.Relation.{ClassRows}
use Rattle.pl_kernel.proofs.SameJoin.{same_join-trans, same_join-only, same_join-alone, same_members}
use Rattle.pl_kernel.proofs.SameJoin.{join_of_all, arranged_rows, arranged_join}
use Rattle.pl_kernel.proofs.joining.core_table.Goals as goal

pub project-requires-clause-held : goal.project-requires-clause-held
project-requires-clause-held g c k d h =
    let only = same_join-only (λ (x : Bor ClassRows). x.now) c.args.core.now c.index-core-0.result
    c.in_ok-left.left.items c.requires c.index-core-0.is c.in_ok-left.ensures (search rules) in
    (same_members c.args.core.now c.index-core-0.result c.in_ok-classes.classes.items c.deref.result.now only
    c.deref.ensures.value c.in_ok-classes.ensures.members _).0
    (Contains-get_or c.deref.result.now k d h)

pub returns-then-is_empty-clause-rows : goal.returns-then-is_empty-clause-rows
returns-then-is_empty-clause-rows g c =
    let only = same_join-only (λ (x : Bor ClassRows). x.now) c.args.core.now c.index-core-0.result
    c.in_ok-left.left.items c.requires c.index-core-0.is c.in_ok-left.ensures (search rules) in
    let members = same_members c.args.core.now c.index-core-0.result c.in_ok-classes.classes.items
    c.deref.result.now only c.deref.ensures.value c.in_ok-classes.ensures.members in
    arranged_join c.project.result c.args.core.now c.index-core-0.result
    (join_of_all c.args.core.now c.index-core-0.result only)
    (arranged_rows c.project.result c.index-core-0.result c.deref.result.now members c.project.ensures.classes
    c.project.ensures.rows)

pub loop-joined-preserved : goal.loop-joined-preserved
loop-joined-preserved g c = record {
  same = same_join-trans _ _ c.args.core.now c.in_ok-joined-2.ensures.same c.loop-joined.invariant.same;
  rise = omega (arith, c.join_next-in-loop-joined.ensures.rise, c.loop-joined.invariant.rise);
}

pub arranged-requires-clause-members : goal.arranged-requires-clause-members
arranged-requires-clause-members g c =
    let alone = same_join-alone (λ (x : Bor ClassRows). x.now) c.args.core.now c.loop-joined.joined
    c.loop-joined.left.items (search rules) c.loop-joined.invariant.same in
    same_members c.args.core.now c.loop-joined.joined c.in_ok-classes.classes.items c.deref-2.result.now alone
    c.deref-2.ensures.value c.in_ok-classes.ensures.members

pub returns-clause-rows : goal.returns-clause-rows
returns-clause-rows g c =
    let alone = same_join-alone (λ (x : Bor ClassRows). x.now) c.args.core.now c.loop-joined.joined
    c.loop-joined.left.items (search rules) c.loop-joined.invariant.same in
    arranged_join c.arranged.result c.args.core.now c.loop-joined.joined
    (join_of_all c.args.core.now c.loop-joined.joined alone) c.arranged.ensures.rows
