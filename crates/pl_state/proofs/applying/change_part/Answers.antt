use Rattle.std.proofs.Common.{◌≡◌, length, ap, rules}
use Rattle.std.proofs.Math.ListN.{set}
use Rattle.pl_rows.specs.Rows.{rows_of}
use Rattle.pl_state.proofs.Applyings.{effects_rows, part_after}
use Rattle.pl_state.proofs.applying.change_part.Goals as goal

pub merge-requires-clause-deletes : goal.merge-requires-clause-deletes
merge-requires-clause-deletes c =
    effects_rows (length c.args._task.now.objects) c.args.args.now c.args.predicate c.args.arity
    c.args.deletes.now c.requires.deletes

pub merge-requires-clause-adds : goal.merge-requires-clause-adds
merge-requires-clause-adds c =
    effects_rows (length c.args._task.now.objects) c.args.args.now c.args.predicate c.args.arity
    c.args.adds.now c.requires.adds

pub returns : goal.returns
returns c = λ s old_rows.
    let len : c.len-at.result ≡ length c.args.new.now.items = search rules in
    part_after (length c.args._task.now.objects) c.args.args.now c.args.predicate c.args.arity
    c.in_ok-count.count c.args.deletes.now c.args.adds.now
    (rows_of c.args.arity c.args.old.count c.args.old.flat.now) s
    c.args.new.now.items c.push.new.self.items c.merge.new.new.items
    (set c.merge.new.new.items c.len-at.result c.in_ok-count.count) c.requires.adds old_rows
    c.in_ok-push.ensures.items c.in_ok-count.ensures.after
    c.in_ok-count.ensures.few (ap (λ n. set c.merge.new.new.items n c.in_ok-count.count) len)
