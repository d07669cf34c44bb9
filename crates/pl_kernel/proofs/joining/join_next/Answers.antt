use Rattle.std.proofs.Common.{Bor}
use Rattle.pl_join.specs.Relation.{ClassRows}
use Rattle.pl_kernel.proofs.SameJoin.{same_join-next, same_join-taken}
use Rattle.pl_kernel.proofs.NextPlace.{place_within}
use Rattle.pl_kernel.proofs.joining.join_next.Goals as goal

pub returns-clause-same : goal.returns-clause-same
returns-clause-same g c =
    let within = place_within (λ (x : Bor ClassRows). x.now) c.args.left.now.items c.deref.result.now
    c.next_place.result c.deref.ensures.value c.next_place.ensures.within in
    same_join-next c.hash_join.result c.args.joined.now c.remove-next.result.now _ _
    c.hash_join.ensures.classes c.hash_join.ensures.rows
    (same_join-taken (λ (x : Bor ClassRows). x.now) c.args.left.now.items c.remove-next.new.self.items
    c.next_place.result c.remove-next.result within
    c.remove-next.ensures.value c.remove-next.ensures.items)
