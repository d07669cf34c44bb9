use Rattle.std.proofs.Common.{◌+◌}
use Rattle.pl_make.specs.Texts.{relation_text}
use Rattle.pl_make.proofs.Numbers.{one_more}
use Rattle.pl_make.proofs.wide.put_relations.Goals as goal

pub loop-k-preserved : goal.loop-k-preserved
loop-k-preserved c = one_more _ _ _ (λ i. relation_text c.args.n (i + 1)) c.loop-k.k c.loop-k.invariant
    c.in_ok-put_relation.ensures.text
