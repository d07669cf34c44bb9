use Rattle.std.proofs.Common.{◌∙◌, ap, not}
use Rattle.pl_reduce.proofs.Origins.{put_first, put_again}
use Rattle.pl_reduce.proofs.handed.put.Goals as goal

pub returns-then-is_none-clause-handed : goal.returns-then-is_none-clause-handed
returns-then-is_none-clause-handed c =
    put_first c.args.origins.now.items c.args.nodes.now.items c.args.node c.replace-before.result
    c.replace-before.new.dest c.index.result.now _ _ c.requires.within c.requires.many c.requires.there
    (c.replace-before.ensures.value ∙ c.index_mut.ensures.value) c.index.ensures
    (c.is_none.ensures ∙ ap not c.if-is_none.true)

pub returns-else-is_none-clause-handed : goal.returns-else-is_none-clause-handed
returns-else-is_none-clause-handed c =
    put_again c.args.origins.now.items c.args.nodes.now.items c.args.node
    c.replace-before.new.dest c.index.result.now _ c.requires.within c.requires.many c.index.ensures
    (c.is_none.ensures ∙ ap not c.if-is_none.false)
