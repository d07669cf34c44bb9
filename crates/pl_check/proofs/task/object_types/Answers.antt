use Rattle.std.proofs.Common.{false}
use Rattle.pl_check.specs.Elements.{trees}
use Rattle.pl_check.specs.TypedLists.{typed_items}
use Rattle.pl_check.proofs.GatheringLemmas.{left_from_second}
use Rattle.pl_check.proofs.task.object_types.Goals as goal

pub returns : goal.returns
returns c =
    left_from_second c.args.known.now.types c.args.known.now.objects c.objects-names.result.now
    c.types-kinds.result.now
    (typed_items c.args.domain.now false (trees c.args.constants.now))
    (typed_items c.args.problem.now false (trees c.args.forms.now))
    c.in_ok-first.first.items c.as_slice.result.now c.in_ok-second.second.items c.as_slice-2.result.now
    c.names.result.now c.in_ok-lists.lists.items c.add_types.new.lists.items c.add_types-2.new.lists.items
    c.types-kinds.ensures c.objects-names.ensures c.names.ensures
    c.in_ok-first.ensures c.as_slice.ensures.value c.in_ok-second.ensures c.as_slice-2.ensures.value
    c.in_ok-lists.ensures c.in_ok-add_types.ensures.added c.in_ok-add_types-2.ensures.added
