use Rattle.std.proofs.Common.{◌++◌, false, refl, get_or}
use Rattle.pl_names.specs.Names.{texts}
use Rattle.pl_check.specs.Elements.{trees}
use Rattle.pl_check.specs.Gathering.{lists_in}
use Rattle.pl_check.specs.TypedLists.{typed_items}
use Rattle.pl_check.proofs.GatheringLemmas.{left_of_names, left_more, object_more, no_name}
use Rattle.pl_check.proofs.task.object_list.Goals as goal

pub loop-i-init : goal.loop-i-init
loop-i-init c = record {
  left =
      left_of_names c.args.known.now.types c.args.known.now.objects c.objects-names.result.now
      (typed_items c.args.domain.now false (trees c.args.constants.now) ++
      typed_items c.args.problem.now false (trees c.args.forms.now))
      c.names-name-items.result.now (lists_in c.in_ok-types.types.items)
      c.objects-names.ensures c.names-name-items.ensures c.in_ok-types.ensures;
  made = c.in_ok-objects.ensures.items;
}

pub loop-i-preserved : goal.loop-i-preserved
loop-i-preserved c =
    let types = c.args.known.now.types in
    let list = typed_items c.args.domain.now false (trees c.args.constants.now) ++
    typed_items c.args.problem.now false (trees c.args.forms.now) in
    let names = c.names-name-items.result.now in
    record {
      left =
          left_more types list (texts names) (lists_in c.loop-i.types.items)
          (lists_in c.taken-of.new.lists.items) c.loop-i.i
          c.taken-of.ensures.others c.loop-i.invariant.left;
      made =
          object_more types list names (lists_in c.loop-i.types.items) c.loop-i.i
          (get_or names c.loop-i.i no_name)
          c.taken-of.result.items c.loop-i.objects.items c.push.new.self.items c.in_ok-definition.definition
          c.loop-i-test.true refl c.taken-of.ensures.list c.in_ok-definition.ensures
          c.in_ok-push.ensures.items
          c.loop-i.invariant.left c.loop-i.invariant.made;
    }
