use Rattle.std.proofs.Common.{false, refl, get_or}
use Rattle.pl_names.specs.Names.{texts}
use Rattle.pl_check.specs.Elements.{trees}
use Rattle.pl_check.specs.Gathering.{lists_in}
use Rattle.pl_check.specs.TypedLists.{typed_items}
use Rattle.pl_check.proofs.GatheringLemmas.{left_from_first, left_more, type_more, no_name}
use Rattle.pl_check.proofs.task.type_list.Goals as goal

pub loop-i-init : goal.loop-i-init
loop-i-init c = record {
  left =
      left_from_first c.args.known.now.types c.types-names.result.now c.types-names.result.now
      (typed_items c.args.text.now false (trees c.args.forms.now))
      c.in_ok-items.items.items c.as_slice.result.now
      c.names-name-items.result.now c.names.result.now c.in_ok-parents.parents.items
      c.add_types.new.lists.items
      c.types-names.ensures c.names-name-items.ensures c.names.ensures c.in_ok-items.ensures
      c.as_slice.ensures.value
      c.in_ok-parents.ensures c.in_ok-add_types.ensures.added;
  made = c.new-types.ensures.items;
}

pub loop-i-preserved : goal.loop-i-preserved
loop-i-preserved c =
    let types = c.args.known.now.types in
    let list = typed_items c.args.text.now false (trees c.args.forms.now) in
    let names = c.names-name-items.result.now in
    record {
      left =
          left_more types list (texts names) (lists_in c.loop-i.parents.items)
          (lists_in c.taken-under.new.lists.items) c.loop-i.i
          c.taken-under.ensures.others c.loop-i.invariant.left;
      made =
          type_more types list names (lists_in c.loop-i.parents.items) c.loop-i.i
          (get_or names c.loop-i.i no_name)
          c.taken-under.result.items c.loop-i.types.items c.push.new.self.items c.in_ok-definition.definition
          c.loop-i-test.true refl c.taken-under.ensures.list c.in_ok-definition.ensures
          c.in_ok-push.ensures.items
          c.loop-i.invariant.left c.loop-i.invariant.made;
    }
