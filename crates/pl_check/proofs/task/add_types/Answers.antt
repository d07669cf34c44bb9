use Rattle.std.proofs.Common.{ap, ◌∙◌, ◌++◌, [], map, take, get_or, set}
use Rattle.pl_check.specs.Gathering.{lists_in}
use Rattle.pl_check.specs.Reading.{numbered_in}
use Rattle.pl_check.proofs.GatheringLemmas.{number_within, step_added, step_skipped}
use Rattle.pl_check.proofs.task.add_types.Goals as goal
use Rattle.pl_check.proofs.task.add_types.Goals.{in-Some+in_ok-extend, in_default}

pub extend-requires : goal.extend-requires
extend-requires c =
    number_within c.args.names.now (map numbered_in (take c.loop-item.item-index c.args.items.now))
    c.args.lists.now.items
    c.loop-item.lists.items c.item-item.result.name.now c.in-Some.number c.find.result
    c.requires c.loop-item.invariant
    c.find.ensures c.in-Some.is

pub loop-item-preserved : goal.loop-item-preserved
loop-item-preserved c = elim c.match-find.branch [
  | in-Some+in_ok-extend w ↦
      step_added c.args.names.now c.args.items.now c.loop-item.item-index
      c.item-item.result c.args.lists.now.items
      c.loop-item.lists.items c.match-find.lists.items w.in-Some.number c.find.result
      c.loop-item-test.true c.item-item.is c.requires c.find.ensures w.in-Some.is
      (ap (λ v. lists_in v.items) w.lists-is ∙ w.in_ok-extend.ensures ∙
      ap (λ ns. set (lists_in c.loop-item.lists.items) w.in-Some.number
      (get_or (lists_in c.loop-item.lists.items) w.in-Some.number [] ++ ns)) w.as_slice.ensures.value)
      c.loop-item.invariant
  | in_default w ↦
      rw (w.lists-is)
      (step_skipped c.args.names.now c.args.items.now c.loop-item.item-index
      c.item-item.result c.args.lists.now.items
      c.loop-item.lists.items c.find.result c.loop-item-test.true c.item-item.is
      c.find.ensures w.in_default.is
      c.loop-item.invariant)
]
