use Rattle.std.proofs.Common.{[], length, ap, refl, ◌∙◌, arith}
use Rattle.pl_hyper.specs.ClassOrder.{class_order}
use Rattle.pl_reduce.specs.Handed.{handed_in}
use Rattle.pl_reduce.proofs.PlanNodes.{nodes_within, nodes_remain}
use Rattle.pl_reduce.proofs.Wholes.{arranged_moved}
use Rattle.pl_reduce.proofs.Keyings.{fixed_held, parents_edges, lent_of_result, lent_pairs}
use Rattle.pl_reduce.proofs.Origins.{handed_none, keyed_lent}
use Rattle.pl_reduce.proofs.fixing.fix_all.Goals as goal

pub arrange_fixed-requires-clause-held : goal.arrange_fixed-requires-clause-held
arrange_fixed-requires-clause-held g c = λ k r some e.
    fixed_held c.args.plan.now c.args.fixed.items c.args.classes.now k r c.removed-ears.ensures.walkable
    c.requires.fixed c.requires.classes some e

pub reduce_fixed-requires-clause-filled : goal.reduce_fixed-requires-clause-filled
reduce_fixed-requires-clause-filled g c =
    omega (
      arith,
      c.in_ok-arrange_fixed.ensures.arranged.many,
      c.requires.fixed.many,
    )

pub reduce_fixed-requires-clause-many : goal.reduce_fixed-requires-clause-many
reduce_fixed-requires-clause-many g c =
    omega (
      arith,
      c.in_ok-arrange_fixed.ensures.arranged.many,
      c.requires.fixed.many,
      c.requires.parents.many,
    )

pub reduce_fixed-requires-clause-within : goal.reduce_fixed-requires-clause-within
reduce_fixed-requires-clause-within g c = λ i some l.
    (let within = nodes_within c.args.plan.now c.args.parents.now c.requires.parents i some
    (omega (arith, l, c.requires.parents.many)) in
    omega (
      arith,
      within,
      c.in_ok-arrange_fixed.ensures.arranged.many,
      c.requires.fixed.many,
    ))

pub reduce_fixed-requires-clause-remain : goal.reduce_fixed-requires-clause-remain
reduce_fixed-requires-clause-remain g c = λ i some l.
    nodes_remain c.args.plan.now c.args.parents.now c.removed-ears.ensures.walkable c.requires.parents i some
    (omega (arith, l, c.requires.parents.many))

pub key_all-requires-clause-few : goal.key_all-requires-clause-few
key_all-requires-clause-few g c =
    omega (
      arith,
      c.in_ok-reduce_fixed.ensures.fixed.many,
      c.in_ok-arrange_fixed.ensures.arranged.many,
      c.requires.fixed.many,
      ap length c.removed-ears.ensures.removed,
    )

pub key_all-requires-clause-parents : goal.key_all-requires-clause-parents
key_all-requires-clause-parents g c = parents_edges c.args.plan.now c.edges.result.now
    c.removed-ears.result.now c.edges.ensures.edges c.removed-ears.ensures.removed
    c.removed-ears.ensures.walkable

pub reduce_fixed-requires-clause-origins : goal.reduce_fixed-requires-clause-origins
reduce_fixed-requires-clause-origins g c = c.in_ok-arrange_fixed.ensures.many

pub returns-clause-lent : goal.returns-clause-lent
returns-clause-lent g c =
    lent_of_result c.args.plan.now c.edges.result.now c.removed-ears.result.now
    c.args.fixed.items c.arrange_fixed.new.nodes.items c.reduce_fixed.new.nodes.items c.in_ok-lent.lent.items
    c.edges.ensures.edges c.removed-ears.ensures.removed
    (arranged_moved (class_order c.args.plan.now) c.args.classes.now c.args.fixed.items
    c.args.fixed.items c.arrange_fixed.new.nodes.items c.requires.order refl
    c.in_ok-arrange_fixed.ensures.arranged)
    c.in_ok-reduce_fixed.ensures.fixed c.in_ok-lent.ensures.keyed

pub returns-clause-pairs : goal.returns-clause-pairs
returns-clause-pairs g c =
    lent_pairs
    (record { edges = c.edges.result.now; removed = c.removed-ears.result.now; core = [] })
    c.args.parents.now c.reduce_fixed.new.nodes.items c.in_ok-lent.lent.items c.in_ok-lent.ensures.keyed
    c.in_ok-reduce_fixed.ensures.pairs

pub returns-clause-handed : goal.returns-clause-handed
returns-clause-handed g c =
    ap (handed_in c.reduce_fixed.new.origins.items)
    (keyed_lent (record { edges = c.edges.result.now; removed = c.removed-ears.result.now; core = [] })
    c.reduce_fixed.new.nodes.items c.in_ok-lent.lent.items c.in_ok-lent.ensures.keyed)
    ∙ (c.in_ok-reduce_fixed.ensures.handed ∙ (c.in_ok-arrange_fixed.ensures.handed
    ∙ handed_none c.in_ok-origins.origins.items c.args.fixed.items c.in_ok-origins.ensures.none))
