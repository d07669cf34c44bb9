use Rattle.std.proofs.Common.{◌<◌, ◌≤◌, List, length, sym, ap, subst, ◌∙◌}
use Rattle.pl_task.specs.States.{state_of}
use Rattle.pl_task.specs.declared.data.Atom.{Atom}
use Rattle.pl_task.specs.declared.data.PredicateDef.{PredicateDef}
use Rattle.pl_state.specs.Layout.{IsLayoutOf}
use Rattle.pl_state.proofs.Buildings.{AreBuilt, built_none, built_static, built_more, built_all}
use Rattle.pl_state.proofs.Packings.{atoms_at}
use Rattle.pl_state.proofs.Readings.{definition_read}
use Rattle.pl_state.proofs.StatesOfWords.{layout_state, state_in-whole}
use Rattle.pl_state.proofs.packing.pack.Goals as goal

pub loop-number-init : goal.loop-number-init
loop-number-init c =
    subst (AreBuilt c.args.task.now (state_of c.args.atoms.now) 0) (sym c.new-words.ensures.items)
    (built_none c.args.task.now (state_of c.args.atoms.now))

pub loop-number-preserved-then-definition : goal.loop-number-preserved-then-definition
loop-number-preserved-then-definition c =
    let within : c.loop-number.number < length c.args.task.now.predicates =
    subst (λ ps. c.loop-number.number < length ps) c.as_slice-predicates.ensures c.loop-number-test.true in
    let found = definition_read c.args.task.now c.as_slice-predicates.result.now c.loop-number.number
    c.index-predicates-number.result c.as_slice-predicates.ensures within c.index-predicates-number.is in
    built_static c.args.task.now (state_of c.args.atoms.now) c.loop-number.number c.loop-number.words.items
    c.index-predicates-number.result found c.if-definition.true c.loop-number.invariant

pub pack_part-requires : goal.pack_part-requires
pack_part-requires c =
    let within : c.loop-number.number < length c.args.task.now.predicates =
    subst (λ ps. c.loop-number.number < length ps) c.as_slice-predicates.ensures c.loop-number-test.true in
    let found = definition_read c.args.task.now c.as_slice-predicates.result.now c.loop-number.number
    c.index-predicates-number.result c.as_slice-predicates.ensures within c.index-predicates-number.is in
    atoms_at c.args.task.now.objects c.args.task.now.predicates c.args.atoms.now c.loop-number.number
    c.index-predicates-number.result c.requires found

pub loop-number-preserved : goal.loop-number-preserved
loop-number-preserved c =
    let within : c.loop-number.number < length c.args.task.now.predicates =
    subst (λ ps. c.loop-number.number < length ps) c.as_slice-predicates.ensures c.loop-number-test.true in
    let found = definition_read c.args.task.now c.as_slice-predicates.result.now c.loop-number.number
    c.index-predicates-number.result c.as_slice-predicates.ensures within c.index-predicates-number.is in
    built_more c.args.task.now (state_of c.args.atoms.now) c.loop-number.number c.loop-number.words.items
    c.pack_part.new.words.items c.index-predicates-number.result found c.if-definition.false
    c.loop-number.invariant
    c.in_ok-pack_part.ensures

pub returns-clause-layout : goal.returns-clause-layout
returns-clause-layout c =
    subst (IsLayoutOf c.args.task.now (state_of c.args.atoms.now)) (sym c.of.ensures)
    (built_all c.args.task.now (state_of c.args.atoms.now) c.loop-number.number c.loop-number.words.items
    (subst (λ (ps : List PredicateDef). length ps ≤ c.loop-number.number) c.as_slice-predicates.ensures
    c.loop-number-test.false) c.loop-number.invariant)

pub returns-clause-kept : goal.returns-clause-kept
returns-clause-kept c =
    layout_state c.args.task.now (state_of c.args.atoms.now) c.of.result (returns-clause-layout c)

pub returns-clause-initial : goal.returns-clause-initial
returns-clause-initial c = λ e.
    state_in-whole c.args.task.now (state_of c.args.atoms.now) c.of.result (returns-clause-layout c)
    (λ a _. ap (λ (l : List Atom). state_of l a) e) ∙ ap state_of e
