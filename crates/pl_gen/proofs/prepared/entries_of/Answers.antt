use Rattle.std.proofs.Common.{ap, ◌∙◌, refl}
use Rattle.pl_task.specs.declared.task.Task.{Task}
use Rattle.pl_state.specs.StateOf.{state_in}
use Rattle.pl_gen.specs.Measures.{close_entry_probes}
use Rattle.pl_normal.proofs.Relating.{rises}
use Rattle.pl_gen.proofs.Sizes.{schemas_more}
use Rattle.pl_gen.proofs.Stepping.{entry_more}
use Rattle.pl_gen.proofs.prepared.entries_of.Goals as goal

pub loop-i-preserved : goal.loop-i-preserved
loop-i-preserved g c =
    let same = c.as_slice-schemas.ensures ∙ ap (λ (t : Task). t.schemas) c.task.ensures in (
      entry_more c.args.normal.now (state_in c.args.normal.now c.args.words.now) c.as_slice-schemas.result.now
          c.loop-i.i c.loop-i.entries.items c.push.new.self.items c.in_ok-entry_of.field-0
          c.index-schemas-i.result same c.loop-i-test.true c.index-schemas-i.is c.loop-i.invariant.0
          c.in_ok-push.ensures.items c.in_ok-entry_of.ensures.entry,
      rises c.args.steps.now c.loop-i.steps c.entry_of.new.steps c.entry_of.new.steps c.loop-i.invariant.1
          c.in_ok-entry_of.ensures.rise refl,
      schemas_more (close_entry_probes c.args.normal.now (state_in c.args.normal.now c.args.words.now))
          c.args.normal.now c.as_slice-schemas.result.now c.loop-i.i c.args.steps.now c.loop-i.steps
          c.entry_of.new.steps c.index-schemas-i.result same c.loop-i-test.true c.index-schemas-i.is
          c.loop-i.invariant.2 c.in_ok-entry_of.ensures.cost,
    )
