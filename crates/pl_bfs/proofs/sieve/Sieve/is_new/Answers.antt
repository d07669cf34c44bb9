use Rattle.std.proofs.Common.{true, refl}
use Rattle.pl_bfs.proofs.Sifted.{found_new, found_stale, told_before, told_held, told_unheld}
use Rattle.pl_bfs.proofs.sieve.Sieve.is_new.Goals as goal

pub returns-then-branch : goal.returns-then-branch
returns-then-branch c = record {
  sifts = λ k notes. found_new c.args.task.now k c.args.registry.now c.args.state.now c.args.self.now
      (record { novelty = c.note_step.new.self; left_out = c.args.self.now.left_out })
      c.in_ok-note_step.field-0
      c.new_sets_are_novel.ensures.novel c.in_ok-note_step.ensures.yes c.in_ok-note_step.ensures.noted notes
      c.noting_is_seeing.ensures.seeing c.if-branch.true refl;
}

pub returns-then-self : goal.returns-then-self
returns-then-self c = record {
  sifts = λ k notes. found_stale c.args.task.now k c.args.registry.now c.args.state.now c.args.self.now
      (record { novelty = c.note_step.new.self; left_out = c.args.self.now.left_out })
      c.in_ok-note_step.field-0 c.new_sets_are_novel.ensures.novel c.in_ok-note_step.ensures.yes
      c.in_ok-note_step.ensures.noted notes c.if-branch.false
      (told_before c.args.registry.now c.args.state.now c.args.self.now.left_out c.if-self.true);
}

pub returns-then-is_none : goal.returns-then-is_none
returns-then-is_none c = record {
  sifts = λ k notes. found_stale c.args.task.now k c.args.registry.now c.args.state.now c.args.self.now
      (record { novelty = c.note_step.new.self; left_out = true }) c.in_ok-note_step.field-0
      c.new_sets_are_novel.ensures.novel c.in_ok-note_step.ensures.yes c.in_ok-note_step.ensures.noted notes
      c.if-branch.false
      (told_unheld c.args.registry.now c.args.state.now c.args.self.now.left_out c.find.result c.find.ensures
      c.if-is_none.ensures);
}

pub returns-else-is_none : goal.returns-else-is_none
returns-else-is_none c = record {
  sifts = λ k notes. found_stale c.args.task.now k c.args.registry.now c.args.state.now c.args.self.now
      (record { novelty = c.note_step.new.self; left_out = c.args.self.now.left_out })
      c.in_ok-note_step.field-0
      c.new_sets_are_novel.ensures.novel c.in_ok-note_step.ensures.yes c.in_ok-note_step.ensures.noted notes
      c.if-branch.false
      (told_held c.args.registry.now c.args.state.now c.args.self.now.left_out c.find.result c.find.ensures
      c.if-is_none.ensures);
}
