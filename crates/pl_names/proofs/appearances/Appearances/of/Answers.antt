use Rattle.std.proofs.Common.{◌≡◌, ◌-◌, ◌∙◌, ap, sym, length, rules, arith, ℕ, List}
use Rattle.pl_names.specs.Names.{texts}
use Rattle.pl_names.proofs.Firsts.{step_again, step_more, numbered_from}
use Rattle.pl_names.proofs.appearances.Appearances.of.Goals as goal
use Rattle.pl_names.proofs.appearances.Appearances.of.Goals.{in-Some, in-None+in_ok-push-in-None}

pub loop-i-preserved : goal.loop-i-preserved
loop-i-preserved c = elim c.match-earlier.branch [
  | in-Some w ↦
      step_again c.names-name-items.result.now c.loop-i.names.items c.match-earlier.names.items
      c.in_ok-occurrences.occurrences c.loop-i.numbers.items c.push-in-loop-i.new.self.items c.loop-i.i
      w.in-Some.first c.match-earlier.number w.index.result.now c.earlier.result
      c.names-name-items.ensures.names c.loop-i-test.true c.earlier.ensures w.in-Some.is
      w.number-is w.index.ensures
      (ap (λ v. v.items) w.names-is) c.in_ok-push.ensures.items c.loop-i.invariant
  | in-None+in_ok-push-in-None w ↦ (
      let count : c.match-earlier.number ≡ length c.match-earlier.names.items - 1 = search rules in
      step_more c.names-name-items.result.now c.loop-i.names.items c.match-earlier.names.items
      c.in_ok-occurrences.occurrences c.loop-i.numbers.items c.push-in-loop-i.new.self.items c.loop-i.i
      c.match-earlier.number c.earlier.result
      c.names-name-items.ensures.names c.loop-i-test.true c.earlier.ensures w.in-None.is
      (ap (λ v. v.items) w.names-is ∙ w.in_ok-push-in-None.ensures.items) count
      c.in_ok-push.ensures.items c.loop-i.invariant)
]

pub invariant_of-result : goal.invariant_of-result
invariant_of-result c =
    numbered_from c.names-name-items.result.now c.in_ok-occurrences.occurrences
    c.loop-i.i c.loop-i.names.items
    c.loop-i.numbers.items c.names-name-items.ensures.names c.loop-i-test.false
    c.loop-i.auto.i-end c.loop-i.invariant
