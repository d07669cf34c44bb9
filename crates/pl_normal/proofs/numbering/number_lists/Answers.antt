use Rattle.std.proofs.Common.{◌∙◌, ◌+◌, ap, arith}
use Rattle.pl_normal.specs.Kinds.{lists_of}
use Rattle.pl_normal.proofs.Numbers.{longer_by_one, numbers_more, numbers_end}
use Rattle.pl_normal.proofs.numbering.number_lists.Goals as goal

pub loop-i-preserved : goal.loop-i-preserved
loop-i-preserved c = record {
  known = c.in_ok-number_of.ensures.known;
  many = longer_by_one c.loop-i.numbers.items c.push.new.self.items c.in_ok-number_of.field-0
      c.in_ok-push.ensures.items ∙ ap (λ n. n + 1) c.loop-i.invariant.many;
  each = numbers_more (lists_of c.args.lists.now) c.loop-i.firsts.items c.number_of.new.firsts.items
      c.loop-i.numbers.items c.push.new.self.items c.loop-i.i c.in_ok-number_of.field-0
      c.loop-i.invariant.many c.in_ok-push.ensures.items
      c.in_ok-number_of.ensures.goes_on c.in_ok-number_of.ensures.number c.loop-i.invariant.each;
}

pub returns : goal.returns
returns c = numbers_end c.args.lists.now c.loop-i.firsts.items c.loop-i.numbers.items c.loop-i.i
    (omega (arith, c.loop-i-test.false, c.loop-i.auto.i-end)) c.loop-i.invariant.many
    c.loop-i.invariant.known.places c.loop-i.invariant.each
