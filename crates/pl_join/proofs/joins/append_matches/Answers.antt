use Rattle.std.proofs.Common.{◌≡◌, arith}
use Rattle.std.proofs.lemmas.List.{take_rest}
use Rattle.pl_join.specs.Source.{glued}
use Rattle.pl_join.proofs.Joining.{appended_none, appended_twice}
use Rattle.pl_join.proofs.joins.append_matches.Goals as goal

pub loop-place-init : goal.loop-place-init
loop-place-init g c =
    record {
      matches = appended_none (glued c.args.width c.args.row.now) c.args.table.now.rows
          c.args.range.from _;
      rise = omega arith;
    }

pub loop-place-preserved : goal.loop-place-preserved
loop-place-preserved g c = record {
  matches = appended_twice c.args.width c.args.table.now.rows c.args.range.from c.loop-place.place
      c.args.row.now c.row-other.result.now _ _ _ _ _
      c.loop-place.auto.place c.row-other.ensures.row c.loop-place.invariant.matches
      c.in_ok-append.ensures.items c.in_ok-append-2.ensures.items
      (take_rest c.row-other.result.now c.args.width);
  rise = omega (arith, c.row-other.ensures.cost, c.loop-place.invariant.rise);
}

pub returns-clause-matches : goal.returns-clause-matches
returns-clause-matches g c =
    let end : c.args.range.to ≡ c.loop-place.place =
    omega (arith, c.loop-place.auto.place-end c.requires.in_order) in
    rw end c.loop-place.invariant.matches
