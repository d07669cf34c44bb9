use Rattle.std.proofs.Common.{◌≡◌, ap, filter, count_by, slice_range, subst, arith}
use Rattle.pl_rows.specs.Rows.{IndexedRows, AreRowsOf, is_below, begins_with}
use Rattle.pl_rows.specs.Layout.{IsFound}
use Rattle.pl_rows.proofs.Directory.{found_rows, found_count, found_all, one_key}
use Rattle.pl_rows.proofs.indexed.Indexed.find.Goals as goal

pub returns-in-Some-clause-from : goal.returns-in-Some-clause-from
returns-in-Some-clause-from g c =
    let one = one_key c.args.key.now (omega (
      arith,
      c.requires,
      ap (λ (x : IndexedRows). x.width)
          c.self.view_is,
      c.if-self-eq1.true,
    )) in
    let found = subst (λ key. IsFound key c.self.inside.table.rows c.in-Some.range.from c.in-Some.range.to)
    one c.in-Some.ensures in
    subst (λ (x : IndexedRows). c.in-Some.range.from ≡ count_by (is_below c.args.key.now) x.table.rows)
    c.self.view_is
    (found_count c.args.key.now _ _ _ found)

pub returns-in-Some-clause-all : goal.returns-in-Some-clause-all
returns-in-Some-clause-all g c =
    let one = one_key c.args.key.now (omega (
      arith,
      c.requires,
      ap (λ (x : IndexedRows). x.width)
          c.self.view_is,
      c.if-self-eq1.true,
    )) in
    let found = subst (λ key. IsFound key c.self.inside.table.rows c.in-Some.range.from c.in-Some.range.to)
    one c.in-Some.ensures in
    subst (λ (x : IndexedRows). slice_range x.table.rows c.in-Some.range.from c.in-Some.range.to ≡ filter
    (begins_with c.args.key.now) x.table.rows) c.self.view_is
    (found_all c.args.key.now _ _ _ found)

pub returns-clause-rows : goal.returns-clause-rows
returns-clause-rows g c =
    subst (λ (x : IndexedRows). AreRowsOf c.args.key.now x.table.rows c.bisected-from.result
    c.bisected-to.result) c.self.view_is
    (found_rows c.args.key.now _ _ _ (record {
      in_order = c.bisected-to.ensures.from;
      within = omega (arith, c.bisected-to.ensures.to, c.near-near.ensures.within);
      below = c.bisected-from.ensures.narrowed;
      at_most = c.bisected-to.ensures.narrowed;
    }))

pub returns-clause-from : goal.returns-clause-from
returns-clause-from g c =
    subst (λ (x : IndexedRows). c.bisected-from.result ≡ count_by (is_below c.args.key.now) x.table.rows)
    c.self.view_is
    (found_count c.args.key.now _ _ c.bisected-to.result (record {
      in_order = c.bisected-to.ensures.from;
      within = omega (arith, c.bisected-to.ensures.to, c.near-near.ensures.within);
      below = c.bisected-from.ensures.narrowed;
      at_most = c.bisected-to.ensures.narrowed;
    }))

pub returns-clause-all : goal.returns-clause-all
returns-clause-all g c =
    subst (λ (x : IndexedRows). slice_range x.table.rows c.bisected-from.result c.bisected-to.result ≡ filter
    (begins_with c.args.key.now) x.table.rows) c.self.view_is
    (found_all c.args.key.now _ _ _ (record {
      in_order = c.bisected-to.ensures.from;
      within = omega (arith, c.bisected-to.ensures.to, c.near-near.ensures.within);
      below = c.bisected-from.ensures.narrowed;
      at_most = c.bisected-to.ensures.narrowed;
    }))
