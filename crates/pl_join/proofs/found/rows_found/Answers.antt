use Rattle.std.proofs.Common.{◌≢◌, length, sym, ◌∙◌, arith}
use Rattle.std.proofs.lemmas.Bool.{false≢true}
use Rattle.pl_join.specs.Found.{rows_in}
use Rattle.pl_join.proofs.Founds.{found_most, found_all, found_same}
use Rattle.pl_join.proofs.found.rows_found.Goals as goal

pub cover_all-requires-clause-most : goal.cover_all-requires-clause-most
cover_all-requires-clause-most g c =
    rw (c.table-table.ensures, c.as_slice-ranges.ensures.value)
    (found_most c.args.indexed.now.table.rows c.args.keys.now.rows c.find_ranges.new.ranges.items
    c.args.keys.now.arity c.in_ok-find_ranges.ensures.found c.find_ranges.ensures.keys)

pub returns-then-cover_all-clause-all : goal.returns-then-cover_all-clause-all
returns-then-cover_all-clause-all g c =
    rw (← c.requires.width)
    (found_all c.args.indexed.now.table.rows c.args.keys.now.rows c.find_ranges.new.ranges.items
    c.args.keys.now.arity c.in_ok-find_ranges.ensures.found c.find_ranges.ensures.keys
    (rw (c.table-table.ensures, c.as_slice-ranges.ensures.value) at
    (c.cover_all.ensures.all.0 c.if-cover_all.true)))

pub gathered-requires-clause-most : goal.gathered-requires-clause-most
gathered-requires-clause-most g c =
    rw (c.table-table.ensures, c.as_slice-ranges.ensures.value)
    (found_most c.args.indexed.now.table.rows c.args.keys.now.rows c.find_ranges.new.ranges.items
    c.args.keys.now.arity c.in_ok-find_ranges.ensures.found c.find_ranges.ensures.keys)

pub returns-clause-same : goal.returns-clause-same
returns-clause-same g c =
    rw (← c.requires.width)
    (found_same c.args.indexed.now.table.rows c.args.keys.now.rows c.find_ranges.new.ranges.items
    c.args.keys.now.arity c.in_ok-gathered.field-0.rows c.in_ok-find_ranges.ensures.found
    c.find_ranges.ensures.keys
    (rw (c.table-table.ensures, c.as_slice-ranges.ensures.value) at c.in_ok-gathered.ensures.same))

pub returns-clause-fewer : goal.returns-clause-fewer
returns-clause-fewer g c =
    let most = found_most c.args.indexed.now.table.rows c.args.keys.now.rows c.find_ranges.new.ranges.items
    c.args.keys.now.arity c.in_ok-find_ranges.ensures.found c.find_ranges.ensures.keys in
    let some : length (rows_in c.args.indexed.now.table.rows c.find_ranges.new.ranges.items) ≢ length
    c.args.indexed.now.table.rows =
    λ e. false≢true
    (sym c.if-cover_all.false
    ∙ (rw (c.table-table.ensures, c.as_slice-ranges.ensures.value) at c.cover_all.ensures.all).1 e) in
    let made = rw (c.table-table.ensures, c.as_slice-ranges.ensures.value) at
    c.in_ok-gathered.ensures.fewer in
    omega (arith, most, some, made)
