use Rattle.std.proofs.Common.{◌≡◌, ◌∙◌, sym, [], List, ℕ}
use Rattle.pl_names.specs.Names.{texts}
use Rattle.pl_names.specs.Entries.{AreEntriesOf}
use Rattle.pl_names.proofs.Looking.{bracket_read, entries_read, narrowed_on, found_first, found_last}
use Rattle.pl_names.proofs.names.Names.find.Goals as goal

pub bisect-first-requires-clause-in_order : goal.bisect-first-requires-clause-in_order
bisect-first-requires-clause-in_order c =
    (bracket_read c.self.inside.entries.items c.as_slice-entries.result.now c.self.inside.shift
    c.self.inside.starts.items c.key_of-key.result _ _ c.as_slice-entries.ensures.value
    c.self.invariant.directory c.key_of-key.type_inv c.index.ensures c.index-2.ensures).in_order

pub bisect-first-requires-clause-within : goal.bisect-first-requires-clause-within
bisect-first-requires-clause-within c =
    (bracket_read c.self.inside.entries.items c.as_slice-entries.result.now c.self.inside.shift
    c.self.inside.starts.items c.key_of-key.result _ _ c.as_slice-entries.ensures.value
    c.self.invariant.directory c.key_of-key.type_inv c.index.ensures c.index-2.ensures).within

pub bisect-first-requires-clause-narrowed : goal.bisect-first-requires-clause-narrowed
bisect-first-requires-clause-narrowed c =
    (bracket_read c.self.inside.entries.items c.as_slice-entries.result.now c.self.inside.shift
    c.self.inside.starts.items c.key_of-key.result _ _ c.as_slice-entries.ensures.value
    c.self.invariant.directory c.key_of-key.type_inv c.index.ensures c.index-2.ensures).narrowed []

pub returns-then-is_some : goal.returns-then-is_some
returns-then-is_some c =
    found_first c.args.self.now c.as_slice-entries.result.now c.args.name.now c.key_of-key.result
    c.bisect-first.result c.number_at-found.result
    (entries_read c.args.self.now (texts c.self.inside.list.items) c.self.inside.entries.items
    c.as_slice-entries.result.now (sym c.self.view_is) c.as_slice-entries.ensures.value
    c.self.invariant.entries_are)
    c.key_of-key.ensures c.bisect-first.ensures.narrowed c.number_at-found.ensures
    (sym c.is_some.ensures ∙ c.if-is_some.true)

pub bisect-place-requires-clause-within : goal.bisect-place-requires-clause-within
bisect-place-requires-clause-within c =
    (bracket_read c.self.inside.entries.items c.as_slice-entries.result.now c.self.inside.shift
    c.self.inside.starts.items c.key_of-key.result _ _ c.as_slice-entries.ensures.value
    c.self.invariant.directory c.key_of-key.type_inv c.index.ensures c.index-2.ensures).within

pub bisect-place-requires-clause-narrowed : goal.bisect-place-requires-clause-narrowed
bisect-place-requires-clause-narrowed c =
    narrowed_on c.as_slice-entries.result.now c.key_of-key.result c.args.name.now c.index.result.now
    c.bisect-first.result c.index-2.result.now
    (bracket_read c.self.inside.entries.items c.as_slice-entries.result.now c.self.inside.shift
    c.self.inside.starts.items c.key_of-key.result _ _ c.as_slice-entries.ensures.value
    c.self.invariant.directory c.key_of-key.type_inv c.index.ensures c.index-2.ensures)
    c.bisect-first.ensures.narrowed

pub returns : goal.returns
returns c =
    found_last c.args.self.now c.as_slice-entries.result.now c.args.name.now c.key_of-key.result
    c.bisect-place.result c.number_at.result
    (entries_read c.args.self.now (texts c.self.inside.list.items) c.self.inside.entries.items
    c.as_slice-entries.result.now (sym c.self.view_is) c.as_slice-entries.ensures.value
    c.self.invariant.entries_are)
    c.key_of-key.ensures c.bisect-place.ensures.narrowed c.number_at.ensures
