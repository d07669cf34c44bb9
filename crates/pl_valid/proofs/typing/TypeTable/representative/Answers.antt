use Rattle.std.proofs.Common.{get_or, sym, ◌∙◌}
use Rattle.pl_valid.proofs.StepLemmas.{object_read, only_type, same_types, alike_more}
use Rattle.pl_valid.proofs.typing.TypeTable.representative.Goals as goal

pub returns-in-Some-clause-same : goal.returns-in-Some-clause-same
returns-in-Some-clause-same c =
    let types = c.as_slice-types.result.now in
    let (d, at, only) = c.requires.known.alike (get_or types 0 0) c.in-Some.other.now
    (sym c.in-Some.ensures.value) in
    same_types c.args.task.now c.args.object c.in-Some.other.now c.as_slice.result.now
    c.index-as_slice-object.result d types (get_or types 0 0)
    c.as_slice.ensures c.requires.object c.index-as_slice-object.is c.as_slice-types.ensures
    (only_type types c.if-types-ne1.false) at only

pub returns-clause-known : goal.returns-clause-known
returns-clause-known c =
    let types = c.as_slice-types.result.now in
    let definition = c.index-as_slice-object in
    record {
      answers = c.requires.known.answers;
      alike = alike_more c.args.task.now c.args.self.now.alike c.insert.new.self (get_or types 0 0)
          c.args.object definition.result
          (object_read c.args.task.now c.args.object c.as_slice.result.now definition.result
          c.as_slice.ensures c.requires.object definition.is)
          (sym c.as_slice-types.ensures ∙ only_type types c.if-types-ne1.false) c.requires.known.alike
          c.in_ok-insert.ensures.updates.0;
    }
