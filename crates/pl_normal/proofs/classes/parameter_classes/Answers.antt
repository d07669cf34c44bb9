use Rattle.std.proofs.Common.{length, map, ap, ◌∙◌}
use Rattle.std.specs.List.{range_with_len}
use Rattle.std.proofs.lemmas.List.FromFn.{length-range_with_len}
use Rattle.pl_normal.specs.Classes.{class_of, equalities}
use Rattle.pl_normal.proofs.Loops.{written, classes_end, literals_for, own_range}
use Rattle.pl_normal.proofs.classes.parameter_classes.Goals as goal

pub join_parameters-requires-clause-start : goal.join_parameters-requires-clause-start
join_parameters-requires-clause-start c = own_range c.as_mut_slice-classes.result.now _
    (c.as_mut_slice-classes.ensures.value ∙ c.in_ok-all.ensures)

pub join_parameters-requires-clause-literals : goal.join_parameters-requires-clause-literals
join_parameters-requires-clause-literals c =
    literals_for (length c.args.schema.now.parameters) (length c.as_mut_slice-classes.result.now)
    c.as_slice-2.result.now c.args.schema.now.condition
    (ap length (c.as_mut_slice-classes.ensures.value ∙ c.in_ok-all.ensures)
    ∙ (length-range_with_len 0 _ ∙ ap length c.as_slice.ensures)) c.as_slice-2.ensures c.requires.literals

pub returns : goal.returns
returns c =
    written c.as_mut_slice-classes.result.now c.join_parameters.new.classes c.in_ok-all.all.items
    c.in_ok-all.all.len c.as_mut_slice-classes.ensures.value c.as_mut_slice-classes.ensures.len
    c.join_parameters.auto.classes
    ∙ classes_end c.args.schema.now c.join_parameters.new.classes (length c.as_mut_slice-classes.result.now)
    (length c.as_slice.result.now)
    (ap length (c.as_mut_slice-classes.ensures.value ∙ c.in_ok-all.ensures) ∙ length-range_with_len 0 _)
    (ap length c.as_slice.ensures)
    (c.join_parameters.ensures
    ∙ ap (λ xs. map (class_of (equalities xs))
    (range_with_len 0 (length c.as_mut_slice-classes.result.now))) c.as_slice-2.ensures)
