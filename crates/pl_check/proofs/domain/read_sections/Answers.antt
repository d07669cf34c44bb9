use Rattle.std.proofs.Common.{ℕ, List, arith, ◌∙◌, sym, ap}
use Rattle.std.proofs.lemmas.List.{map_push}
use Rattle.std.specs.Borrow.{Bor}
use Rattle.pl_names.specs.Names.{texts}
use Rattle.pl_text.specs.Trees.{tree_of}
use Rattle.pl_check.specs.Elements.{head_word}
use Rattle.pl_check.proofs.KnownLemmas.{few_at}
use Rattle.pl_check.proofs.DomainLemmas.{none_here, past_action, past_other}
use Rattle.pl_check.proofs.domain.read_sections.Goals as goal
use Rattle.pl_check.proofs.domain.read_sections.Goals.{in-Some+in_ok-push-in-Some, in-None+in_ok-push-in-None}

pub read_section-requires : goal.read_section-requires
read_section-requires c =
    few_at c.args.sections.now c.loop-section.section-index c.section-item.result
    c.loop-section-test.true c.section-item.is
    c.requires.inside

pub loop-section-preserved : goal.loop-section-preserved
loop-section-preserved c = elim c.match-found.branch [
  | in-Some+in_ok-push-in-Some w ↦
      let next =
      past_action c.args.text.now c.args.known.now c.args.actions.now c.args.sections.now
      c.loop-section.section-index
      c.section-item.result (texts c.loop-section.earlier.items) (texts c.match-found.earlier.items)
      c.loop-section.schemas.items c.match-found.schemas.items w.in-Some.schema
      c.loop-section-test.true c.section-item.is
      (none_here c.args.text.now c.args.known.now c.args.actions.now (tree_of c.section-item.result)
      c.as_slice.result.now
      c.loop-section.earlier.items c.len.result c.loop-section.schemas.items c.as_slice.ensures.value
      (omega (arith, c.len.ensures))
      c.in_ok-found.ensures.0)
      (sym c.in_ok-found.ensures.1 ∙ w.in-Some.is) (ap (λ v. texts v.items) w.earlier-is)
      (ap (λ v. v.items) w.schemas-is ∙ w.in_ok-push-in-Some.ensures.ok)
      (record {
        faults = c.loop-section.invariant.faults;
        schemas_are = c.loop-section.invariant.schemas;
        names_are = c.loop-section.invariant.names;
      }) in
      record { faults = next.faults; schemas = next.schemas_are; names = next.names_are }
  | in-None+in_ok-push-in-None w ↦
      let next =
      past_other c.args.text.now c.args.known.now c.args.actions.now c.args.sections.now
      c.loop-section.section-index
      c.section-item.result (texts c.loop-section.earlier.items) (texts c.match-found.earlier.items)
      c.loop-section.schemas.items c.match-found.schemas.items w.head.result.now
      c.loop-section-test.true c.section-item.is
      (none_here c.args.text.now c.args.known.now c.args.actions.now (tree_of c.section-item.result)
      c.as_slice.result.now
      c.loop-section.earlier.items c.len.result c.loop-section.schemas.items c.as_slice.ensures.value
      (omega (arith, c.len.ensures))
      c.in_ok-found.ensures.0)
      (sym c.in_ok-found.ensures.1 ∙ w.in-None.is)
      (w.head.ensures ∙ ap (head_word c.args.text.now) w.parts.ensures)
      (ap (λ v. texts v.items) w.earlier-is ∙ ap texts w.in_ok-push-in-None.ensures.ok ∙
      map_push (λ (x : Bor (List ℕ)). x.now) c.loop-section.earlier.items w.head.result)
      (ap (λ v. v.items) w.schemas-is)
      (record {
        faults = c.loop-section.invariant.faults;
        schemas_are = c.loop-section.invariant.schemas;
        names_are = c.loop-section.invariant.names;
      }) in
      record { faults = next.faults; schemas = next.schemas_are; names = next.names_are }
]
