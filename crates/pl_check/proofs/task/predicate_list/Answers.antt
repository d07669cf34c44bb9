use Rattle.std.proofs.Common.{◌≡◌, ◌<◌, ◌∙◌, false, sym, refl, arith, length, get_or, ap, List, ℕ, Bor}
use Rattle.std.proofs.lemmas.List.{length-map, get_or_read_under}
use Rattle.pl_task.specs.WellFormed.{is_fluent}
use Rattle.pl_names.specs.Names.{texts}
use Rattle.pl_check.specs.Stated.{predicates_from}
use Rattle.pl_check.proofs.GatheringLemmas.{predicate_more, predicates_all, no_name}
use Rattle.pl_check.proofs.task.predicate_list.Goals as goal

pub loop-i-preserved : goal.loop-i-preserved
loop-i-preserved c =
    let items = c.names-name-items.result.now in
    let arities = c.arities-arities.result.now in
    let count = length-map items (λ (x : Bor (List ℕ)). x.now) in
    let as_many : length (texts items) ≡ length arities =
    ap length (c.names-name-items.ensures.names ∙ c.predicates.ensures.names) ∙
    sym c.arities-arities.ensures.as_many in
    let within : c.loop-i.i < length c.in_ok-fluent.fluent.items =
    omega (
      arith,
      c.loop-i-test.true,
      as_many,
      count,
      c.arities-arities.ensures.as_many,
      c.arities.ensures.as_many,
      c.in_ok-fluent.ensures.length,
    ) in
    let fluent : c.index.result.now ≡ is_fluent c.args.schemas.now c.loop-i.i =
    get_or_read_under c.in_ok-fluent.fluent.items c.loop-i.i _ c.index.result.now false
    c.index.ensures within refl ∙
    c.in_ok-fluent.ensures.marks c.loop-i.i (omega (arith, within, c.in_ok-fluent.ensures.length)) in
    predicate_more c.args.schemas.now items arities c.loop-i.i (get_or items c.loop-i.i no_name)
    (get_or arities c.loop-i.i 0)
    c.index.result.now c.loop-i.predicates.items c.push.new.self.items c.in_ok-definition.definition
    c.loop-i-test.true as_many refl refl fluent c.in_ok-definition.ensures
    c.in_ok-push.ensures.items c.loop-i.invariant

pub returns : goal.returns
returns c =
    predicates_all c.args.schemas.now c.predicates.result.now c.names-name-items.result.now
    c.arities-arities.result.now c.loop-i.i
    c.loop-i.predicates.items c.names-name-items.ensures.names c.loop-i-test.false c.loop-i.invariant
    ∙ ap (λ xs. predicates_from c.args.schemas.now 0 xs c.arities-arities.result.now)
    c.predicates.ensures.names
    ∙ ap (predicates_from c.args.schemas.now 0 c.args.known.now.predicates) c.arities-arities.ensures.arities
