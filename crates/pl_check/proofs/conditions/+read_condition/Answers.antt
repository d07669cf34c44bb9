-- What each head says of the faults and the literals of a list.
use Rattle.std.proofs.Common.{◌≡◌, ◌++◌, refl, sym, ap, ◌∙◌, ◌≤◌, length, arith, append-nil, true}
use Rattle.std.specs.List.{flat_map}
use Rattle.std.proofs.lemmas.List.{at_drop_all}
use Rattle.pl_check.specs.Conditions.{condition_faults, condition_own}
use Rattle.pl_check.specs.Elements.{trees, is_list}
use Rattle.pl_check.specs.FaultLists.{first}
use Rattle.pl_check.specs.Literals.{literals_of}
use Rattle.pl_check.specs.Reading.{scope_in}
use Rattle.pl_check.specs.declared.head.Head.TheVariants as head
use Rattle.pl_check.proofs.ConditionLemmas.{faults_nothing, literals_nothing, faults_and, literals_and}
use Rattle.pl_check.proofs.ConditionLemmas.{faults_not, literals_not, faults_basic, literals_basic}
use Rattle.pl_check.proofs.WalkLemmas.{reads_as, refuses_here, left_end}
use Rattle.pl_check.proofs.conditions.+read_condition.Goals as goal

pub returns-in-Err : goal.returns-in-Err
returns-in-Err t c =
    refuses_here (condition_faults (scope_in c.args.scope.now) c.args.equality) _ _ _ _ _ _ _
    c.loop-conjunct-test.true
    (ap first (faults_and _ _ _ _ _ _ _ c.in-List.is c.as_slice-elements.ensures.value
    c.rest-inner.ensures c.in-And.ensures) ∙
    c.loop-conjunct.invariant.0)
    c.conjunct-item.is c.in-Err.is c.read_condition.ensures

pub returns-in-Nothing : goal.returns-in-Nothing
returns-in-Nothing t c = (
  faults_nothing _ _ _ _ _ _ _ c.in-List.is c.as_slice-elements.ensures.value
      c.rest-inner.ensures c.in-Nothing.ensures,
  sym (append-nil _) ∙ ap (λ l. c.args.literals.now.items ++ l)
      (sym (literals_nothing (scope_in c.args.scope.now) c.args.equality _ _ _ _ _ c.in-List.is
      c.as_slice-elements.ensures.value c.rest-inner.ensures c.in-Nothing.ensures)),
)

pub returns-after-loop-conjunct : goal.returns-after-loop-conjunct
returns-after-loop-conjunct t c =
    let past : length c.rest-inner.result.now ≤ c.loop-conjunct.conjunct-index = omega arith in (
      ap first (faults_and _ _ _ _ _ _ _ c.in-List.is c.as_slice-elements.ensures.value
          c.rest-inner.ensures c.in-And.ensures) ∙
          c.loop-conjunct.invariant.0 ∙ left_end _ _ _ past,
      sym (ap (λ l. c.args.literals.now.items ++ l)
          (literals_and (scope_in c.args.scope.now) c.args.equality _ _ _ _ _ c.in-List.is
          c.as_slice-elements.ensures.value c.rest-inner.ensures c.in-And.ensures) ∙
          c.loop-conjunct.invariant.1 ∙
          ap (λ l. c.loop-conjunct.literals.items ++ l)
          (at_drop_all (λ l. flat_map (literals_of (scope_in c.args.scope.now)) (trees l))
          c.rest-inner.result.now c.loop-conjunct.conjunct-index past) ∙
          append-nil _),
    )

pub returns-in-Not : goal.returns-in-Not
returns-in-Not t c =
    reads_as _ _ _ _ _
    (faults_not _ _ _ _ _ _ _ c.in-List.is c.as_slice-elements.ensures.value
    c.rest-inner.ensures c.in-Not.ensures)
    (λ v h. h ∙ ap (λ l. c.args.literals.now.items ++ l)
    (sym (literals_not (scope_in c.args.scope.now) c.args.equality _ _ _ _ _ c.in-List.is
    c.as_slice-elements.ensures.value c.rest-inner.ensures c.in-Not.ensures)))
    c.read_negated.ensures

pub returns-in-NoName : goal.returns-in-NoName
returns-in-NoName t c =
    reads_as _ _ _ _ _
    (faults_basic _ _ _ _ _ _ _ c.in-List.is c.as_slice-elements.ensures.value c.rest-inner.ensures
    head.NoName refl c.in-NoName.ensures)
    (λ v h. h ∙ ap (λ l. c.args.literals.now.items ++ l)
    (sym (literals_basic (scope_in c.args.scope.now) c.args.equality _ _ _ _ _ c.in-List.is
    c.as_slice-elements.ensures.value c.rest-inner.ensures head.NoName refl c.in-NoName.ensures)))
    c.add_basic.ensures

pub returns-in-Equals : goal.returns-in-Equals
returns-in-Equals t c =
    reads_as _ _ _ _ _
    (faults_basic _ _ _ _ _ _ _ c.in-List.is c.as_slice-elements.ensures.value c.rest-inner.ensures
    head.Equals refl c.in-Equals.ensures)
    (λ v h. h ∙ ap (λ l. c.args.literals.now.items ++ l)
    (sym (literals_basic (scope_in c.args.scope.now) c.args.equality _ _ _ _ _ c.in-List.is
    c.as_slice-elements.ensures.value c.rest-inner.ensures head.Equals refl c.in-Equals.ensures)))
    c.add_basic-in-Equals.ensures

pub returns-in-Reserved : goal.returns-in-Reserved
returns-in-Reserved t c =
    reads_as _ _ _ _ _
    (faults_basic _ _ _ _ _ _ _ c.in-List.is c.as_slice-elements.ensures.value c.rest-inner.ensures
    head.Reserved refl c.in-Reserved.ensures)
    (λ v h. h ∙ ap (λ l. c.args.literals.now.items ++ l)
    (sym (literals_basic (scope_in c.args.scope.now) c.args.equality _ _ _ _ _ c.in-List.is
    c.as_slice-elements.ensures.value c.rest-inner.ensures head.Reserved refl c.in-Reserved.ensures)))
    c.add_basic-in-Reserved.ensures

pub returns-in-Name : goal.returns-in-Name
returns-in-Name t c =
    reads_as _ _ _ _ _
    (faults_basic _ _ _ _ _ _ _ c.in-List.is c.as_slice-elements.ensures.value c.rest-inner.ensures
    head.Name refl c.in-Name.ensures)
    (λ v h. h ∙ ap (λ l. c.args.literals.now.items ++ l)
    (sym (literals_basic (scope_in c.args.scope.now) c.args.equality _ _ _ _ _ c.in-List.is
    c.as_slice-elements.ensures.value c.rest-inner.ensures head.Name refl c.in-Name.ensures)))
    c.add_basic-in-Name.ensures
