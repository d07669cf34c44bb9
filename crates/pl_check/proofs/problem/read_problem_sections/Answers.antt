use Rattle.std.proofs.Common.{[], ◌∷◌, ◌++◌, sym, ap, ◌∙◌, refl, codes, map, length, Bor, List, ℕ, ◌≡◌, arith}
use Rattle.std.specs.List.{flat_map}
use Rattle.std.proofs.lemmas.List.{nil_from_length}
use Rattle.pl_names.specs.Names.{texts}
use Rattle.pl_text.specs.Trees.{Tree}
use Rattle.pl_check.specs.Elements.{trees}
use Rattle.pl_check.specs.FaultLists.{first}
use Rattle.pl_check.specs.Known.{all_after}
use Rattle.pl_check.specs.Literals.{literals_of, ground_atom}
use Rattle.pl_check.specs.Sections.{problem_scope}
use Rattle.pl_check.proofs.SectionLemmas.{no_parameters}
use Rattle.pl_check.proofs.TakenLemmas.{faults_after, section_taken_refused, section_taken_passed, init_taken}
use Rattle.pl_check.proofs.TakenLemmas.{goal_taken, none_left, values_left}
use Rattle.pl_check.proofs.problem.read_problem_sections.Goals as goal

pub returns-in-Err : goal.returns-in-Err
returns-in-Err c =
    section_taken_refused c.args.text.now c.args.known.now _ (texts c.as_slice.result.now)
    (faults_after c.args.text.now c.args.known.now [] (trees c.args.sections.items))
    c.loop-section.section-iterator.rest.items c.next.new.self.rest.items c.in-Some.section c.in-Err.end
    (no_parameters c.args.text.now c.args.known.now c.in_ok-parameters.parameters
    c.in_ok-parameters.ensures.1)
    c.in-Some.ensures.steps.0
    (ap (λ (ks : List (Bor (List ℕ))). first
    (faults_after c.args.text.now c.args.known.now (texts ks)
    (trees c.loop-section.section-iterator.rest.items)))
    c.as_slice.ensures.value ∙ c.loop-section.invariant.faults)
    c.in-Err.ensures

pub loop-section-preserved : goal.loop-section-preserved
loop-section-preserved c =
    let same = no_parameters c.args.text.now c.args.known.now c.in_ok-parameters.parameters
    c.in_ok-parameters.ensures.1 in record {
      count = (let longer = ap length c.in-Some.ensures.steps.0 in omega arith);
      faults =
          section_taken_passed c.args.text.now c.args.known.now _ c.as_slice.result.now c.push.new.list.items
          c.in-Ok.key c.loop-section.section-iterator.rest.items c.next.new.self.rest.items c.in-Some.section
          same
          c.in-Some.ensures.steps.0
          (c.in_ok-push.ensures.ok ∙ ap (λ (es : List (Bor (List ℕ))). es ++ c.in-Ok.key ∷ [])
          (sym c.as_slice.ensures.value))
          c.in-Ok.ensures.1.0 c.in-Ok.ensures.1.1 c.in-Ok.ensures.0 ∙
          (ap (λ (ks : List (Bor (List ℕ))). first
          (faults_after c.args.text.now c.args.known.now (texts ks)
          (trees c.loop-section.section-iterator.rest.items)))
          c.as_slice.ensures.value ∙ c.loop-section.invariant.faults);
      init =
          init_taken c.args.text.now c.args.known.now _ (codes ":init")
          c.loop-section.section-iterator.rest.items
          c.next.new.self.rest.items c.in-Some.section c.loop-section.stated.init.items _ _ same
          c.in-Some.ensures.steps.0 c.in-Ok.ensures.1.2 c.loop-section.invariant.init;
      goal =
          goal_taken c.args.text.now c.args.known.now _ (codes ":goal")
          c.loop-section.section-iterator.rest.items
          c.next.new.self.rest.items c.in-Some.section c.loop-section.stated.goal.items _ _ same
          c.in-Some.ensures.steps.0 c.in-Ok.ensures.1.3 c.loop-section.invariant.goal;
    }

pub returns : goal.returns
returns c =
    let left = c.loop-section.section-iterator.rest.items in
    let none = nil_from_length left (c.loop-section.invariant.count ∙ c.in-None.ensures.steps.0) in (
      none_left (faults_after c.args.text.now c.args.known.now (texts c.loop-section.earlier.items))
          (faults_after c.args.text.now c.args.known.now [] (trees c.args.sections.items)) left none refl
          c.loop-section.invariant.faults,
      (
        values_left (λ (l : List Tree). map (ground_atom (problem_scope c.args.text.now c.args.known.now))
            (all_after c.args.text.now (codes ":init") l)) left c.loop-section.stated.init.items
            (map (ground_atom (problem_scope c.args.text.now c.args.known.now))
            (all_after c.args.text.now (codes ":init") (trees c.args.sections.items))) none refl
            c.loop-section.invariant.init,
        values_left (λ (l : List Tree). flat_map
            (literals_of (problem_scope c.args.text.now c.args.known.now))
            (all_after c.args.text.now (codes ":goal") l)) left c.loop-section.stated.goal.items
            (flat_map (literals_of (problem_scope c.args.text.now c.args.known.now))
            (all_after c.args.text.now (codes ":goal") (trees c.args.sections.items))) none refl
            c.loop-section.invariant.goal,
      ),
    )
