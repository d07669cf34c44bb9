-- What is left decides, and its literals are still to come.
use Rattle.std.proofs.Common.{◌≡◌, ◌≤◌, ◌++◌, ◌∷◌, [], ℕ, List, Bor, length, None, ap, sym, subst, ◌∙◌}
use Rattle.std.proofs.Common.{append-nil, arith}
use Rattle.std.proofs.lemmas.List.{map_push}
use Rattle.std.specs.Prelude.{codes}
use Rattle.pl_names.specs.Names.{texts}
use Rattle.pl_text.specs.Trees.{Tree, tree_of}
use Rattle.pl_check.specs.Elements.{word_of}
use Rattle.pl_check.specs.FaultLists.{first}
use Rattle.pl_check.specs.Reading.{scope_in}
use Rattle.pl_check.specs.Terms.{Scope}
use Rattle.pl_check.proofs.ActionLemmas.{pair_faults, pairs_none, pairs_end, keyed_next, keyed_end}
use Rattle.pl_check.proofs.actions.read_pairs.Goals as goal

pub loop-left-preserved : goal.loop-left-preserved
loop-left-preserved c =
    let scope : Scope = scope_in c.args.scope.now in
    let name : Tree = tree_of c.index-left-0.result in
    let value : Tree = tree_of c.index-left-1.result in
    let two : 2 ≤ length c.loop-left.left.now = omega arith in
    let met : texts c.push.new.list.items ≡
    texts c.loop-left.earlier.items ++ word_of c.args.scope.now.text.now name ∷ [] =
    ap texts c.in_ok-push.ensures.ok ∙
    map_push (λ (x : Bor (List ℕ)). x.now) c.loop-left.earlier.items c.word.result ∙
    ap (λ w. texts c.loop-left.earlier.items ++ w ∷ []) c.word.ensures in
    let none : first (pair_faults scope (texts c.loop-left.earlier.items) name value) ≡ None =
    subst (λ e. first (pair_faults scope (texts e) name value) ≡ None) c.as_slice.ensures.value
    c.in_ok-read_pair.ensures.0 in
    rw c.rest-left.ensures (
      pairs_none scope _ _ _ _ _ _ two c.index-left-0.is c.index-left-1.is c.loop-left.invariant.0 none met,
      keyed_next scope (codes ":precondition") _ _ _ _ _ _ two c.index-left-0.is c.index-left-1.is
          c.loop-left.invariant.1 c.in_ok-read_pair.ensures.1.0,
      keyed_next scope (codes ":effect") _ _ _ _ _ _ two c.index-left-0.is c.index-left-1.is
          c.loop-left.invariant.2 c.in_ok-read_pair.ensures.1.1,
    )

pub returns : goal.returns
returns c =
    let scope : Scope = scope_in c.args.scope.now in
    let past : length c.loop-left.left.now ≤ 1 = omega arith in (
      c.loop-left.invariant.0 ∙ pairs_end scope _ c.loop-left.left.now past,
      (
        sym (c.loop-left.invariant.1 ∙
            ap (λ l. c.loop-left.values.condition.items ++ l)
            (keyed_end scope (codes ":precondition") _ past) ∙
            append-nil _),
        sym (c.loop-left.invariant.2 ∙
            ap (λ l. c.loop-left.values.effect.items ++ l) (keyed_end scope (codes ":effect") _ past) ∙
            append-nil _),
      ),
    )
