use Rattle.std.proofs.Common.{◌≡◌, [], ◌∷◌, ◌++◌, length, sym, ap, subst, ◌∙◌, arith, append_assoc}
use Rattle.std.proofs.Common.{append-nil}
use Rattle.std.specs.Prelude.{IfOk}
use Rattle.std.proofs.lemmas.List.{nil_from_length}
use Rattle.pl_check.specs.Stated.{once}
use Rattle.pl_check.proofs.OnceLemmas.{once_more}
use Rattle.pl_check.proofs.once.each_once.Goals as goal

pub loop-atom-preserved : goal.loop-atom-preserved
loop-atom-preserved c = record {
  all = append_assoc c.loop-atom.yielded (c.in-Some.atom ∷ []) c.next.new.self.rest.items ∙
      ap (λ rest. c.loop-atom.yielded ++ rest) (sym c.in-Some.ensures.steps.0) ∙ c.loop-atom.invariant.all;
  count = (let longer = ap length c.in-Some.ensures.steps.0 in omega arith);
  listed =
      once_more c.loop-atom.yielded c.loop-atom.seen.keys c.insert.new.self.keys c.in-Some.atom
      c.loop-atom.invariant.listed c.in_ok-insert.ensures.keys;
}

pub returns : goal.returns
returns c =
    let none = nil_from_length c.loop-atom.atom-iterator.rest.items (c.loop-atom.invariant.count ∙
    c.in-None.ensures.steps.0) in
    let whole = sym (append-nil c.loop-atom.yielded) ∙ ap (λ rest. c.loop-atom.yielded ++ rest) (sym none) ∙
    c.loop-atom.invariant.all in
    subst (λ made. IfOk c.listed.result (λ atoms. atoms.items ≡ made)) (c.loop-atom.invariant.listed ∙
    ap once whole) c.listed.ensures
