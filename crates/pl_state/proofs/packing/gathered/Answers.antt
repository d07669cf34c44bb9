use Rattle.std.proofs.Common.{◌≡◌, ◌+◌, ◌*◌, ◌++◌, length, arith, sym, ap, ◌∙◌, subst, length-append}
use Rattle.pl_rows.specs.Rows.{rows_of}
use Rattle.pl_task.specs.declared.data.Atom.{Atom}
use Rattle.pl_state.proofs.Packings.{gathered_yes}
use Rattle.pl_state.proofs.packing.gathered.Goals as goal

pub loop-atom-preserved : goal.loop-atom-preserved
loop-atom-preserved c =
    let now : c.extend_from_slice.new.self.items ≡ c.loop-atom.flat.items ++ c.atom-item.result.objects =
    c.in_ok-extend_from_slice.ensures.items ∙ ap (λ w. c.loop-atom.flat.items ++ w) c.as_slice.ensures in
    let wide : length c.atom-item.result.objects ≡ c.args._arity =
    subst (λ (x : Atom). x.predicate ≡ c.args.predicate → length x.objects ≡ c.args._arity)
    (sym c.atom-item.is)
    (c.requires c.loop-atom.atom-index c.atom-item.result c.loop-atom-test.true) c.if-atom-predicate.false in
    let e : c.args._arity * (c.loop-atom.count + 1) ≡ c.args._arity * c.loop-atom.count + c.args._arity =
    grind arith in
    record {
      few = omega arith;
      whole = ap length now ∙ length-append c.loop-atom.flat.items c.atom-item.result.objects ∙
          (omega (arith, c.loop-atom.invariant.whole));
      rows = ap (rows_of c.args._arity (c.loop-atom.count + 1)) now ∙
          gathered_yes c.args.predicate c.args.atoms.now c.loop-atom.atom-index c.args._arity
          c.loop-atom.count c.loop-atom.flat.items c.atom-item.result c.loop-atom-test.true c.atom-item.is
          c.if-atom-predicate.false wide
          c.loop-atom.invariant.whole c.loop-atom.invariant.rows;
    }
