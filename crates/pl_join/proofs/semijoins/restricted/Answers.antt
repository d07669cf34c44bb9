use Rattle.std.proofs.Common.{◌≡◌, sym, subst, Option, IfNone}
use Rattle.std.proofs.lemmas.Result.{IfOk-weaker}
use Rattle.pl_join.specs.Relation.{ClassRows, IsJoinOf}
use Rattle.pl_join.proofs.semijoins.restricted.Goals as goal

pub returns-in-None-clause-rows : goal.returns-in-None-clause-rows
returns-in-None-clause-rows g c =
    let whole = subst
    (λ (o : Option ClassRows). IfNone o (IsJoinOf c.args.keep.now c.args.by.now c.args.keep.now))
    c.in-None.is c.in_ok-kept.ensures.same in
    IfOk-weaker _ (λ (r : ClassRows). r ≡ c.args.keep.now) (IsJoinOf c.args.keep.now c.args.by.now)
    (λ r e. subst (IsJoinOf c.args.keep.now c.args.by.now) (sym e) whole) c.copied.ensures
