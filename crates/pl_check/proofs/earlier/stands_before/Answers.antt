use Rattle.std.proofs.Common.{ap, sym, ◌∙◌}
use Rattle.pl_check.proofs.EarlierLemmas.{is_before, before_is}
use Rattle.pl_check.proofs.earlier.stands_before.Goals as goal

pub returns-in-Some : goal.returns-in-Some
returns-in-Some c =
    ap (λ found. is_before found c.args.place) c.in-Some.ensures ∙
    sym (before_is c.args.names.now c.args.name.now c.args.place)

pub returns-in-None : goal.returns-in-None
returns-in-None c =
    ap (λ found. is_before found c.args.place) c.in-None.ensures ∙
    sym (before_is c.args.names.now c.args.name.now c.args.place)
