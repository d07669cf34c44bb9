use Rattle.std.proofs.Common.{refl}
use Rattle.pl_hyper.proofs.Searches.{still_shared_one, not_shared_more}
use Rattle.pl_hyper.proofs.sharing.without_unshared.Goals as goal

pub returns-in-Some-clause-decided : goal.returns-in-Some-clause-decided
returns-in-Some-clause-decided c = λ edges remaining a has holds held.
    still_shared_one edges remaining c.args.holder c.args.class c.with_member.result c.in-Some.field-0
    c.args.shared c.with_member.ensures (c.in-Some.ensures.first edges remaining a) has holds held

pub returns-in-None-clause-decided : goal.returns-in-None-clause-decided
returns-in-None-clause-decided c = λ edges remaining a has holds held. (
  λ b. absurd (((c.without_member.ensures.members c.args.class).0 b).1 refl),
  λ s. absurd (not_shared_more edges remaining c.args.holder c.args.class c.with_member.result
      c.with_member.ensures (c.in-None.ensures.none edges remaining a) s),
)
