use Rattle.std.proofs.lemmas.Bool.{false≢true}
use Rattle.pl_join.proofs.Keys.{not_shared, key_shared}
use Rattle.pl_join.proofs.keyed.Keyed.shares_key.Goals as goal

pub returns-then-not-are_among : goal.returns-then-not-are_among
returns-then-not-are_among c = (
  λ h. absurd (false≢true h),
  λ shared. absurd
      (not_shared c.args.self.now c.args.others.now c.key.result.now c.are_among.result c.key.ensures.key
      c.are_among.ensures c.if-not-are_among.true shared),
)

pub returns : goal.returns
returns c =
    key_shared c.args.self.now c.args.others.now c.key.result.now c.rest.result.now c.are_among.result
    c.are_met.result c.key.ensures.key c.rest.ensures c.are_among.ensures c.are_met.ensures
    c.if-not-are_among.false
