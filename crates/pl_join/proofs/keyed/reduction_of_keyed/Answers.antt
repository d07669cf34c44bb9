use Rattle.std.proofs.Common.{◌∙◌, Option, IfSome, IfNone}
use Rattle.std.proofs.lemmas.Option.{IfSome_then}
use Rattle.std.proofs.lemmas.Result.{IfOk-weaker}
use Rattle.pl_join.specs.Relation.{ClassRows, IsJoinOf, IsSemijoinOf}
use Rattle.pl_join.proofs.Operations.{none_weaker}
use Rattle.pl_join.proofs.Keys.{distinct_front, semijoin_of_key}
use Rattle.pl_join.proofs.keyed.reduction_of_keyed.Goals as goal

pub project-requires-clause-held : goal.project-requires-clause-held
project-requires-clause-held g c = rw c.key.ensures.key c.requires.key

pub project-requires-clause-distinct : goal.project-requires-clause-distinct
project-requires-clause-distinct g c = rw c.key.ensures.key
    (distinct_front c.args.keep.now.width c.args.keep.now.relation.classes c.key.ensures.relation.distinct)

pub key_reduced-requires : goal.key_reduced-requires
key_reduced-requires g c = c.in_ok-keys.ensures.classes ∙ c.key.ensures.key

pub returns-clause-same : goal.returns-clause-same
returns-clause-same g c =
    IfOk-weaker _
    (λ (r : Option ClassRows). IfNone r
    (IsJoinOf c.args.keep.now.relation c.in_ok-keys.keys c.args.keep.now.relation))
    (λ (r : Option ClassRows). IfNone r
    (IsSemijoinOf c.args.keep.now.relation c.args.by.now c.args.keep.now.relation))
    (λ r h. none_weaker r
    (semijoin_of_key c.args.keep.now c.args.by.now c.in_ok-keys.keys c.args.keep.now.relation c.requires
    (c.in_ok-keys.ensures.classes ∙ c.key.ensures.key) c.in_ok-keys.ensures.rows) h)
    c.key_reduced.ensures.same

pub returns-clause-rows : goal.returns-clause-rows
returns-clause-rows g c =
    IfOk-weaker _ (λ (r : Option ClassRows). IfSome r (IsJoinOf c.args.keep.now.relation c.in_ok-keys.keys))
    (λ (r : Option ClassRows). IfSome r (IsSemijoinOf c.args.keep.now.relation c.args.by.now))
    (λ r h. IfSome_then r h
    (λ kept. semijoin_of_key c.args.keep.now c.args.by.now c.in_ok-keys.keys kept c.requires
    (c.in_ok-keys.ensures.classes ∙ c.key.ensures.key) c.in_ok-keys.ensures.rows))
    c.key_reduced.ensures.rows
