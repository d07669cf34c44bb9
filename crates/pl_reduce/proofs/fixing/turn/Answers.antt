use Rattle.std.proofs.Common.{◌∙◌, ap, sym, subst, Some}
use Rattle.pl_join.specs.Relation.{ClassRows}
use Rattle.pl_join.specs.Keyed.{KeyedRows}
use Rattle.pl_reduce.specs.Lent.{keyed_at}
use Rattle.pl_reduce.specs.Fixing.{IsTurnedOf}
use Rattle.pl_reduce.proofs.Keyings.{key_held, key_distinct, turned_made, turned_some}
use Rattle.pl_reduce.proofs.fixing.turn.Goals as goal

pub by-requires-clause-held : goal.by-requires-clause-held
by-requires-clause-held g c =
    key_held _ c.deref.result.now c.in_ok-key.key.items c.classes.result.now c.in_ok-relation.relation.classes
    c.deref.ensures.value c.in_ok-key.ensures
    (c.classes.ensures.classes ∙ sym (ap (λ (r : ClassRows). r.classes) c.in_ok-relation.ensures))

pub by-requires-clause-distinct : goal.by-requires-clause-distinct
by-requires-clause-distinct g c =
    key_distinct _ c.deref.result.now c.in_ok-key.key.items c.classes.result.now
    c.in-Some.whole.now.relation.classes c.deref.ensures.value c.in_ok-key.ensures
    c.classes.ensures.classes c.classes.ensures.relation.distinct

pub returns-clause-turned : goal.returns-clause-turned
returns-clause-turned g c =
    let made = turned_some (keyed_at c.args.lent.now c.args.parent) c.in-Some.whole.now c.in_ok-keyed.keyed
    c.in-Some.ensures
    (turned_made c.in-Some.whole.now c.in_ok-relation.relation c.deref.result.now c.in_ok-keyed.keyed
    c.in_ok-relation.ensures
    (key_held _ c.deref.result.now c.in_ok-key.key.items c.classes.result.now
    c.in_ok-relation.relation.classes c.deref.ensures.value c.in_ok-key.ensures
    (c.classes.ensures.classes ∙ sym (ap (λ (r : ClassRows). r.classes) c.in_ok-relation.ensures)))
    c.in_ok-keyed.ensures.classes c.in_ok-keyed.ensures.rows c.in_ok-keyed.ensures.most) in
    subst (λ (k : KeyedRows). IsTurnedOf (keyed_at c.args.lent.now c.args.parent) (Some k))
    (sym c.in_ok-lasting.ensures) made
