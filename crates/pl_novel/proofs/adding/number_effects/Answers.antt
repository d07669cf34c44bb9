use Rattle.std.proofs.Common.{map, take}
use Rattle.pl_novel.specs.Keys.{key_under}
use Rattle.pl_novel.proofs.Lists.{extends_trans}
use Rattle.pl_novel.proofs.Numberings.{numbered_none, numbered_effect, numbered_effects, numbered_extends}
use Rattle.pl_novel.proofs.adding.number_effects.Goals as goal

pub loop-i-init : goal.loop-i-init
loop-i-init c = numbered_none c.args.atoms.now.keys c.args.numbers.now.items

pub returns-in_err-set_under-clause-extends : goal.returns-in_err-set_under-clause-extends
returns-in_err-set_under-clause-extends c =
    numbered_extends c.args.atoms.now.keys
    (map (key_under c.args.args.now) (take c.loop-i.i c.args.effects.now)) c.loop-i.atoms.keys
    c.args.numbers.now.items c.loop-i.numbers.items c.loop-i.invariant

pub returns-in_err-place-clause-extends : goal.returns-in_err-place-clause-extends
returns-in_err-place-clause-extends c =
    extends_trans c.args.atoms.now.keys c.loop-i.atoms.keys c.place.new.atoms.keys
    (numbered_extends c.args.atoms.now.keys
    (map (key_under c.args.args.now) (take c.loop-i.i c.args.effects.now)) c.loop-i.atoms.keys
    c.args.numbers.now.items c.loop-i.numbers.items c.loop-i.invariant)
    c.place.ensures.extends

pub returns-in_err-push-clause-extends : goal.returns-in_err-push-clause-extends
returns-in_err-push-clause-extends c =
    extends_trans c.args.atoms.now.keys c.loop-i.atoms.keys c.place.new.atoms.keys
    (numbered_extends c.args.atoms.now.keys
    (map (key_under c.args.args.now) (take c.loop-i.i c.args.effects.now)) c.loop-i.atoms.keys
    c.args.numbers.now.items c.loop-i.numbers.items c.loop-i.invariant)
    c.place.ensures.extends

pub loop-i-preserved : goal.loop-i-preserved
loop-i-preserved c =
    numbered_effect c.args.atoms.now.keys c.loop-i.atoms.keys c.place.new.atoms.keys c.args.args.now
    c.args.effects.now c.loop-i.i c.in_ok-place.field-0 c.index-effects-i.result c.set_under.new.self
    c.args.numbers.now.items c.loop-i.numbers.items c.push.new.self.items c.loop-i-test.true
    c.index-effects-i.is c.in_ok-set_under.ensures c.loop-i.invariant c.in_ok-place.ensures.ok
    c.in_ok-push.ensures.items

pub returns-clause-ok : goal.returns-clause-ok
returns-clause-ok c =
    numbered_effects c.args.atoms.now.keys c.loop-i.atoms.keys c.args.args.now c.args.effects.now c.loop-i.i
    c.args.numbers.now.items c.loop-i.numbers.items c.loop-i-test.false c.loop-i.invariant

pub returns-clause-extends : goal.returns-clause-extends
returns-clause-extends c =
    numbered_extends c.args.atoms.now.keys
    (map (key_under c.args.args.now) (take c.loop-i.i c.args.effects.now)) c.loop-i.atoms.keys
    c.args.numbers.now.items c.loop-i.numbers.items c.loop-i.invariant
