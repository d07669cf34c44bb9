use Rattle.std.proofs.Common.{ℕ, ◌≡◌, ◌<◌, ◌∙◌, ◌++◌, List, refl, sym, ap, arith, reverse}
use Rattle.pl_task.specs.Instance.{Instance}
use Rattle.pl_registry.specs.Links.{Link, link_at}
use Rattle.pl_registry.specs.Registered.{registered_path}
use Rattle.pl_registry.proofs.Registering.{many, path_up, lower_above, reverse_push}
use Rattle.pl_registry.proofs.registry.Registry.path_before.Goals as goal

pub step-requires : goal.step-requires
step-requires c =
    let all = many c.args.self.now c.self.inside.limit c.self.inside.states.keys c.self.inside.links
    c.self.invariant c.self.view_is in
    let same = c.self.invariant.alike in
    let l = c.loop-at.invariant.within in
    omega (arith, all, same, l)

pub parent-at-requires : goal.parent-at-requires
parent-at-requires c =
    let all = many c.args.self.now c.self.inside.limit c.self.inside.states.keys c.self.inside.links
    c.self.invariant c.self.view_is in
    let same = c.self.invariant.alike in
    let l = c.loop-at.invariant.within in
    omega (arith, all, same, l)

pub loop-at-smaller : goal.loop-at-smaller
loop-at-smaller c =
    let t = c.loop-at-test.true in
    lower_above c.args.self.now c.self.inside.limit c.self.inside.states.keys c.self.inside.links
    c.self.invariant c.self.view_is c.loop-at.at c.parent-at.result
    (omega (arith, t)) c.loop-at.invariant.within c.parent-at.ensures

pub loop-at-preserved : goal.loop-at-preserved
loop-at-preserved c =
    let t = c.loop-at-test.true in
    let some : 0 < c.loop-at.at = omega (arith, t) in
    let low = lower_above c.args.self.now c.self.inside.limit c.self.inside.states.keys c.self.inside.links
    c.self.invariant c.self.view_is c.loop-at.at c.parent-at.result some c.loop-at.invariant.within
    c.parent-at.ensures in
    let w = c.loop-at.invariant.within in
    let link_is : record { parent = c.parent-at.result; step = c.in_ok-of.field-0 } ≡ link_at
    c.self.inside.links c.loop-at.at =
    made_of c.parent-at.result c.in_ok-of.field-0 (link_at c.self.inside.links c.loop-at.at)
    c.step.result.schema c.step.result.args.now c.parent-at.ensures c.in_ok-of.ensures.ok
    c.step.ensures.schema c.step.ensures.args in
    record {
      within = omega (arith, low, w);
      path = c.loop-at.invariant.path
          ∙ path_up c.args.self.now c.self.inside.limit c.self.inside.states.keys c.self.inside.links
          c.self.invariant c.self.view_is c.loop-at.at c.parent-at.result
          (record { parent = c.parent-at.result; step = c.in_ok-of.field-0 })
          (reverse c.loop-at.steps.items) some c.loop-at.invariant.within link_is refl
          ∙ ap (λ ss. registered_path c.args.self.now.entries c.parent-at.result ++ ss)
          (sym (ap reverse c.in_ok-push.ensures.items
          ∙ reverse_push c.loop-at.steps.items c.in_ok-of.field-0));
    }
  where
    made_of : (parent : ℕ) (step : Instance) (link : Link) (schema : ℕ) (args : List ℕ) → parent ≡ link.parent
        → step ≡ record { schema = schema; args = args } → schema ≡ link.step.schema → args ≡ link.step.args →
        record { parent = parent; step = step } ≡ link
    made_of parent step link schema args p s a b = λ i.
        record { parent = p i; step = (s ∙ (λ j. record { schema = a j; args = b j })) i }
