use Rattle.std.proofs.Common.{◌∙◌, ◌++◌, ◌∷◌, [], List, ap}
use Rattle.pl_registry.specs.Links.{Link}
use Rattle.pl_registry.proofs.LinkLemmas.{pushed}
use Rattle.pl_registry.proofs.links.Links.push.Goals as goal

pub invariant_of-self-in-Ok-push-2 : goal.invariant_of-self-in-Ok-push-2
invariant_of-self-in-Ok-push-2 c =
    (pushed c.self.inside.parents.items c.self.inside.ends.items c.self.inside.words.items
    c.args.step.args.now c.push-3.new.self.items c.push-2.new.self.items
    c.push.new.self.items c.extend_from_slice.new.self.items c.as_slice.result.now c.args.parent
    c.args.step.schema c.self.invariant c.requires
    c.in_ok-push.ensures.items c.in-Ok.ensures.items c.as_slice.ensures.value c.in-Ok-push.ensures.items
    c.in-Ok-push-2.ensures.items).0

pub returns-in-Ok-push-2-clause-ok : goal.returns-in-Ok-push-2-clause-ok
returns-in-Ok-push-2-clause-ok c =
    (pushed c.self.inside.parents.items c.self.inside.ends.items c.self.inside.words.items
    c.args.step.args.now c.push-3.new.self.items c.push-2.new.self.items
    c.push.new.self.items c.extend_from_slice.new.self.items c.as_slice.result.now c.args.parent
    c.args.step.schema c.self.invariant c.requires
    c.in_ok-push.ensures.items c.in-Ok.ensures.items c.as_slice.ensures.value c.in-Ok-push.ensures.items
    c.in-Ok-push-2.ensures.items).1
    ∙ ap (λ (links : List Link). links
    ++ record {
      parent = c.args.parent;
      step =
          record { schema = c.args.step.schema; args = c.args.step.args.now };
    } ∷ []) c.self.view_is
