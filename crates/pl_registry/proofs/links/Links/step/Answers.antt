use Rattle.std.proofs.Common.{◌∙◌, ap, sym, length, slice_index, take, drop, arith, ◌-◌, length-drop}
use Rattle.pl_task.specs.Instance.{Instance}
use Rattle.pl_registry.specs.Links.{link_at, begin_of}
use Rattle.pl_registry.proofs.LinkLemmas.{step_read, step_words, all_of_rest}
use Rattle.pl_registry.proofs.links.Links.step.Goals as goal

pub part-words-requires : goal.part-words-requires
part-words-requires c =
    let at = step_read c.self.inside.parents.items c.self.inside.ends.items c.self.inside.words.items
    c.args.self.now c.args.n c.self.invariant c.self.view_is c.requires in
    record {
      n = rw c.deref.ensures.value at.within;
      begins = rw c.deref.ensures.value at.begins;
      narrow = rw c.deref.ensures.value at.narrow;
      within = rw (c.deref.ensures.value, c.deref-2.ensures.value) at.upto;
    }

pub returns-clause-schema : goal.returns-clause-schema
returns-clause-schema c =
    let at = step_read c.self.inside.parents.items c.self.inside.ends.items c.self.inside.words.items
    c.args.self.now c.args.n c.self.invariant c.self.view_is c.requires in
    sym (ap (λ (s : Instance). s.schema)
    (step_words c.self.inside.ends.items c.self.inside.words.items c.args.n
    (link_at c.args.self.now c.args.n) c.part-words.result.now at
    (c.part-words.ensures.part
    ∙ (λ i. take (slice_index (c.deref.ensures.value i) c.args.n - begin_of 0
    (c.deref.ensures.value i) c.args.n)
    (drop (begin_of 0 (c.deref.ensures.value i) c.args.n) (c.deref-2.ensures.value i))))))

pub returns-clause-args : goal.returns-clause-args
returns-clause-args c =
    let at = step_read c.self.inside.parents.items c.self.inside.ends.items c.self.inside.words.items
    c.args.self.now c.args.n c.self.invariant c.self.view_is c.requires in
    all_of_rest c.part-words.result.now ∙ sym (ap (λ (s : Instance). s.args)
    (step_words c.self.inside.ends.items c.self.inside.words.items c.args.n
    (link_at c.args.self.now c.args.n) c.part-words.result.now at
    (c.part-words.ensures.part
    ∙ (λ i. take (slice_index (c.deref.ensures.value i) c.args.n - begin_of 0
    (c.deref.ensures.value i) c.args.n)
    (drop (begin_of 0 (c.deref.ensures.value i) c.args.n) (c.deref-2.ensures.value i))))))

pub returns-clause-few : goal.returns-clause-few
returns-clause-few c =
    let few = c.part-words.ensures.few in
    let same = ap length (all_of_rest c.part-words.result.now) in
    omega (arith, few, same, length-drop 1 c.part-words.result.now)
