use Rattle.std.proofs.Common.{◌∙◌, refl, sym, ap, arith, length}
use Rattle.pl_registry.proofs.Registering.{small, many, limit_is, paired_many, held_as, not_held, same_view}
use Rattle.pl_registry.proofs.Registering.{with_new, kept_new, was_held, was_not, taken_back}
use Rattle.pl_registry.proofs.registry.Registry.add.Goals as goal

pub overflow_cast-result : goal.overflow_cast-result
overflow_cast-result c =
    let held = was_held c.self.inside.states.keys c.args.state c.insert_full.new.self.keys
    (sym c.in-Ok-default-false.field-0-1-test ∙ c.in-Ok-default-false.ensures.added)
    c.in-Ok-default-false.ensures.keys in
    let w = c.in-Ok-default-false.ensures.within in
    let low = small c.args.self.now c.self.inside.limit c.self.inside.states.keys c.self.inside.links
    c.self.invariant c.self.view_is c.in-Ok-default-false.n
    (let e = ap length held in omega (arith, w, e)) in
    omega (arith, low)

pub returns-in-Ok-default-false : goal.returns-in-Ok-default-false
returns-in-Ok-default-false c =
    let held = was_held c.self.inside.states.keys c.args.state c.insert_full.new.self.keys
    (sym c.in-Ok-default-false.field-0-1-test ∙ c.in-Ok-default-false.ensures.added)
    c.in-Ok-default-false.ensures.keys in
    let (k, at, equal) = c.in-Ok-default-false.ensures.stored in (
      held_as c.args.self.now c.self.inside.limit c.self.inside.states.keys c.self.inside.links
          c.self.invariant c.self.view_is
          c.in-Ok-default-false.n c.args.state k c.insert_full.new.self.keys held at equal
          c.in-Ok-default-false.ensures.within,
      same_view c.args.self.now c.self.inside.limit c.self.inside.states.keys c.self.inside.links
          c.self.invariant c.self.view_is c.insert_full.new.self.keys c.self.inside.links held refl,
    )

pub returns-in-Err : goal.returns-in-Err
returns-in-Err c = (
  not_held c.args.self.now c.self.inside.limit c.self.inside.states.keys c.self.inside.links c.self.invariant
      c.self.view_is c.args.state c.in-Err.ensures.absent,
  (let a = many c.args.self.now c.self.inside.limit c.self.inside.states.keys c.self.inside.links
      c.self.invariant c.self.view_is in
      let b = limit_is c.args.self.now c.self.inside.limit c.self.inside.states.keys c.self.inside.links
      c.self.invariant c.self.view_is in
      let l = c.len-len.ensures.len in let t = c.if-len-self.true in omega (arith, a, b, l, t)),
  same_view c.args.self.now c.self.inside.limit c.self.inside.states.keys c.self.inside.links c.self.invariant
      c.self.view_is c.insert_full.new.self.keys c.self.inside.links c.in-Err.ensures.err refl,
)

pub returns-in-Err-2 : goal.returns-in-Err-2
returns-in-Err-2 c = (
  not_held c.args.self.now c.self.inside.limit c.self.inside.states.keys c.self.inside.links c.self.invariant
      c.self.view_is c.args.state c.in-Err-2.ensures.absent,
  (let a = many c.args.self.now c.self.inside.limit c.self.inside.states.keys c.self.inside.links
      c.self.invariant c.self.view_is in
      let b = limit_is c.args.self.now c.self.inside.limit c.self.inside.states.keys c.self.inside.links
      c.self.invariant c.self.view_is in
      let l = c.len-len.ensures.len in let t = c.if-len-self.false in let few =
      c.self.invariant.register.few in
      let m = paired_many c.self.inside.states.keys c.self.inside.links c.self.invariant.alike in
      omega (arith, a, b, l, t, few, m)),
  same_view c.args.self.now c.self.inside.limit c.self.inside.states.keys c.self.inside.links c.self.invariant
      c.self.view_is c.insert_full.new.self.keys c.self.inside.links c.in-Err-2.ensures.err refl,
)

pub returns-then-len-self-2 : goal.returns-then-len-self-2
returns-then-len-self-2 c =
    let gone = was_not c.self.inside.states.keys c.args.state c.insert_full.new.self.keys
    (sym c.in-Ok-default-true.field-0-1-test ∙ c.in-Ok-default-true.ensures.added)
    c.in-Ok-default-true.ensures.keys in
    let back = taken_back c.self.inside.states.keys c.args.state c.insert_full.new.self.keys
    c.truncate.new.self.keys c.len-len.result gone.1 c.len-len.ensures.len c.truncate.ensures.keys in (
      not_held c.args.self.now c.self.inside.limit c.self.inside.states.keys c.self.inside.links
          c.self.invariant c.self.view_is c.args.state gone.0,
      (let a = many c.args.self.now c.self.inside.limit c.self.inside.states.keys c.self.inside.links
          c.self.invariant c.self.view_is in
          let b = limit_is c.args.self.now c.self.inside.limit c.self.inside.states.keys c.self.inside.links
          c.self.invariant c.self.view_is in
          let l = c.len-len.ensures.len in let t = c.if-len-self-2.true in omega (arith, a, b, l, t)),
      same_view c.args.self.now c.self.inside.limit c.self.inside.states.keys c.self.inside.links
          c.self.invariant c.self.view_is c.truncate.new.self.keys c.self.inside.links back refl,
    )

pub overflow_cast-result-in-Ok : goal.overflow_cast-result-in-Ok
overflow_cast-result-in-Ok c =
    let l = c.len-len.ensures.len in
    let low = small c.args.self.now c.self.inside.limit c.self.inside.states.keys c.self.inside.links
    c.self.invariant c.self.view_is c.len-len.result (omega (arith, l)) in
    omega (arith, low)

pub invariant_of-self-in-Ok : goal.invariant_of-self-in-Ok
invariant_of-self-in-Ok c =
    let gone = was_not c.self.inside.states.keys c.args.state c.insert_full.new.self.keys
    (sym c.in-Ok-default-true.field-0-1-test ∙ c.in-Ok-default-true.ensures.added)
    c.in-Ok-default-true.ensures.keys in
    kept_new c.args.self.now c.self.inside.limit c.self.inside.states.keys c.self.inside.links
    c.self.invariant c.self.view_is c.args.state c.args.parent
    (record { schema = c.args.step.schema; args = c.args.step.args.now }) c.insert_full.new.self.keys
    c.push.new.self gone.0 gone.1 c.in-Ok.ensures.ok
    (let l = c.len-len.ensures.len in let f = c.if-len-self-2.false in λ e. absurd (omega (arith, l, f, e)))
    c.requires.parent

pub returns-in-Ok : goal.returns-in-Ok
returns-in-Ok c =
    let gone = was_not c.self.inside.states.keys c.args.state c.insert_full.new.self.keys
    (sym c.in-Ok-default-true.field-0-1-test ∙ c.in-Ok-default-true.ensures.added)
    c.in-Ok-default-true.ensures.keys in
    let a = many c.args.self.now c.self.inside.limit c.self.inside.states.keys c.self.inside.links
    c.self.invariant c.self.view_is in
    let b = limit_is c.args.self.now c.self.inside.limit c.self.inside.states.keys c.self.inside.links
    c.self.invariant c.self.view_is in
    let l = c.len-len.ensures.len in (
      not_held c.args.self.now c.self.inside.limit c.self.inside.states.keys c.self.inside.links
          c.self.invariant c.self.view_is c.args.state gone.0,
      (let f = c.if-len-self-2.false in let few = c.self.invariant.register.few in
          let m = paired_many c.self.inside.states.keys c.self.inside.links c.self.invariant.alike in
          omega (arith, a, b, l, f, few, m)),
      omega (arith, a, l),
      with_new c.args.self.now c.self.inside.limit c.self.inside.states.keys c.self.inside.links
          c.self.invariant c.self.view_is c.args.state c.args.parent
          (record { schema = c.args.step.schema; args = c.args.step.args.now }) c.insert_full.new.self.keys
          c.push.new.self gone.0 gone.1 c.in-Ok.ensures.ok,
    )

pub returns-in-Err-push : goal.returns-in-Err-push
returns-in-Err-push c =
    let gone = was_not c.self.inside.states.keys c.args.state c.insert_full.new.self.keys
    (sym c.in-Ok-default-true.field-0-1-test ∙ c.in-Ok-default-true.ensures.added)
    c.in-Ok-default-true.ensures.keys in
    let back = taken_back c.self.inside.states.keys c.args.state c.insert_full.new.self.keys
    c.truncate-in-Err-push.new.self.keys c.len-len.result gone.1 c.len-len.ensures.len
    c.truncate-in-Err-push.ensures.keys in
    let a = many c.args.self.now c.self.inside.limit c.self.inside.states.keys c.self.inside.links
    c.self.invariant c.self.view_is in
    let b = limit_is c.args.self.now c.self.inside.limit c.self.inside.states.keys c.self.inside.links
    c.self.invariant c.self.view_is in
    let l = c.len-len.ensures.len in (
      not_held c.args.self.now c.self.inside.limit c.self.inside.states.keys c.self.inside.links
          c.self.invariant c.self.view_is c.args.state gone.0,
      (let f = c.if-len-self-2.false in let few = c.self.invariant.register.few in
          let m = paired_many c.self.inside.states.keys c.self.inside.links c.self.invariant.alike in
          omega (arith, a, b, l, f, few, m)),
      same_view c.args.self.now c.self.inside.limit c.self.inside.states.keys c.self.inside.links
          c.self.invariant c.self.view_is c.truncate-in-Err-push.new.self.keys c.push.new.self back
          c.in-Err-push.ensures.err,
    )
