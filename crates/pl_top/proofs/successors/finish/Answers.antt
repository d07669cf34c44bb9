use Rattle.std.proofs.Common.{◌≡◌, subst}
use Rattle.pl_state.specs.StateOf.{state_in}
use Rattle.pl_top.specs.declared.reaching.Destination.TheVariants as destination
use Rattle.pl_top.specs.Reaching.{IsReached}
use Rattle.pl_top.proofs.FinishLemmas.{finishes_refused, finishes_listed}
use Rattle.pl_top.proofs.WorkLemmas.{refused_line, walk_within, memory_no_list}
use Rattle.pl_top.proofs.successors.finish.Goals as goal

pub returns-in-Ok-Refused-clause-ends : goal.returns-in-Ok-Refused-clause-ends
returns-in-Ok-Refused-clause-ends g c =
    let end = c.in-Ok-Refused in
    let is : end.field-0 ≡ destination.Refused end.verdict = end.field-0-is in
    finishes_refused _ _ _ _ _ c.args.start.now c.as_slice.result.now end.verdict c.as_slice.ensures
    (subst (IsReached c.args.start.now.task c.as_slice.result.now) is end.ensures) c.print_verdict.ensures

pub returns-in-Ok-State-clause-ends : goal.returns-in-Ok-State-clause-ends
returns-in-Ok-State-clause-ends g c =
    let end = c.in-Ok-State in
    let is : end.field-0 ≡ destination.State end.state = end.field-0-is in
    finishes_listed _ _ _ _ _ c.args.start.now c.as_slice.result.now
    (state_in c.args.start.now.task end.state)
    c.as_slice.ensures (subst (IsReached c.args.start.now.task c.as_slice.result.now) is end.ensures).1
    c.print_list.ensures.ends

pub returns-in-Ok-Refused-clause-work : goal.returns-in-Ok-Refused-clause-work
returns-in-Ok-Refused-clause-work g c = λ zero.
    (let end = c.in-Ok-Refused in
    let is : end.field-0 ≡ destination.Refused end.verdict = end.field-0-is in
    absurd (refused_line c.args.start.now.task c.as_slice.result.now end.verdict _ _ _ _ _
    (subst (IsReached c.args.start.now.task c.as_slice.result.now) is end.ensures) c.print_verdict.ensures
    zero))

pub returns-in-Ok-State-clause-work : goal.returns-in-Ok-State-clause-work
returns-in-Ok-State-clause-work g c = λ zero.
    (let end = c.in-Ok-State in
    let is : end.field-0 ≡ destination.State end.state = end.field-0-is in
    walk_within c.args.start.now.task c.args.start.now.lines c.as_slice.result.now
    (state_in c.args.start.now.task end.state) c.args.start.now.past c.args.start.now.count _ _
    c.as_slice.ensures (subst (IsReached c.args.start.now.task c.as_slice.result.now) is end.ensures).1
    (c.print_list.ensures.work zero) (c.print_list.ensures.page zero))

pub returns-in-Err-clause-work : goal.returns-in-Err-clause-work
returns-in-Err-clause-work g c = λ zero. absurd (memory_no_list _ c.refuse.ensures.status zero)
