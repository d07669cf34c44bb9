use Rattle.std.proofs.Common.{ℕ, ◌<◌, length, arith}
use Rattle.std.proofs.lemmas.List.Elements.{All-get_or}
use Rattle.pl_io.proofs.Gathering.{on_err}
use Rattle.pl_print.specs.Texts.{argument_text}
use Rattle.pl_print.proofs.Writing.{all_to_next, front_to_next}
use Rattle.pl_print.proofs.step.put_arguments.Goals as goal

pub put_argument-requires : goal.put_argument-requires
put_argument-requires g c =
    record {
      within = All-get_or (λ (o : ℕ). o < length c.args.objects.now) c.args.args.now
          c.loop-number.number-index 0
          (omega (arith, c.loop-number-test.true)) c.requires.within;
    }

pub returns-in_err-put_argument-clause-front : goal.returns-in_err-put_argument-clause-front
returns-in_err-put_argument-clause-front g c =
    let here : c.loop-number.number-index < length c.args.args.now = omega (arith, c.loop-number-test.true) in
    on_err c.from_residual.result
    (front_to_next _ _ _ (argument_text c.args.objects.now) c.args.args.now _ _ here
    c.loop-number.invariant.written
    c.in_err-put_argument.ensures.front)

pub loop-number-preserved : goal.loop-number-preserved
loop-number-preserved g c =
    let here : c.loop-number.number-index < length c.args.args.now = omega (arith, c.loop-number-test.true) in
    let so_far = c.loop-number.invariant in
    let argument = c.in_ok-put_argument.ensures in
    record {
      written = all_to_next _ _ _ (argument_text c.args.objects.now) c.args.args.now _ _ here so_far.written
          argument.all;
      later = omega (arith, so_far.later, argument.cause.later);
    }
