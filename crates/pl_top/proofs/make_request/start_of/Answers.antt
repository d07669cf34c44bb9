use Rattle.std.proofs.Common.{sym, ◌∙◌}
use Rattle.pl_top.proofs.MakeWordLemmas.{started, unstarted, parsed_wide}
use Rattle.pl_top.proofs.RequestLemmas.{differs, same_text}
use Rattle.pl_top.proofs.make_request.start_of.Goals as goal

pub returns-in_default : goal.returns-in_default
returns-in_default c = unstarted c.args.word.now c.parse.result c.parse.ensures.value.0
    (λ n ok text. cc (ok, c.in_default.is))

pub returns-then-ne : goal.returns-then-ne
returns-then-ne c = unstarted c.args.word.now c.parse.result c.parse.ensures.value.0
    (λ n ok text. differs c.format.result.now c.args.word.now c.if-ne.ensures
    (cc (ok, text, c.in-Ok.is, c.format.ensures.text)))

pub returns : goal.returns
returns c = started c.args.word.now c.in-Ok.number
    (parsed_wide c.args.word.now c.parse.result _ c.parse.ensures.value.0 (cc c.in-Ok.is))
    (sym (same_text _ _ c.if-ne.ensures) ∙ c.format.ensures.text)
