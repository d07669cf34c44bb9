use Rattle.std.proofs.Common.{refl}
use Rattle.pl_text.specs.declared.form.Form as form
use Rattle.pl_text.specs.Tokens.{Word}
use Rattle.pl_text.proofs.NestingLemmas.{adds_word}
use Rattle.pl_text.proofs.reading.Reading.word.Goals as goal

pub returns-in-Ok-clause-ok : goal.returns-in-Ok-clause-ok
returns-in-Ok-clause-ok c =
    adds_word c.args.self.now.lists.items c.args.self.now.done.items _ (form.Word c.args.span)
    (Word c.args.span) c.in-Ok.ensures.items refl c.requires.kept
