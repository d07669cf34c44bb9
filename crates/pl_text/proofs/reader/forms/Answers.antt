use Rattle.pl_text.proofs.ReadingLemmas.{read-none}
use Rattle.pl_text.proofs.reader.forms.Goals as goal

pub loop-at-init : goal.loop-at-init
loop-at-init c = rw (c.new-reading.ensures.lists, c.new-reading.ensures.done) (read-none c.args.bytes.now)
