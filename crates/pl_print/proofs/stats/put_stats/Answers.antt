use Rattle.std.proofs.Common.{◌∙◌}
use Rattle.pl_print.proofs.stats.put_stats.Goals as goal

pub returns-clause-all : goal.returns-clause-all
returns-clause-all g c =
    rw (
      ← (c.as_bytes.ensures.value ∙ c.format.ensures.text),
      ← (c.as_bytes-2.ensures.value ∙ c.format-2.ensures.text),
      ← (c.as_bytes-3.ensures.value ∙ c.format-3.ensures.text),
    ) c.put_pieces.ensures.all

pub returns-clause-front : goal.returns-clause-front
returns-clause-front g c =
    rw (
      ← (c.as_bytes.ensures.value ∙ c.format.ensures.text),
      ← (c.as_bytes-2.ensures.value ∙ c.format-2.ensures.text),
      ← (c.as_bytes-3.ensures.value ∙ c.format-3.ensures.text),
    ) c.put_pieces.ensures.front
