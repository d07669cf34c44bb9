use Rattle.std.proofs.Common.{◌∙◌, subst}
use Rattle.std.specs.Io.KnownBytes.{Appends}
use Rattle.pl_io.specs.Outside.{AppendsFront}
use Rattle.pl_top.proofs.MakingLemmas.{counts_are}
use Rattle.pl_top.proofs.ResultLemmas.{on_ok_weaker, on_err_weaker}
use Rattle.pl_top.proofs.summary.put_counts.Goals as goal

pub returns-clause-all : goal.returns-clause-all
returns-clause-all g c =
    let whole = counts_are _ _ _ _ _ _ c.args.objects c.args.atoms c.args.length c.args.stats.now
    (c.as_bytes.ensures.value ∙ c.format.ensures.text) (c.as_bytes-2.ensures.value ∙ c.format-2.ensures.text)
    (c.as_bytes-3.ensures.value ∙ c.format-3.ensures.text)
    (c.as_bytes-4.ensures.value ∙ c.format-4.ensures.text)
    (c.as_bytes-5.ensures.value ∙ c.format-5.ensures.text)
    (c.as_bytes-6.ensures.value ∙ c.format-6.ensures.text) in
    on_ok_weaker _ _ c.put_pieces.result (subst (Appends _ _) whole) c.put_pieces.ensures.all

pub returns-clause-front : goal.returns-clause-front
returns-clause-front g c =
    let whole = counts_are _ _ _ _ _ _ c.args.objects c.args.atoms c.args.length c.args.stats.now
    (c.as_bytes.ensures.value ∙ c.format.ensures.text) (c.as_bytes-2.ensures.value ∙ c.format-2.ensures.text)
    (c.as_bytes-3.ensures.value ∙ c.format-3.ensures.text)
    (c.as_bytes-4.ensures.value ∙ c.format-4.ensures.text)
    (c.as_bytes-5.ensures.value ∙ c.format-5.ensures.text)
    (c.as_bytes-6.ensures.value ∙ c.format-6.ensures.text) in
    on_err_weaker _ _ c.put_pieces.result (subst (AppendsFront _ _) whole) c.put_pieces.ensures.front
