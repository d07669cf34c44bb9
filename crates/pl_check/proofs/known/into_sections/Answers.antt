use Rattle.std.proofs.Common.{◌<◌, length, rules}
use Rattle.pl_check.proofs.TakenLemmas.{sections_taken}
use Rattle.pl_check.proofs.known.into_sections.Goals as goal

pub returns : goal.returns
returns c =
    let some : 0 < length c.args.forms.items = search rules in
    sections_taken c.args.forms.items c.swap_remove-file.result c.into_parts.result.items
    c.without_first.result.items
    c.without_first-2.result.items some c.swap_remove-file.ensures.value
    c.into_parts.ensures c.without_first.ensures
    c.without_first-2.ensures
