use Rattle.std.proofs.Common.{◌-◌, length, sym, ◌∙◌}
use Rattle.std.proofs.lemmas.List.{take_rest}
use Rattle.pl_join.proofs.projection.ends_with.Goals as goal

pub returns : goal.returns
returns c =
    let rest = take_rest c.args.flat.now (length c.args.flat.now - length c.args.columns.now) in (
      λ t. sym rest ∙ c.are_picked.ensures.0 t,
      λ e. c.are_picked.ensures.1 (rest ∙ e),
    )
