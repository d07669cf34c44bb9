use Rattle.std.proofs.lemmas.Bool.Decides.{Decides-ltb}
use Rattle.pl_rows.proofs.Keys.{found-has, has-found}
use Rattle.pl_rows.proofs.indexed.Indexed.has.Goals as goal

pub returns-clause-has : goal.returns-clause-has
returns-clause-has g c = (
  λ h. found-has c.args.key.now c.args.self.now.table.rows c.find-range.result.from c.find-range.result.to
      c.args.self.now.width c.requires c.find-range.ensures.rows
      ((Decides-ltb c.find-range.result.from c.find-range.result.to).0 h),
  λ h. (Decides-ltb c.find-range.result.from c.find-range.result.to).1
      (has-found c.args.key.now c.args.self.now.table.rows c.find-range.result.from c.find-range.result.to
      c.args.self.now.width c.requires c.find-range.ensures.rows h),
)
