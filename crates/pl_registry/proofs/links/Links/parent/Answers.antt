use Rattle.std.proofs.Common.{◌∙◌, rules}
use Rattle.std.proofs.lemmas.List.{get_or_read}
use Rattle.pl_registry.proofs.LinkLemmas.{parent_read}
use Rattle.pl_registry.proofs.links.Links.parent.Goals as goal

pub index-requires : goal.index-requires
index-requires c =
    let (within, _) = parent_read c.self.inside.parents.items c.self.inside.ends.items
    c.self.inside.words.items c.args.self.now c.args.n c.self.invariant c.self.view_is c.requires in
    search rules

pub returns : goal.returns
returns c =
    let (within, read) = parent_read c.self.inside.parents.items c.self.inside.ends.items
    c.self.inside.words.items c.args.self.now c.args.n c.self.invariant c.self.view_is c.requires in
    get_or_read c.self.inside.parents.items c.args.n c.index.result.now within c.index.ensures 0 ∙ read
