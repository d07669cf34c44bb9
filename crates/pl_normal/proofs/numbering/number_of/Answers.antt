use Rattle.std.proofs.Common.{◌≡◌, length, sym, refl, rules}
use Rattle.pl_normal.proofs.Numbers.{number_again, known_more}
use Rattle.pl_normal.proofs.numbering.number_of.Goals as goal

pub returns-in-Some-clause-number : goal.returns-in-Some-clause-number
returns-in-Some-clause-number c = number_again c.args.lists.now c.args.known.now c.args.firsts.now.items
    c.args.place c.in-Some.number.now _ _ c.requires.known c.requires.place refl (sym c.in-Some.ensures.value)

pub returns-clause-known : goal.returns-clause-known
returns-clause-known c =
    let many : c.len-number.result ≡ length c.args.firsts.now.items = search rules in
    known_more c.args.lists.now c.args.known.now c.insert.new.self c.args.firsts.now.items
    c.push.new.self.items c.args.place c.len-number.result _ _ c.requires.known c.requires.place refl
    c.in_ok-push.ensures.items many c.in_ok-insert.ensures.updates.0
