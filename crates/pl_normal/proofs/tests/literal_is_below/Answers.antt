use Rattle.std.proofs.Common.{sym, subst}
use Rattle.std.proofs.lemmas.List.Elements.{All-same}
use Rattle.pl_normal.specs.Scope.{IsTermBelow, IsLiteralBelow}
use Rattle.pl_normal.proofs.Below.{atom_below, not_atom_below, equal_below, not_equal_below}
use Rattle.pl_normal.proofs.tests.literal_is_below.Goals as goal

pub returns-in-Atom : goal.returns-in-Atom
returns-in-Atom c = λ h. subst (IsLiteralBelow c.args.n) (sym c.in-Atom.is)
    (atom_below c.args.n _
    (All-same (IsTermBelow c.args.n) _ _ (sym c.as_slice.ensures) (c.terms_are_below.ensures h)))

pub returns-in-NotAtom : goal.returns-in-NotAtom
returns-in-NotAtom c = λ h. subst (IsLiteralBelow c.args.n) (sym c.in-NotAtom.is)
    (not_atom_below c.args.n _
    (All-same (IsTermBelow c.args.n) _ _ (sym c.as_slice-in-NotAtom.ensures)
    (c.terms_are_below-in-NotAtom.ensures h)))

pub returns-in-Equal : goal.returns-in-Equal
returns-in-Equal c = λ h. subst (IsLiteralBelow c.args.n) (sym c.in-Equal.is)
    (equal_below c.args.n _ _ (c.terms_are_below-in-Equal.ensures h))

pub returns-in-NotEqual : goal.returns-in-NotEqual
returns-in-NotEqual c = λ h. subst (IsLiteralBelow c.args.n) (sym c.in-NotEqual.is)
    (not_equal_below c.args.n _ _ (c.terms_are_below-in-NotEqual.ensures h))
