use Rattle.std.proofs.Common.{◌∷◌, ◌∙◌, [], map, take, sym, arith}
use Rattle.pl_rows.specs.Rows.{rows_of}
use Rattle.pl_rows.proofs.Places.{length-rows_of, get_or-rows_of}
use Rattle.pl_novel.proofs.Lists.{extends_trans}
use Rattle.pl_novel.proofs.Numberings.{numbered_none, numbered_row, numbered_rows, numbered_extends}
use Rattle.pl_novel.proofs.numbering.number_rows.Goals as goal

pub loop-i-init : goal.loop-i-init
loop-i-init c = numbered_none c.args.atoms.now.keys c.args.numbers.now.items

pub returns-in_err-set-clause-extends : goal.returns-in_err-set-clause-extends
returns-in_err-set-clause-extends c =
    numbered_extends c.args.atoms.now.keys
    (map (λ row. c.args.predicate ∷ row)
    (take c.loop-i.i (rows_of c.args.arity c.args.rows.count c.args.rows.flat.now))) c.loop-i.atoms.keys
    c.args.numbers.now.items c.loop-i.numbers.items c.loop-i.invariant

pub returns-in_err-place-clause-extends : goal.returns-in_err-place-clause-extends
returns-in_err-place-clause-extends c =
    extends_trans c.args.atoms.now.keys c.loop-i.atoms.keys c.place.new.atoms.keys
    (numbered_extends c.args.atoms.now.keys
    (map (λ row. c.args.predicate ∷ row)
    (take c.loop-i.i (rows_of c.args.arity c.args.rows.count c.args.rows.flat.now))) c.loop-i.atoms.keys
    c.args.numbers.now.items c.loop-i.numbers.items c.loop-i.invariant) c.place.ensures.extends

pub returns-in_err-push-clause-extends : goal.returns-in_err-push-clause-extends
returns-in_err-push-clause-extends c =
    extends_trans c.args.atoms.now.keys c.loop-i.atoms.keys c.place.new.atoms.keys
    (numbered_extends c.args.atoms.now.keys
    (map (λ row. c.args.predicate ∷ row)
    (take c.loop-i.i (rows_of c.args.arity c.args.rows.count c.args.rows.flat.now))) c.loop-i.atoms.keys
    c.args.numbers.now.items c.loop-i.numbers.items c.loop-i.invariant) c.place.ensures.extends

pub loop-i-preserved : goal.loop-i-preserved
loop-i-preserved c =
    let many = length-rows_of c.args.arity c.args.rows.count c.args.rows.flat.now in
    let l = c.loop-i-test.true in
    numbered_row c.args.atoms.now.keys c.loop-i.atoms.keys c.place.new.atoms.keys
    (rows_of c.args.arity c.args.rows.count c.args.rows.flat.now) c.args.predicate c.loop-i.i
    c.in_ok-place.field-0 c.row_at.result.now c.set.new.self c.args.numbers.now.items c.loop-i.numbers.items
    c.push.new.self.items (omega (arith, many, l))
    (c.row_at.ensures
    ∙ sym (get_or-rows_of c.args.arity c.args.rows.count c.loop-i.i c.args.rows.flat.now [] l))
    c.in_ok-set.ensures c.loop-i.invariant c.in_ok-place.ensures.ok
    c.in_ok-push.ensures.items

pub returns-clause-ok : goal.returns-clause-ok
returns-clause-ok c =
    let many = length-rows_of c.args.arity c.args.rows.count c.args.rows.flat.now in
    let l = c.loop-i-test.false in
    numbered_rows c.args.atoms.now.keys c.loop-i.atoms.keys
    (rows_of c.args.arity c.args.rows.count c.args.rows.flat.now) c.args.predicate c.loop-i.i
    c.args.numbers.now.items
    c.loop-i.numbers.items (omega (arith, many, l)) c.loop-i.invariant

pub returns-clause-extends : goal.returns-clause-extends
returns-clause-extends c =
    numbered_extends c.args.atoms.now.keys
    (map (λ row. c.args.predicate ∷ row)
    (take c.loop-i.i (rows_of c.args.arity c.args.rows.count c.args.rows.flat.now))) c.loop-i.atoms.keys
    c.args.numbers.now.items c.loop-i.numbers.items c.loop-i.invariant
