use Rattle.std.proofs.Common.{◌≡◌, ◌+◌, ◌-◌, ◌≤◌, ℕ, List, arith, length, ap, ◌∙◌, subst}
use Rattle.pl_cursor.specs.Answers.{left_in}
use Rattle.pl_cursor.specs.Stages.{stages_of}
use Rattle.pl_cursor.specs.Kept.{Descends}
use Rattle.pl_cursor.proofs.Positions.{whole_answer}
use Rattle.pl_cursor.proofs.position.go_on.Goals as goal

pub returns-clause-position : goal.returns-clause-position
returns-clause-position g c =
    let count : c.open_depth-depth.result - 1 + 1 ≡ c.open_depth-depth.result =
    omega (arith, c.if-depth-eq0.false) in
    let left : List (List ℕ) = left_in (stages_of c.args.reduced.now) c.args.position.now.frames
    c.args.position.now.answer (c.open_depth-depth.result - 1 + 1) in
    let d = c.descend.ensures.descends left
    (subst (Descends (stages_of c.args.reduced.now) (length c.args.reduced.now.classes) left
    c.take_row.new.frames c.take_row.new.answer) count c.take_row.ensures.descends) in
    record { depth = omega (arith, c.requires.layout.count); entered = d.descended.entered }

pub returns-clause-found : goal.returns-clause-found
returns-clause-found g c =
    let count : c.open_depth-depth.result - 1 + 1 ≡ c.open_depth-depth.result =
    omega (arith, c.if-depth-eq0.false) in
    let left : List (List ℕ) = left_in (stages_of c.args.reduced.now) c.args.position.now.frames
    c.args.position.now.answer (c.open_depth-depth.result - 1 + 1) in
    let d = c.descend.ensures.descends left
    (subst (Descends (stages_of c.args.reduced.now) (length c.args.reduced.now.classes) left
    c.take_row.new.frames c.take_row.new.answer) count c.take_row.ensures.descends) in
    let end : length (stages_of c.args.reduced.now) ≤ (length c.args.layout.now.stops.now) =
    omega (arith, c.requires.layout.count) in
    c.open_depth-depth.ensures.left (stages_of c.args.reduced.now) c.args.position.now.answer
    ∙ ap (left_in (stages_of c.args.reduced.now) c.args.position.now.frames c.args.position.now.answer)
    (omega (arith, c.if-depth-eq0.false))
    ∙ whole_answer (stages_of c.args.reduced.now) (length c.args.reduced.now.classes) left
    c.descend.new.frames c.descend.new.answer (length c.args.layout.now.stops.now) end d
