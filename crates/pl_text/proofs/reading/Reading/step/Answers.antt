use Rattle.std.proofs.Common.{◌+◌, refl, sym, subst}
use Rattle.std.proofs.lemmas.Result.{err_from_is_err_and}
use Rattle.pl_text.specs.Reading.{IsRead}
use Rattle.pl_text.proofs.ReadingLemmas.{step-open, step-close, step-blank, step-comment, step-word, ends-bad}
use Rattle.pl_text.proofs.ReadingLemmas.{ends-stray, ends-deep, ends-enter, ends-leave}
use Rattle.pl_text.proofs.reading.Reading.step.Goals as goal
use Rattle.pl_text.proofs.reading.Reading.step.Goals.{in-Open+in_ok-enter-in-Open}
use Rattle.pl_text.proofs.reading.Reading.step.Goals.{in-Close+in_ok-leave-in-Close, in-Blank}

pub returns-in_err-enter-in-Open-clause-err : goal.returns-in_err-enter-in-Open-clause-err
returns-in_err-enter-in-Open-clause-err c =
    let p = err_from_is_err_and c.from_residual.result c.from_residual.ensures.1 in
    let e = ends-enter c.args.bytes.now c.args.at c.args.self.now.lists.items c.in_err-enter-in-Open.field-0.0
    (ends-deep c.args.bytes.now c.args.at _ c.args.self.now.lists.items c.args.self.now.done.items
    c.requires.read c.requires.left refl c.in-Open.ensures)
    c.in_err-enter-in-Open.ensures.err
    in
    rw (p.1, p.2) e

pub returns-in_err-leave-in-Close-clause-err : goal.returns-in_err-leave-in-Close-clause-err
returns-in_err-leave-in-Close-clause-err c =
    let p = err_from_is_err_and c.from_residual-in_err-leave-in-Close.result
    c.from_residual-in_err-leave-in-Close.ensures.1 in
    let e = ends-leave c.args.bytes.now c.args.at c.args.self.now.lists.items
    c.in_err-leave-in-Close.field-0.0
    (ends-stray c.args.bytes.now c.args.at _ c.args.self.now.lists.items c.args.self.now.done.items
    c.requires.read c.requires.left refl c.in-Close.ensures)
    c.in_err-leave-in-Close.ensures.err
    in
    rw (p.1, p.2) e

pub returns-in-Comment-clause-ok : goal.returns-in-Comment-clause-ok
returns-in-Comment-clause-ok c =
    step-comment c.args.bytes.now c.args.at _ c.args.self.now.lists.items c.args.self.now.done.items
    c.requires.read c.requires.left refl c.line_end.result c.in-Comment.ensures c.line_end.ensures.line
    c.line_end.ensures.within

pub returns-in-Word-clause-ok : goal.returns-in-Word-clause-ok
returns-in-Word-clause-ok c =
    step-word c.args.bytes.now c.args.at _ c.args.self.now.lists.items c.args.self.now.done.items
    c.requires.read c.requires.left refl c.word_end-end.result c.word.new.self.lists.items
    c.word.new.self.done.items c.in-Word.ensures c.word_end-end.ensures.run
    c.word_end-end.ensures.within c.in_ok-word-in-Word.ensures.ok

pub returns-in-Bad-clause-err : goal.returns-in-Bad-clause-err
returns-in-Bad-clause-err c =
    ends-bad c.args.bytes.now c.args.at _ c.args.self.now.lists.items c.args.self.now.done.items
    c.requires.read c.requires.left refl c.in-Bad.ensures.0 c.in-Bad.ensures.1

pub returns-clause-ok : goal.returns-clause-ok
returns-clause-ok c =
    elim c.match-kind_of.branch [
      | in-Open+in_ok-enter-in-Open w ↦
          subst (λ s. IsRead c.args.bytes.now (c.args.at + 1) s.lists.items s.done.items) (sym w.self-is)
          (step-open c.args.bytes.now c.args.at _ c.args.self.now.lists.items c.args.self.now.done.items
          c.requires.read c.requires.left refl _ _ w.in-Open.ensures w.in_ok-enter-in-Open.ensures.ok)
      | in-Close+in_ok-leave-in-Close w ↦
          subst (λ s. IsRead c.args.bytes.now (c.args.at + 1) s.lists.items s.done.items) (sym w.self-is)
          (step-close c.args.bytes.now c.args.at _ c.args.self.now.lists.items c.args.self.now.done.items
          c.requires.read c.requires.left refl _ _ w.in-Close.ensures w.in_ok-leave-in-Close.ensures.ok)
      | in-Blank w ↦
          subst (λ s. IsRead c.args.bytes.now (c.args.at + 1) s.lists.items s.done.items) (sym w.self-is)
          (step-blank c.args.bytes.now c.args.at _ c.args.self.now.lists.items c.args.self.now.done.items
          c.requires.read c.requires.left refl w.in-Blank.ensures)
    ]
