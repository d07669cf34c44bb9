use Rattle.std.proofs.Common.{ap, ◌∙◌, length, subst, sym, All, slice_get}
use Rattle.pl_text.specs.Forms.{AreFormsOf}
use Rattle.pl_text.specs.Spans.{ArePlaced, IsPlaced, IsWithin}
use Rattle.pl_text.specs.Trees.{trees_of, LieBetween, AreInFile}
use Rattle.pl_text.proofs.TreePlaceLaws.{AreTreesOf-lie, AreTreesOf-in_file}
use Rattle.pl_text.proofs.ReadingLemmas.{end-forms, end-faultless, end-unclosed, first_none, first_some}
use Rattle.pl_text.proofs.SpanLemmas.{forms_in_order, forms_placed, forms_within}
use Rattle.pl_text.proofs.reading.Reading.end.Goals as goal

pub returns-in-Some-clause-fault : goal.returns-in-Some-clause-fault
returns-in-Some-clause-fault c =
    end-unclosed c.args.bytes.now c.args.self.lists.items c.args.self.done.items c.requires
    c.in-Some.list.now _
    (first_some c.in-Some.list.now c.args.self.lists.items
    (c.in-Some.ensures.value ∙ ap (λ lists. slice_get lists 0) c.deref.ensures.value))

pub returns-in-None-clause-faultless : goal.returns-in-None-clause-faultless
returns-in-None-clause-faultless c =
    end-faultless c.args.bytes.now c.args.self.lists.items c.args.self.done.items c.requires
    (first_none c.args.self.lists.items
    (c.in-None.ensures.value ∙ ap (λ lists. slice_get lists 0) c.deref.ensures.value))

pub returns-in-None-clause-forms : goal.returns-in-None-clause-forms
returns-in-None-clause-forms c =
    let none = first_none c.args.self.lists.items
    (c.in-None.ensures.value ∙ ap (λ lists. slice_get lists 0) c.deref.ensures.value) in
    subst (AreFormsOf c.args.bytes.now) (sym c.of.ensures)
    (end-forms c.args.bytes.now c.args.self.lists.items c.args.self.done.items c.requires none)

pub returns-in-None-clause-within : goal.returns-in-None-clause-within
returns-in-None-clause-within c =
    let none = first_none c.args.self.lists.items
    (c.in-None.ensures.value ∙ ap (λ lists. slice_get lists 0) c.deref.ensures.value) in
    let are = end-forms c.args.bytes.now c.args.self.lists.items c.args.self.done.items c.requires none in
    subst (All (IsWithin (length c.args.bytes.now))) (sym c.of.ensures)
    (forms_within c.args.bytes.now c.args.self.done.items are)

pub returns-in-None-clause-in_order : goal.returns-in-None-clause-in_order
returns-in-None-clause-in_order c =
    let none = first_none c.args.self.lists.items
    (c.in-None.ensures.value ∙ ap (λ lists. slice_get lists 0) c.deref.ensures.value) in
    let are = end-forms c.args.bytes.now c.args.self.lists.items c.args.self.done.items c.requires none in
    subst (ArePlaced 0 (length c.args.bytes.now)) (sym c.of.ensures)
    (forms_in_order c.args.bytes.now c.args.self.done.items are)

pub returns-in-None-clause-placed : goal.returns-in-None-clause-placed
returns-in-None-clause-placed c =
    let none = first_none c.args.self.lists.items
    (c.in-None.ensures.value ∙ ap (λ lists. slice_get lists 0) c.deref.ensures.value) in
    let are = end-forms c.args.bytes.now c.args.self.lists.items c.args.self.done.items c.requires none in
    subst (All IsPlaced) (sym c.of.ensures) (forms_placed c.args.bytes.now c.args.self.done.items are)

pub returns-in-None-clause-lie : goal.returns-in-None-clause-lie
returns-in-None-clause-lie c =
    let none = first_none c.args.self.lists.items
    (c.in-None.ensures.value ∙ ap (λ lists. slice_get lists 0) c.deref.ensures.value) in
    let are = end-forms c.args.bytes.now c.args.self.lists.items c.args.self.done.items c.requires none in
    subst (λ forms. LieBetween 0 (length c.args.bytes.now) (trees_of forms)) (sym c.of.ensures)
    (AreTreesOf-lie c.args.bytes.now _ are)

pub returns-in-None-clause-in_file : goal.returns-in-None-clause-in_file
returns-in-None-clause-in_file c =
    let none = first_none c.args.self.lists.items
    (c.in-None.ensures.value ∙ ap (λ lists. slice_get lists 0) c.deref.ensures.value) in
    let are = end-forms c.args.bytes.now c.args.self.lists.items c.args.self.done.items c.requires none in
    subst (λ forms. AreInFile (length c.args.bytes.now) (trees_of forms)) (sym c.of.ensures)
    (AreTreesOf-in_file c.args.bytes.now _ are)
