use Rattle.std.proofs.Common.{◌≢◌, length, All, Contains, ap, sym, subst, ◌∙◌, Option, IfSome, IfNone}
use Rattle.std.proofs.lemmas.List.Kept.{AllPairs-filter}
use Rattle.std.proofs.lemmas.Option.{IfSome_then}
use Rattle.std.proofs.lemmas.Result.{IfOk-weaker}
use Rattle.std.proofs.lemmas.Slice.Eq.{bytes_eq-Decides}
use Rattle.pl_join.specs.Relation.{ClassRows, AreDistinct, IsJoinOf, IsSemijoinOf, has_class}
use Rattle.pl_join.specs.Source.{shared_with}
use Rattle.pl_join.proofs.Operations.{semijoined_by, whole_projection, shared_in, shared_held, chosen_is}
use Rattle.pl_join.proofs.Operations.{none_weaker}
use Rattle.pl_rows.specs.Rows.{Rows}
use Rattle.pl_join.proofs.Empties.{none_to_drop, no_row, all_kept_by, not_apart}
use Rattle.pl_join.proofs.semijoins.reduction.Goals as goal

pub reduced-requires : goal.reduced-requires
reduced-requires g c =
    let shared = chosen_is shared_with c.args.by.now.classes c.args.keep.now.classes _ _ _ _
    c.classes-classes.ensures.classes c.classes.ensures.classes c.in_ok-shared.ensures
    c.as_slice-shared.ensures in
    let same = (bytes_eq-Decides c.as_slice-shared.result.now c.classes-classes.result.now).0
    (sym c.eq.ensures ∙ c.if-eq.true) in
    subst (All (Contains c.args.keep.now.classes)) (sym shared ∙ same ∙ c.classes-classes.ensures.classes)
    (shared_held c.args.by.now.classes c.args.keep.now.classes)

pub returns-then-eq-clause-rows : goal.returns-then-eq-clause-rows
returns-then-eq-clause-rows g c =
    let shared = chosen_is shared_with c.args.by.now.classes c.args.keep.now.classes _ _ _ _
    c.classes-classes.ensures.classes c.classes.ensures.classes c.in_ok-shared.ensures
    c.as_slice-shared.ensures in
    let same = (bytes_eq-Decides c.as_slice-shared.result.now c.classes-classes.result.now).0
    (sym c.eq.ensures ∙ c.if-eq.true) in
    let step = λ (kept : ClassRows). semijoined_by c.args.keep.now c.args.by.now c.args.by.now kept
    (sym c.classes-classes.ensures.classes ∙ sym same ∙ shared) (whole_projection c.args.by.now) in
    IfOk-weaker _ (λ (r : Option ClassRows). IfSome r (IsJoinOf c.args.keep.now c.args.by.now))
    (λ (r : Option ClassRows). IfSome r (IsSemijoinOf c.args.keep.now c.args.by.now))
    (λ r h. IfSome_then r h step) c.reduced.ensures.rows

pub returns-then-eq-clause-same : goal.returns-then-eq-clause-same
returns-then-eq-clause-same g c =
    let shared = chosen_is shared_with c.args.by.now.classes c.args.keep.now.classes _ _ _ _
    c.classes-classes.ensures.classes c.classes.ensures.classes c.in_ok-shared.ensures
    c.as_slice-shared.ensures in
    let same = (bytes_eq-Decides c.as_slice-shared.result.now c.classes-classes.result.now).0
    (sym c.eq.ensures ∙ c.if-eq.true) in
    let step = semijoined_by c.args.keep.now c.args.by.now c.args.by.now c.args.keep.now
    (sym c.classes-classes.ensures.classes ∙ sym same ∙ shared) (whole_projection c.args.by.now) in
    IfOk-weaker _
    (λ (r : Option ClassRows). IfNone r (IsJoinOf c.args.keep.now c.args.by.now c.args.keep.now))
    (λ (r : Option ClassRows). IfNone r (IsSemijoinOf c.args.keep.now c.args.by.now c.args.keep.now))
    (λ r h. none_weaker r step h) c.reduced.ensures.same

pub project-requires-clause-held : goal.project-requires-clause-held
project-requires-clause-held g c =
    let shared = chosen_is shared_with c.args.by.now.classes c.args.keep.now.classes _ _ _ _
    c.classes-classes.ensures.classes c.classes.ensures.classes c.in_ok-shared.ensures
    c.as_slice-shared.ensures in
    subst (All (Contains c.args.by.now.classes)) (sym shared)
    (shared_in c.args.by.now.classes c.args.keep.now.classes)

pub project-requires-clause-distinct : goal.project-requires-clause-distinct
project-requires-clause-distinct g c =
    let shared = chosen_is shared_with c.args.by.now.classes c.args.keep.now.classes _ _ _ _
    c.classes-classes.ensures.classes c.classes.ensures.classes c.in_ok-shared.ensures
    c.as_slice-shared.ensures in
    subst AreDistinct (sym shared)
    (AllPairs-filter (λ a b. a ≢ b) (λ k. has_class c.args.keep.now.classes k) c.args.by.now.classes
    c.classes-classes.ensures.relation.distinct)

pub reduced-requires-2 : goal.reduced-requires-2
reduced-requires-2 g c =
    let shared = chosen_is shared_with c.args.by.now.classes c.args.keep.now.classes _ _ _ _
    c.classes-classes.ensures.classes c.classes.ensures.classes c.in_ok-shared.ensures
    c.as_slice-shared.ensures in
    subst (All (Contains c.args.keep.now.classes)) (sym (c.in_ok-projected.ensures.classes ∙ shared))
    (shared_held c.args.by.now.classes c.args.keep.now.classes)

pub returns-clause-rows : goal.returns-clause-rows
returns-clause-rows g c =
    let shared = chosen_is shared_with c.args.by.now.classes c.args.keep.now.classes _ _ _ _
    c.classes-classes.ensures.classes c.classes.ensures.classes c.in_ok-shared.ensures
    c.as_slice-shared.ensures in
    let step = λ (kept : ClassRows). semijoined_by c.args.keep.now c.args.by.now c.in_ok-projected.projected
    kept (c.in_ok-projected.ensures.classes ∙ shared) c.in_ok-projected.ensures.rows in
    IfOk-weaker _ (λ (r : Option ClassRows). IfSome r (IsJoinOf c.args.keep.now c.in_ok-projected.projected))
    (λ (r : Option ClassRows). IfSome r (IsSemijoinOf c.args.keep.now c.args.by.now))
    (λ r h. IfSome_then r h step) c.reduced-2.ensures.rows

pub returns-clause-same : goal.returns-clause-same
returns-clause-same g c =
    let shared = chosen_is shared_with c.args.by.now.classes c.args.keep.now.classes _ _ _ _
    c.classes-classes.ensures.classes c.classes.ensures.classes c.in_ok-shared.ensures
    c.as_slice-shared.ensures in
    let step = semijoined_by c.args.keep.now c.args.by.now c.in_ok-projected.projected c.args.keep.now
    (c.in_ok-projected.ensures.classes ∙ shared) c.in_ok-projected.ensures.rows in
    IfOk-weaker _
    (λ (r : Option ClassRows). IfNone r
    (IsJoinOf c.args.keep.now c.in_ok-projected.projected c.args.keep.now))
    (λ (r : Option ClassRows). IfNone r (IsSemijoinOf c.args.keep.now c.args.by.now c.args.keep.now))
    (λ r h. none_weaker r step h) c.reduced-2.ensures.same

pub returns-then-is_empty-clause-same : goal.returns-then-is_empty-clause-same
returns-then-is_empty-clause-same g c =
    none_to_drop c.args.keep.now c.args.by.now
    (no_row c.args.keep.now.rows (sym (ap (λ (t : Rows). length t.rows) c.table.ensures)
    ∙ c.is_empty.ensures.0 c.if-is_empty.true))

pub returns-then-is_empty-3-clause-same : goal.returns-then-is_empty-3-clause-same
returns-then-is_empty-3-clause-same g c =
    let shared = chosen_is shared_with c.args.by.now.classes c.args.keep.now.classes _ _ _ _
    c.classes-classes.ensures.classes c.classes.ensures.classes c.in_ok-shared.ensures
    c.as_slice-shared.ensures in
    all_kept_by c.args.keep.now c.args.by.now c.as_slice-shared.result.now c.table-2.result.now
    c.is_empty-3.result c.is_empty-2.result c.classes-classes.ensures.relation shared c.is_empty-3.ensures
    c.if-is_empty-3.true
    c.table-2.ensures c.is_empty-2.ensures c.if-is_empty-2.false

pub returns-then-eq-clause-apart : goal.returns-then-eq-clause-apart
returns-then-eq-clause-apart g c apart =
    let shared = chosen_is shared_with c.args.by.now.classes c.args.keep.now.classes _ _ _ _
    c.classes-classes.ensures.classes c.classes.ensures.classes c.in_ok-shared.ensures
    c.as_slice-shared.ensures in
    absurd (not_apart c.args.keep.now c.args.by.now c.as_slice-shared.result.now c.is_empty-3.result shared
    c.is_empty-3.ensures c.if-is_empty-3.false apart)

pub returns-in_err-projected-clause-apart : goal.returns-in_err-projected-clause-apart
returns-in_err-projected-clause-apart g c apart =
    let shared = chosen_is shared_with c.args.by.now.classes c.args.keep.now.classes _ _ _ _
    c.classes-classes.ensures.classes c.classes.ensures.classes c.in_ok-shared.ensures
    c.as_slice-shared.ensures in
    absurd (not_apart c.args.keep.now c.args.by.now c.as_slice-shared.result.now c.is_empty-3.result shared
    c.is_empty-3.ensures c.if-is_empty-3.false apart)

pub returns-clause-apart : goal.returns-clause-apart
returns-clause-apart g c apart =
    let shared = chosen_is shared_with c.args.by.now.classes c.args.keep.now.classes _ _ _ _
    c.classes-classes.ensures.classes c.classes.ensures.classes c.in_ok-shared.ensures
    c.as_slice-shared.ensures in
    absurd (not_apart c.args.keep.now c.args.by.now c.as_slice-shared.result.now c.is_empty-3.result shared
    c.is_empty-3.ensures c.if-is_empty-3.false apart)
