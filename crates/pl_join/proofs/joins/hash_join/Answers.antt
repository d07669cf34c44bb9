use Rattle.std.proofs.Common.{◌≡◌, ◌+◌, ◌-◌, ◌<◌, ◌++◌, All, Contains, length, ap, sym, subst}
use Rattle.std.proofs.Common.{◌∙◌, arith, ℕ, List}
use Rattle.std.proofs.lemmas.List.{append-nil, length-append}
use Rattle.std.proofs.lemmas.Result.{IfOk-weaker}
use Rattle.pl_rows.specs.Rows.{Rows, AreRows}
use Rattle.pl_join.specs.Relation.{ClassRows, AreDistinct, without}
use Rattle.pl_join.specs.Source.{shared_with}
use Rattle.pl_join.proofs.Assignments.{few_classes}
use Rattle.pl_join.proofs.Operations.{shared_held, chosen_is}
use Rattle.pl_join.proofs.Joining.{none_left, all_among, arranged_held, arranged_distinct, arranged_few}
use Rattle.pl_join.proofs.Joining.{joined_distinct, joined_below, joined_made}
use Rattle.pl_join.proofs.joins.hash_join.Goals as goal

-- the shared classes and then the rest, as they are made
arranged_is : (classes others given given_others shared_items shared rest_items rest : List ℕ)
    → given ≡ classes → given_others ≡ others → shared_items ≡ shared_with given given_others
    → shared ≡ shared_items → rest_items ≡ without given given_others → rest ≡ rest_items
    → shared ++ rest ≡ shared_with classes others ++ without classes others
arranged_is classes others given given_others shared_items shared rest_items rest c o made s left r =
    ap (λ xs. xs ++ rest) (chosen_is shared_with classes others _ _ _ _ c o made s)
    ∙ ap (λ xs. shared_with classes others ++ xs) (chosen_is without classes others _ _ _ _ c o left r)

-- the classes of the join, as they are made
joined_is : (classes others given given_others rest_items rest all : List ℕ) → given ≡ classes
    → given_others ≡ others → rest_items ≡ without given given_others → rest ≡ rest_items
    → all ≡ given_others ++ rest → all ≡ others ++ without classes others
joined_is classes others given given_others rest_items rest all c o left r made =
    made ∙ ap (λ xs. xs ++ rest) o
    ∙ ap (λ xs. others ++ xs) (chosen_is without classes others _ _ _ _ c o left r)

pub restricted-requires : goal.restricted-requires
restricted-requires g c =
    let rest : c.as_slice-rest.result.now ≡ without c.args.right.now.classes c.args.left.now.classes =
    chosen_is without c.args.right.now.classes c.args.left.now.classes _ _ _ _
    c.classes-others.ensures.classes c.classes-classes.ensures.classes c.in_ok-rest.ensures
    c.as_slice-rest.ensures in
    let empty = none_left c.args.right.now.classes c.args.left.now.classes c.as_slice-rest.result.now _ rest
    c.is_empty.ensures c.if-is_empty.true in
    all_among c.args.right.now.classes c.args.left.now.classes empty

pub returns-then-is_empty-clause-classes : goal.returns-then-is_empty-clause-classes
returns-then-is_empty-clause-classes g c =
    let rest : c.as_slice-rest.result.now ≡ without c.args.right.now.classes c.args.left.now.classes =
    chosen_is without c.args.right.now.classes c.args.left.now.classes _ _ _ _
    c.classes-others.ensures.classes c.classes-classes.ensures.classes c.in_ok-rest.ensures
    c.as_slice-rest.ensures in
    let empty = none_left c.args.right.now.classes c.args.left.now.classes c.as_slice-rest.result.now _ rest
    c.is_empty.ensures c.if-is_empty.true in
    IfOk-weaker _ (λ (r : ClassRows). r.classes ≡ c.args.left.now.classes)
    (λ (r : ClassRows). r.classes ≡ c.args.left.now.classes
    ++ without c.args.right.now.classes c.args.left.now.classes)
    (λ r h. h ∙ sym (append-nil c.args.left.now.classes) ∙ ap (λ t. c.args.left.now.classes ++ t) (sym empty))
    c.restricted.ensures.classes

pub columns_of-requires : goal.columns_of-requires
columns_of-requires g c =
    let shared : c.as_slice-shared.result.now ≡ shared_with c.args.right.now.classes c.args.left.now.classes =
    chosen_is shared_with c.args.right.now.classes c.args.left.now.classes _ _ _ _
    c.classes-others.ensures.classes c.classes-classes.ensures.classes c.in_ok-shared.ensures
    c.as_slice-shared.ensures in
    rw c.classes-classes.ensures.classes
    (subst (All (Contains c.args.left.now.classes)) (sym shared)
    (shared_held c.args.right.now.classes c.args.left.now.classes))

pub indexed-requires-clause-held : goal.indexed-requires-clause-held
indexed-requires-clause-held g c =
    let both = arranged_is c.args.right.now.classes c.args.left.now.classes _ _ _
    c.as_slice-shared.result.now _ c.as_slice-rest.result.now c.classes-others.ensures.classes
    c.classes-classes.ensures.classes c.in_ok-shared.ensures c.as_slice-shared.ensures c.in_ok-rest.ensures
    c.as_slice-rest.ensures in
    subst (All (Contains c.args.right.now.classes)) (sym both)
    (arranged_held c.args.right.now.classes c.args.left.now.classes)

pub indexed-requires-clause-distinct : goal.indexed-requires-clause-distinct
indexed-requires-clause-distinct g c =
    let both = arranged_is c.args.right.now.classes c.args.left.now.classes _ _ _
    c.as_slice-shared.result.now _ c.as_slice-rest.result.now c.classes-others.ensures.classes
    c.classes-classes.ensures.classes c.in_ok-shared.ensures c.as_slice-shared.ensures c.in_ok-rest.ensures
    c.as_slice-rest.ensures in
    subst AreDistinct (sym both)
    (arranged_distinct c.args.right.now.classes c.args.left.now.classes
    c.classes-others.ensures.relation.distinct)

pub joined_rows-requires-clause-few : goal.joined_rows-requires-clause-few
joined_rows-requires-clause-few g c =
    let rest : c.as_slice-rest.result.now ≡ without c.args.right.now.classes c.args.left.now.classes =
    chosen_is without c.args.right.now.classes c.args.left.now.classes _ _ _ _
    c.classes-others.ensures.classes c.classes-classes.ensures.classes c.in_ok-rest.ensures
    c.as_slice-rest.ensures in
    let shared : c.as_slice-shared.result.now ≡ shared_with c.args.right.now.classes c.args.left.now.classes =
    chosen_is shared_with c.args.right.now.classes c.args.left.now.classes _ _ _ _
    c.classes-others.ensures.classes c.classes-classes.ensures.classes c.in_ok-shared.ensures
    c.as_slice-shared.ensures in
    omega (
      arith,
      ap (λ (t : Rows). t.arity) c.table.ensures,
      c.in_ok-index.ensures.arity,
      ap length shared,
      ap length rest,
      arranged_few c.args.right.now.classes c.args.left.now.classes c.classes-others.ensures.relation.distinct
          c.classes-others.ensures.relation.below,
      few_classes c.args.left.now.classes 64 c.classes-classes.ensures.relation.distinct
          c.classes-classes.ensures.relation.below,
    )

pub joined_rows-requires-clause-rows : goal.joined_rows-requires-clause-rows
joined_rows-requires-clause-rows g c =
    subst (λ n. AreRows n c.in_ok-index.index.table.rows) (sym c.in_ok-index.ensures.arity)
    c.in_ok-index.ensures.are_rows

pub new-requires-clause-distinct : goal.new-requires-clause-distinct
new-requires-clause-distinct g c =
    let items = joined_is c.args.right.now.classes c.args.left.now.classes _ _ _ c.as_slice-rest.result.now
    c.in_ok-appended.field-0.items c.classes-others.ensures.classes c.classes-classes.ensures.classes
    c.in_ok-rest.ensures c.as_slice-rest.ensures c.in_ok-appended.ensures in
    subst AreDistinct (sym items)
    (joined_distinct c.args.right.now.classes c.args.left.now.classes
    c.classes-others.ensures.relation.distinct c.classes-classes.ensures.relation.distinct)

pub new-requires-clause-below : goal.new-requires-clause-below
new-requires-clause-below g c =
    let items = joined_is c.args.right.now.classes c.args.left.now.classes _ _ _ c.as_slice-rest.result.now
    c.in_ok-appended.field-0.items c.classes-others.ensures.classes c.classes-classes.ensures.classes
    c.in_ok-rest.ensures c.as_slice-rest.ensures c.in_ok-appended.ensures in
    subst (All (λ c. c < 64)) (sym items)
    (joined_below c.args.right.now.classes c.args.left.now.classes c.classes-others.ensures.relation.below
    c.classes-classes.ensures.relation.below)

pub new-requires-clause-rows : goal.new-requires-clause-rows
new-requires-clause-rows g c =
    let wide : c.table.result.now.arity + (c.in_ok-index.index.table.arity - c.in_ok-index.index.width)
    ≡ length c.in_ok-appended.field-0.items =
    omega (
      arith,
      ap (λ (t : Rows). t.arity) c.table.ensures,
      c.in_ok-index.ensures.arity,
      c.in_ok-index.ensures.width,
      ap length c.in_ok-appended.ensures,
      length-append c.classes-classes.result.now c.as_slice-rest.result.now,
      ap length c.classes-classes.ensures.classes,
    ) in
    subst (λ n. AreRows n c.in_ok-table.table.rows) wide c.in_ok-table.ensures.rows

pub returns-clause-classes : goal.returns-clause-classes
returns-clause-classes g c =
    let items = joined_is c.args.right.now.classes c.args.left.now.classes _ _ _ c.as_slice-rest.result.now
    c.in_ok-appended.field-0.items c.classes-others.ensures.classes c.classes-classes.ensures.classes
    c.in_ok-rest.ensures c.as_slice-rest.ensures c.in_ok-appended.ensures in
    ap (λ (r : ClassRows). r.classes) c.new.ensures ∙ items

pub returns-clause-rows : goal.returns-clause-rows
returns-clause-rows g c =
    joined_made c.args.left.now c.args.right.now _ _ _ c.in_ok-rest.rest.items c.in_ok-shared.shared.items _ _
    c.in_ok-columns.columns.items _ _ _ c.in_ok-table.table c.in_ok-index.index.table.rows
    c.classes-classes.ensures.relation c.classes-classes.ensures.classes c.classes-others.ensures.classes
    c.in_ok-rest.ensures c.in_ok-shared.ensures
    c.as_slice-rest.ensures c.as_slice-shared.ensures c.in_ok-columns.ensures.len
    c.in_ok-columns.ensures.values c.as_slice.ensures c.table.ensures
    c.in_ok-index.ensures.rows c.in_ok-table.ensures.same c.in_ok-appended.ensures c.new.ensures
