-- The applicable steps above a step: schema by schema, and within its schema by the rows.
use Rattle.std.proofs.Common.{◌≡◌, ℕ, ◌+◌, ◌-◌, ◌<◌, ◌≤◌, suc, Bool, true, false, not, cond, List, [], ◌∷◌}
use Rattle.std.proofs.Common.{◌++◌, length, map, filter, Some, slice_get, refl, sym, ◌∙◌, ap, arith, Contains}
use Rattle.std.specs.Prelude.{slice_index}
use Rattle.std.specs.List.{flat_map, range_with_len}
use Rattle.std.specs.declared.cmp.Ordering.{Ordering}
use Rattle.std.specs.declared.cmp.Ordering.TheVariants.{Less, Equal, Greater}
use Rattle.std.specs.Ordering.{is_lt, is_le, nat_cmp, ordering_then}
use Rattle.std.proofs.lemmas.Cmp.{tied_itself, nat_list_cmp_total}
use Rattle.std.proofs.lemmas.Grind.{flat_map-append}
use Rattle.std.proofs.lemmas.List.{length-map, map-append}
use Rattle.std.proofs.lemmas.Option.{slice_get_within}
use Rattle.pl_rows.specs.Rows.{row_cmp}
use Rattle.pl_hyper.proofs.Members.{within_range}
use Rattle.pl_task.specs.declared.data.Schema.{Schema}
use Rattle.pl_task.specs.declared.task.Task.{Task}
use Rattle.pl_task.specs.Instance.{Instance}
use Rattle.pl_task.specs.States.{State, IsStep}
use Rattle.pl_normal.specs.Measures.{assigned}
use Rattle.pl_normal.specs.ParameterOrder.{is_among, classes_in_order, parameter_order, order_of}
use Rattle.pl_normal.specs.Query.{args_under}
use Rattle.pl_normal.specs.StepOrder.{read_in, step_key, step_cmp}
use Rattle.pl_normal.specs.Steps.{applicable_steps}
use Rattle.pl_normal.proofs.Ordered.{classes_once}
use Rattle.pl_normal.proofs.Listing.{row_rest, row_less, order_at, ties_same, front_decides, key_parts}
use Rattle.pl_cursor.specs.Cursor.{is_past}
use Rattle.pl_gen.specs.Walks.{is_above}
use Rattle.pl_gen.specs.SchemaSteps.{applicable_of, step_at, class_key}
use Rattle.pl_reduce.proofs.Filters.{filter_none, filter_whole}
use Rattle.pl_gen.proofs.Blocks.{filter_agree, filter-map, filter-flat_map}
use Rattle.pl_gen.proofs.Blocks.{blocks_agree, blocks_none, range_split, range_from}
use Rattle.pl_gen.proofs.SchemaRows.{steps_come_by_schemas, block_number, assigned_row}

-- ---- the steps of other schemas

-- the objects of a step in the parameter order of its schema
abbrev own_read : Task → Instance → List ℕ
own_read task step = read_in (order_of task step.schema) step.args

-- a step of a later schema is above
later_above : (task : Task) (past step : Instance) → past.schema < step.schema →
    is_above task past step ≡ true
unfolding step_key
later_above task past step h =
    ap is_lt (row_less past.schema step.schema (own_read task past) (own_read task step) h)

-- and one of an earlier schema is not
earlier_below : (task : Task) (past step : Instance) → step.schema < past.schema →
    is_above task past step ≡ false
unfolding step_key
earlier_below task past step h =
    ap (λ o. is_lt (ordering_then o (row_cmp (own_read task past) (own_read task step))))
    (greater past.schema step.schema h)
  where
    greater : (u v : ℕ) → v < u → nat_cmp u v ≡ Greater
    greater u v k = grind arith

pub steps_above_come_by_schemas : (task : Task) (s : State) (past : Instance) → IsStep task past →
    filter (is_above task past) (applicable_steps task s) ≡
    filter (is_above task past) (applicable_of task s past.schema)
    ++ flat_map (applicable_of task s)
    (range_with_len (past.schema + 1) (length task.schemas - (past.schema + 1)))
steps_above_come_by_schemas task s past is =
    let low : past.schema < length task.schemas =
    slice_get_within task.schemas past.schema is.schema is.found in
    let rest : ℕ = length task.schemas - (past.schema + 1) in
    let more : List ℕ = range_with_len (past.schema + 1) rest in
    let numbers : range_with_len 0 (length task.schemas) ≡
    range_with_len 0 past.schema ++ past.schema ∷ more =
    range_split 0 past.schema (suc rest) past.schema (length task.schemas) (omega arith) (omega arith) in
    ap (filter (is_above task past)) (steps_come_by_schemas task s)
    ∙ (filter-flat_map (is_above task past) (applicable_of task s) (range_with_len 0 (length task.schemas))
    ∙ (ap (flat_map above) numbers
    ∙ (flat_map-append above (range_with_len 0 past.schema) (past.schema ∷ more)
    ∙ (ap (λ ys. ys ++ (above past.schema ++ flat_map above more))
    (blocks_none above (range_with_len 0 past.schema) earlier)
    ∙ ap (λ ys. above past.schema ++ ys) (blocks_agree above (applicable_of task s) more (later rest))))))
  where
    above : ℕ → List Instance
    above h = filter (is_above task past) (applicable_of task s h)

    earlier : (h : ℕ) → Contains (range_with_len 0 past.schema) h → above h ≡ []
    earlier h m = filter_none (is_above task past) (applicable_of task s h) (λ step c.
        let small : h < past.schema = within_range past.schema h m in
        let same : step.schema ≡ h = block_number task s h step c in
        earlier_below task past step (omega arith))

    later : (rest h : ℕ) → Contains (range_with_len (past.schema + 1) rest) h →
        above h ≡ applicable_of task s h
    later rest h m = filter_whole (is_above task past) (applicable_of task s h) (λ step c.
        let large : past.schema + 1 ≤ h = range_from (past.schema + 1) rest h m in
        let same : step.schema ≡ h = block_number task s h step c in
        later_above task past step (omega arith))

-- ---- the steps of the same schema

-- the parameters that name no unfixed class, and their objects
abbrev others_of : Schema → List ℕ
others_of schema =
    filter (λ p. not (is_among (classes_in_order schema) p)) (range_with_len 0 (length schema.parameters))

abbrev other_args : Schema → List ℕ → List ℕ
other_args schema args = map (slice_index args) (others_of schema)

-- the objects of the step under a row
abbrev args_at : Schema → List ℕ → List ℕ
args_at schema row = args_under schema (assigned (classes_in_order schema) row)

-- a step, read in the parameter order, begins with the objects of the classes
past_parts : (schema : Schema) (args : List ℕ) →
    read_in (parameter_order schema) args ≡ class_key schema args ++ other_args schema args
unfolding parameter_order
past_parts schema args = map-append (slice_index args) (classes_in_order schema) (others_of schema)

row_parts : (schema : Schema) (row : List ℕ) → length row ≡ length (classes_in_order schema) →
    read_in (parameter_order schema) (args_at schema row) ≡ row ++ other_args schema (args_at schema row)
unfolding parameter_order
row_parts schema row long =
    key_parts schema (assigned (classes_in_order schema) row) (others_of schema)
    ∙ ap (λ xs. xs ++ other_args schema (args_at schema row))
    (assigned_row (classes_in_order schema) row (classes_once schema) long)

-- steps of one schema compare as their objects do, read in its parameter order
compared : (task : Task) (number : ℕ) (schema : Schema) (past : Instance) (args : List ℕ) →
    slice_get task.schemas number ≡ Some schema → past.schema ≡ number →
    step_cmp task past (record { schema = number; args = args }) ≡
    row_cmp (read_in (parameter_order schema) past.args) (read_in (parameter_order schema) args)
unfolding step_key
compared task number schema past args found same =
    (λ i. row_cmp (same i ∷ read_in (order_of task (same i)) past.args)
    (number ∷ read_in (order_of task number) args))
    ∙ (row_rest number (read_in (order_of task number) past.args) (read_in (order_of task number) args)
    ∙ ap (λ order. row_cmp (read_in order past.args) (read_in order args))
    (order_at task number schema found))

parts_compared : (task : Task) (number : ℕ) (schema : Schema) (past : Instance) (row : List ℕ) →
    slice_get task.schemas number ≡ Some schema → past.schema ≡ number →
    length row ≡ length (classes_in_order schema) →
    step_cmp task past (step_at number schema row) ≡
    row_cmp (class_key schema past.args ++ other_args schema past.args)
    (row ++ other_args schema (args_at schema row))
parts_compared task number schema past row found same long =
    compared task number schema past (args_at schema row) found same
    ∙ (λ i. row_cmp (past_parts schema past.args i) (row_parts schema row long i))

-- fronts that differ decide
front_differs : (xs ys us vs : List ℕ) (o : Ordering) → length xs ≡ length ys → row_cmp xs ys ≡ o →
    (o ≡ Equal → ⊥) → row_cmp (xs ++ us) (ys ++ vs) ≡ o
front_differs xs ys us vs o long e apart = front_decides xs ys us vs long (λ same. absurd (tied same)) ∙ e
  where
    tied : xs ≡ ys → ⊥
    tied same = apart (sym e ∙ (ap (λ zs. row_cmp zs ys) same ∙ tied_itself nat_list_cmp_total ys))

both_same : (a b : Bool) → cond a b b ≡ b
both_same true b = refl
both_same false b = refl

itself_counts : (a : Bool) → cond a true false ≡ a
itself_counts true = refl
itself_counts false = refl

less_apart : Less ≡ Equal → ⊥
less_apart h = cc

greater_apart : Greater ≡ Equal → ⊥
greater_apart h = cc

-- a row that differs from the key decides
key_decides : (task : Task) (number : ℕ) (schema : Schema) (past : Instance) (row : List ℕ) (o : Ordering) →
    slice_get task.schemas number ≡ Some schema → past.schema ≡ number →
    length row ≡ length (classes_in_order schema) → row_cmp (class_key schema past.args) row ≡ o →
    (o ≡ Equal → ⊥) → is_above task past (step_at number schema row) ≡ is_lt o
key_decides task number schema past row o found same long e apart =
    let many : length (class_key schema past.args) ≡ length row =
    length-map (classes_in_order schema) (slice_index past.args) ∙ sym long in
    ap is_lt (parts_compared task number schema past row found same long
    ∙ front_differs (class_key schema past.args) row (other_args schema past.args)
    (other_args schema (args_at schema row)) o many e apart)

-- whether the step under the key is above
abbrev key_above : Task → ℕ → Schema → Instance → Bool
key_above task number schema past = is_above task past (step_at number schema (class_key schema past.args))

above_by : (task : Task) (number : ℕ) (schema : Schema) (past : Instance) (row : List ℕ) (o : Ordering) →
    slice_get task.schemas number ≡ Some schema → past.schema ≡ number →
    length row ≡ length (classes_in_order schema) → row_cmp (class_key schema past.args) row ≡ o →
    is_above task past (step_at number schema row) ≡
    cond (key_above task number schema past) (is_le o) (is_lt o)
above_by task number schema past row Less found same long e =
    key_decides task number schema past row Less found same long e less_apart
    ∙ sym (both_same (key_above task number schema past) true)
above_by task number schema past row Greater found same long e =
    key_decides task number schema past row Greater found same long e greater_apart
    ∙ sym (both_same (key_above task number schema past) false)
above_by task number schema past row Equal found same long e =
    ap (λ r. is_above task past (step_at number schema r))
    (sym (ties_same (class_key schema past.args) row e))
    ∙ sym (itself_counts (key_above task number schema past))

pub steps_above_are_rows_past : (task : Task) (number : ℕ) (schema : Schema) (past : Instance)
    (rows : List (List ℕ)) → slice_get task.schemas number ≡ Some schema →
    IsStep task past → past.schema ≡ number →
    ((row : List ℕ) → Contains rows row → length row ≡ length (classes_in_order schema)) →
    filter (is_above task past) (map (step_at number schema) rows) ≡
    map (step_at number schema)
    (filter (is_past (is_above task past (step_at number schema (class_key schema past.args)))
    (class_key schema past.args)) rows)
steps_above_are_rows_past task number schema past rows found is same long =
    let key : List ℕ = class_key schema past.args in
    filter-map (is_above task past) (step_at number schema) rows
    ∙ ap (map (step_at number schema))
    (filter_agree (λ row. is_above task past (step_at number schema row))
    (is_past (key_above task number schema past) key) rows
    (λ row m. above_by task number schema past row (row_cmp key row) found same (long row m) refl))
