-- The turn of a schema gives its applicable steps.
use Rattle.std.proofs.Common.{◌≡◌, ℕ, ◌+◌, ◌-◌, ◌<◌, ◌≤◌, zero, suc, Bool, true, false, ◌&&◌, cond, IsTrue}
use Rattle.std.proofs.Common.{List, [], ◌∷◌, ◌++◌, length, map, filter, get_or, Option, Some, None, slice_get}
use Rattle.std.proofs.Common.{refl, sym, ◌∙◌, ap, subst, arith, All, Contains}
use Rattle.std.specs.Prelude.{slice_index}
use Rattle.std.specs.List.{flat_map, list_all, range_with_len}
use Rattle.std.proofs.lemmas.List.{length-map}
use Rattle.std.proofs.lemmas.List.Elements.{Contains-get_or}
use Rattle.pl_task.specs.declared.data.Schema.{Schema}
use Rattle.pl_task.specs.declared.task.Task.{Task}
use Rattle.pl_task.specs.Instance.{Instance}
use Rattle.pl_task.specs.States.{State, IsStep, is_applicable, is_applicable_by}
use Rattle.pl_join.specs.Relation.{Assignment}
use Rattle.pl_join.proofs.Members.{Contains-from_map}
use Rattle.pl_reduce.specs.Nodes.{ReducedJoin}
use Rattle.pl_cursor.specs.Cursor.{CursorView, AreAnswersPast, is_past}
use Rattle.pl_normal.specs.Edges.{edges_of}
use Rattle.pl_normal.specs.Filters.{local_of}
use Rattle.pl_normal.specs.Guards.{guards_of}
use Rattle.pl_normal.specs.ParameterOrder.{classes_in_order, order_of}
use Rattle.pl_normal.specs.Steps.{steps_of, step_of, tuples}
use Rattle.pl_normal.specs.Query.{step_under, meets_edge, meets_guard, meets_sieve, is_local_answer}
use Rattle.pl_normal.specs.Query.{is_answer}
use Rattle.pl_normal.specs.declared.form.Placed.{Placed}
use Rattle.pl_gen.specs.declared.turn.Turn.{Turn}
use Rattle.pl_gen.specs.declared.turn.Turn.TheVariants as turn
use Rattle.pl_gen.specs.Entries.{AreTablesFor}
use Rattle.pl_gen.specs.Kept.{turn_steps, turn_steps_of, later_steps, left_of, IsTurnOf, AreRowsFor}
use Rattle.pl_normal.specs.Queries.{is_join_answer}
use Rattle.pl_gen.specs.SchemaSteps.{applicable_of, step_at, passes_late, AreRowsOf, class_key}
use Rattle.pl_gen.specs.Walks.{PreparedState, state_of_prepared, is_above, steps_in, steps_above}
use Rattle.pl_gen.proofs.Asking.{keeps_static}
use Rattle.pl_reduce.proofs.Filters.{filter_none}
use Rattle.pl_gen.proofs.SchemaRows.{rows_are_steps, late_filters_are_last, false_guards_stop}
use Rattle.pl_gen.proofs.SchemaRows.{no_edge_is_one_step, no_class, row_long, step_at-is}
use Rattle.pl_gen.proofs.SchemaRows.{steps_come_by_schemas}
use Rattle.pl_gen.proofs.Above.{steps_above_are_rows_past, steps_above_come_by_schemas}
use Rattle.std.proofs.lemmas.Option.{same_Some}

-- ---- the answers of the reduced join are the local answers

three : (a b c : Bool) → b ≡ true → ((a && b) && c) ≡ (a && c)
three a b c h = ap (λ x. (a && x) && c) h ∙ one a
  where
    one : (a : Bool) → ((a && true) && c) ≡ (a && c)
    one true = refl
    one false = refl

local_is : (task : Task) (schema : Schema) (s : State) (f : Assignment)
    → list_all (meets_guard s) (guards_of task schema) ≡ true
    → is_local_answer task schema s f ≡ is_join_answer task schema s f
unfolding is_local_answer is_join_answer
local_is task schema s f h = three (list_all (meets_edge task schema s f) (edges_of schema))
    (list_all (meets_guard s) (guards_of task schema))
    (list_all (λ (placed : Placed). meets_sieve s f placed.sieve) (local_of schema)) h

pub join_rows : (task : Task) (schema : Schema) (s : State) (join : ReducedJoin) (rows : List (List ℕ))
    → list_all (meets_guard s) (guards_of task schema) ≡ true → AreTablesFor task schema s join
    → AreAnswersPast join (λ _. true) rows →
    AreRowsOf schema (is_local_answer task schema s) rows
join_rows task schema s join rows guards tables answers =
    record { ascending = answers.ascending; members = λ row. (down row, up row) }
  where
    down : (row : List ℕ) → Contains rows row → (f : Assignment) × IsTrue (is_local_answer task schema s f)
        × (row ≡ map f (classes_in_order schema))
    down row h =
        let (f, holds, is) = ((answers.members row).0 h).0 in (
          f,
          subst IsTrue (sym (local_is task schema s f guards)) ((tables.same_join f).0 holds),
          is
              ∙ ap (map f) tables.classes,
        )

    up : (row : List ℕ) → (f : Assignment) × IsTrue (is_local_answer task schema s f)
        × (row ≡ map f (classes_in_order schema)) → Contains rows row
    up row (f, h, is) = (answers.members row).1 (
      (
        f,
        (tables.same_join f).1 (subst IsTrue (local_is task schema s f guards) h),
        is
            ∙ ap (map f) (sym tables.classes),
      ),
      refl,
    )

-- the rows of answers are as long as the classes are many
pub rows_wide : (join : ReducedJoin) (passes : List ℕ → Bool) (rows : List (List ℕ))
    → AreAnswersPast join passes rows → All (λ (row : List ℕ). length row ≡ length join.classes) rows
rows_wide join passes rows answers k d low =
    let (f, holds, is) = ((answers.members (get_or rows k d)).0 (Contains-get_or rows k d low)).0 in
    ap length is ∙ length-map join.classes f

-- ---- turns

-- a turn that has begun with all answers
pub rows_turn : (p : PreparedState) (number : ℕ) (schema : Schema) (cursor : CursorView)
    → slice_get p.task.schemas number ≡ Some schema → list_all (meets_guard (state_of_prepared p))
    (guards_of p.task schema) ≡ true →
    AreTablesFor p.task schema (state_of_prepared p) cursor.join
    → AreAnswersPast cursor.join (λ _. true) cursor.left
    → turn_steps p number (turn.Rows cursor) ≡ applicable_of p.task (state_of_prepared p) number
rows_turn p number schema cursor found guards tables answers =
    ap (λ x. turn_steps_of p number x (turn.Rows cursor)) found
    ∙ sym (rows_are_steps p.task number schema (state_of_prepared p)
    (filter (passes_late schema (state_of_prepared p)) cursor.left) found (keeps_static p.task p.words)
    (late_filters_are_last p.task number schema (state_of_prepared p) cursor.left found
    (join_rows p.task schema (state_of_prepared p) cursor.join cursor.left guards tables answers)))

pub rows_for : (task : Task) (number : ℕ) (schema : Schema) (s : State) (passes : List ℕ → Bool)
    (cursor : CursorView) → slice_get task.schemas number ≡ Some schema
    → AreTablesFor task schema s cursor.join → AreAnswersPast cursor.join passes cursor.left
    → AreRowsFor task number cursor
rows_for task number schema s passes cursor found tables answers = record {
  classes = λ other at. tables.classes ∙ ap classes_in_order (same_Some schema other (sym found ∙ at));
  wide = rows_wide cursor.join passes cursor.left answers;
}

pub rows_turn_of : (task : Task) (number : ℕ) (cursor : CursorView) → number < length task.schemas
    → AreRowsFor task number cursor → IsTurnOf task number (turn.Rows cursor)
rows_turn_of task number cursor low is = record {
  in_range = λ _. low;
  once = λ schema e found. absurd (cc);
  rows = λ other e. (let same : cursor ≡ other = cc in subst (AreRowsFor task number) same is);
}

pub once_turn_of : (task : Task) (number : ℕ) (schema : Schema) → slice_get task.schemas number ≡ Some schema
    → number < length task.schemas → edges_of schema ≡ [] → IsTurnOf task number turn.Once
once_turn_of task number schema found low edges = record {
  in_range = λ _. low;
  once = λ other e at. subst (λ x. classes_in_order x ≡ []) (same_Some schema other (sym found ∙ at))
      (no_class schema edges);
  rows = λ other e. absurd (cc);
}

pub over_turn_of : (task : Task) (number : ℕ) → IsTurnOf task number turn.Over
over_turn_of task number =
    record {
      in_range = λ h. absurd (h refl);
      once = λ schema e found. absurd (cc);
      rows = λ other e.
          absurd (cc);
    }

-- nothing is left of a turn that is over
pub over_steps : (p : PreparedState) (number : ℕ) → turn_steps p number turn.Over ≡ []
over_steps p number = by (slice_get p.task.schemas number)
  where
    by : (found : Option Schema) → turn_steps_of p number found turn.Over ≡ []
    by None = refl
    by (Some schema) = refl

pub never_turn : (p : PreparedState) (number : ℕ) (schema : Schema)
    → slice_get p.task.schemas number ≡ Some schema → list_all (meets_guard (state_of_prepared p))
    (guards_of p.task schema) ≡ false →
    turn_steps p number turn.Over ≡ applicable_of p.task (state_of_prepared p) number
never_turn p number schema found guards = over_steps p number
    ∙ sym (false_guards_stop p.task number schema (state_of_prepared p) found
    (keeps_static p.task p.words) guards)

pub once_turn : (p : PreparedState) (number : ℕ) (schema : Schema)
    → slice_get p.task.schemas number ≡ Some schema → list_all (meets_guard (state_of_prepared p))
    (guards_of p.task schema) ≡ true → edges_of schema ≡ [] →
    turn_steps p number turn.Once ≡ applicable_of p.task (state_of_prepared p) number
once_turn p number schema found guards edges =
    ap (λ x. turn_steps_of p number x turn.Once) found
    ∙ sym (no_edge_is_one_step p.task number schema (state_of_prepared p) found
    (keeps_static p.task p.words) guards edges)

-- ---- the turn of the schema of a step, past that step

filter_cons : {X : Type 0} (p q : X → Bool) (x : X) (xs : List X) (a b : Bool) → p x ≡ a → q x ≡ b
    → filter p (filter q xs) ≡ filter q (filter p xs)
    → filter p (cond b (x ∷ filter q xs) (filter q xs)) ≡ filter q (cond a (x ∷ filter p xs) (filter p xs))
filter_cons p q x xs true true at is same =
    ap (λ c. cond c (x ∷ filter p (filter q xs)) (filter p (filter q xs))) at
    ∙ (ap (λ ys. x ∷ ys) same
    ∙ sym (ap (λ c. cond c (x ∷ filter q (filter p xs)) (filter q (filter p xs))) is))
filter_cons p q x xs true false at is same = same
    ∙ sym (ap (λ c. cond c (x ∷ filter q (filter p xs)) (filter q (filter p xs))) is)
filter_cons p q x xs false true at is same =
    ap (λ c. cond c (x ∷ filter p (filter q xs)) (filter p (filter q xs))) at ∙ same
filter_cons p q x xs false false at is same = same

-- two filters may be exchanged
filter_swap : {X : Type 0} (p q : X → Bool) (xs : List X) → filter p (filter q xs) ≡ filter q (filter p xs)
filter_swap p q [] = refl
filter_swap p q (x ∷ xs) = filter_cons p q x xs (p x) (q x) refl refl (filter_swap p q xs)

pub past_turn : (p : PreparedState) (past : Instance) (schema : Schema) (cursor : CursorView)
    (inclusive : Bool) (key : List ℕ) (all : List (List ℕ))
    → slice_get p.task.schemas past.schema ≡ Some schema → IsStep p.task past →
    list_all (meets_guard (state_of_prepared p)) (guards_of p.task schema) ≡ true
    → AreTablesFor p.task schema (state_of_prepared p) cursor.join
    → AreAnswersPast cursor.join (λ _. true) all → cursor.left ≡ filter (is_past inclusive key) all →
    key ≡ class_key schema past.args → inclusive ≡ is_above p.task past
    (step_under past.schema schema (slice_index past.args)) →
    turn_steps p past.schema (turn.Rows cursor) ≡ filter (is_above p.task past)
    (applicable_of p.task (state_of_prepared p) past.schema)
past_turn p past schema cursor inclusive key all found step guards tables answers left key_is inclusive_is =
    ap (λ x. turn_steps_of p past.schema x (turn.Rows cursor)) found
    ∙ (ap (λ rows. map (step_at past.schema schema) (filter (passes_late schema (state_of_prepared p)) rows))
    (left ∙ λ i. filter (is_past (above i) (key_is i)) all)
    ∙ (ap (map (step_at past.schema schema))
    (filter_swap (passes_late schema (state_of_prepared p))
    (is_past (is_above p.task past (step_at past.schema schema (class_key schema past.args)))
    (class_key schema past.args)) all)
    ∙ (sym (steps_above_are_rows_past p.task past.schema schema past rows found step refl long)
    ∙ ap (filter (is_above p.task past))
    (sym (rows_are_steps p.task past.schema schema (state_of_prepared p) rows found
    (keeps_static p.task p.words) are)))))
  where
    rows : List (List ℕ)
    rows = filter (passes_late schema (state_of_prepared p)) all

    are : AreRowsOf schema (is_answer p.task schema (state_of_prepared p)) rows
    are = late_filters_are_last p.task past.schema schema (state_of_prepared p) all found
        (join_rows p.task schema (state_of_prepared p) cursor.join all guards tables answers)

    long : (row : List ℕ) → Contains rows row → length row ≡ length (classes_in_order schema)
    long row h = row_long schema (is_answer p.task schema (state_of_prepared p)) rows row are h

    above : inclusive ≡ is_above p.task past (step_at past.schema schema (class_key schema past.args))
    above = inclusive_is ∙ ap (is_above p.task past)
        (sym (step_at-is p.task past.schema schema (slice_index past.args) found))

-- of a schema with one step
pub once_past : (p : PreparedState) (past : Instance) (schema : Schema) (above : Bool)
    → slice_get p.task.schemas past.schema ≡ Some schema →
    list_all (meets_guard (state_of_prepared p)) (guards_of p.task schema) ≡ true → edges_of schema ≡ []
    → above ≡ is_above p.task past (step_under past.schema schema (slice_index past.args)) →
    cond above (turn_steps p past.schema turn.Once) [] ≡ filter (is_above p.task past)
    (applicable_of p.task (state_of_prepared p) past.schema)
once_past p past schema above found guards edges is =
    ap (λ xs. cond above xs []) (once_turn p past.schema schema found guards edges ∙ one)
    ∙ (same above refl
    ∙ sym (ap (filter (is_above p.task past)) one ∙ ap (λ b. cond b (the_step ∷ []) [])
    (sym (is ∙ ap (is_above p.task past) (sym the_same)))))
  where
    the_step : Instance
    the_step = step_at past.schema schema []

    one : applicable_of p.task (state_of_prepared p) past.schema ≡ the_step ∷ []
    one = no_edge_is_one_step p.task past.schema schema (state_of_prepared p) found
        (keeps_static p.task p.words) guards edges

    the_same : the_step ≡ step_under past.schema schema (slice_index past.args)
    the_same = ap (step_at past.schema schema)
        (sym (ap (map (slice_index past.args)) (no_class schema edges)))
        ∙ step_at-is p.task past.schema schema (slice_index past.args) found

    same : (b : Bool) → above ≡ b → cond above (the_step ∷ []) [] ≡ cond above (the_step ∷ []) []
    same b e = refl

-- ---- all schemas

steps_number : (task : Task) (number : ℕ) (step : Instance) → Contains (steps_of task number) step
    → step.schema ≡ number
steps_number task number step h =
    of_tuple (Contains-from_map (step_of number (order_of task number))
    (tuples (length task.objects) (length (order_of task number))) step h)
  where
    of_tuple : (tuple : List ℕ) × Contains (tuples (length task.objects) (length (order_of task number)))
        tuple × (step_of number (order_of task number) tuple ≡ step) → step.schema ≡ number
    of_tuple (tuple, m, e) = sym (ap (λ (x : Instance). x.schema) e)

missing : (task : Task) (s : State) (number : ℕ) (step : Instance) → slice_get task.schemas number ≡ None
    → step.schema ≡ number → is_applicable task s step ≡ false
missing task s number step none at = ap (is_applicable_by task s step.args)
    (ap (slice_get task.schemas) at ∙ none)

-- behind the last schema no step is applicable
pub none_behind : (task : Task) (s : State) (number : ℕ) → slice_get task.schemas number ≡ None
    → applicable_of task s number ≡ []
unfolding applicable_of
none_behind task s number none = filter_none (is_applicable task s) (steps_of task number)
    (λ step h. missing task s number step none (steps_number task number step h))

pub past_last : (xs : List Schema) (n : ℕ) → length xs ≤ n → slice_get xs n ≡ None
past_last [] n h = refl
past_last (x ∷ xs) zero h = absurd (omega arith)
past_last (x ∷ xs) (suc n) h = past_last xs n (omega arith)

-- the steps of the schemas behind one: those of the next, and those behind it
pub later_more : (p : PreparedState) (number : ℕ) → number < length p.task.schemas
    → later_steps p number ≡ applicable_of p.task (state_of_prepared p) (number + 1)
    ++ later_steps p (number + 1)
later_more p number low = by (length p.task.schemas - (number + 1)) refl
  where
    g : ℕ → List Instance
    g = applicable_of p.task (state_of_prepared p)

    by : (n : ℕ) → length p.task.schemas - (number + 1) ≡ n
        → flat_map g (range_with_len (number + 1) (length p.task.schemas - (number + 1))) ≡
        g (number + 1)
        ++ flat_map g (range_with_len (number + 1 + 1) (length p.task.schemas - (number + 1 + 1)))
    by zero e =
        let none : g (number + 1) ≡ [] = none_behind p.task (state_of_prepared p) (number + 1)
        (past_last p.task.schemas (number + 1) (omega arith)) in
        let rest : length p.task.schemas - (number + 1 + 1) ≡ 0 = omega arith in
        ap (λ n. flat_map g (range_with_len (number + 1) n)) e
        ∙ sym (λ i. none i ++ flat_map g (range_with_len (number + 1 + 1) (rest i)))
    by (suc n) e =
        let rest : length p.task.schemas - (number + 1 + 1) ≡ n = omega arith in
        ap (λ n. flat_map g (range_with_len (number + 1) n)) e
        ∙ sym (ap (λ n. g (number + 1) ++ flat_map g (range_with_len (number + 1 + 1) n)) rest)

-- a walk begins with all applicable steps
pub all_left : (p : PreparedState) (t : Turn) → turn_steps p 0 t ≡ applicable_of p.task
    (state_of_prepared p) 0 → left_of p 0 t ≡ steps_in p
all_left p t is = ap (λ xs. xs ++ later_steps p 0) is
    ∙ (by (length p.task.schemas) refl ∙ sym (steps_come_by_schemas p.task (state_of_prepared p)))
  where
    g : ℕ → List Instance
    g = applicable_of p.task (state_of_prepared p)

    by : (n : ℕ) → length p.task.schemas ≡ n → g 0
        ++ flat_map g (range_with_len 1 (length p.task.schemas - 1)) ≡ flat_map g
        (range_with_len 0 (length p.task.schemas))
    by zero e =
        let none : g 0 ≡ [] = none_behind p.task (state_of_prepared p) 0
        (past_last p.task.schemas 0 (omega arith)) in
        let rest : length p.task.schemas - 1 ≡ 0 = omega arith in
        (λ i. none i ++ flat_map g (range_with_len 1 (rest i)))
        ∙ sym (ap (λ n. flat_map g (range_with_len 0 n)) e)
    by (suc n) e =
        let rest : length p.task.schemas - 1 ≡ n = omega arith in
        ap (λ n. g 0 ++ flat_map g (range_with_len 1 n)) rest
        ∙ sym (ap (λ n. flat_map g (range_with_len 0 n)) e)

-- and one past a step with those above it
pub above_left : (p : PreparedState) (past : Instance) (t : Turn) → IsStep p.task past
    → turn_steps p past.schema t ≡ filter (is_above p.task past)
    (applicable_of p.task (state_of_prepared p) past.schema) → left_of p past.schema t ≡ steps_above p past
above_left p past t step is = ap (λ xs. xs ++ later_steps p past.schema) is
    ∙ sym (steps_above_come_by_schemas p.task (state_of_prepared p) past step)
