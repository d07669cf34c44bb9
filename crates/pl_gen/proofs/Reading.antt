-- How many probes a walk takes.
use Rattle.std.proofs.Common.{◌≡◌, ℕ, ◌+◌, ◌*◌, ◌<◌, ◌≤◌, zero, suc, Bool, true, false, List, [], ◌∷◌, length}
use Rattle.std.proofs.Common.{drop, filter, get_or, Option, Some, None, slice_get, refl, sym, ◌∙◌, ap, subst}
use Rattle.std.proofs.Common.{arith}
use Rattle.std.specs.List.{list_all, sum_by}
use Rattle.std.proofs.lemmas.List.Sums.{sum_by-cons, length-filter, count_by-le-length}
use Rattle.std.proofs.lemmas.Option.{slice_get_within}
use Rattle.pl_rows.specs.Rows.{Rows}
use Rattle.pl_task.specs.declared.data.Schema.{Schema}
use Rattle.pl_task.specs.declared.task.Task.{Task}
use Rattle.pl_cursor.specs.Cursor.{CursorView, Gives, AreAnswersPast}
use Rattle.pl_reduce.specs.Nodes.{ReducedJoin}
use Rattle.pl_normal.specs.declared.form.Sieve.{Sieve}
use Rattle.pl_normal.specs.Filters.{late_of}
use Rattle.pl_normal.specs.Guards.{guards_of}
use Rattle.pl_normal.specs.Measures.{local_answers}
use Rattle.pl_normal.specs.Query.{meets_guard}
use Rattle.pl_normal.specs.ParameterOrder.{classes_in_order}
use Rattle.pl_gen.specs.declared.turn.Turn.{Turn}
use Rattle.pl_gen.specs.declared.turn.Turn.TheVariants as turn
use Rattle.pl_gen.specs.declared.entry.Entry.{Entry}
use Rattle.pl_gen.specs.declared.entry.Entry.TheVariants as entry
use Rattle.pl_gen.specs.Entries.{AreTablesFor}
use Rattle.pl_gen.specs.Kept.{IsPrepared}
use Rattle.pl_gen.specs.declared.place.Place.{Place}
use Rattle.pl_gen.specs.Reads.{row_reads, turn_reads_of, reads_of, reads_at, TakesOfLocal}
use Rattle.pl_gen.specs.Turns.{WalksOnLocal}
use Rattle.pl_gen.specs.Walks.{PreparedState, state_of_prepared, schema_reads, reads_in, walk_reads, AreLocal}
use Rattle.pl_gen.proofs.Stepping.{schema_here, with_entry, entry_at}
use Rattle.pl_gen.proofs.Turning.{join_rows}
use Rattle.pl_gen.proofs.Counting.{rows_counted}
use Rattle.std.proofs.Math.Nat.{mul-le-mul_right}

times_more : (m r : ℕ) → (suc m) * r ≡ r + m * r
times_more m r = grind arith

-- a row less is left, and no more was taken than it might
read_row : (whole before mid after n m r k t : ℕ) → before + n * r ≤ whole → n ≡ suc m → r ≡ 2 * k + t
    → mid ≤ before + 2 * k → after ≤ mid + t → after + m * r ≤ whole
read_row whole before mid after n m r k t old one is next late =
    let more : n * r ≡ r + m * r = ap (λ x. x * r) one ∙ times_more m r in
    omega (arith, old, more, is, next, late)

pub row_read : (schema : Schema) (old new : CursorView) (row : List ℕ) (late : List Sieve)
    (whole before mid after : ℕ) → before + length old.left * row_reads schema ≤ whole → Gives old new row
    → old.join.classes ≡ classes_in_order schema → late ≡ late_of schema →
    mid ≤ before + 2 * length old.join.classes → after ≤ mid + length late
    → after + length new.left * row_reads schema ≤ whole
row_read schema old new row late whole before mid after counted gives same late_is next tests =
    read_row whole before mid after (length old.left) (length new.left) (row_reads schema)
    (length old.join.classes) (length late) counted (ap length gives.left)
    (λ i. 2 * length (sym same i) + length (sym late_is i)) next tests

-- the first row of a turn without late filters
pub row_local : (schema : Schema) (old : CursorView) (late : List Sieve) (first before mid after : ℕ)
    → late_of schema ≡ [] → before ≡ first → old.join.classes ≡ classes_in_order schema
    → late ≡ late_of schema →
    mid ≤ before + 2 * length old.join.classes → after ≤ mid + length late
    → after ≤ first + 2 * length (classes_in_order schema)
row_local schema old late first before mid after none start same late_is next tests =
    let no_test : length late ≡ 0 = ap length (late_is ∙ none) in
    let wide : length old.join.classes ≡ length (classes_in_order schema) = ap length same in
    omega (arith, no_test, wide, start, next, tests)

-- no row fails without late filters
pub none_fails : {P : Type 0} (p : Sieve → Bool) (late : List Sieve) (b : Bool) → late ≡ []
    → b ≡ list_all p late → b ≡ false → P
none_fails p late b none is fails = absurd (differ (sym fails ∙ (is ∙ ap (list_all p) none)))
  where
    differ : false ≡ true → ⊥
    differ h = cc

-- ---- the turn of a schema, and those behind it

pub read_step : (p : PreparedState) (number : ℕ) (schema : Schema) (t u : Turn) (before after : ℕ)
    → slice_get p.task.schemas number ≡ Some schema → after + turn_reads_of
    (Some schema) u ≤ before + turn_reads_of (Some schema) t →
    after + reads_of p number u ≤ before + reads_of p number t
read_step p number schema t u before after found cost =
    let old : turn_reads_of (slice_get p.task.schemas number) t ≡ turn_reads_of (Some schema) t =
    ap (λ x. turn_reads_of x t) found in
    let new : turn_reads_of (slice_get p.task.schemas number) u ≡ turn_reads_of (Some schema) u =
    ap (λ x. turn_reads_of x u) found in
    omega (arith, cost, old, new)

-- ---- the loop over schemas

-- a turn that is over is followed by that of the next schema
pub read_next : (p : PreparedState) (place taken : Place) (t : Turn) (whole before after : ℕ)
    → before + reads_at p place ≤ whole → after + reads_at p taken ≤ before + reads_at p place →
    reads_of p (taken.number + 1) t ≤ reads_in p.task (state_of_prepared p)
    (drop (taken.number + 1) p.task.schemas) → after + reads_of p (taken.number + 1) t ≤ whole
read_next p place taken t whole before after old cost next = omega (arith, old, cost, next)

fewer_local : (task : Task) (first last more : ℕ) → last ≤ more → AreLocal task first more
    → AreLocal task first last
fewer_local task first last more low local number schema from to found =
    local number schema from (omega (arith, low, to)) found

-- passing on to the next schema takes no probe where no filter is late
pub local_next : (p : PreparedState) (first number other start before after : ℕ)
    → (AreLocal p.task first number → before ≡ start) → first ≤ number → number < length p.task.schemas
    → other ≡ number →
    ((schema : Schema) → slice_get p.task.schemas number ≡ Some schema → late_of schema ≡ []
    → TakesOfLocal schema before after false) → AreLocal p.task first (other + 1) → after ≡ start
local_next p first number other start before after old from low same cost local =
    of_one (schema_here p.task.schemas number low)
  where
    of_one : (s : Schema) × (slice_get p.task.schemas number ≡ Some s) → after ≡ start
    of_one (s, found) =
        cost s found (local number s from (omega (arith, same)) found)
        ∙ old (fewer_local p.task first number (other + 1) (omega (arith, same)) local)

-- and the schema that gives the step takes what its row does
pub local_given : (task : Task) (first number other start before after : ℕ)
    → (AreLocal task first number → before ≡ start) → first ≤ number → other ≡ number →
    ((schema : Schema) → slice_get task.schemas number ≡ Some schema → late_of schema ≡ []
    → TakesOfLocal schema before after true) → AreLocal task first other
    → WalksOnLocal task start after other true
local_given task first number other start before after old from same cost local schema found =
    let local' : AreLocal task first number = subst (λ n. AreLocal task first n) same local in
    let found' : slice_get task.schemas number ≡ Some schema = ap (slice_get task.schemas) (sym same)
    ∙ found in
    let taken : after ≤ before + 2 * length (classes_in_order schema) =
    cost schema found' (local' number schema from (omega arith) found') in
    let begun = old local' in omega (arith, taken, begun)

-- ---- what the turn of a schema may take

-- what the schemas from one on may take: that one, and those behind it
reads_split : (f : Schema → ℕ) (schemas : List Schema) (n : ℕ) (schema : Schema)
    → slice_get schemas n ≡ Some schema → sum_by f (drop n schemas) ≡ f schema + sum_by f
    (drop (suc n) schemas)
reads_split f [] zero schema found = absurd (cc)
reads_split f [] (suc n) schema found = absurd (cc)
reads_split f (x ∷ xs) zero schema found = let same : x ≡ schema = cc in sum_by-cons f x xs
    ∙ ap (λ y. f y + sum_by f xs) same
reads_split f (x ∷ xs) (suc n) schema found = reads_split f xs n schema found

reads_less : (f : Schema → ℕ) (schemas : List Schema) (n : ℕ)
    → sum_by f (drop (suc n) schemas) ≤ sum_by f (drop n schemas)
reads_less f [] zero = omega arith
reads_less f [] (suc n) = omega arith
reads_less f (x ∷ xs) zero = let whole = sum_by-cons f x xs in omega (arith, whole)
reads_less f (x ∷ xs) (suc n) = reads_less f xs n

one_more : (n : ℕ) → n + 1 ≡ suc n
one_more n = omega arith

split_here : (f : Schema → ℕ) (schemas : List Schema) (n : ℕ) (schema : Schema)
    → slice_get schemas n ≡ Some schema → sum_by f (drop n schemas) ≡ f schema + sum_by f
    (drop (n + 1) schemas)
split_here f schemas n schema found = reads_split f schemas n schema found
    ∙ ap (λ k. f schema + sum_by f (drop k schemas)) (sym (one_more n))

less_here : (f : Schema → ℕ) (schemas : List Schema) (n : ℕ)
    → sum_by f (drop (n + 1) schemas) ≤ sum_by f (drop n schemas)
less_here f schemas n = subst (λ k. sum_by f (drop k schemas) ≤ sum_by f (drop n schemas)) (sym (one_more n))
    (reads_less f schemas n)

-- all schemas from one on may take no more than all
from_less : (f : Schema → ℕ) (schemas : List Schema) (n : ℕ) → sum_by f (drop n schemas) ≤ sum_by f schemas
from_less f schemas zero = omega arith
from_less f schemas (suc n) = let less = reads_less f schemas n in let rest = from_less f schemas n in
    omega (arith, less, rest)

abbrev reads_from : PreparedState → ℕ → ℕ
reads_from p number = reads_in p.task (state_of_prepared p) (drop number p.task.schemas)

over_takes : (found : Option Schema) → turn_reads_of found turn.Over ≡ 0
over_takes None = refl
over_takes (Some schema) = refl

once_takes : (found : Option Schema) → turn_reads_of found turn.Once ≡ 0
once_takes None = refl
once_takes (Some schema) = refl

pub over_reads : (p : PreparedState) (number : ℕ) → reads_of p number turn.Over ≤ reads_from p number
over_reads p number =
    let none = over_takes (slice_get p.task.schemas number) in
    let less = less_here (schema_reads p.task (state_of_prepared p)) p.task.schemas number in
    omega (arith, none, less)

pub once_reads : (p : PreparedState) (number : ℕ) → reads_of p number turn.Once ≤ reads_from p number
once_reads p number =
    let none = once_takes (slice_get p.task.schemas number) in
    let less = less_here (schema_reads p.task (state_of_prepared p)) p.task.schemas number in
    omega (arith, none, less)

-- the rows of a turn, and three probes more for each class
pub rows_reads : (p : PreparedState) (number : ℕ) (schema : Schema) (cursor : CursorView)
    → slice_get p.task.schemas number ≡ Some schema → length cursor.left ≤ local_answers p.task
    (state_of_prepared p) schema →
    reads_of p number (turn.Rows cursor) + 3 * length (classes_in_order schema) ≤ reads_from p number
unfolding schema_reads
rows_reads p number schema cursor found few =
    let here : turn_reads_of (slice_get p.task.schemas number) (turn.Rows cursor) ≡ length
    cursor.left * row_reads schema = ap (λ x. turn_reads_of x (turn.Rows cursor)) found in
    let whole = split_here (schema_reads p.task (state_of_prepared p)) p.task.schemas number schema found in
    let less = mul-le-mul_right {m = length cursor.left}
    {n = local_answers p.task (state_of_prepared p) schema} (row_reads schema) few in
    omega (arith, here, whole, less)

-- the answers of a schema's join are as many as its local answers
answers_counted : (p : PreparedState) (number : ℕ) (schema : Schema) (join : ReducedJoin)
    (all : List (List ℕ)) → slice_get p.task.schemas number ≡ Some schema
    → list_all (meets_guard (state_of_prepared p)) (guards_of p.task schema) ≡ true →
    AreTablesFor p.task schema (state_of_prepared p) join → AreAnswersPast join (λ _. true) all
    → length all ≡ local_answers p.task (state_of_prepared p) schema
answers_counted p number schema join all found guards tables answers =
    rows_counted p.task number schema (state_of_prepared p) all found
    (join_rows p.task schema (state_of_prepared p) join all guards tables answers)

pub rows_reads_here : (p : PreparedState) (task : Task) (words : List ℕ) (tables : List (Option Rows))
    (entries : List Entry) (number : ℕ) (e : Entry) (reduced : ReducedJoin) (cursor : CursorView)
    → record { task = task; words = words } ≡ p → IsPrepared task words tables entries
    → number < length p.task.schemas →
    e ≡ get_or entries number e → e ≡ entry.Tables reduced → AreAnswersPast reduced (λ _. true) cursor.left
    → reads_of p number (turn.Rows cursor) ≤ reads_from p number
rows_reads_here p task words tables entries number e reduced cursor is prepared low at tabled answers =
    with_entry _ p task words tables entries number e is prepared low at
    (λ s found here of. by s (rows_reads p number s cursor found
    (same_few (answers_counted p number s reduced cursor.left found (of.tables_guards reduced tabled)
    (of.tables_are reduced tabled) answers))))
  where
    same_few : {n m : ℕ} → n ≡ m → n ≤ m
    same_few same = omega (arith, same)

    by : (s : Schema) → reads_of p number (turn.Rows cursor) + 3 * length
        (classes_in_order s) ≤ reads_from p number → reads_of p number
        (turn.Rows cursor) ≤ reads_from p number
    by s h = omega (arith, h)

-- what a walk that is resumed there takes to find its place, and may take for the rows past it
pub past_reads_here : (p : PreparedState) (task : Task) (words : List ℕ) (tables : List (Option Rows))
    (entries : List Entry) (number before after : ℕ) (e : Entry) (reduced : ReducedJoin) (cursor : CursorView)
    (passes : List ℕ → Bool) (s : Schema) → record { task = task; words = words } ≡ p
    → IsPrepared task words tables entries → slice_get p.task.schemas number ≡ Some s →
    e ≡ get_or entries number e → e ≡ entry.Tables reduced → (all : List (List ℕ))
    × AreAnswersPast reduced (λ _. true) all → AreAnswersPast reduced passes cursor.left →
    ((join : ReducedJoin) (passes : List ℕ → Bool) (all left : List (List ℕ))
    → AreAnswersPast join (λ _. true) all → AreAnswersPast join passes left → left ≡ filter passes all) →
    after ≤ before + 3 * length reduced.classes → after + reads_of p number
    (turn.Rows cursor) ≤ before + reads_from p number
past_reads_here p task words tables entries number before after e reduced cursor passes s is prepared found at
    tabled (all, answers) left law cost =
    let of = entry_at p task words tables entries number s e is prepared
    (slice_get_within p.task.schemas number s found) at found in
    let counted = answers_counted p number s reduced all found (of.tables_guards reduced tabled)
    (of.tables_are reduced tabled) answers in
    let kept = ap length (law reduced passes all cursor.left answers left) ∙ length-filter passes all in
    let fewer = count_by-le-length passes all in
    let wide = ap length (of.tables_are reduced tabled).classes in
    let reads = rows_reads p number s cursor found (omega (arith, counted, kept, fewer)) in
    omega (arith, reads, wide, cost)

-- a walk from a turn on
pub whole_reads : (p : PreparedState) (number before after : ℕ) (t : Turn)
    → after + reads_of p number t ≤ before + reads_from p number
    → after + reads_of p number t ≤ before + walk_reads p
whole_reads p number before after t cost = let less = from_less (schema_reads p.task (state_of_prepared p))
    p.task.schemas number in omega (arith, cost, less)

pub sought : (before after : ℕ) (joined classes : List ℕ) (schema : Schema) → classes ≡ joined
    → classes ≡ classes_in_order schema → after ≤ before + 3 * length joined
    → after ≤ before + 3 * length (classes_in_order schema)
sought before after joined classes schema same named cost =
    let first = ap length same in
    let second = ap length named in omega (arith, first, second, cost)
