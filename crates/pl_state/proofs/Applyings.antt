-- The state that a step leads to, part by part.
use Rattle.std.proofs.Common.{◌≡◌, ◌⊎◌, ◌+◌, ◌-◌, ◌*◌, ◌<◌, ◌≤◌, ◌^◌, ℕ, zero, suc, Bool, true, false, not}
use Rattle.std.proofs.Common.{◌||◌, ◌&&◌, List, [], ◌∷◌, ◌++◌, length, get_or, map, take, drop, refl, sym, ap}
use Rattle.std.proofs.Common.{◌∙◌, subst, inl, inr, All, Contains, arith, Some, append_assoc, slice_get}
use Rattle.std.proofs.Common.{eq-eqb}
use Rattle.std.specs.List.{flat_map, list_any}
use Rattle.std.specs.Str.{bytes_eq}
use Rattle.std.proofs.Math.ListN.{set}
use Rattle.std.proofs.lemmas.Bool.{cases_Bool, true≢false}
use Rattle.std.proofs.lemmas.List.{take_all, drop-drop, length-map, get_or-map, append-nil, set_at}
use Rattle.std.proofs.lemmas.List.{take-append-drop, take-take, drop-take, take_at, drop_at, length-take-le}
use Rattle.std.proofs.lemmas.List.Elements.{All-weaker, All-contains, All-get_or, All-map, Contains-get_or}
use Rattle.std.proofs.lemmas.List.Folds.{list_any-from_Any, list_any_at}
use Rattle.std.proofs.lemmas.Option.{slice_get_within, slice_get_read, slice_get-get_or}
use Rattle.std.proofs.lemmas.Option.{get_or_from_slice_get, same_Some}
use Rattle.pl_rows.specs.Rows.{rows_of}
use Rattle.pl_task.specs.declared.data.Atom.{Atom}
use Rattle.pl_task.specs.declared.data.Lifted.{Lifted}
use Rattle.pl_task.specs.declared.data.PredicateDef.{PredicateDef}
use Rattle.pl_task.specs.declared.data.Schema.{Schema}
use Rattle.pl_task.specs.declared.data.Term.{Term}
use Rattle.pl_task.specs.declared.data.Term.TheVariants as term
use Rattle.pl_task.specs.declared.task.Task.{Task}
use Rattle.pl_task.specs.Instance.{Instance}
use Rattle.pl_task.specs.States.{State, IsStep, atom_at, value_of, changed, changed_by, result_of, initial}
use Rattle.pl_task.specs.WellFormed.{is_of_predicate, changes, is_fluent, IsTermOf, IsLiftedOf, IsSchemaOf}
use Rattle.pl_task.proofs.StateLemmas.{state_of-members}
use Rattle.pl_state.specs.Layout.{atom_of, part_of, parts_from, AreTrueRows, IsLayoutOf}
use Rattle.pl_state.specs.StateOf.{rows_in, is_fluent_in, state_in, IsStateOf}
use Rattle.pl_state.specs.Reading.{start_of, IsPartAt}
use Rattle.pl_state.specs.Changing.{AppendsPart, AppendsRows, HasRow, HasValue, IsEffectAt, AreEffects}
use Rattle.pl_state.specs.Changing.{row_under, is_named, is_row_after}
use Rattle.pl_state.proofs.StatesOfWords.{same_test, among_rows, fluent_from, state_in-other}
use Rattle.pl_state.proofs.PartWords.{length-flat}
use Rattle.pl_state.proofs.Readings.{state_read, part_at, start_more, start_static, part_rows}
use Rattle.pl_state.proofs.Buildings.{AreBuilt, built_none, built_static, built_more, built_all}
use Rattle.std.proofs.lemmas.Bool.{or_parts}
use Rattle.std.proofs.lemmas.Bool.{or_left, or_right}
use Rattle.pl_state.proofs.Mergings.{kept_bits}

-- effects of a predicate have rows
pub effects_rows : (objects : ℕ) (args : List ℕ) (p k : ℕ) (effects : List Lifted) →
    All (IsEffectAt objects args p k) effects →
    All (λ (e : Lifted). e.predicate ≡ p → HasRow args k e) effects
effects_rows objects args p k effects h =
    All-weaker (IsEffectAt objects args p k) (λ (e : Lifted). e.predicate ≡ p → HasRow args k e)
    (λ e x. x.row) effects h

-- a named row is that of an effect on the predicate
pub record IsRowOf (args : List ℕ) (p : ℕ) (effects : List Lifted) (row : List ℕ) : Type 0 where
  pub effect : Lifted
  pub held : Contains effects effect
  pub of_predicate : effect.predicate ≡ p
  pub is : row_under args effect ≡ row

pub named_row : (args : List ℕ) (p : ℕ) (effects : List Lifted) (row : List ℕ) →
    is_named args p effects row ≡ true → IsRowOf args p effects row
named_row args p effects row h =
    of_place ((state_of-members (map (atom_at args) effects) (atom_of p row)).0 h)
  where
    of_place : (i : ℕ) × (i < length (map (atom_at args) effects)) ×
        (get_or (map (atom_at args) effects) i (atom_of p row) ≡ atom_of p row) → IsRowOf args p effects row
    of_place (i, within, is) =
        of_effect effects i (let l = length-map effects (atom_at args) in omega arith) is
      where
        of_effect : (xs : List Lifted) (j : ℕ) → j < length xs →
            get_or (map (atom_at args) xs) j (atom_of p row) ≡ atom_of p row → IsRowOf args p xs row
        of_effect xs j inside same =
            let e = first_of xs j inside in
            let one : atom_at args e.0 ≡ atom_of p row =
            sym (get_or-map (atom_at args) xs j e.0 (atom_of p row) inside ∙ ap (atom_at args) e.1) ∙
            same in
            record {
              effect = e.0;
              held = (j, inside, e.1);
              of_predicate =
                  ap (λ (a : Atom). a.predicate) one;
              is = ap (λ (a : Atom). a.objects) one;
            }
          where
            first_of : (ys : List Lifted) (m : ℕ) → m < length ys → (x : Lifted) × (get_or ys m x ≡ x)
            first_of [] m l = absurd (omega arith)
            first_of (y ∷ ys) zero l = (y, refl)
            first_of (y ∷ ys) (suc m) l = first_of ys m (omega arith)

-- rows that the merge appends are the true ones afterwards
pub part_after : (objects : ℕ) (args : List ℕ) (p k count : ℕ) (deletes adds : List Lifted)
    (rows : List (List ℕ)) (s : State) (old pushed merged new : List ℕ) →
    All (IsEffectAt objects args p k) adds → AreTrueRows objects s p k rows → pushed ≡ old ++ 0 ∷ [] →
    AppendsRows args p k deletes adds rows count pushed merged → count < 2 ^ 32 →
    new ≡ set merged (length old) count →
    AppendsPart objects (changed s (map (atom_at args) deletes) (map (atom_at args) adds)) p k old new
part_after objects args p k count deletes adds rows s old pushed merged new effects old_rows push h few put =
    record {
      rows = h.after;
      words_are = words;
      true_rows = record {
        table = record { width = h.wide; ascending = h.ascending };
        members = λ row. (
          (λ c. sym (same row) ∙ (h.members row).0 c),
          (λ t. (h.members row).1 (same row ∙ t)),
        );
        within = λ i d l. object_row (get_or h.after i d)
            ((h.members (get_or h.after i d)).0 (Contains-get_or h.after i d l));
        few = subst (λ n. n < 2 ^ 32) h.many few;
      };
    }
  where
    after : State
    after = changed s (map (atom_at args) deletes) (map (atom_at args) adds)

    same : (row : List ℕ) → is_row_after args p deletes adds rows row ≡ after (atom_of p row)
    same row =
        let one : list_any (bytes_eq row) rows ≡ s (atom_of p row) =
        same_test (list_any (bytes_eq row) rows) (s (atom_of p row)) (
          (λ t. (old_rows.members row).0 ((among_rows rows row).0 t)),
          (λ t. (among_rows rows row).1 ((old_rows.members row).1 t)),
        ) in
        ap (λ b. is_named args p adds row || (b && not (is_named args p deletes row))) one

    words : new ≡ old ++ part_of h.after
    words =
        let flat = flat_map (λ row. row) h.after in
        put ∙ ap (λ w. set w (length old) count) (h.words_are ∙ ap (λ w. w ++ flat) push ∙
        append_assoc old (0 ∷ []) flat) ∙ set_at old 0 flat count (length old) refl ∙
        ap (λ n. old ++ n ∷ flat) h.many

    or_cases : (a b : Bool) → (a || b) ≡ true → (a ≡ true) ⊎ (b ≡ true)
    or_cases true b t = inl refl
    or_cases false b t = inr t

    and_first : (a b : Bool) → (a && b) ≡ true → a ≡ true
    and_first true b t = refl
    and_first false b t = t

    object_row : (row : List ℕ) → is_row_after args p deletes adds rows row ≡ true →
        All (λ o. o < objects) row
    object_row row t = by_case
        (or_cases (is_named args p adds row)
        (list_any (bytes_eq row) rows && not (is_named args p deletes row)) t)
      where
        by_case : (is_named args p adds row ≡ true) ⊎
            ((list_any (bytes_eq row) rows && not (is_named args p deletes row)) ≡ true) →
            All (λ o. o < objects) row
        by_case (inl named) =
            let r = named_row args p adds row named in
            subst (All (λ o. o < objects)) r.is
            ((All-contains (IsEffectAt objects args p k) adds r.effect effects r.held).within
            r.of_predicate)
        by_case (inr kept) =
            All-contains (λ (r : List ℕ). All (λ o. o < objects) r) rows row old_rows.within
            ((among_rows rows row).0
            (and_first (list_any (bytes_eq row) rows) (not (is_named args p deletes row)) kept))

-- a predicate that no effect is on
unnamed : (args : List ℕ) (p : ℕ) (effects : List Lifted) (row : List ℕ) →
    list_any (is_of_predicate p) effects ≡ false → is_named args p effects row ≡ false
unnamed args p effects row none = by_case (cases_Bool (is_named args p effects row))
  where
    by_case : (is_named args p effects row ≡ true) ⊎ (is_named args p effects row ≡ false) →
        is_named args p effects row ≡ false
    by_case (inr f) = f
    by_case (inl t) =
        let r = named_row args p effects row t in
        absurd (true≢false (sym
        (list_any-from_Any (is_of_predicate p) effects (
          r.held.0,
          r.effect,
          r.held.1,
          r.held.2,
          eq-eqb r.effect.predicate p r.of_predicate,
        )) ∙ none))

pub untouched : (objects : ℕ) (args : List ℕ) (p k : ℕ) (deletes adds : List Lifted) (rows : List (List ℕ))
    (s : State) →
    (list_any (is_of_predicate p) deletes || list_any (is_of_predicate p) adds) ≡ false →
    AreTrueRows objects s p k rows →
    AreTrueRows objects (changed s (map (atom_at args) deletes) (map (atom_at args) adds)) p k rows
untouched objects args p k deletes adds rows s none h = record {
  table = h.table;
  members = λ row. ((λ c. same row ∙ (h.members row).0 c), (λ t. (h.members row).1 (sym (same row) ∙ t)));
  within = h.within;
  few = h.few;
}
  where
    same : (row : List ℕ) →
        changed s (map (atom_at args) deletes) (map (atom_at args) adds) (atom_of p row) ≡ s (atom_of p row)
    same row =
        let parts = or_parts (list_any (is_of_predicate p) deletes) (list_any (is_of_predicate p) adds) none
        in
        kept_bits (is_named args p adds row) (s (atom_of p row)) (is_named args p deletes row)
        (unnamed args p adds row parts.1) (unnamed args p deletes row parts.0)

-- the words of a part, cut out
pub part_words : (words : List ℕ) (at k : ℕ) (rows : List (List ℕ)) → IsPartAt words at k rows →
    take (1 + k * get_or words at 0) (drop at words) ≡ part_of rows
part_words words at k rows part =
    let within : at ≤ length words = omega (arith, part.whole) in
    let many : length (flat_map (λ row. row) rows) ≡ k * length rows = length-flat k rows part.wide in
    let size : length (part_of rows) ≡ 1 + k * length rows = omega arith in
    let rest = drop (at + (1 + k * length rows)) words in
    ap (take (1 + k * get_or words at 0)) (ap (drop at) part.split ∙
    drop_at (take at words) (part_of rows ++ rest) at (length-take-le at words within)) ∙
    take_at (part_of rows) rest (1 + k * get_or words at 0) (size ∙ ap (λ n. 1 + k * n) (sym part.count))

-- two pieces that touch
pub pieces : (words : List ℕ) (from at to : ℕ) → from ≤ at → at ≤ to →
    take (at - from) (drop from words) ++ take (to - at) (drop at words) ≡ take (to - from) (drop from words)
pieces words from at to l m =
    let whole = drop from words in
    let sum : (at - from) + (to - at) ≡ to - from = omega arith in
    let place : from + (at - from) ≡ at = omega arith in
    let there : drop (at - from) whole ≡ drop at words =
    drop-drop (at - from) from words ∙ ap (λ x. drop x words) place in
    let first : take (at - from) (take ((at - from) + (to - at)) whole) ≡ take (at - from) whole =
    take-take (at - from) ((at - from) + (to - at)) whole (omega arith) in
    let second : drop (at - from) (take ((at - from) + (to - at)) whole) ≡ take (to - at) (drop at words) =
    drop-take (at - from) (to - at) whole ∙ ap (take (to - at)) there in
    sym (ap (λ w. w ++ take (to - at) (drop at words)) first) ∙
    sym (ap (λ w. take (at - from) (take ((at - from) + (to - at)) whole) ++ w) second) ∙
    take-append-drop (at - from) (take ((at - from) + (to - at)) whole) ∙ ap (λ x. take x whole) sum

-- the state without the deletes, then with the adds
abbrev pub state_after : Task → List ℕ → List ℕ → List Lifted → List Lifted → State
state_after task old args deletes adds =
    changed (state_in task old) (map (atom_at args) deletes) (map (atom_at args) adds)

-- the parts of the first predicates are made, but for old words that are still to be copied
pub record IsApplied (task : Task) (old args : List ℕ) (deletes adds : List Lifted) (number from at : ℕ)
    (new : List ℕ) : Type 0 where
  pub start : at ≡ start_of task old number
  pub in_order : from ≤ at
  pub within : at ≤ length old
  pub built : AreBuilt task (state_after task old args deletes adds) number
      (new ++ take (at - from) (drop from old))

pub applied_none : (task : Task) (old args : List ℕ) (deletes adds : List Lifted) (new : List ℕ) → new ≡ [] →
    IsApplied task old args deletes adds 0 0 0 new
applied_none task old args deletes adds new empty = record {
  start = refl;
  in_order = omega arith;
  within = omega arith;
  built = subst (AreBuilt task (state_after task old args deletes adds) 0)
      (sym (ap (λ w. w ++ take (0 - 0) (drop 0 old)) empty ∙ ap (λ n. take n (drop 0 old)) zero_less))
      (built_none task (state_after task old args deletes adds));
}
  where
    zero_less : 0 - 0 ≡ 0
    zero_less = refl

pub applied_static : (task : Task) (old args : List ℕ) (deletes adds : List Lifted) (number from at : ℕ)
    (new : List ℕ) (d : PredicateDef) → slice_get task.predicates number ≡ Some d → d.is_static ≡ true →
    IsApplied task old args deletes adds number from at new →
    IsApplied task old args deletes adds (number + 1) from at new
applied_static task old args deletes adds number from at new d found static h = record {
  start = start_static task old number at d h.start found static;
  in_order = h.in_order;
  within = h.within;
  built = built_static task (state_after task old args deletes adds) number
      (new ++ take (at - from) (drop from old)) d found static h.built;
}

pub part_whole : (task : Task) (old : List ℕ) (number at : ℕ) (d : PredicateDef) → IsStateOf task old →
    at ≡ start_of task old number → slice_get task.predicates number ≡ Some d → d.is_static ≡ false →
    at + (1 + d.arity * get_or old at 0) ≤ length old
part_whole task old number at d state start found fluent =
    (part_at task old number at d state start found fluent).whole

pub applied_untouched : (task : Task) (old args : List ℕ) (deletes adds : List Lifted) (number from at to : ℕ)
    (new : List ℕ) (d : PredicateDef) → IsStateOf task old → slice_get task.predicates number ≡ Some d →
    d.is_static ≡ false →
    to ≡ at + (1 + d.arity * get_or old at 0) →
    (list_any (is_of_predicate number) deletes || list_any (is_of_predicate number) adds) ≡ false →
    IsApplied task old args deletes adds number from at new →
    IsApplied task old args deletes adds (number + 1) from to new
applied_untouched task old args deletes adds number from at to new d state found fluent end none h = record {
  start = end ∙ start_more task old number at d state h.start found fluent;
  in_order = omega (arith, h.in_order);
  within = omega (arith, part.whole);
  built = built_more task (state_after task old args deletes adds) number
      (new ++ take (at - from) (drop from old)) (new ++ take (to - from) (drop from old)) d found fluent
      h.built appends;
}
  where
    part : IsPartAt old at d.arity (rows_in task.predicates old number)
    part = part_at task old number at d state h.start found fluent

    appends : AppendsPart (length task.objects) (state_after task old args deletes adds) number d.arity
        (new ++ take (at - from) (drop from old)) (new ++ take (to - from) (drop from old))
    appends = record {
      rows = rows_in task.predicates old number;
      words_are = ap (λ w. new ++ w) (sym (pieces old from at to h.in_order (omega (arith, end)))) ∙
          sym (append_assoc new (take (at - from) (drop from old)) (take (to - at) (drop at old))) ∙
          ap (λ w. (new ++ take (at - from) (drop from old)) ++ w) (ap (λ n. take n (drop at old)) size ∙
          part_words old at d.arity (rows_in task.predicates old number) part);
      true_rows = untouched (length task.objects) args number d.arity deletes adds
          (rows_in task.predicates old number) (state_in task old) none
          ((state_read task old state).true_rows number d found fluent);
    }
      where
        size : to - at ≡ 1 + d.arity * get_or old at 0
        size = omega (arith, end)

pub applied_touched : (task : Task) (old args : List ℕ) (deletes adds : List Lifted) (number from at to : ℕ)
    (new copied after : List ℕ) (d : PredicateDef) → IsStateOf task old →
    slice_get task.predicates number ≡ Some d → d.is_static ≡ false →
    to ≡ at + (1 + d.arity * get_or old at 0) → copied ≡ new ++ take (at - from) (drop from old) →
    AppendsPart (length task.objects) (state_after task old args deletes adds) number d.arity copied after →
    IsApplied task old args deletes adds number from at new →
    IsApplied task old args deletes adds (number + 1) to to after
applied_touched task old args deletes adds number from at to new copied after d state found fluent end copy
    appends h = record {
      start = end ∙ start_more task old number at d state h.start found fluent;
      in_order = omega arith;
      within = omega (arith, (part_at task old number at d state h.start found fluent).whole);
      built = subst (AreBuilt task (state_after task old args deletes adds) (number + 1))
          (sym (ap (λ n. after ++ take n (drop to old)) nothing ∙ append-nil after))
          (built_more task (state_after task old args deletes adds) number copied after d found fluent
          (subst (AreBuilt task (state_after task old args deletes adds) number) (sym copy) h.built) appends);
    }
  where
    nothing : to - to ≡ 0
    nothing = omega arith

pub applied_all : (task : Task) (old args : List ℕ) (deletes adds : List Lifted) (number from at : ℕ)
    (new words : List ℕ) → IsStateOf task old → length task.predicates ≤ number →
    words ≡ new ++ take (length old - from) (drop from old) →
    IsApplied task old args deletes adds number from at new →
    IsLayoutOf task (state_after task old args deletes adds) words
applied_all task old args deletes adds number from at new words state past is h =
    built_all task (state_after task old args deletes adds) number words past
    (subst (AreBuilt task (state_after task old args deletes adds) number)
    (ap (λ n. new ++ take (n - from) (drop from old)) whole ∙ sym is) h.built)
  where
    whole : at ≡ length old
    whole = h.start ∙ ap (λ ds. length (parts_from (rows_in task.predicates old) 0 ds))
        (take_all number task.predicates past) ∙ sym (ap length (state_read task old state).words_are)

-- the rows that are lent for the merge are the true ones
pub part_true : (task : Task) (old : List ℕ) (number at : ℕ) (d : PredicateDef) (count : ℕ) (flat : List ℕ) →
    IsStateOf task old → at ≡ start_of task old number → slice_get task.predicates number ≡ Some d →
    d.is_static ≡ false →
    count ≡ get_or old at 0 → flat ≡ take (d.arity * get_or old at 0) (drop (at + 1) old) →
    AreTrueRows (length task.objects) (state_in task old) number d.arity (rows_of d.arity count flat)
part_true task old number at d count flat state start found fluent number_is cut =
    subst (AreTrueRows (length task.objects) (state_in task old) number d.arity)
    (sym (part_rows old flat at d.arity count (d.arity * get_or old at 0) (rows_in task.predicates old number)
    (part_at task old number at d state start found fluent) number_is
    (ap (λ n. d.arity * n) (sym number_is)) cut))
    ((state_read task old state).true_rows number d found fluent)

-- the objects of a step's effects are of the task
value_within : (args : List ℕ) (objects parameters : ℕ) (t : Term) → IsTermOf objects parameters t →
    length args ≡ parameters → All (λ o. o < objects) args → value_of args t < objects
value_within args objects parameters (term.Parameter n) h many within =
    All-get_or (λ o. o < objects) args n 0 (let l = h.parameter n refl in omega arith) within
value_within args objects parameters (term.Object n) h many within = h.object n refl

lifted_effect : (task : Task) (args : List ℕ) (parameters p : ℕ) (d : PredicateDef) (e : Lifted) →
    slice_get task.predicates p ≡ Some d → length args ≡ parameters →
    All (λ o. o < length task.objects) args →
    IsLiftedOf task.predicates (length task.objects) parameters e →
    IsEffectAt (length task.objects) args p d.arity e
lifted_effect task args parameters p d e found many within h = record {
  row = λ same. record {
    many = h.arity d (subst (λ n. slice_get task.predicates n ≡ Some d) (sym same) found);
    values = All-weaker (IsTermOf (length task.objects) parameters) (HasValue (length args))
        (λ t x n is. subst (λ m. n < m) (sym many) (x.parameter n is)) e.terms h.terms;
  };
  within = λ same. All-map (λ o. o < length task.objects) (value_of args) e.terms
      (All-weaker (IsTermOf (length task.objects) parameters) (λ t. value_of args t < length task.objects)
      (λ t x. value_within args (length task.objects) parameters t x many within) e.terms h.terms);
}

pub step_effects : (task : Task) (args : List ℕ) (parameters : ℕ) (effects : List Lifted) →
    length args ≡ parameters → All (λ o. o < length task.objects) args →
    All (IsLiftedOf task.predicates (length task.objects) parameters) effects → AreEffects task args effects
step_effects task args parameters effects many within h = λ p d found.
    All-weaker (IsLiftedOf task.predicates (length task.objects) parameters)
    (IsEffectAt (length task.objects) args p d.arity)
    (λ e x. lifted_effect task args parameters p d e found many within x) effects h

-- what a step's schema says, as the code reads it
pub record IsRead (task : Task) (step : Instance) (schema : Schema) : Type 0 where
  pub found : slice_get task.schemas step.schema ≡ Some schema
  pub deletes : AreEffects task step.args schema.delete
  pub adds : AreEffects task step.args schema.add
  pub well : IsSchemaOf task.types task.objects task.predicates schema

pub step_read : (task : Task) (step : Instance) (schemas : List Schema) (schema : Schema) → IsStep task step →
    schemas ≡ task.schemas → schema ≡ get_or schemas step.schema schema → IsRead task step schema
step_read task step schemas schema is_step are reads =
    let within : step.schema < length task.schemas =
    slice_get_within task.schemas step.schema is_step.schema is_step.found in
    let here : schema ≡ get_or task.schemas step.schema schema =
    reads ∙ ap (λ (l : List Schema). get_or l step.schema schema) are in
    let found : slice_get task.schemas step.schema ≡ Some schema =
    slice_get_read task.schemas (length task.schemas) step.schema schema refl within here in
    let one : is_step.schema ≡ schema = same_Some is_step.schema schema (sym is_step.found ∙ found) in
    let many : length step.args ≡ length schema.parameters =
    is_step.many ∙ ap (λ (x : Schema). length x.parameters) one in
    let well : IsSchemaOf task.types task.objects task.predicates schema =
    subst (IsSchemaOf task.types task.objects task.predicates) (sym here)
    (task.schemas_ok.each step.schema schema within) in
    record {
      found = found;
      deletes = step_effects task step.args (length schema.parameters) schema.delete many is_step.within
          well.deletes;
      adds = step_effects task step.args (length schema.parameters) schema.add many is_step.within well.adds;
      well = well;
    }

pub result_is : (task : Task) (s : State) (step : Instance) (schema : Schema) (deletes adds : List Lifted) →
    slice_get task.schemas step.schema ≡ Some schema → deletes ≡ schema.delete → adds ≡ schema.add →
    changed s (map (atom_at step.args) deletes) (map (atom_at step.args) adds) ≡ result_of task s step
result_is task s step schema deletes adds found ds news =
    ap (λ (l : List Lifted). changed s (map (atom_at step.args) l) (map (atom_at step.args) adds)) ds ∙
    ap (λ (l : List Lifted). changed s (map (atom_at step.args) schema.delete) (map (atom_at step.args) l))
    news ∙
    ap (changed_by s step.args) (sym found)

-- an effect's predicate is fluent
fluent_effect : (task : Task) (schema : Schema) (place : ℕ) (p : ℕ) →
    slice_get task.schemas place ≡ Some schema → p < length task.predicates → changes p schema ≡ true →
    is_fluent_in task p ≡ true
fluent_effect task schema place p found within touched =
    by_definition (get_or task.predicates p (first_of task.predicates p within).0)
    (slice_get-get_or task.predicates p (first_of task.predicates p within).0 within)
  where
    first_of : (ys : List PredicateDef) (m : ℕ) → m < length ys → (x : PredicateDef) × (get_or ys m x ≡ x)
    first_of [] m l = absurd (omega arith)
    first_of (y ∷ ys) zero l = (y, refl)
    first_of (y ∷ ys) (suc m) l = first_of ys m (omega arith)

    some : is_fluent task.schemas p ≡ true
    some = list_any_at (changes p) task.schemas place schema
        (slice_get_within task.schemas place schema found)
        (ap (changes p) (get_or_from_slice_get task.schemas place schema schema found) ∙ touched)

    by_definition : (d : PredicateDef) → slice_get task.predicates p ≡ Some d → is_fluent_in task p ≡ true
    by_definition d at = fluent_from task p d at (task.predicates_ok.static p d at ∙ ap not some)

-- a step changes no atom that isn't fluent
pub others_stay : (task : Task) (old : List ℕ) (step : Instance) (schema : Schema) (a : Atom) →
    IsRead task step schema → is_fluent_in task a.predicate ≡ false →
    result_of task (state_in task old) step a ≡ initial task a
others_stay task old step schema a read other =
    ap (λ o. changed_by (state_in task old) step.args o a) read.found ∙
    kept_bits (is_named step.args a.predicate schema.add a.objects) (state_in task old a)
    (is_named step.args a.predicate schema.delete a.objects) added deleted ∙ state_in-other task old a other
  where
    touched_add : is_named step.args a.predicate schema.add a.objects ≡ true →
        is_fluent_in task a.predicate ≡ true
    touched_add t =
        let r = named_row step.args a.predicate schema.add a.objects t in
        let lifted = All-contains
        (IsLiftedOf task.predicates (length task.objects) (length schema.parameters)) schema.add r.effect
        read.well.adds r.held in
        fluent_effect task schema step.schema a.predicate read.found
        (subst (λ n. n < length task.predicates) r.of_predicate lifted.predicate)
        (or_right (list_any (is_of_predicate a.predicate) schema.delete)
        (list_any (is_of_predicate a.predicate) schema.add)
        (list_any-from_Any (is_of_predicate a.predicate) schema.add (
          r.held.0,
          r.effect,
          r.held.1,
          r.held.2,
          eq-eqb r.effect.predicate a.predicate r.of_predicate,
        )))

    touched_delete : is_named step.args a.predicate schema.delete a.objects ≡ true →
        is_fluent_in task a.predicate ≡ true
    touched_delete t =
        let r = named_row step.args a.predicate schema.delete a.objects t in
        let lifted = All-contains
        (IsLiftedOf task.predicates (length task.objects) (length schema.parameters)) schema.delete
        r.effect read.well.deletes r.held in
        fluent_effect task schema step.schema a.predicate read.found
        (subst (λ n. n < length task.predicates) r.of_predicate lifted.predicate)
        (or_left (list_any (is_of_predicate a.predicate) schema.delete)
        (list_any (is_of_predicate a.predicate) schema.add)
        (list_any-from_Any (is_of_predicate a.predicate) schema.delete (
          r.held.0,
          r.effect,
          r.held.1,
          r.held.2,
          eq-eqb r.effect.predicate a.predicate r.of_predicate,
        )))

    not_named : (b : Bool) → (b ≡ true → is_fluent_in task a.predicate ≡ true) → b ≡ false
    not_named true f = absurd (true≢false (sym (f refl) ∙ other))
    not_named false f = refl

    added : is_named step.args a.predicate schema.add a.objects ≡ false
    added = not_named (is_named step.args a.predicate schema.add a.objects) touched_add

    deleted : is_named step.args a.predicate schema.delete a.objects ≡ false
    deleted = not_named (is_named step.args a.predicate schema.delete a.objects) touched_delete
