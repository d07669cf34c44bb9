-- Where the parts of a state's words lie.
use Rattle.std.proofs.Common.{◌≡◌, ◌+◌, ◌*◌, ◌<◌, ◌≤◌, ℕ, suc, true, false, cond, List, [], ◌∷◌, ◌++◌, length}
use Rattle.std.proofs.Common.{get_or, take, drop, refl, sym, ap, ◌∙◌, subst, All, arith, slice_get, Some}
use Rattle.std.proofs.Common.{append_assoc, length-append}
use Rattle.std.specs.List.{flat_map}
use Rattle.std.proofs.lemmas.List.{take_at, drop_at, append-nil, take-append-drop, length-take-le, take_more}
use Rattle.std.proofs.lemmas.List.{drop_more, get_or_at}
use Rattle.std.proofs.lemmas.Option.{slice_get_within, slice_get_read, get_or_from_slice_get, same_Some}
use Rattle.pl_rows.specs.Rows.{rows_of}
use Rattle.pl_task.specs.declared.data.PredicateDef.{PredicateDef}
use Rattle.pl_task.specs.declared.task.Task.{Task}
use Rattle.pl_state.specs.Layout.{part_of, parts_from, AreTrueRows}
use Rattle.pl_state.specs.StateOf.{rows_in, is_fluent_in, arity_one, arity_in, state_in, IsStateOf}
use Rattle.pl_state.specs.Reading.{start_of, IsPartAt}
use Rattle.pl_state.proofs.PartWords.{parts_from-append, parts_from-agree, length-flat}
use Rattle.pl_state.proofs.StatesOfWords.{layout_rows, fluent_definition}
use Rattle.pl_rows.proofs.Sorting.{rows_of-joined}

-- a part between other words
pub part_between : (words front rest : List ℕ) (rows : List (List ℕ)) (at k : ℕ) →
    words ≡ front ++ (part_of rows ++ rest) → at ≡ length front →
    All (λ row. length row ≡ k) rows → IsPartAt words at k rows
part_between words front rest rows at k is start wide =
    let many : length (flat_map (λ row. row) rows) ≡ k * length rows = length-flat k rows wide in
    let size : length (part_of rows) ≡ 1 + k * length rows = omega arith in
    let before : take at words ≡ front =
    ap (take at) is ∙ take_at front (part_of rows ++ rest) at (sym start) in
    let again : words ≡ (front ++ part_of rows) ++ rest = is ∙ sym (append_assoc front (part_of rows) rest) in
    let end : length (front ++ part_of rows) ≡ at + (1 + k * length rows) =
    length-append front (part_of rows) ∙ (omega arith) in
    let behind : drop (at + (1 + k * length rows)) words ≡ rest =
    ap (drop (at + (1 + k * length rows))) again ∙
    drop_at (front ++ part_of rows) rest (at + (1 + k * length rows)) end in
    let number : get_or words at 0 ≡ length rows =
    ap (λ w. get_or w at 0) is ∙
    get_or_at front (length rows) (flat_map (λ row. row) rows ++ rest) 0 at (sym start) in
    let total : length words ≡ (at + (1 + k * length rows)) + length rest =
    ap length again ∙ length-append (front ++ part_of rows) rest ∙ ap (λ n. n + length rest) end in
    record {
      split = rw (before, behind) is;
      count = number;
      whole = rw number (omega arith);
      wide = wide;
    }

-- the parts up to a predicate, its own, and those behind it
parts_split : (rows : ℕ → List (List ℕ)) (ds : List PredicateDef) (p : ℕ) (d : PredicateDef) →
    slice_get ds p ≡ Some d →
    parts_from rows 0 ds ≡ parts_from rows 0
    (take p ds) ++ (cond d.is_static [] (part_of (rows p)) ++ parts_from rows (suc p) (drop (p + 1) ds))
parts_split rows ds p d found =
    let within : p < length ds = slice_get_within ds p d found in
    let here : get_or ds p d ≡ d = get_or_from_slice_get ds p d d found in
    let cut : ds ≡ take p ds ++ d ∷ drop (p + 1) ds =
    sym (take-append-drop p ds) ∙
    ap (λ xs. take p ds ++ xs) (drop_more ds p d within ∙ ap (λ x. x ∷ drop (p + 1) ds) here) in
    let n : 0 + length (take p ds) ≡ p = omega (arith, length-take-le p ds (omega arith)) in
    ap (parts_from rows 0) cut ∙ parts_from-append rows 0 (take p ds) (d ∷ drop (p + 1) ds) ∙
    ap (λ q. parts_from rows 0 (take p ds) ++ parts_from rows q (d ∷ drop (p + 1) ds)) n

-- the parts up to the next predicate
pub parts_more : (rows : ℕ → List (List ℕ)) (ds : List PredicateDef) (p : ℕ) (d : PredicateDef) →
    slice_get ds p ≡ Some d →
    parts_from rows 0 (take (p + 1) ds) ≡ parts_from rows 0 (take p ds) ++ cond d.is_static []
    (part_of (rows p))
parts_more rows ds p d found =
    let within : p < length ds = slice_get_within ds p d found in
    let here : get_or ds p d ≡ d = get_or_from_slice_get ds p d d found in
    let n : 0 + length (take p ds) ≡ p = omega (arith, length-take-le p ds (omega arith)) in
    ap (parts_from rows 0) (take_more ds p d within ∙ ap (λ x. take p ds ++ x ∷ []) here) ∙
    parts_from-append rows 0 (take p ds) (d ∷ []) ∙
    ap (λ q. parts_from rows 0 (take p ds) ++ parts_from rows q (d ∷ [])) n ∙
    ap (λ w. parts_from rows 0 (take p ds) ++ w) (append-nil (cond d.is_static [] (part_of (rows p))))

-- what is read from the words of a state is what they lay out
pub record AreRead (task : Task) (words : List ℕ) : Type 0 where
  pub words_are : words ≡ parts_from (rows_in task.predicates words) 0 task.predicates
  pub true_rows : (p : ℕ) (d : PredicateDef) → slice_get task.predicates p ≡ Some d → d.is_static ≡ false →
      AreTrueRows (length task.objects) (state_in task words) p d.arity (rows_in task.predicates words p)

pub state_read : (task : Task) (words : List ℕ) → IsStateOf task words → AreRead task words
state_read task words h = record {
  words_are = h.words_are ∙ parts_from-agree h.rows (rows_in task.predicates words) 0 task.predicates
      (λ p d found fluent. let n : 0 + p ≡ p = omega arith in
      rw n (sym (layout_rows task (state_in task words) words h p d found fluent)));
  true_rows = λ p d found fluent. subst (AreTrueRows (length task.objects) (state_in task words) p d.arity)
      (sym (layout_rows task (state_in task words) words h p d found fluent)) (h.true_rows p d found fluent);
}

-- the definition that the code reads
pub definition_read : (task : Task) (definitions : List PredicateDef) (p : ℕ) (d : PredicateDef) →
    definitions ≡ task.predicates → p < length task.predicates →
    d ≡ get_or definitions p d → slice_get task.predicates p ≡ Some d
definition_read task definitions p d are within reads =
    slice_get_read task.predicates (length task.predicates) p d refl within (reads ∙
    ap (λ (l : List PredicateDef). get_or l p d) are)

-- a fluent predicate is one of the task
pub fluent_within : (task : Task) (p : ℕ) → is_fluent_in task p ≡ true → p < length task.predicates
fluent_within task p h = let (d, found, f) = fluent_definition task p h in
    slice_get_within task.predicates p d found

-- the part of a fluent predicate lies where it starts
pub part_at : (task : Task) (words : List ℕ) (p at : ℕ) (d : PredicateDef) → IsStateOf task words →
    at ≡ start_of task words p →
    slice_get task.predicates p ≡ Some d → d.is_static ≡ false →
    IsPartAt words at d.arity (rows_in task.predicates words p)
part_at task words p at d h start found fluent =
    let read = state_read task words h in
    let rows = rows_in task.predicates words in
    let is : words ≡ parts_from rows 0
    (take p task.predicates) ++ (cond false [] (part_of (rows p)) ++ parts_from rows (suc p)
    (drop (p + 1) task.predicates)) =
    read.words_are ∙ parts_split rows task.predicates p d found ∙
    ap (λ b. parts_from rows 0
    (take p task.predicates) ++ (cond b [] (part_of (rows p)) ++ parts_from rows (suc p)
    (drop (p + 1) task.predicates))) fluent in
    part_between words (parts_from rows 0 (take p task.predicates))
    (parts_from rows (suc p) (drop (p + 1) task.predicates)) (rows p) at d.arity is start
    (read.true_rows p d found fluent).table.width

-- the next part starts behind it
pub start_more : (task : Task) (words : List ℕ) (p at : ℕ) (d : PredicateDef) → IsStateOf task words →
    at ≡ start_of task words p →
    slice_get task.predicates p ≡ Some d → d.is_static ≡ false →
    at + (1 + d.arity * get_or words at 0) ≡ start_of task words (p + 1)
start_more task words p at d h start found fluent =
    let part = part_at task words p at d h start found fluent in
    let rows = rows_in task.predicates words in
    let many : length (flat_map (λ row. row) (rows p)) ≡ d.arity * length (rows p) =
    length-flat d.arity (rows p) part.wide in
    let next : start_of task words (p + 1) ≡ length
    (parts_from rows 0 (take p task.predicates) ++ part_of (rows p)) =
    ap length (parts_more rows task.predicates p d found ∙
    ap (λ b. parts_from rows 0 (take p task.predicates) ++ cond b [] (part_of (rows p))) fluent) in
    rw part.count (sym (next ∙ length-append (parts_from rows 0 (take p task.predicates)) (part_of (rows p)) ∙
    (omega arith)))

-- a static predicate has no part
pub start_static : (task : Task) (words : List ℕ) (p at : ℕ) (d : PredicateDef) → at ≡ start_of task words p →
    slice_get task.predicates p ≡ Some d → d.is_static ≡ true → at ≡ start_of task words (p + 1)
start_static task words p at d start found static =
    let rows = rows_in task.predicates words in
    start ∙ sym (ap length (parts_more rows task.predicates p d found ∙
    ap (λ b. parts_from rows 0 (take p task.predicates) ++ cond b [] (part_of (rows p))) static ∙
    append-nil (parts_from rows 0 (take p task.predicates))))

-- the rows of a part are the words behind its number
pub part_flat : (words : List ℕ) (at k : ℕ) (rows : List (List ℕ)) → at ≤ length words →
    IsPartAt words at k rows →
    take (k * length rows) (drop (at + 1) words) ≡ flat_map (λ row. row) rows
part_flat words at k rows within part =
    let rest = drop (at + (1 + k * length rows)) words in
    let flat = flat_map (λ row. row) rows in
    let size : length (take at words ++ length rows ∷ []) ≡ at + 1 =
    length-append (take at words) (length rows ∷ []) ∙ ap (λ n. n + 1) (length-take-le at words within) in
    let again : words ≡ (take at words ++ length rows ∷ []) ++ (flat ++ rest) =
    part.split ∙ sym (append_assoc (take at words) (length rows ∷ []) (flat ++ rest)) in
    ap (λ w. take (k * length rows) (drop (at + 1) w)) again ∙
    ap (take (k * length rows)) (drop_at (take at words ++ length rows ∷ []) (flat ++ rest) (at + 1) size)
    ∙
    take_at flat rest (k * length rows) (length-flat k rows part.wide)

pub part_rows : (words flat : List ℕ) (at k n m : ℕ) (rows : List (List ℕ)) → IsPartAt words at k rows →
    n ≡ get_or words at 0 → m ≡ k * n → flat ≡ take m (drop (at + 1) words) →
    rows_of k n flat ≡ rows
part_rows words flat at k n m rows part count size cut =
    let many : n ≡ length rows = count ∙ part.count in
    let within : at ≤ length words = omega (arith, part.whole) in
    let is : flat ≡ flat_map (λ row. row) rows =
    cut ∙ ap (λ x. take x (drop (at + 1) words)) (size ∙ ap (λ x. k * x) many) ∙
    part_flat words at k rows within part in
    ap (λ x. rows_of k x flat) many ∙ ap (rows_of k (length rows)) is ∙ rows_of-joined k rows part.wide

-- the definition that is read is that of the fluent predicate
pub record IsFluentDef (task : Task) (p : ℕ) (d : PredicateDef) : Type 0 where
  pub found : slice_get task.predicates p ≡ Some d
  pub fluent : d.is_static ≡ false
  pub arity : d.arity ≡ arity_in task p

pub fluent_read : (task : Task) (definitions : List PredicateDef) (p : ℕ) (d : PredicateDef) →
    is_fluent_in task p ≡ true → definitions ≡ task.predicates →
    d ≡ get_or definitions p d → IsFluentDef task p d
fluent_read task definitions p d h are reads =
    let found : slice_get task.predicates p ≡ Some d =
    definition_read task definitions p d are (fluent_within task p h) reads in
    let (e, there, f) = fluent_definition task p h in
    let same : e ≡ d = same_Some e d (sym there ∙ found) in
    record {
      found = found;
      fluent = subst (λ (x : PredicateDef). x.is_static ≡ false) same f;
      arity = sym (ap arity_one found);
    }

-- the part of a fluent predicate, in the words that the code looks at
pub fluent_part : (task : Task) (words : List ℕ) (definitions : List PredicateDef) (p at : ℕ)
    (d : PredicateDef) → IsStateOf task words → is_fluent_in task p ≡ true →
    definitions ≡ task.predicates → d ≡ get_or definitions p d → at ≡ start_of task words p →
    IsPartAt words at d.arity (rows_in task.predicates words p)
fluent_part task words definitions p at d h fluent are reads start =
    let def = fluent_read task definitions p d fluent are reads in
    part_at task words p at d h start def.found def.fluent

-- its rows are the true ones
pub fluent_rows : (task : Task) (words : List ℕ) (p : ℕ) → IsStateOf task words → is_fluent_in task p ≡ true →
    AreTrueRows (length task.objects) (state_in task words) p (arity_in task p)
    (rows_in task.predicates words p)
fluent_rows task words p h fluent =
    let (d, found, f) = fluent_definition task p fluent in
    subst (λ k. AreTrueRows (length task.objects) (state_in task words) p k (rows_in task.predicates words p))
    (sym (ap arity_one found)) ((state_read task words h).true_rows p d found f)

-- the rows that are lent out of the words
pub record AreLent (task : Task) (words : List ℕ) (p count : ℕ) (flat : List ℕ) : Type 0 where
  pub whole : length flat ≡ arity_in task p * count
  pub read : rows_of (arity_in task p) count flat ≡ rows_in task.predicates words p
  pub rows : AreTrueRows (length task.objects) (state_in task words) p (arity_in task p)
      (rows_of (arity_in task p) count flat)

pub lent : (task : Task) (words : List ℕ) (definitions : List PredicateDef) (p at : ℕ) (d : PredicateDef)
    (count : ℕ) (flat : List ℕ) → IsStateOf task words → is_fluent_in task p ≡ true →
    definitions ≡ task.predicates → d ≡ get_or definitions p d → at ≡ start_of task words p →
    count ≡ get_or words at 0 → length flat ≡ d.arity * count →
    flat ≡ take (d.arity * get_or words at 0) (drop (at + 1) words) → AreLent task words p count flat
lent task words definitions p at d count flat h fluent are reads start number long cut =
    let arity = (fluent_read task definitions p d fluent are reads).arity in
    let part = fluent_part task words definitions p at d h fluent are reads start in
    let here : rows_of d.arity count flat ≡ rows_in task.predicates words p =
    part_rows words flat at d.arity count (d.arity * get_or words at 0) (rows_in task.predicates words p)
    part number (ap (λ n. d.arity * n) (sym number)) cut in
    let read : rows_of (arity_in task p) count flat ≡ rows_in task.predicates words p =
    ap (λ k. rows_of k count flat) (sym arity) ∙ here in
    record {
      whole = long ∙ ap (λ k. k * count) arity;
      read = read;
      rows = subst (AreTrueRows (length task.objects) (state_in task words) p (arity_in task p)) (sym read)
          (fluent_rows task words p h fluent);
    }
