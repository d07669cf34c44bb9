-- The rows of the initial atoms of each predicate, as they are gathered, and the tables of all predicates.
use Rattle.std.proofs.Common.{◌≡◌, ◌≢◌, Option, append-nil, ℕ, ◌+◌, ◌<◌, ◌≤◌, ◌==◌, ◌↔◌, ◌⊎◌, inl, inr, Bool}
use Rattle.std.proofs.Common.{true, false, not, cond, List, [], ◌∷◌, ◌++◌, length, take, get_or, Some}
use Rattle.std.proofs.Common.{slice_get, refl, sym, ◌∙◌, ap, subst, arith, Contains, Result, Ok, Err, IfOk}
use Rattle.std.proofs.Common.{OnOk, eq-eqb, eqb-true, length-append, length-take-le}
use Rattle.std.specs.declared.alloc.AllocError.{AllocError}
use Rattle.std.proofs.Math.Seq.{get_or-append_seam}
use Rattle.std.proofs.Math.ListN.{get_or-append}
use Rattle.std.proofs.lemmas.Bool.{false≢true}
use Rattle.std.proofs.lemmas.Option.{get_or_from_slice_get, slice_get_within, slice_get_read}
use Rattle.pl_rows.specs.Rows.{Rows, AreRows, SameRows}
use Rattle.pl_rows.proofs.Canonical.{Contains-cons_cases, Contains-cons_first, Contains-nil}
use Rattle.pl_hyper.proofs.Members.{same_or_not}
use Rattle.pl_hyper.specs.Ears.{Removal, IsRemoval}
use Rattle.pl_task.specs.declared.data.Atom.{Atom}
use Rattle.pl_task.specs.declared.data.PredicateDef.{PredicateDef}
use Rattle.pl_task.specs.declared.data.Schema.{Schema}
use Rattle.pl_task.specs.declared.task.Task.{Task}
use Rattle.pl_task.specs.WellFormed.{IsAtomOf, is_fluent}
use Rattle.pl_join.proofs.Members.{Contains-flat_map, Contains-from_flat_map}
use Rattle.pl_normal.specs.declared.form.Edge.{Edge}
use Rattle.pl_normal.specs.declared.form.NormalSchema.{NormalSchema}
use Rattle.pl_normal.specs.Edges.{sets_of}
use Rattle.pl_normal.specs.EarRemoval.{ear_removal}
use Rattle.pl_normal.specs.NormalForm.{IsNormalForm}
use Rattle.pl_normal.specs.NormalTasks.{AreFormsOf}
use Rattle.pl_normal.specs.Tables.{row_atom, row_about, rows_about, gathered, AreGathered, AddsRow, IsStatic}
use Rattle.pl_normal.specs.Tables.{IsAtomTable}
use Rattle.pl_normal.proofs.Loops.{flat_more}
use Rattle.pl_normal.proofs.Removing.{one_removal}

-- ---- the rows of the atoms so far

row_here : (predicate : ℕ) (a : Atom) → predicate ≡ a.predicate → row_about predicate a ≡ a.objects ∷ []
row_here predicate a e = ap (λ b. cond b (a.objects ∷ []) []) (eq-eqb a.predicate predicate (sym e))

row_apart : (predicate : ℕ) (a : Atom) → predicate ≢ a.predicate → row_about predicate a ≡ []
row_apart predicate a apart = ap (λ b. cond b (a.objects ∷ []) []) (test (a.predicate == predicate) refl)
  where
    test : (b : Bool) → (a.predicate == predicate) ≡ b → (a.predicate == predicate) ≡ false
    test true e = absurd (apart (sym (eqb-true a.predicate predicate e)))
    test false e = e

more_here : (predicate i : ℕ) (atoms : List Atom) (a : Atom) → i < length atoms → a ≡ get_or atoms i a
    → predicate ≡ a.predicate → rows_about predicate (take i atoms)
    ++ a.objects ∷ [] ≡ rows_about predicate (take (i + 1) atoms)
more_here predicate i atoms a h at e =
    flat_more (row_about predicate) atoms i a (rows_about predicate (take i atoms))
    (rows_about predicate (take i atoms) ++ a.objects ∷ []) h at refl
    (ap (λ rows. rows_about predicate (take i atoms) ++ rows) (sym (row_here predicate a e)))

more_apart : (predicate i : ℕ) (atoms : List Atom) (a : Atom) → i < length atoms → a ≡ get_or atoms i a
    → predicate ≢ a.predicate → rows_about predicate (take i atoms) ≡ rows_about predicate
    (take (i + 1) atoms)
more_apart predicate i atoms a h at apart =
    flat_more (row_about predicate) atoms i a (rows_about predicate (take i atoms))
    (rows_about predicate (take i atoms)) h at refl
    (sym (append-nil (rows_about predicate (take i atoms)))
    ∙ ap (λ rows. rows_about predicate (take i atoms) ++ rows) (sym (row_apart predicate a apart)))

row_few : (predicate : ℕ) (a : Atom) (b : Bool) → length (cond b (a.objects ∷ []) []) ≤ 1
row_few predicate a true = omega arith
row_few predicate a false = omega arith

rows_few : (predicate : ℕ) (atoms : List Atom) → length (rows_about predicate atoms) ≤ length atoms
rows_few predicate [] = omega arith
rows_few predicate (a ∷ atoms) =
    let rest = rows_few predicate atoms in
    let one = row_few predicate a (a.predicate == predicate) in
    let long = length-append (row_about predicate a) (rows_about predicate atoms) in
    omega arith

pub front_few : (predicate i : ℕ) (atoms : List Atom) → i < length atoms
    → length (rows_about predicate (take i atoms)) ≤ i
front_few predicate i atoms h = let few = rows_few predicate (take i atoms) in let long =
    length-take-le i atoms (omega arith) in omega arith

-- ---- what is gathered

some_same : (x y : PredicateDef) → Some x ≡ Some y → x ≡ y
some_same x y q = cc

rows_same : (x y : Rows) → x.arity ≡ y.arity → x.rows ≡ y.rows → x ≡ y
rows_same x y a r = λ i. record { arity = a i; rows = r i }

pub gathered_row : (predicates : List PredicateDef) (atoms : List Atom) (i : ℕ) (a : Atom)
    (old new : List Rows) → i < length atoms → a ≡ get_or atoms i a
    → AreGathered predicates (take i atoms) old → AddsRow old new a.predicate a.objects
    → AreGathered predicates (take (i + 1) atoms) new
gathered_row predicates atoms i a old new h at are adds = record {
  many = adds.many ∙ are.many;
  each = λ p d b found static. elim (same_or_not p a.predicate) [
    | inl same ↦
        (let was : get_or old p b ≡ gathered d p (take i atoms) = are.each p d b found static in
        rows_same (get_or new p b) (gathered d p (take (i + 1) atoms))
        (ap (λ n. (get_or new n b).arity) same
        ∙ (adds.arity b ∙ (ap (λ n. (get_or old n b).arity) (sym same) ∙ ap (λ (r : Rows). r.arity) was)))
        (ap (λ n. (get_or new n b).rows) same
        ∙ (adds.rows b
        ∙ (ap (λ n. (get_or old n b).rows ++ a.objects ∷ []) (sym same)
        ∙ (ap (λ (r : Rows). r.rows ++ a.objects ∷ []) was ∙ more_here p i atoms a h at same)))))
    | inr apart ↦ adds.others p b apart
        ∙ (are.each p d b found static ∙ ap (λ rows. record { arity = d.arity; rows = rows })
        (more_apart p i atoms a h at apart))
  ];
}

pub gathered_none : (predicates : List PredicateDef) (atoms : List Atom) (i : ℕ) (a : Atom)
    (own : PredicateDef) (builders : List Rows) → i < length atoms → a ≡ get_or atoms i a
    → AreGathered predicates (take i atoms) builders → slice_get predicates a.predicate ≡ Some own
    → own.is_static ≡ false →
    AreGathered predicates (take (i + 1) atoms) builders
gathered_none predicates atoms i a own builders h at are mine fluent = record {
  many = are.many;
  each = λ p d b found static. are.each p d b found static
      ∙ ap (λ rows. record { arity = d.arity; rows = rows })
      (more_apart p i atoms a h at (λ same. apart p d same found static));
}
  where
    apart : (p : ℕ) (d : PredicateDef) → p ≡ a.predicate → slice_get predicates p ≡ Some d
        → d.is_static ≡ true → ⊥
    apart p d same found static = false≢true
        (sym fluent ∙ (ap (λ (x : PredicateDef). x.is_static)
        (some_same own d (sym mine ∙ (ap (slice_get predicates) (sym same) ∙ found))) ∙ static))

pub gathered_nothing : (predicates : List PredicateDef) (p : ℕ) (own : PredicateDef)
    (builders new : List Rows) (x : Rows) → p < length predicates
    → x ≡ record { arity = (get_or predicates p own).arity; rows = [] } → new ≡ builders ++ x ∷ []
    → length builders ≡ p →
    ((q : ℕ) (d : PredicateDef) (b : Rows) → q < p → slice_get predicates q ≡ Some d
    → get_or builders q b ≡ gathered d q []) → (q : ℕ) (d : PredicateDef) (b : Rows) → q < p + 1
    → slice_get predicates q ≡ Some d → get_or new q b ≡ gathered d q []
gathered_nothing predicates p own builders new x h is e many all q d b low found = elim (old_or_new q low) [
  | inl old ↦ ap (λ xs. get_or xs q b) e
      ∙ (get_or-append builders (x ∷ []) b q (omega arith) ∙ all q d b old found)
  | inr last ↦
      (λ i. get_or (e i) ((last ∙ sym many) i) b)
      ∙ (get_or-append_seam builders x [] b
      ∙ (is ∙ ap (λ (y : PredicateDef). record { arity = y.arity; rows = [] })
      (ap (λ n. get_or predicates n own) (sym last) ∙ get_or_from_slice_get predicates q d own found)))
]
  where
    old_or_new : (q : ℕ) → q < p + 1 → (q < p) ⊎ (q ≡ p)
    old_or_new q low = grind arith

pub gathered_nowhere : (predicates : List PredicateDef) (p : ℕ) (builders : List Rows) → p ≡ length predicates
    → length builders ≡ p
    → ((q : ℕ) (d : PredicateDef) (b : Rows) → q < p → slice_get predicates q ≡ Some d
    → get_or builders q b ≡ gathered d q []) → AreGathered predicates [] builders
gathered_nowhere predicates p builders e many all = record {
  many = many ∙ e;
  each = λ q d b found static. all q d b (let within = slice_get_within predicates q d found in omega arith)
      found;
}

-- the definition that the code reads is that of the predicate
pub definition_read : (predicates all : List PredicateDef) (p : ℕ) (d : PredicateDef) → all ≡ predicates
    → p < length predicates → d ≡ get_or all p d → slice_get predicates p ≡ Some d
definition_read predicates all p d e h at = slice_get_read predicates (length predicates) p d refl h
    (at ∙ ap (λ xs. get_or xs p d) e)

pub on_ok : {A E P Q : Type 0} (r : Result A E) → (P → Q) → OnOk r P → OnOk r Q
on_ok (Ok x) f h = f h
on_ok (Err x) f h = tt

-- the definition of the predicate of an initial atom, and how wide its row is
pub own_predicate : (task : Task) (i : ℕ) (a : Atom) → i < length task.init → a ≡ get_or task.init i a
    → (a.predicate < length task.predicates)
    × ((e : PredicateDef) → slice_get task.predicates a.predicate ≡ Some e → length a.objects ≡ e.arity)
own_predicate task i a h at =
    let own : IsAtomOf task.objects task.predicates a = subst (IsAtomOf task.objects task.predicates) (sym at)
    (task.init_ok.each i a h) in
    (own.predicate, own.arity)

pub width_here : (task : Task) (i : ℕ) (a : Atom) (d : PredicateDef) (builders : List Rows) (b : Rows)
    → i < length task.init → a ≡ get_or task.init i a
    → AreGathered task.predicates (take i task.init) builders → slice_get task.predicates a.predicate ≡ Some d
    → d.is_static ≡ true →
    (length a.objects ≡ (get_or builders a.predicate b).arity)
    × (length (get_or builders a.predicate b).rows ≤ i)
width_here task i a d builders b h at are found static =
    let was : get_or builders a.predicate b ≡ gathered d a.predicate (take i task.init) =
    are.each a.predicate d b found static in (
      (own_predicate task i a h at).1 d found ∙ sym (ap (λ (r : Rows). r.arity) was),
      subst (λ (r : Rows). length r.rows ≤ i) (sym was) (front_few a.predicate i task.init h),
    )

-- ---- which rows there are

about_by : (predicate : ℕ) (a : Atom) (b : Bool) (row : List ℕ) → (a.predicate == predicate) ≡ b
    → Contains (cond b (a.objects ∷ []) []) row → (a.predicate ≡ predicate) × (a.objects ≡ row)
about_by predicate a true row e c = elim (Contains-cons_cases a.objects [] row c) [
  | inl is ↦ (eqb-true a.predicate predicate e, is)
  | inr r ↦ absurd (Contains-nil row r)
]
about_by predicate a false row e c = absurd (Contains-nil row c)

about_from : (predicate : ℕ) (atoms : List Atom) (row : List ℕ) → Contains (rows_about predicate atoms) row
    → (a : Atom) × Contains atoms a × ((a.predicate ≡ predicate) × (a.objects ≡ row))
about_from predicate atoms row c = of_one (Contains-from_flat_map (row_about predicate) atoms row c)
  where
    of_one : (a : Atom) × Contains atoms a × Contains (row_about predicate a) row → (a : Atom)
        × Contains atoms a × ((a.predicate ≡ predicate) × (a.objects ≡ row))
    of_one (a, among, is) = (a, among, about_by predicate a (a.predicate == predicate) row refl is)

about_atom : (predicate : ℕ) (atoms : List Atom) (row : List ℕ) → Contains (rows_about predicate atoms) row
    ↔ Contains atoms (row_atom predicate row)
about_atom predicate atoms row = (
  (λ c. of_one (about_from predicate atoms row c)),
  (λ c. Contains-flat_map (row_about predicate) atoms (row_atom predicate row) row c
      (subst (λ b. Contains (cond b (row ∷ []) []) row) (sym (eq-eqb predicate predicate refl))
      (Contains-cons_first row []))),
)
  where
    of_one : (a : Atom) × Contains atoms a × ((a.predicate ≡ predicate) × (a.objects ≡ row))
        → Contains atoms (row_atom predicate row)
    of_one (a, among, is) = subst (Contains atoms) (λ i. record { predicate = is.0 i; objects = is.1 i })
        among

not_is : (a b : Bool) → a ≡ not b → a ≡ true → b ≡ false
not_is a true h e = absurd (false≢true (sym h ∙ e))
not_is a false h e = refl

pub static_table_is : (task : Task) (predicate : ℕ) (d : PredicateDef) (atoms : List Atom) (table : Rows)
    → slice_get task.predicates predicate ≡ Some d → d.is_static ≡ true → atoms ≡ task.init
    → table.arity ≡ d.arity → AreRows d.arity table.rows →
    ((row : List ℕ) → Contains table.rows row ↔ Contains (rows_about predicate atoms) row)
    → (is_fluent task.schemas predicate ≡ false) × IsAtomTable task predicate table
static_table_is task predicate d atoms table at static e arity rows same = (
  not_is d.is_static (is_fluent task.schemas predicate) (task.predicates_ok.static predicate d at) static,
  record {
    arity = λ other o. arity ∙ ap (λ (x : PredicateDef). x.arity) (some_same d other (sym at ∙ o));
    rows = subst (λ n. AreRows n table.rows) (sym arity) rows;
    atoms = λ row. (
      (λ c. subst (λ xs. Contains xs (row_atom predicate row)) e
          ((about_atom predicate atoms row).0 ((same row).0 c))),
      (λ c. (same row).1
          ((about_atom predicate atoms row).1
          (subst (λ xs. Contains xs (row_atom predicate row)) (sym e) c))),
    );
  },
)

pub gathered_table : (task : Task) (predicate : ℕ) (d : PredicateDef) (builder table : Rows)
    → slice_get task.predicates predicate ≡ Some d → d.is_static ≡ true
    → builder ≡ gathered d predicate task.init → table.arity ≡ builder.arity
    → AreRows builder.arity table.rows → SameRows table.rows builder.rows →
    (is_fluent task.schemas predicate ≡ false) × IsAtomTable task predicate table
gathered_table task predicate d builder table at static is arity rows same =
    static_table_is task predicate d task.init table at static refl (arity ∙ ap (λ (r : Rows). r.arity) is)
    (subst (λ (r : Rows). AreRows r.arity table.rows) is rows)
    (subst (λ (r : Rows). SameRows table.rows r.rows) is same)

-- ---- the tables of all predicates

pub statics_more : (task : Task) (tables new : List (Option Rows)) (n : ℕ) (x : Option Rows)
    → n ≡ length tables → new ≡ tables ++ x ∷ [] → IsStatic task n x
    → ((q : ℕ) (d : Option Rows) → q < length tables → IsStatic task q (get_or tables q d)) →
    (q : ℕ) (d : Option Rows) → q < length new → IsStatic task q (get_or new q d)
statics_more task tables new n x e a is all q d low =
    elim (old_or_new q (subst (λ m. q < m) (ap length a ∙ length-append tables (x ∷ [])) low)) [
      | inl old ↦ subst (IsStatic task q)
          (sym (ap (λ xs. get_or xs q d) a ∙ get_or-append tables (x ∷ []) d q old)) (all q d old)
      | inr last ↦ subst (IsStatic task q)
          (sym ((λ i. get_or (a i) (last i) d) ∙ get_or-append_seam tables x [] d))
          (subst (λ m. IsStatic task m x) (e ∙ sym last) is)
    ]
  where
    old_or_new : (k : ℕ) → k < length tables + 1 → (k < length tables) ⊎ (k ≡ length tables)
    old_or_new k h = grind arith

-- ---- the ears of edges

pub planned : (result : Result Removal AllocError) (edges : List Edge) (sets : List ℕ) → sets ≡ sets_of edges
    → IfOk result (λ p. p.edges ≡ sets) → IfOk result IsRemoval
    → IfOk result (λ p. p ≡ ear_removal (sets_of edges))
planned (Ok p) edges sets e same is = one_removal p is ∙ ap ear_removal (same ∙ e)
planned (Err x) edges sets e same is = tt

-- ---- the forms of all schemas

schema_same : (xs : List Schema) (i : ℕ) (x y : Schema) → slice_get xs i ≡ Some x → get_or xs i y ≡ x
schema_same xs i x y h = get_or_from_slice_get xs i x y h

pub item_form : (task : Task) (schema item : Schema) (form : NormalSchema) → schema ≡ item
    → IsNormalForm task schema form → IsNormalForm task item form
item_form task schema item form e h = subst (λ s. IsNormalForm task s form) e h

pub forms_more : (task : Task) (i : ℕ) (schemas : List Schema) (forms after : List NormalSchema)
    (form : NormalSchema) (d : Schema) → schemas ≡ task.schemas → i < length schemas → AreFormsOf task i forms
    → IsNormalForm task (get_or schemas i d) form → after ≡ forms ++ form ∷ [] → AreFormsOf task (i + 1) after
forms_more task i schemas forms after form d e h are is a = record {
  many = (let long = ap length a ∙ length-append forms (form ∷ []) in let many = are.many in omega arith);
  each = λ j schema x at low. elim (old_or_new j low) [
    | inl old ↦ subst (IsNormalForm task schema)
        (sym (ap (λ xs. get_or xs j x) a ∙ get_or-append forms (form ∷ []) x j
        (let many = are.many in omega arith))) (are.each j schema x at old)
    | inr new ↦ subst (IsNormalForm task schema) (sym (ap (λ xs. get_or xs j x) a ∙ last j x new))
        (subst (λ s. IsNormalForm task s form)
        (ap (λ xs. get_or xs i d) e
        ∙ (ap (λ k. get_or task.schemas k d) (sym new) ∙ schema_same task.schemas j schema d at)) is)
  ];
}
  where
    old_or_new : (j : ℕ) → j < i + 1 → (j < i) ⊎ (j ≡ i)
    old_or_new j low = grind arith

    last : (j : ℕ) (x : NormalSchema) → j ≡ i → get_or (forms ++ form ∷ []) j x ≡ form
    last j x new = ap (λ k. get_or (forms ++ form ∷ []) k x) (new ∙ sym are.many)
        ∙ get_or-append_seam forms form [] x
