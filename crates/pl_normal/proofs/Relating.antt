-- The relations of edges: what their filters let pass, and the list of those that are made.
use Rattle.std.proofs.Common.{◌≡◌, ℕ, ◌+◌, ◌<◌, ◌≤◌, ◌↔◌, ◌⊎◌, inl, inr, Bool, true, false, not, IsTrue, List}
use Rattle.std.proofs.Common.{[], ◌∷◌, ◌++◌, length, take, get_or, refl, sym, ◌∙◌, ap, subst, arith, Contains}
use Rattle.std.proofs.Common.{All, eq-eqb, ne_eqb}
use Rattle.std.proofs.lemmas.Bool.{false≢true}
use Rattle.std.proofs.lemmas.List.{take_more, take_all, get_or_default, length-append}
use Rattle.std.proofs.Math.ListN.{get_or-append}
use Rattle.std.proofs.Math.Seq.{get_or-append_seam}
use Rattle.pl_task.specs.declared.data.Schema.{Schema}
use Rattle.pl_task.specs.declared.task.Task.{Task}
use Rattle.pl_task.specs.States.{State}
use Rattle.pl_join.specs.declared.slot.Slot.{Slot}
use Rattle.pl_join.specs.declared.slot.Slot.TheVariants.{Class}
use Rattle.pl_join.specs.Relation.{Assignment, ClassRows, Holds, IsRelation, IsSelectionOf}
use Rattle.pl_join.specs.Relation.{AreUnequalOf, AreAbsentOf, IsSlotBelow, slot_value}
use Rattle.pl_reduce.specs.Plan.{relation_at}
use Rattle.pl_normal.specs.declared.form.Edge.{Edge}
use Rattle.pl_normal.specs.declared.form.Placed.{Placed}
use Rattle.pl_normal.specs.declared.form.Sieve.{Sieve}
use Rattle.pl_normal.specs.declared.form.Sieve.TheVariants as sieve
use Rattle.pl_normal.specs.declared.form.Source.{Source}
use Rattle.pl_normal.specs.declared.form.Source.TheVariants as source
use Rattle.pl_normal.specs.Edges.{edges_of}
use Rattle.pl_normal.specs.Filters.{local_of}
use Rattle.pl_normal.specs.Query.{is_in_source, meets_sieve, values_of}
use Rattle.pl_normal.specs.Tables.{row_atom}
use Rattle.pl_normal.specs.Queries.{IsSourceOf, IsArityOf, IsEdgeOf, IsSieveOver, IsRelationAt}
use Rattle.pl_normal.specs.Queries.{AreRelationsAt, IsSieved, edge_at}
use Rattle.pl_normal.proofs.Asking.{values_wide}
use Rattle.pl_normal.proofs.Forms.{SchemaOf, edges_are, no_edge}
use Rattle.pl_normal.proofs.Edging.{selected, filter_over, all_passed}

-- ---- the rows that a filter lets pass

not_held : (b : Bool) → IsTrue (not b) ↔ (IsTrue b → ⊥)
not_held true = (λ h t. false≢true h, λ n. absurd (n refl))
not_held false = (λ h t. false≢true t, λ n. refl)

pub unequal_passes : (s : State) (x : Sieve) (a b : Slot) (relation kept : ClassRows) →
    x ≡ sieve.NotEqual a b → AreUnequalOf relation a b kept → (f : Assignment) → Holds kept f ↔
    (Holds relation f × IsTrue (meets_sieve s f x))
unequal_passes s x a b relation kept is rows f =
    subst (λ (y : Sieve). Holds kept f ↔ (Holds relation f × IsTrue (meets_sieve s f y))) (sym is) (
      λ h. (((rows f).0 h).0, ap not (ne_eqb (slot_value f a) (slot_value f b) ((rows f).0 h).1)),
      λ h. (rows f).1 (
        h.0,
        λ e. false≢true (ap not (sym (eq-eqb (slot_value f a) (slot_value f b) e)) ∙
            h.1),
      ),
    )

pub absent_passes : (s : State) (x : Sieve) (p : ℕ) (slots given : List Slot) (rows : List (List ℕ))
    (relation kept : ClassRows) → x ≡ sieve.Absent p slots → given ≡ slots →
    ((row : List ℕ) → Contains rows row ↔ IsTrue (s (row_atom p row))) →
    AreAbsentOf relation rows given kept → (f : Assignment) → Holds kept f ↔
    (Holds relation f × IsTrue (meets_sieve s f x))
absent_passes s x p slots given rows relation kept is same members absent f =
    subst (λ (y : Sieve). Holds kept f ↔ (Holds relation f × IsTrue (meets_sieve s f y))) (sym is) (down, up)
  where
    passed : AreAbsentOf relation rows slots kept
    passed = subst (λ xs. AreAbsentOf relation rows xs kept) same absent

    down : Holds kept f → Holds relation f × IsTrue (not (s (row_atom p (values_of f slots))))
    down h = (
      ((passed f).0 h).0,
      (not_held (s (row_atom p (values_of f slots)))).1
          (λ t. ((passed f).0 h).1 ((members (values_of f slots)).1 t)),
    )

    up : Holds relation f × IsTrue (not (s (row_atom p (values_of f slots)))) → Holds kept f
    up h = (passed f).1 (
      h.0,
      λ c. (not_held (s (row_atom p (values_of f slots)))).0 h.1
          ((members (values_of f slots)).0 c),
    )

-- ---- an edge as it is read

pub edge_here : (edges given : List Edge) (e : ℕ) (edge : Edge) → given ≡ edges → e < length edges →
    edge ≡ get_or given e edge → edge ≡ edge_at edges e
edge_here edges given e edge read low at = at ∙ (ap (λ xs. get_or xs e edge) read ∙ get_or_default edges e
    edge no_edge low)

pub edge_given : (task : Task) (schema : Schema) (edges : List Edge) (e : ℕ) (edge : Edge) →
    SchemaOf task schema → edges ≡ edges_of schema → e < length edges → edge ≡ edge_at edges e →
    IsEdgeOf task schema edge
edge_given task schema edges e edge is same low here = subst (IsEdgeOf task schema) (sym here)
    (edges_are task schema edges is same e no_edge low)

pub slots_here : (task : Task) (schema : Schema) (edges : List Edge) (e : ℕ) (slots : List Slot) →
    SchemaOf task schema → edges ≡ edges_of schema → e < length edges → slots ≡ (edge_at edges e).slots →
    All (IsSlotBelow 64) slots
slots_here task schema edges e slots is same low own = subst (All (IsSlotBelow 64)) (sym own)
    (edge_given task schema edges e (edge_at edges e) is same low refl).below

pub same_arity : (task : Task) (schema : Schema) (x : Source) (n m : ℕ) → IsSourceOf task schema x →
    IsArityOf task x n → IsArityOf task x m → n ≡ m
same_arity task schema (source.Kind p) n m of ours theirs = ours.kind p refl ∙ sym (theirs.kind p refl)
same_arity task schema (source.Predicate p) n m of ours theirs =
    values_wide task p n m (of.predicate p refl) (λ d found. ours.predicate p d refl found)
    (λ d found. theirs.predicate p d refl found)

pub first_sieved : (task : Task) (schema : Schema) (s : State) (edges : List Edge) (e : ℕ)
    (rows : List (List ℕ)) (slots : List Slot) (relation : ClassRows) → SchemaOf task schema →
    edges ≡ edges_of schema → e < length edges → slots ≡ (edge_at edges e).slots →
    ((row : List ℕ) → Contains rows row
    ↔ IsTrue (is_in_source task schema s (edge_at edges e).source row)) →
    ((c : ℕ) → Contains relation.classes c ↔ Contains slots (Class c)) → IsSelectionOf rows slots relation →
    IsSieved task schema s (edge_at edges e) e [] relation
first_sieved task schema s edges e rows slots relation is same low own members classes selection =
    selected task schema s e (edge_at edges e) rows relation
    (edge_given task schema edges e (edge_at edges e) is same low refl) members
    (subst (λ xs. (c : ℕ) → Contains relation.classes c ↔ Contains xs (Class c)) own classes)
    (subst (λ xs. IsSelectionOf rows xs relation) own selection)

pub over_here : (task : Task) (schema : Schema) (s : State) (edges : List Edge) (e i : ℕ)
    (local : List Placed) (placed : Placed) (relation : ClassRows) → local ≡ local_of schema →
    edges ≡ edges_of schema →
    i < length local → placed ≡ get_or local i placed → e < length edges → placed.edge ≡ e →
    IsSieved task schema s (edge_at edges e) e (take i local) relation →
    IsSieveOver relation.classes placed.sieve
over_here task schema s edges e i local placed relation locals same low at low' place is =
    filter_over task schema s edges (edge_at edges e) e i local placed relation locals same low at low'
    (get_or_default edges e no_edge (edge_at edges e) low') place is

pub edge_passed : (task : Task) (schema : Schema) (s : State) (edges : List Edge) (e i : ℕ)
    (local : List Placed) (relation : ClassRows) → local ≡ local_of schema → edges ≡ edges_of schema →
    length local ≤ i → e < length edges → IsSieved task schema s (edge_at edges e) e (take i local) relation
    → IsRelation relation → IsRelationAt task schema s e relation
edge_passed task schema s edges e i local relation locals same end low is whole =
    all_passed task schema s edges (edge_at edges e) e i local relation locals same end low
    (get_or_default edges e no_edge (edge_at edges e) low) is whole

-- ---- the relations that are made

module _ (task : Task) (schema : Schema) (s : State) where
  pub no_relations : AreRelationsAt task schema s [] []
  no_relations = record { many = refl; each = λ i low. absurd (omega arith) }

  moved : (n m : ℕ) (p q : ClassRows) → n ≡ m → p ≡ q → IsRelationAt task schema s n p →
      IsRelationAt task schema s m q
  moved n m p q e h is = subst (λ x. IsRelationAt task schema s x q) e
      (subst (IsRelationAt task schema s n) h is)

  old_or_new : (k n : ℕ) → k < n + 1 → (k < n) ⊎ (k ≡ n)
  old_or_new k n low = grind arith

  no_relation : ClassRows
  no_relation = record { classes = []; rows = [] }

  each_pushed : (front : List ℕ) (rs : List ClassRows) (e : ℕ) (r : ClassRows) →
      AreRelationsAt task schema s front rs → IsRelationAt task schema s e r → (k : ℕ) →
      k < length front + 1 →
      IsRelationAt task schema s (get_or (front ++ e ∷ []) k 0)
      (get_or (rs ++ r ∷ []) k (record { classes = []; rows = [] }))
  each_pushed front rs e r are is k low = elim (old_or_new k (length front) low) [
    | inl old ↦ moved (get_or front k 0) (get_or (front ++ e ∷ []) k 0) (relation_at rs k)
        (relation_at (rs ++ r ∷ []) k) (sym (get_or-append front (e ∷ []) 0 k old))
        (sym (get_or-append rs (r ∷ []) (record { classes = []; rows = [] }) k
        (subst (λ n. k < n) (sym are.many) old))) (are.each k old)
    | inr new ↦ moved e (get_or (front ++ e ∷ []) k 0) r (relation_at (rs ++ r ∷ []) k)
        (sym (ap (λ j. get_or (front ++ e ∷ []) j 0) new ∙ get_or-append_seam front e [] 0))
        (sym (ap (λ j. relation_at (rs ++ r ∷ []) j) (new ∙ sym are.many) ∙ get_or-append_seam rs r []
        (record { classes = []; rows = [] }))) is
  ]

  pushed : (front : List ℕ) (rs after : List ClassRows) (e : ℕ) (r : ClassRows) →
      AreRelationsAt task schema s front rs → IsRelationAt task schema s e r → after ≡ rs ++ r ∷ [] →
      AreRelationsAt task schema s (front ++ e ∷ []) after
  pushed front rs after e r are is a = subst (λ xs. AreRelationsAt task schema s (front ++ e ∷ []) xs)
      (sym a) (record {
        many = length-append rs (r ∷ []) ∙ (ap (λ n. n + 1) are.many ∙ sym (length-append front (e ∷ [])));
        each = λ k low. each_pushed front rs e r are is k
            (subst (λ n. k < n) (length-append front (e ∷ [])) low);
      })

  pub relations_more : (numbers : List ℕ) (i number d : ℕ) (rs after : List ClassRows) (r : ClassRows) →
      i < length numbers → number ≡ get_or numbers i d → AreRelationsAt task schema s (take i numbers) rs →
      IsRelationAt task schema s number r →
      after ≡ rs ++ r ∷ [] → AreRelationsAt task schema s (take (i + 1) numbers) after
  relations_more numbers i number d rs after r low at are is a =
      subst (λ xs. AreRelationsAt task schema s xs after) (sym (take_more numbers i d low))
      (pushed (take i numbers) rs after (get_or numbers i d) r are
      (subst (λ n. IsRelationAt task schema s n r) at is) a)

  pub relations_all : (numbers : List ℕ) (i : ℕ) (rs : List ClassRows) → length numbers ≤ i →
      AreRelationsAt task schema s (take i numbers) rs → AreRelationsAt task schema s numbers rs
  relations_all numbers i rs end are = subst (λ xs. AreRelationsAt task schema s xs rs)
      (take_all i numbers end) are

-- a count that rises twice
pub rises : (a b c d : ℕ) → a ≤ b → b ≤ c → d ≡ c → a ≤ d
rises a b c d h k e = omega arith
