-- The relation of an edge as it is made: the selection from its source, then its local filters one after
-- another.
use Rattle.std.proofs.Common.{◌≡◌, ℕ, ◌+◌, ◌<◌, ◌≤◌, ◌==◌, ◌↔◌, Bool, true, false, not, ◌&&◌, ◌||◌, IsTrue}
use Rattle.std.proofs.Common.{List, [], ◌∷◌, length, take, get_or, refl, sym, ◌∙◌, ap, subst, Contains}
use Rattle.std.proofs.Common.{eq-eqb}
use Rattle.std.specs.Int.{bit_at}
use Rattle.std.specs.List.{list_all}
use Rattle.std.proofs.lemmas.Bool.{and_parts, and_from}
use Rattle.std.proofs.lemmas.List.{take_more, take_all, get_or_default}
use Rattle.std.proofs.lemmas.List.Folds.{list_all-append}
use Rattle.std.proofs.lemmas.List.Elements.{Contains-get_or}
use Rattle.pl_task.specs.declared.data.Schema.{Schema}
use Rattle.pl_task.specs.declared.task.Task.{Task}
use Rattle.pl_task.specs.States.{State}
use Rattle.pl_join.specs.declared.slot.Slot.TheVariants.{Class}
use Rattle.pl_join.specs.Relation.{Assignment, ClassRows, Holds, IsRelation, IsSelectionOf}
use Rattle.pl_normal.specs.declared.form.Edge.{Edge}
use Rattle.pl_normal.specs.declared.form.Placed.{Placed}
use Rattle.pl_normal.specs.Edges.{edges_of}
use Rattle.pl_normal.specs.Filters.{local_of, has_all, sieve_classes}
use Rattle.pl_normal.specs.Query.{is_in_source, meets_edge, meets_sieve, values_of}
use Rattle.pl_normal.specs.Queries.{IsEdgeOf, IsSieveOver, IsSieveOf, IsRelationAt, edge_at, lets_pass}
use Rattle.pl_normal.specs.Queries.{IsSieved, meets_at}
use Rattle.pl_normal.proofs.Forms.{SchemaOf, local_from, local_sieve_of, home_is, sieve_over, no_edge}
use Rattle.std.proofs.Math.Bool.{and-true}

pub true_is : (b : Bool) → IsTrue b → b ≡ true
true_is b h = h

pub is_true : (b : Bool) → b ≡ true → IsTrue b
is_true b h = h

pub and_split : (a b : Bool) → IsTrue (a && b) ↔ (IsTrue a × IsTrue b)
and_split a b = (
  λ h. (let both = and_parts a b (true_is (a && b) h) in (is_true a both.0, is_true b both.1)),
  λ h. is_true (a && b) (and_from a b (true_is a h.0) (true_is b h.1)),
)

and_assoc : (a b c : Bool) → ((a && b) && c) ≡ (a && (b && c))
and_assoc true b c = refl
and_assoc false b c = refl

-- the selection
pub selected : (task : Task) (schema : Schema) (s : State) (e : ℕ) (edge : Edge) (rows : List (List ℕ))
    (relation : ClassRows) → IsEdgeOf task schema edge →
    ((row : List ℕ) → Contains rows row ↔ IsTrue (is_in_source task schema s edge.source row)) →
    ((c : ℕ) → Contains relation.classes c ↔ Contains edge.slots (Class c)) →
    IsSelectionOf rows edge.slots relation → IsSieved task schema s edge e [] relation
selected task schema s e edge rows relation is source members selection = record {
  classes = λ c. (λ h. (is.set c).1 ((members c).0 h), λ h. (members c).1 ((is.set c).0 h));
  rows = λ f. (
    λ h. subst IsTrue (sym (and-true (meets_edge task schema s f edge)))
        ((source (values_of f edge.slots)).0 ((selection f).0 h)),
    λ h. (selection f).1 ((source (values_of f edge.slots)).1
        (subst IsTrue (and-true (meets_edge task schema s f edge)) h)),
  );
}

-- one filter more
one_more : (task : Task) (schema : Schema) (s : State) (f : Assignment) (edge : Edge) (e i : ℕ)
    (local : List Placed) (d : Placed) → i < length local →
    (meets_edge task schema s f edge && list_all (lets_pass s f e) (take (i + 1) local)) ≡
    ((meets_edge task schema s f edge && list_all (lets_pass s f e) (take i local)) && lets_pass s f e
    (get_or local i d))
one_more task schema s f edge e i local d low =
    ap (λ xs. meets_edge task schema s f edge && list_all (lets_pass s f e) xs) (take_more local i d low)
    ∙ (ap (λ b. meets_edge task schema s f edge && b) (list_all-append (lets_pass s f e) (take i local)
    (get_or local i d ∷ []) ∙ ap (λ b. list_all (lets_pass s f e) (take i local) && b)
    (and-true (lets_pass s f e (get_or local i d))))
    ∙ sym (and_assoc (meets_edge task schema s f edge) (list_all (lets_pass s f e) (take i local))
    (lets_pass s f e (get_or local i d))))

local_here : (s : State) (f : Assignment) (e : ℕ) (placed : Placed) (b : Bool) → (placed.edge == e) ≡ b →
    b ≡ true → lets_pass s f e placed ≡ meets_sieve s f placed.sieve
local_here s f e placed b at is = ap (λ x. not x || meets_sieve s f placed.sieve) (at ∙ is)

elsewhere : (s : State) (f : Assignment) (e : ℕ) (placed : Placed) (b : Bool) → (placed.edge == e) ≡ b →
    b ≡ false → lets_pass s f e placed ≡ true
elsewhere s f e placed b at is = ap (λ x. not x || meets_sieve s f placed.sieve) (at ∙ is)

pub passed_here : (task : Task) (schema : Schema) (s : State) (edge : Edge) (e i : ℕ) (local : List Placed)
    (placed : Placed) (old new : ClassRows) → i < length local → placed ≡ get_or local i placed →
    IsSieved task schema s edge e (take i local) old → placed.edge ≡ e → new.classes ≡ old.classes →
    ((f : Assignment) → Holds new f ↔ (Holds old f × IsTrue (meets_sieve s f placed.sieve))) →
    IsSieved task schema s edge e (take (i + 1) local) new
passed_here task schema s edge e i local placed old new low at is here classes rows = record {
  classes = λ c. (
    λ h. (is.classes c).0 (subst (λ xs. Contains xs c) classes h),
    λ h. subst
        (λ xs. Contains xs c) (sym classes) ((is.classes c).1 h),
  );
  rows = λ f. (
    λ h. subst IsTrue (sym (one f)) ((and_split (before f) (meets_sieve s f placed.sieve)).1
        ((is.rows f).0 ((rows f).0 h).0, ((rows f).0 h).1)),
    λ h. (let both = (and_split (before f) (meets_sieve s f placed.sieve)).0 (subst IsTrue (one f) h) in
        (rows f).1 ((is.rows f).1 both.0, both.1)),
  );
}
  where
    before : Assignment → Bool
    before f = meets_edge task schema s f edge && list_all (lets_pass s f e) (take i local)

    one : (f : Assignment) → (meets_edge task schema s f edge && list_all (lets_pass s f e)
        (take (i + 1) local)) ≡ (before f && meets_sieve s f placed.sieve)
    one f = one_more task schema s f edge e i local placed low ∙ ap (λ b. before f && b)
        (ap (lets_pass s f e) (sym at) ∙ local_here s f e placed true (eq-eqb placed.edge e here) refl)

pub passed_by : (task : Task) (schema : Schema) (s : State) (edge : Edge) (e i : ℕ) (local : List Placed)
    (placed : Placed) (old new : ClassRows) → i < length local → placed ≡ get_or local i placed →
    IsSieved task schema s edge e (take i local) old → (placed.edge == e) ≡ false → new ≡ old →
    IsSieved task schema s edge e (take (i + 1) local) new
passed_by task schema s edge e i local placed old new low at is other same = record {
  classes = subst (λ (r : ClassRows). (c : ℕ) → Contains r.classes c ↔ (bit_at edge.classes c ≡ 1))
      (sym same) is.classes;
  rows = λ f. (
    λ h. subst IsTrue (sym (one f)) ((is.rows f).0 (subst (λ (r : ClassRows). Holds r f) same h)),
    λ h. subst (λ (r : ClassRows). Holds r f) (sym same) ((is.rows f).1 (subst IsTrue (one f) h)),
  );
}
  where
    before : Assignment → Bool
    before f = meets_edge task schema s f edge && list_all (lets_pass s f e) (take i local)

    one : (f : Assignment) → (meets_edge task schema s f edge && list_all (lets_pass s f e)
        (take (i + 1) local)) ≡ before f
    one f = one_more task schema s f edge e i local placed low ∙
        (ap (λ b. before f && b) (ap (lets_pass s f e) (sym at) ∙ elsewhere s f e placed false other refl) ∙
        and-true (before f))

-- the filter is over the classes of the relation
pub filter_over : (task : Task) (schema : Schema) (s : State) (edges : List Edge) (edge : Edge) (e i : ℕ)
    (local : List Placed) (placed : Placed) (relation : ClassRows) → local ≡ local_of schema →
    edges ≡ edges_of schema →
    i < length local → placed ≡ get_or local i placed → e < length edges → edge ≡ get_or edges e edge →
    placed.edge ≡ e → IsSieved task schema s edge e (take i local) relation →
    IsSieveOver relation.classes placed.sieve
filter_over task schema s edges edge e i local placed relation locals same low at low' here place is =
    sieve_over placed.sieve edge relation.classes fits is.classes
  where
    among : Contains (local_of schema) placed
    among = subst (Contains (local_of schema)) (sym at)
        (subst (λ xs. Contains xs (get_or local i placed)) locals (Contains-get_or local i placed low))

    fits : has_all (sieve_classes placed.sieve) edge ≡ true
    fits =
        let home = home_is (edges_of schema) placed.sieve placed.edge (local_from schema placed among).1 in
        subst (λ x. has_all (sieve_classes placed.sieve) x ≡ true)
        (ap (λ k. get_or (edges_of schema) k no_edge) place ∙
        (ap (λ xs. get_or xs e no_edge) (sym same) ∙
        (get_or_default edges e no_edge edge low' ∙ sym here))) home.1

pub filter_of : (task : Task) (schema : Schema) (i : ℕ) (local : List Placed) (placed : Placed) →
    SchemaOf task schema → local ≡ local_of schema → i < length local → placed ≡ get_or local i placed →
    IsSieveOf task placed.sieve
filter_of task schema i local placed is locals low at =
    local_sieve_of task schema placed is (subst (Contains (local_of schema)) (sym at)
    (subst (λ xs. Contains xs (get_or local i placed)) locals (Contains-get_or local i placed low)))

pub all_passed : (task : Task) (schema : Schema) (s : State) (edges : List Edge) (edge : Edge) (e i : ℕ)
    (local : List Placed) (relation : ClassRows) → local ≡ local_of schema → edges ≡ edges_of schema →
    length local ≤ i → e < length edges → edge ≡ get_or edges e edge →
    IsSieved task schema s edge e (take i local) relation → IsRelation relation →
    IsRelationAt task schema s e relation
unfolding meets_at
all_passed task schema s edges edge e i local relation locals same end low here is whole =
    let own : edge ≡ edge_at (edges_of schema) e = here ∙
    (get_or_default edges e edge no_edge low ∙ ap (λ xs. get_or xs e no_edge) same) in
    let all : take i local ≡ local_of schema = take_all i local end ∙ locals in record {
      whole = whole;
      classes = subst (λ (x : Edge). (c : ℕ) → Contains relation.classes c ↔ (bit_at x.classes c ≡ 1)) own
          is.classes;
      rows = λ f. subst (λ b. Holds relation f ↔ IsTrue b)
          ((λ k. meets_edge task schema s f (own k) && list_all (lets_pass s f e) (all k))) (is.rows f);
    }
