-- Noted sets and the states seen: what a search means by a new state.
use Rattle.std.proofs.Common.{◌≡◌, ◌⊎◌, ◌<◌, ◌≤◌, ℕ, true, not, ◌||◌, List, [], ◌∷◌, ◌++◌}
use Rattle.std.proofs.Common.{length, get_or, Some, slice_get, IsTrue, refl, sym, ap, ◌∙◌, subst, inl, inr}
use Rattle.std.proofs.Common.{All, Any, Contains, arith}
use Rattle.std.specs.List.{list_any}
use Rattle.std.specs.Ordering.{ordering_reverse}
use Rattle.std.specs.declared.cmp.Ordering.{Ordering}
use Rattle.std.specs.declared.cmp.Ordering.TheVariants.{Less, Equal, Greater}
use Rattle.std.proofs.lemmas.Bool.{cases_Bool, eqb-true}
use Rattle.std.proofs.lemmas.Cmp.{nat_list_cmp_total}
use Rattle.std.proofs.lemmas.List.{get_or_default}
use Rattle.std.proofs.lemmas.List.Elements.{All-contains, All-weaker, Contains-get_or, Contains-append_left}
use Rattle.std.proofs.lemmas.List.Elements.{Contains-push, Contains-push_cases}
use Rattle.std.proofs.lemmas.List.Folds.{Any-from_list_any}
use Rattle.std.proofs.lemmas.Option.{slice_get-get_or}
use Rattle.std.proofs.lemmas.Map.Lookups.{exact_bytes}
use Rattle.pl_rows.specs.Rows.{row_cmp}
use Rattle.pl_task.specs.declared.data.Atom.{Atom}
use Rattle.pl_task.specs.declared.data.Lifted.{Lifted}
use Rattle.pl_task.specs.declared.data.PredicateDef.{PredicateDef}
use Rattle.pl_task.specs.declared.task.Task.{Task}
use Rattle.pl_task.specs.States.{State}
use Rattle.pl_task.specs.WellFormed.{is_fluent, changes, is_of_predicate, IsSchemaOf, IsLiftedOf}
use Rattle.pl_state.specs.StateOf.{is_fluent_in}
use Rattle.pl_state.proofs.StatesOfWords.{fluent_definition, fluent_from}
use Rattle.pl_registry.specs.Novelty.{HasAll, IsNovel}
use Rattle.pl_registry.proofs.Lists.{Contains-nil, Contains-cons_cases, Contains-cons_first}
use Rattle.pl_registry.proofs.Lists.{Contains-cons_rest}
use Rattle.pl_novel.specs.AtomSets.{key_of, IsAtomSet, IsSetOf}
use Rattle.pl_novel.specs.Noting.{Noted, HasNewSet, NotesState}
use Rattle.pl_novel.specs.Keys.{atom_by}
use Rattle.pl_novel.specs.Laws.{AreSetsSeen, NewSetsAreNovel, NotingIsSeeing, NothingIsSeen}
use Rattle.pl_novel.proofs.Pairs.{one_is_set, two_is_set}
use Rattle.std.proofs.lemmas.Bool.{not-false}

-- a predicate is fluent by its definition exactly where an effect names it
fluent_to : (task : Task) (p : ℕ) → is_fluent_in task p ≡ true → is_fluent task.schemas p ≡ true
fluent_to task p h =
    let (d, found, f) = fluent_definition task p h in
    not-false (is_fluent task.schemas p) (sym (task.predicates_ok.static p d found) ∙ f)

named_within : (count p : ℕ) (atoms : List Lifted) → All (λ (a : Lifted). a.predicate < count) atoms
    → list_any (is_of_predicate p) atoms ≡ true → p < count
named_within count p atoms within h =
    let (k, a, l, is, same) = Any-from_list_any (is_of_predicate p) atoms h in
    subst (λ n. n < count) (eqb-true a.predicate p same)
    (All-contains (λ (x : Lifted). x.predicate < count) atoms a within (k, l, is))

fluent_low : (task : Task) (p : ℕ) → is_fluent task.schemas p ≡ true → p < length task.predicates
fluent_low task p h =
    let (k, schema, l, is, changed) = Any-from_list_any (changes p) task.schemas h in
    let ok = All-contains (IsSchemaOf task.types task.objects task.predicates) task.schemas schema
    task.schemas_ok.each (k, l, is) in
    elim (cases_Bool (list_any (is_of_predicate p) schema.delete)) [
      | inl there ↦ named_within (length task.predicates) p schema.delete
          (All-weaker (IsLiftedOf task.predicates (length task.objects) (length schema.parameters))
          (λ (a : Lifted). a.predicate < length task.predicates)
          (λ a w. w.predicate) schema.delete ok.deletes) there
      | inr gone ↦ named_within (length task.predicates) p schema.add
          (All-weaker (IsLiftedOf task.predicates (length task.objects) (length schema.parameters))
          (λ (a : Lifted). a.predicate < length task.predicates) (λ a w. w.predicate) schema.add ok.adds)
          (ap (λ b. b || list_any (is_of_predicate p) schema.add) (sym gone) ∙ changed)
    ]

pub fluent_back : (task : Task) (p : ℕ) → is_fluent task.schemas p ≡ true → is_fluent_in task p ≡ true
fluent_back task p h = fluent_from task p (get_or task.predicates p none) found
    (task.predicates_ok.static p (get_or task.predicates p none) found ∙ ap not h)
  where
    none : PredicateDef
    none = record { name = []; arity = 0; is_static = true }

    found : slice_get task.predicates p ≡ Some (get_or task.predicates p none)
    found = slice_get-get_or task.predicates p none (fluent_low task p h)

-- a set with the members of a list of one or two atoms
record HasSameAtoms (k : ℕ) (atoms : List Atom) : Type 0 where
  set : List Atom
  is_set : IsAtomSet k set
  among : (a : Atom) → Contains set a → Contains atoms a
  all : (a : Atom) → Contains atoms a → Contains set a

same_atom : (a b : Atom) → row_cmp (key_of a) (key_of b) ≡ Equal → a ≡ b
same_atom a b h = ap atom_by (exact_bytes (key_of a) (key_of b) h)

swapped : (a b c : Atom) → Contains (a ∷ b ∷ []) c → Contains (b ∷ a ∷ []) c
swapped a b c h = elim (Contains-cons_cases a (b ∷ []) c h) [
  | inl is ↦ Contains-cons_rest b (a ∷ []) c (subst (Contains (a ∷ [])) is (Contains-cons_first a []))
  | inr rest ↦ elim (Contains-cons_cases b [] c rest) [
    | inl is ↦ subst (Contains (b ∷ a ∷ [])) is (Contains-cons_first b (a ∷ []))
    | inr none ↦ absurd (Contains-nil c none)
  ]
]

once_only : (a b c : Atom) → a ≡ b → Contains (a ∷ b ∷ []) c → Contains (a ∷ []) c
once_only a b c same h = elim (Contains-cons_cases a (b ∷ []) c h) [
  | inl is ↦ subst (Contains (a ∷ [])) is (Contains-cons_first a [])
  | inr rest ↦ elim (Contains-cons_cases b [] c rest) [
    | inl is ↦ subst (Contains (a ∷ [])) (same ∙ is) (Contains-cons_first a [])
    | inr none ↦ absurd (Contains-nil c none)
  ]
]

first_only : (a b c : Atom) → Contains (a ∷ []) c → Contains (a ∷ b ∷ []) c
first_only a b c h = Contains-append_left (a ∷ []) (b ∷ []) c h

two_atoms : (k : ℕ) (a b : Atom) (o : Ordering) → 2 ≤ k → row_cmp (key_of a) (key_of b) ≡ o
    → HasSameAtoms k (a ∷ b ∷ [])
two_atoms k a b Less l is =
    record { set = a ∷ b ∷ []; is_set = two_is_set k a b l is; among = λ c h. h; all = λ c h. h }
two_atoms k a b Equal l is = record {
  set = a ∷ [];
  is_set = one_is_set k a (omega (arith, l));
  among = λ c h. first_only a b c h;
  all = λ c h. once_only a b c (same_atom a b is) h;
}
two_atoms k a b Greater l is = record {
  set = b ∷ a ∷ [];
  is_set = two_is_set k b a l (nat_list_cmp_total.antisymm (key_of b) (key_of a) ∙ ap ordering_reverse is);
  among = λ c h. swapped b a c h;
  all = λ c h. swapped a b c h;
}

same_atoms : (k : ℕ) (atoms : List Atom) → 0 < length atoms → length atoms ≤ k → k ≤ 2 → HasSameAtoms k atoms
same_atoms k [] some few two = absurd (omega (arith, some))
same_atoms k (a ∷ []) some few two =
    record { set = a ∷ []; is_set = one_is_set k a few; among = λ c h. h; all = λ c h. h }
same_atoms k (a ∷ b ∷ []) some few two = two_atoms k a b (row_cmp (key_of a) (key_of b)) few refl
same_atoms k (a ∷ b ∷ c ∷ atoms) some few two = absurd (omega (arith, few, two))

-- what holds of all members of one list holds of those of another whose members these are
all_among : (P : Atom → Type 0) (xs ys : List Atom) → ((a : Atom) → Contains ys a → Contains xs a) → All P xs
    → All P ys
all_among P xs ys among h i d l = All-contains P xs (get_or ys i d) h
    (among (get_or ys i d) (Contains-get_or ys i d l))

module _ (task : Task) where
  novel_new : (noted : Noted) (seen : List State) (s : State) → noted.width ≤ 2 → AreSetsSeen task noted seen
      → IsNovel task noted.width seen s → HasNewSet task noted s
  novel_new noted seen s two are h =
      let same = same_atoms noted.width h.atoms h.some h.few two in
      record {
        set = same.set;
        of_state = record {
          atoms = same.is_set;
          fluent = all_among (λ (a : Atom). is_fluent_in task a.predicate ≡ true) h.atoms same.set same.among
              (All-weaker (λ (a : Atom). IsTrue (is_fluent task.schemas a.predicate))
              (λ (a : Atom). is_fluent_in task a.predicate ≡ true)
              (λ a f. fluent_back task a.predicate f) h.atoms h.fluent);
          has = all_among (λ a. IsTrue (s a)) h.atoms same.set same.among h.has;
        };
        unnoted = λ n. (let (k, t, l, is, set_of) = (are same.set).0 n in
            All-contains (λ (x : State). HasAll x h.atoms → ⊥) seen t h.unseen (k, l, is)
            (all_among (λ a. IsTrue (t a)) same.set h.atoms same.all set_of.has));
      }

  new_novel : (noted : Noted) (seen : List State) (s : State) → AreSetsSeen task noted seen
      → HasNewSet task noted s → IsNovel task noted.width seen s
  new_novel noted seen s are h = record {
    atoms = h.set;
    some = h.of_state.atoms.some;
    few = h.of_state.atoms.few;
    fluent = All-weaker (λ (a : Atom). is_fluent_in task a.predicate ≡ true)
        (λ (a : Atom). IsTrue (is_fluent task.schemas a.predicate))
        (λ a f. fluent_to task a.predicate f) h.set h.of_state.fluent;
    has = h.of_state.has;
    unseen = λ i d l together. h.unnoted ((are h.set).1 (
      i,
      get_or seen i d,
      l,
      get_or_default seen i (get_or seen i d) d l,
      record { atoms = h.of_state.atoms; fluent = h.of_state.fluent; has = together },
    ));
  }

  pub new_sets_novel : NewSetsAreNovel task
  new_sets_novel noted seen s some two are = (new_novel noted seen s are, novel_new noted seen s two are)

  -- a list that has one more state
  seen_more : (old new : Noted) (seen all : List State) (s : State) → AreSetsSeen task old seen
      → NotesState task s old new → ((t : State) → Contains all t → Contains seen t ⊎ (s ≡ t)) →
      ((t : State) → Contains seen t → Contains all t) → Contains all s → AreSetsSeen task new all
  seen_more old new seen all s are notes cases keep here set = (
    λ n. subst (λ w. Any (λ t. IsSetOf task w t set) all) (sym notes.same_width)
        (elim ((notes.sets_are set).0 n) [
          | inl before ↦ (let (k, t, l, is, of) = (are set).0 before in let (j, m, e) = keep t (k, l, is) in
              (j, t, m, e, of))
          | inr now ↦ (let (j, m, e) = here in (j, s, m, e, now))
        ]),
    λ a. (let (k, t, l, is, of) = subst (λ w. Any (λ x. IsSetOf task w x set) all) notes.same_width a in
        (notes.sets_are set).1 (elim (cases t (k, l, is)) [
          | inl before ↦ (let (j, m, e) = before in inl ((are set).1 (j, t, m, e, of)))
          | inr same ↦ inr (subst (λ x. IsSetOf task old.width x set) (sym same) of)
        ])),
  )

  flipped : (s : State) (seen : List State) (t : State) → Contains (s ∷ seen) t → Contains seen t ⊎ (s ≡ t)
  flipped s seen t h = elim (Contains-cons_cases s seen t h) [
    | inl is ↦ inr is
    | inr rest ↦ inl rest
  ]

  pub noting_seeing : NotingIsSeeing task
  noting_seeing old new seen s are notes = (
    seen_more old new seen (s ∷ seen) s are notes (λ t h. flipped s seen t h)
        (λ t h. Contains-cons_rest s seen t h) (Contains-cons_first s seen),
    seen_more old new seen (seen ++ s ∷ []) s are notes (λ t h. Contains-push_cases seen s t h)
        (λ t h. Contains-append_left seen (s ∷ []) t h) (Contains-push seen s),
  )

  pub nothing_seen : NothingIsSeen task
  nothing_seen noted none set = (
    λ n. absurd (Contains-nil set (subst (λ l. Contains l set) none n)),
    λ a. (let (k, t, l, is, of) = a in absurd (omega (arith, l))),
  )
