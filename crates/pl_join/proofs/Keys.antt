-- Relations that are looked up by their first classes, and the semijoins with them.
use Rattle.std.proofs.Common.{◌≡◌, ◌≢◌, ◌↔◌, ℕ, zero, suc, Bool, true, false, not, List, [], ◌∷◌, ◌++◌}
use Rattle.std.proofs.Common.{length, map, take, drop, filter, get_or, All, Contains, refl, sym, ap, ◌∙◌}
use Rattle.std.proofs.Common.{subst, inl, inr, arith}
use Rattle.std.proofs.lemmas.List.{take-map, take-append-drop}
use Rattle.std.specs.List.{list_all, list_any}
use Rattle.std.proofs.lemmas.Bool.{cases_Bool, false≢true}
use Rattle.pl_rows.proofs.Canonical.{Contains-nil, Contains-cons_cases, Contains-cons_first}
use Rattle.pl_rows.proofs.Canonical.{Contains-cons_rest}
use Rattle.std.proofs.lemmas.List.Elements.{All-cons, All-head, All-tail, All-append, All-filter}
use Rattle.std.proofs.lemmas.List.Elements.{All-contains, All-contains_itself, Contains-get_or}
use Rattle.std.proofs.lemmas.List.Elements.{Contains-append_left, Contains-append_right}
use Rattle.std.proofs.lemmas.List.Elements.{Contains-append_cases}
use Rattle.std.proofs.lemmas.List.Kept.{AllPairs-cons}
use Rattle.pl_rows.specs.Rows.{Rows, IndexedRows, SameRows}
use Rattle.pl_join.specs.Relation.{ClassRows, Assignment, AreDistinct, IsRelation, Holds, Agree, IsJoinOf}
use Rattle.pl_join.specs.Relation.{IsProjectionOf, IsSemijoinOf, has_class, without}
use Rattle.pl_join.specs.Keyed.{KeyedRows, key_of, rest_of, IsSharedKey}
use Rattle.pl_join.specs.Found.{has_key}
use Rattle.pl_join.specs.Source.{of_rows}
use Rattle.pl_join.proofs.Assignments.{value_of, map_agree, agree_map, row_held, first_apart, rest_distinct}
use Rattle.pl_join.proofs.Loops.{same_rows}
use Rattle.pl_join.proofs.Members.{Contains-map, Contains-from_map, Contains-filter, has_row-Contains}
use Rattle.pl_join.proofs.Members.{has_class-Contains}
use Rattle.pl_join.proofs.Operations.{kept_by, semijoined_on}

-- the keys of a relation's rows are its projection onto the key
pub front_projection : (from : ClassRows) (width : ℕ) → IsRelation from
    → IsProjectionOf from (of_rows (take width from.classes) (map (take width) from.rows))
front_projection from width is f = (forth, back)
  where
    forth : Contains (map (take width) from.rows) (map f (take width from.classes)) → (g : Assignment)
        × Holds from g × Agree (take width from.classes) f g
    forth h =
        let (row, held, e) = Contains-from_map (take width) from.rows (map f (take width from.classes)) h in
        let g : Assignment = value_of from.classes row in
        let whole : map g from.classes ≡ row = row_held from is row held in (
          g,
          subst (Contains from.rows) (sym whole) held,
          agree_map (take width from.classes) f g
              (sym e ∙ ap (take width) (sym whole) ∙ take-map g width from.classes),
        )

    back : (g : Assignment) × Holds from g × Agree (take width from.classes) f g
        → Contains (map (take width) from.rows) (map f (take width from.classes))
    back (g, held, agree) =
        subst (Contains (map (take width) from.rows))
        (take-map g width from.classes ∙ sym (map_agree (take width from.classes) f g agree))
        (Contains-map (take width) from.rows (map g from.classes) held)

-- the rows whose keys are rows of another relation are the join with it
pub keyed_join : (keep keys : ClassRows) (width : ℕ) (rows : List (List ℕ))
    → keys.classes ≡ take width keep.classes → SameRows rows (filter (has_key keys.rows width) keep.rows)
    → IsJoinOf keep keys (of_rows keep.classes rows)
keyed_join keep keys width rows e same f =
    let (forth, back) = kept_by keep rows (has_key keys.rows width) same f in
    let key : take width (map f keep.classes) ≡ map f keys.classes = take-map f width keep.classes
    ∙ ap (map f) (sym e) in
    let (found, has) = has_row-Contains keys.rows (take width (map f keep.classes)) in (
      λ h. (let (held, t) = forth h in (held, subst (Contains keys.rows) key (found t))),
      λ (held, there). back (held, has (subst (Contains keys.rows) (sym key) there)),
    )

-- what is shared is the key
pub shared_key : (keyed : KeyedRows) (others : List ℕ) → IsSharedKey keyed others → (c : ℕ)
    → Contains (key_of keyed) c ↔ (Contains keyed.relation.classes c × Contains others c)
shared_key keyed others shared c = (
  λ h. (
    subst (λ cs. Contains cs c) (take-append-drop keyed.width keyed.relation.classes)
        (Contains-append_left (key_of keyed) (rest_of keyed) c h),
    All-contains (Contains others) (key_of keyed) c shared.key h,
  ),
  λ (held, other).
      elim (Contains-append_cases (key_of keyed) (rest_of keyed) c
      (subst (λ cs. Contains cs c) (sym (take-append-drop keyed.width keyed.relation.classes)) held)) [
        | inl h ↦ h
        | inr h ↦ absurd (shared.rest c h other)
      ],
)

-- the join with the keys is the semijoin, where one of the two is keyed
pub semijoin_by_key : (keep : ClassRows) (by : KeyedRows) (kept : ClassRows) → IsRelation by.relation
    → IsSharedKey by keep.classes → IsJoinOf keep (of_rows (key_of by) (map (take by.width) by.relation.rows))
    kept → IsSemijoinOf keep by.relation kept
semijoin_by_key keep by kept is shared joins =
    semijoined_on keep by.relation (of_rows (key_of by) (map (take by.width) by.relation.rows)) kept
    (shared_key by keep.classes shared) (front_projection by.relation by.width is) joins

pub semijoin_of_key : (keep : KeyedRows) (by keys kept : ClassRows) → IsSharedKey keep by.classes
    → keys.classes ≡ key_of keep → IsProjectionOf by keys → IsJoinOf keep.relation keys kept
    → IsSemijoinOf keep.relation by kept
semijoin_of_key keep by keys kept shared e projects joins =
    semijoined_on keep.relation by keys kept (λ c. (
      λ h. (let (held, other) = (shared_key keep by.classes shared c).0 (subst (λ cs. Contains cs c) e h) in
          (other, held)),
      λ (other, held). subst (λ cs. Contains cs c) (sym e)
          ((shared_key keep by.classes shared c).1 (held, other)),
    )) projects joins

-- the same of what the calls give
pub keyed_made : (keep : KeyedRows) (keys result : ClassRows) (kept table : Rows) (indexed : IndexedRows)
    (classes items : List ℕ) → keys.classes ≡ key_of keep
    → indexed ≡ record {
      table = record { arity = length keep.relation.classes; rows = keep.relation.rows };
      width = keep.width;
    } → table ≡ record { arity = length keys.classes; rows = keys.rows }
    → SameRows kept.rows (filter (has_key table.rows indexed.width) indexed.table.rows)
    → classes ≡ keep.relation.classes → items ≡ classes
    → result ≡ record { classes = items; rows = kept.rows } → IsJoinOf keep.relation keys result
keyed_made keep keys result kept table indexed classes items e ex et same ec ei er =
    rw (er, ei, ec) (keyed_join keep.relation keys keep.width kept.rows e (rw (ex, et) at same))

pub keyed_whole : (keep : KeyedRows) (keys : ClassRows) (table : Rows) (indexed : IndexedRows)
    → keys.classes ≡ key_of keep
    → indexed ≡ record {
      table = record { arity = length keep.relation.classes; rows = keep.relation.rows };
      width = keep.width;
    } → table ≡ record { arity = length keys.classes; rows = keys.rows }
    → filter (has_key table.rows indexed.width) indexed.table.rows ≡ indexed.table.rows
    → IsJoinOf keep.relation keys keep.relation
keyed_whole keep keys table indexed e ex et all =
    let same : filter (has_key keys.rows keep.width) keep.relation.rows ≡ keep.relation.rows =
    rw (ex, et) at all in
    keyed_join keep.relation keys keep.width keep.relation.rows e
    (same_rows keep.relation.rows (filter (has_key keys.rows keep.width) keep.relation.rows) (sym same))

-- ---- classes in front of the others

pub distinct_front : (n : ℕ) (xs : List ℕ) → AreDistinct xs → AreDistinct (take n xs)
distinct_front zero xs d = λ i j e h k. absurd (omega arith)
distinct_front (suc n) [] d = λ i j e h k. absurd (omega arith)
distinct_front (suc n) (x ∷ xs) d =
    AllPairs-cons (λ a b. a ≢ b) x (take n xs)
    (λ k e l s. first_apart x xs d (get_or (take n xs) k e)
    (subst (λ ys. Contains ys (get_or (take n xs) k e)) (take-append-drop n xs)
    (Contains-append_left (take n xs) (drop n xs) (get_or (take n xs) k e)
    (Contains-get_or (take n xs) k e l))) (sym s))
    (distinct_front n xs (rest_distinct x xs d))

pub front_held : (classes key : List ℕ) → All (Contains classes) key
    → All (Contains classes) (key ++ without classes key)
front_held classes key held =
    All-append (Contains classes) key (without classes key) held
    (All-filter (λ c. not (has_class key c)) (Contains classes) classes (All-contains_itself classes))

front_placed : (classes key : List ℕ) (c : ℕ) → Contains classes c → Contains (key ++ without classes key) c
front_placed classes key c h = elim (cases_Bool (has_class key c)) [
  | inl y ↦ Contains-append_left key (without classes key) c ((has_class-Contains key c).0 y)
  | inr n ↦ Contains-append_right key (without classes key) c
      (Contains-filter (λ k. not (has_class key k)) classes c h (rw n refl))
]

-- a projection onto all classes holds what the relation holds
pub front_rows : (relation arranged : ClassRows) (key : List ℕ) → arranged.classes ≡ key
    ++ without relation.classes key → IsProjectionOf relation arranged → (f : Assignment) → Holds arranged f
    ↔ Holds relation f
front_rows relation arranged key e projects f = (
  λ h. (let (g, held, agree) = (projects f).0 h in
      subst (Contains relation.rows)
      (sym (map_agree relation.classes f g
      (λ c m. agree c (subst (λ cs. Contains cs c) (sym e) (front_placed relation.classes key c m)))))
      held),
  λ h. (projects f).1 (f, h, λ c m. refl),
)

pub front_is : (classes given key rest slice order all : List ℕ) → given ≡ classes → rest ≡ without given key
    → slice ≡ rest → order ≡ key ++ slice → all ≡ order → all ≡ key ++ without classes key
front_is classes given key rest slice order all eg er es eo ea = ea ∙ eo
    ∙ ap (λ cs. key ++ cs) (es ∙ er ∙ ap (λ cs. without cs key) eg)

pub front_within : (n : ℕ) (xs : List ℕ) → All (Contains xs) (take n xs)
front_within n xs k d l =
    subst (λ ys. Contains ys (get_or (take n xs) k d)) (take-append-drop n xs)
    (Contains-append_left (take n xs) (drop n xs) (get_or (take n xs) k d)
    (Contains-get_or (take n xs) k d l))

-- ---- the test of the key

among_all : (classes others : List ℕ) → (list_all (has_class others) classes ≡ true)
    ↔ All (Contains others) classes
among_all [] others = (λ h k d l. absurd (omega arith), λ h. refl)
among_all (c ∷ classes) others = (
  λ h. elim (cases_Bool (has_class others c)) [
    | inl y ↦ All-cons (Contains others) c classes ((has_class-Contains others c).0 y)
        ((among_all classes others).0 (rw y at h))
    | inr n ↦ absurd (false≢true (rw n at h))
  ],
  λ all. rw ((has_class-Contains others c).1 (All-head (Contains others) c classes all))
      ((among_all classes others).1 (All-tail (Contains others) c classes all)),
)

apart_none : (classes others : List ℕ) → (list_any (has_class others) classes ≡ false)
    ↔ ((c : ℕ) → Contains classes c → Contains others c → ⊥)
apart_none [] others = (λ h c m. absurd (Contains-nil c m), λ h. refl)
apart_none (c ∷ classes) others = (
  λ h k m o. elim (cases_Bool (has_class others c)) [
    | inl y ↦ false≢true (sym (rw y at h))
    | inr n ↦ (elim (Contains-cons_cases c classes k m) [
      | inl e ↦ false≢true (sym n ∙ (has_class-Contains others c).1 (subst (Contains others) (sym e) o))
      | inr r ↦ (apart_none classes others).0 (rw n at h) k r o
    ])
  ],
  λ apart. elim (cases_Bool (has_class others c)) [
    | inl y ↦ absurd (apart c (Contains-cons_first c classes) ((has_class-Contains others c).0 y))
    | inr n ↦ rw n ((apart_none classes others).1 (λ k m. apart k (Contains-cons_rest c classes k m)))
  ],
)

pub not_shared : (keyed : KeyedRows) (others key : List ℕ) (among : Bool) → key ≡ key_of keyed
    → among ≡ list_all (has_class others) key → among ≡ false → IsSharedKey keyed others → ⊥
not_shared keyed others key among ek ea lacks shared =
    false≢true (sym lacks ∙ ea ∙ ap (list_all (has_class others)) ek
    ∙ (among_all (key_of keyed) others).1 shared.key)

pub key_shared : (keyed : KeyedRows) (others key rest : List ℕ) (among met : Bool) → key ≡ key_of keyed
    → rest ≡ rest_of keyed → among ≡ list_all (has_class others) key → met ≡ list_any (has_class others) rest
    → among ≡ true
    → (not met ≡ true) ↔ IsSharedKey keyed others
key_shared keyed others key rest among met ek er ea em has = (
  λ p. record {
    key = (among_all (key_of keyed) others).0 (sym (ea ∙ ap (list_all (has_class others)) ek) ∙ has);
    rest = (apart_none (rest_of keyed) others).0
        (sym (em ∙ ap (list_any (has_class others)) er) ∙ not_true met p);
  },
  λ shared. ap not (em ∙ ap (list_any (has_class others)) er
      ∙ (apart_none (rest_of keyed) others).1 shared.rest),
)
  where
    not_true : (b : Bool) → not b ≡ true → b ≡ false
    not_true true h = absurd (false≢true h)
    not_true false h = refl
