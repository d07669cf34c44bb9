-- The removal of ears under way: what stands when the search for the next ear begins.
use Rattle.std.proofs.Common.{◌≡◌, ℕ, ◌<◌, ◌≤◌, ◌⊎◌, List, [], ◌∷◌, ◌++◌, length, get_or, sym, ap, ◌∙◌, subst}
use Rattle.std.proofs.Common.{inl, inr, arith}
use Rattle.std.specs.Prelude.{bit_and, slice_index}
use Rattle.std.specs.List.{All, AllPairs, remove}
use Rattle.std.proofs.lemmas.List.{get_or_default}
use Rattle.std.proofs.lemmas.List.Elements.{Contains-get_or}
use Rattle.std.proofs.lemmas.List.Edits.{length-remove, get_or-remove_below}
use Rattle.std.proofs.lemmas.Bool.{cases_lt}
use Rattle.pl_hyper.specs.declared.ear.Ear.{Ear}
use Rattle.pl_hyper.specs.Edges.{edge_numbers}
use Rattle.pl_hyper.specs.Ears.{IsEar, IsFirstEar, Removes, IsRemoval, without}
use Rattle.pl_hyper.specs.Search.{AreShared, IsEarAt}
use Rattle.pl_hyper.specs.Holders.{AreHolders, AreSharedBut}
use Rattle.pl_hyper.proofs.Members.{same_or_not, range_rises, within_range, remove_is_without}
use Rattle.pl_hyper.proofs.Removals.{Removes-push, left_rises, still_edges}
use Rattle.pl_hyper.proofs.Searches.{ear_before, shared_but_ear}

pub record IsUnderWay (edges core : List ℕ) (removed : List Ear) (shared from : ℕ) : Type 0 where
  pub removes : Removes edges (edge_numbers edges) removed core
  pub shared_are : AreShared edges core shared
  pub start : from ≤ length core
  pub none_before : (k f : ℕ) → k < from → IsEar edges core (get_or core k 0) f → ⊥

pub core_rises : (edges core : List ℕ) (removed : List Ear) (shared from : ℕ) →
    IsUnderWay edges core removed shared from → AllPairs (λ e f. e < f) core
core_rises edges core removed shared from u = left_rises edges (edge_numbers edges) removed core u.removes
    (range_rises (length edges))

pub core_within : (edges core : List ℕ) (removed : List Ear) (shared from : ℕ) →
    IsUnderWay edges core removed shared from → All (λ e. e < length edges) core
core_within edges core removed shared from u = λ k d h. within_range (length edges) (get_or core k d)
    (still_edges edges (edge_numbers edges) removed core u.removes (get_or core k d)
    (Contains-get_or core k d h))

least_place : (edges core : List ℕ) (from place k e f : ℕ) → AllPairs (λ a b. a < b) core →
    get_or core k 0 ≡ e → k < length core → (k < from → ⊥) → (from ≤ k → k < place → ⊥) →
    (k < from) ⊎ (from ≤ k) → (k < place) ⊎ (place ≤ k) → get_or core place 0 ≤ e
least_place edges core from place k e f up at h before between (inl low) m = absurd (before low)
least_place edges core from place k e f up at h before between (inr high) (inl low) =
    absurd (between high low)
least_place edges core from place k e f up at h before between (inr high) (inr far) =
    elim (same_or_not place k) [
      | inl s ↦ (let same : get_or core place 0 ≡ get_or core k 0 = ap (λ x. get_or core x 0) s in
          omega arith)
      | inr d ↦ (let low = up place k 0 (omega arith) h in omega arith)
    ]

-- no ear stands before the one that was found
least_edge : (edges core : List ℕ) (removed : List Ear) (shared from place parent : ℕ) →
    IsUnderWay edges core removed shared from → IsEarAt edges core from place parent → (e f : ℕ) →
    IsEar edges core e f → get_or core place 0 ≤ e
least_edge edges core removed shared from place parent u found e f ear =
    let k = ear.edge_remains.0 in
    let at : get_or core k 0 ≡ e = get_or_default core k 0 e ear.edge_remains.1 ∙ ear.edge_remains.2 in
    let there : IsEar edges core (get_or core k 0) f = subst (λ x. IsEar edges core x f) (sym at) ear in
    least_place edges core from place k e f (core_rises edges core removed shared from u)
    at ear.edge_remains.1 (λ h. u.none_before k f h there) (λ h l. found.none_before k f h l there)
    (cases_lt k from) (cases_lt k place)

pub first_ear_found : (edges core : List ℕ) (removed : List Ear) (shared from place parent : ℕ) →
    IsUnderWay edges core removed shared from → IsEarAt edges core from place parent →
    IsFirstEar edges core (get_or core place 0) parent
first_ear_found edges core removed shared from place parent u found = record {
  is_ear = found.is_ear;
  least_edge = least_edge edges core removed shared from place parent u found;
  least_parent = found.least_parent;
}

-- where the shared classes are the same, the edges before the removed one are no ears afterwards either
pub none_still : (edges core : List ℕ) (removed : List Ear) (shared from place parent : ℕ) →
    IsUnderWay edges core removed shared from → IsEarAt edges core from place parent →
    AreShared edges (without (get_or core place 0) core) shared → (k f : ℕ) → k < place →
    IsEar edges (without (get_or core place 0) core) (get_or (without (get_or core place 0) core) k 0) f → ⊥
none_still edges core removed shared from place parent u found after k f h ear =
    let gone = get_or core place 0 in
    let same = remove_is_without core place 0 (core_rises edges core removed shared from u) found.within in
    let at : get_or (without gone core) k 0 ≡ get_or core k 0 = sym (ap (λ xs. get_or xs k 0) same) ∙
    get_or-remove_below core place 0 k h found.within in
    let before = ear_before edges core gone shared (get_or core k 0) f u.shared_are after
    (subst (λ x. IsEar edges (without gone core) x f) at ear) in
    elim (cases_lt k from) [
      | inl low ↦ u.none_before k f low before
      | inr high ↦ found.none_before k f high h before
    ]

-- no ear is left where the search found none
pub none_left : (edges core : List ℕ) (removed : List Ear) (shared from : ℕ) →
    IsUnderWay edges core removed shared from →
    ((k f : ℕ) → from ≤ k → k < length core → IsEar edges core (get_or core k 0) f → ⊥) → (e f : ℕ) →
    IsEar edges core e f → ⊥
none_left edges core removed shared from u none e f ear =
    let k = ear.edge_remains.0 in
    let at : get_or core k 0 ≡ e = get_or_default core k 0 e ear.edge_remains.1 ∙ ear.edge_remains.2 in
    let there : IsEar edges core (get_or core k 0) f = subst (λ x. IsEar edges core x f) (sym at) ear in
    elim (cases_lt k from) [
      | inl low ↦ u.none_before k f low there
      | inr high ↦ none k f high ear.edge_remains.1 there
    ]

pub IsRemoval-end : (edges kept core : List ℕ) (removed : List Ear) (shared from : ℕ) (given : List ℕ) →
    kept ≡ edges → IsUnderWay edges core removed shared from → given ≡ core →
    ((k f : ℕ) → from ≤ k → k < length given → IsEar edges given (get_or given k 0) f → ⊥) →
    IsRemoval (record { edges = kept; removed = removed; core = core })
IsRemoval-end edges kept core removed shared from given e u g none =
    rw e (record {
      removes = u.removes;
      ends = none_left edges core removed shared from u (subst (λ xs. (k f : ℕ) → from ≤ k → k < length xs →
          IsEar edges xs (get_or xs k 0) f → ⊥) g none);
    })

-- ---- what the loop keeps

pub IsUnderWay-begin : (edges core : List ℕ) (removed : List Ear) (given : List ℕ) (shared : ℕ) →
    core ≡ edge_numbers edges → removed ≡ [] → given ≡ core → AreShared edges given shared →
    IsUnderWay edges core removed shared 0
IsUnderWay-begin edges core removed given shared e n g a = record {
  removes = subst (λ xs. Removes edges (edge_numbers edges) xs core) (sym n) e;
  shared_are = subst (λ xs. AreShared edges xs shared) g a;
  start = omega arith;
  none_before = λ k f h _. omega arith;
}

abbrev pub taken : List ℕ → List Ear → ℕ → ℕ → List Ear
taken core removed place parent = removed ++ record { edge = get_or core place 0; parent = parent } ∷ []

pub removes_more : (edges core : List ℕ) (removed : List Ear) (shared from place parent : ℕ) →
    IsUnderWay edges core removed shared from → IsEarAt edges core from place parent →
    Removes edges (edge_numbers edges) (taken core removed place parent) (remove core place)
removes_more edges core removed shared from place parent u found =
    let same = remove_is_without core place 0 (core_rises edges core removed shared from u) found.within in
    subst (Removes edges (edge_numbers edges) (taken core removed place parent)) (sym same)
    (Removes-push edges (edge_numbers edges) removed core (record {
      edge = get_or core place 0;
      parent = parent;
    }) u.removes (first_ear_found edges core removed shared from place parent u found))

again : (edges core : List ℕ) (removed : List Ear) (shared from place parent left : ℕ) →
    IsUnderWay edges core removed shared from → IsEarAt edges core from place parent →
    AreShared edges (remove core place) left →
    IsUnderWay edges (remove core place) (taken core removed place parent) left 0
again edges core removed shared from place parent left u found a = record {
  removes = removes_more edges core removed shared from place parent u found;
  shared_are = a;
  start = omega arith;
  none_before = λ k f h _. omega arith;
}

onward : (edges core : List ℕ) (removed : List Ear) (shared from place parent left : ℕ) →
    IsUnderWay edges core removed shared from → IsEarAt edges core from place parent →
    AreShared edges (remove core place) left → left ≡ shared →
    IsUnderWay edges (remove core place) (taken core removed place parent) left place
onward edges core removed shared from place parent left u found a e =
    let same = remove_is_without core place 0 (core_rises edges core removed shared from u) found.within in
    let long = length-remove core place found.within in
    let after : AreShared edges (without (get_or core place 0) core) shared =
    subst (λ xs. AreShared edges xs shared) same (subst (AreShared edges (remove core place)) e a) in
    record {
      removes = removes_more edges core removed shared from place parent u found;
      shared_are = a;
      start = (let low = found.within in omega arith);
      none_before = subst (λ xs. (k f : ℕ) → k < place → IsEar edges xs (get_or xs k 0) f → ⊥) (sym same)
          (none_still edges core removed shared from place parent u found after);
    }

-- one turn of the loop: the ear that was found leaves the core
pub record IsTurn (edges core : List ℕ) (removed : List Ear) (shared from place parent : ℕ) (core' : List ℕ)
    (removed' : List Ear) : Type 0 where
  pub before : IsUnderWay edges core removed shared from
  pub found : IsEarAt edges core from place parent
  pub core_is : core' ≡ remove core place
  pub removed_is : removed' ≡ taken core removed place parent

pub IsTurn-found : (edges core : List ℕ) (removed : List Ear) (shared from place parent : ℕ) (core' : List ℕ)
    (removed' : List Ear) (given : List ℕ) → IsUnderWay edges core removed shared from → given ≡ core →
    IsEarAt edges given from place parent → core' ≡ remove core place →
    removed' ≡ taken core removed place parent →
    IsTurn edges core removed shared from place parent core' removed'
IsTurn-found edges core removed shared from place parent core' removed' given u g found c r = record {
  before = u;
  found = subst (λ xs. IsEarAt edges xs from place parent) g found;
  core_is = c;
  removed_is = r;
}

pub IsUnderWay-again : (edges core : List ℕ) (removed : List Ear) (shared from place parent : ℕ)
    (core' : List ℕ) (removed' : List Ear) (given : List ℕ) (left : ℕ) →
    IsTurn edges core removed shared from place parent core' removed' → given ≡ core' →
    AreShared edges given left → IsUnderWay edges core' removed' left 0
IsUnderWay-again edges core removed shared from place parent core' removed' given left t g a =
    rw (t.core_is, t.removed_is) (again edges core removed shared from place parent left t.before t.found
    (subst (λ xs. AreShared edges xs left) (g ∙ t.core_is) a))

pub IsUnderWay-on : (edges core : List ℕ) (removed : List Ear) (shared from place parent : ℕ) (core' : List ℕ)
    (removed' : List Ear) (given : List ℕ) (left : ℕ) →
    IsTurn edges core removed shared from place parent core' removed' → given ≡ core' →
    AreShared edges given left → left ≡ shared → IsUnderWay edges core' removed' left place
IsUnderWay-on edges core removed shared from place parent core' removed' given left t g a e =
    rw (t.core_is, t.removed_is) (onward edges core removed shared from place parent left t.before t.found
    (subst (λ xs. AreShared edges xs left) (g ∙ t.core_is) a) e)

-- ---- the holders and the shared classes of a turn

-- the ear that was found is an edge, read at its place
pub ear_is_edge : (edges core : List ℕ) (removed : List Ear) (shared from place parent e : ℕ)
    (given : List ℕ) → IsUnderWay edges core removed shared from → given ≡ core →
    IsEarAt edges given from place parent → e ≡ get_or core place e → e < length edges
ear_is_edge edges core removed shared from place parent e given u g found is =
    let within : place < length core = subst (λ xs. place < length xs) g found.within in
    subst (λ x. x < length edges) (sym is) (core_within edges core removed shared from u place e within)

pub core_shrinks : (edges core core' given : List ℕ) (from place parent : ℕ) → given ≡ core →
    IsEarAt edges given from place parent → core' ≡ remove core place → length core' < length core
core_shrinks edges core core' given from place parent g found is =
    let within : place < length core = subst (λ xs. place < length xs) g found.within in
    let long = length-remove core place within in
    subst (λ xs. length xs < length core) (sym is) (omega (arith, long, within))

taken_edge : (edges core : List ℕ) (removed : List Ear) (shared from place parent : ℕ) (core' : List ℕ)
    (removed' : List Ear) (e : ℕ) → IsTurn edges core removed shared from place parent core' removed' →
    e ≡ get_or core place e → e ≡ get_or core place 0
taken_edge edges core removed shared from place parent core' removed' e t is =
    is ∙ get_or_default core place e 0 t.found.within

core_without : (edges core : List ℕ) (removed : List Ear) (shared from place parent : ℕ) (core' : List ℕ)
    (removed' : List Ear) (e : ℕ) → IsTurn edges core removed shared from place parent core' removed' →
    e ≡ get_or core place e → core' ≡ without e core
core_without edges core removed shared from place parent core' removed' e t is =
    t.core_is
    ∙ (remove_is_without core place 0 (core_rises edges core removed shared from t.before) t.found.within
    ∙ ap (λ x. without x core)
    (sym (taken_edge edges core removed shared from place parent core' removed' e t is)))

pub holders_on : (edges core : List ℕ) (removed : List Ear) (shared from place parent : ℕ) (core' : List ℕ)
    (removed' : List Ear) (e : ℕ) (words' present' : List ℕ) →
    IsTurn edges core removed shared from place parent core' removed' → e ≡ get_or core place e →
    AreHolders edges (without e core) words' present' → AreHolders edges core' words' present'
holders_on edges core removed shared from place parent core' removed' e words' present' t is a =
    subst (λ xs. AreHolders edges xs words' present')
    (sym (core_without edges core removed shared from place parent core' removed' e t is)) a

pub shared_on : (edges core : List ℕ) (removed : List Ear) (shared from place parent : ℕ) (core' : List ℕ)
    (removed' : List Ear) (e left : ℕ) → IsTurn edges core removed shared from place parent core' removed' →
    e ≡ get_or core place e →
    (AreSharedBut edges core' parent (bit_and (slice_index edges e) shared) shared
    → AreShared edges core' left) → AreShared edges core' left
shared_on edges core removed shared from place parent core' removed' e left t is next =
    let at = taken_edge edges core removed shared from place parent core' removed' e t is in
    next (subst (λ xs. AreSharedBut edges xs parent (bit_and (slice_index edges e) shared) shared)
    (sym (core_without edges core removed shared from place parent core' removed' e t is))
    (subst (λ x. AreSharedBut edges (without x core) parent (bit_and (slice_index edges x) shared) shared)
    (sym at)
    (shared_but_ear edges core shared (get_or core place 0) parent t.before.shared_are t.found.is_ear)))

-- what the search requires, of the slice that it is given
pub given_within : (edges core : List ℕ) (removed : List Ear) (shared from : ℕ) (given : List ℕ) →
    given ≡ core → IsUnderWay edges core removed shared from → All (λ e. e < length edges) given
given_within edges core removed shared from given g u = subst (All (λ e. e < length edges)) (sym g)
    (core_within edges core removed shared from u)

-- and at the start
pub numbers_rise : (edges core given : List ℕ) → given ≡ core → core ≡ edge_numbers edges →
    AllPairs (λ e f. e < f) given
numbers_rise edges core given g e = subst (AllPairs (λ a b. a < b)) (sym (g ∙ e)) (range_rises (length edges))

pub numbers_within : (edges core given : List ℕ) → given ≡ core → core ≡ edge_numbers edges →
    All (λ e. e < length edges) given
numbers_within edges core given g e =
    let numbers : All (λ x. x < length edges) (edge_numbers edges) = λ k d h. within_range (length edges)
    (get_or (edge_numbers edges) k d) (Contains-get_or (edge_numbers edges) k d h) in
    subst (All (λ x. x < length edges)) (sym (g ∙ e)) numbers
