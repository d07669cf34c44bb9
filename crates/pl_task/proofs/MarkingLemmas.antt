-- What one more mark does to a marking, and that a closed queue holds all that chains of parents lead to.
use Rattle.std.proofs.Common.{◌≡◌, ℕ, ◌+◌, ◌<◌, ◌≤◌, ◌*◌, zero, suc, Bool, true, false, not, cond, List, []}
use Rattle.std.proofs.Common.{◌∷◌, ◌++◌, ◌↔◌, inl, inr, length, get_or, set, take, replicate, refl, sym, ◌∙◌}
use Rattle.std.proofs.Common.{ap, subst, arith, append_assoc, length-append, get_or-set_same}
use Rattle.std.proofs.Common.{get_or-set_other, length-set, Some, slice_get, All, Contains, count_by}
use Rattle.std.proofs.lemmas.List.Sums.{sum_by-set}
use Rattle.std.proofs.lemmas.List.Elements.{Contains-append_left, Contains-push, Contains-push_cases}
use Rattle.std.proofs.lemmas.List.Elements.{Contains-get_or, All-more, All-append, All-weaker, All-contains}
use Rattle.std.proofs.lemmas.Option.{slice_get_read}
use Rattle.std.proofs.lemmas.Bool.{cases_eq, false≢true}
use Rattle.std.proofs.lemmas.List.{length-replicate, get_or_append_left, get_or_default}
use Rattle.std.proofs.lemmas.List.Folds.{sum_by-replicate}
use Rattle.pl_task.specs.declared.data.TypeDef.{TypeDef}
use Rattle.pl_task.specs.Marking.{IsMarking, Grows}
use Rattle.pl_task.specs.Types.{IsParent, IsChain, IsReached}

-- one mark more is one unmarked number less
count_by-set : (marks : List Bool) (n : ℕ) → n < length marks → get_or marks n false ≡ false →
    count_by not (set marks n true) + 1 ≡ count_by not marks
count_by-set marks n within clear =
    let f : Bool → ℕ = λ b. cond (not b) 1 0 in
    let e : count_by not (set marks n true) + f (get_or marks n false) ≡ count_by not marks + 0 =
    sum_by-set f marks n true false within in
    let one : f (get_or marks n false) ≡ 1 = ap f clear in
    omega arith

-- a number that is not marked is marked, and appended
pub marked_more : (marks : List Bool) (queue : List ℕ) (n : ℕ) → n < length marks →
    get_or marks n false ≡ false →
    IsMarking marks queue → IsMarking (set marks n true) (queue ++ n ∷ [])
marked_more marks queue n within clear m = record {
  total = omega (
    arith,
    count_by-set marks n within clear,
    m.total,
    length-append queue (n ∷ []),
    length-set marks n true,
  );
  marked = λ k. elim (cases_eq k n) [
    | inl same ↦ (
      (λ _. subst (Contains (queue ++ n ∷ [])) (sym same) (Contains-push queue n)),
      (λ _. subst (λ i. get_or (set marks n true) i false ≡ true) (sym same)
          (get_or-set_same marks n true false within)),
    )
    | inr apart ↦ (
      (λ h. Contains-append_left queue (n ∷ []) k
          ((m.marked k).0 (sym (get_or-set_other marks n k true false apart) ∙ h))),
      (λ h. elim (Contains-push_cases queue n k h) [
        | inl held ↦ get_or-set_other marks n k true false apart ∙ (m.marked k).1 held
        | inr it ↦ absurd (apart (sym it))
      ]),
    )
  ];
}

-- a queue that grew by some of the numbers, and then by one more of them
pub grows_more : (numbers old middle new : List ℕ) (n : ℕ) → Contains numbers n → Grows numbers old middle →
    Grows (n ∷ []) middle new → Grows numbers old new
grows_more numbers old middle new n among (first, is_first, in_first) (second, is_second, in_second) = (
  first ++ second,
  is_second ∙ ap (λ q. q ++ second) is_first ∙ append_assoc old first second,
  All-append (Contains numbers) first second in_first
      (All-weaker (Contains (n ∷ [])) (Contains numbers)
      (λ x h. elim (Contains-push_cases [] n x h) [
        | inl (k, within, _) ↦ absurd (omega arith)
        | inr it ↦
            subst (Contains numbers) it among
      ]) second in_second),
)

-- what is held stays held as the queue grows
pub held_longer : (numbers wanted old new : List ℕ) → Grows numbers old new → All (Contains old) wanted →
    All (Contains new) wanted
held_longer numbers wanted old new (rest, is, _) held =
    All-weaker (Contains old) (Contains new)
    (λ x h. subst (λ q. Contains q x) (sym is) (Contains-append_left old rest x h)) wanted held

-- one number more is passed
pub passed_more : (numbers : List ℕ) (i : ℕ) (first old new : List ℕ) → i < length numbers →
    All (Contains old) (take i numbers) → Grows numbers first old →
    Contains new (get_or numbers i 0) → Grows (get_or numbers i 0 ∷ []) old new →
    All (Contains new) (take (i + 1) numbers) × Grows numbers first new
passed_more numbers i first old new within held grown here grows = (
  All-more (Contains new) numbers i 0 within (held_longer (get_or numbers i 0 ∷ []) (take i numbers)
      old new grows held) here,
  grows_more numbers first old new (get_or numbers i 0) (Contains-get_or numbers i 0 within) grown grows,
)

-- a mark that was never set is clear
clear : (n k : ℕ) → get_or (replicate n false) k false ≡ false
clear zero k = refl
clear (suc n) zero = refl
clear (suc n) (suc k) = clear n k

-- with no mark the queue is empty
pub unmarked : (n : ℕ) → IsMarking (replicate n false) []
unmarked n = record {
  total =
      let all : count_by not (replicate n false) ≡ n * 1 = sum_by-replicate (λ b. cond (not b) 1 0) n false in
      omega (arith, length-replicate n false);
  marked = λ k. (
    (λ h. absurd (false≢true (sym (clear n k) ∙ h))),
    (λ (i, within, _). absurd (omega arith)),
  );
}

-- one parent more at the end of a chain
chain_more : (types : List TypeDef) (a : ℕ) (rest : List ℕ) (t b : ℕ) → IsChain types a rest t →
    IsParent types t b → IsChain types a (rest ++ b ∷ []) b
chain_more types a [] t b here parent = (subst (λ x. IsParent types x b) (sym here) parent, refl)
chain_more types a (x ∷ rest) t b chain parent = (chain.0, chain_more types x rest t b chain.1 parent)

-- a parent of a reached type is reached
reached_more : (types : List TypeDef) (starts : List ℕ) (t b : ℕ) → IsReached types starts t →
    IsParent types t b → IsReached types starts b
reached_more types starts t b (a, among, (rest, chain)) parent =
    (a, among, (rest ++ b ∷ [], chain_more types a rest t b chain parent))

-- The walk over the queue: what is marked is reached, and the parents of the types before `next` are marked.
pub record IsWalk (types : List TypeDef) (starts : List ℕ) (marks : List Bool) (queue : List ℕ) (next : ℕ) :
    Type 0 where
  pub marking : IsMarking marks queue
  pub whole : length marks ≡ length types
  pub begun : All (Contains queue) starts
  pub sound : All (IsReached types starts) queue
  pub within : All (λ t. t < length types) queue
  pub closed : (i b : ℕ) → i < next → i < length queue → IsParent types (get_or queue i 0) b →
      Contains queue b
  pub next_within : next ≤ length queue

-- the starts are reached
pub walk_begun : (types : List TypeDef) (starts : List ℕ) (marks : List Bool) (queue : List ℕ) →
    length marks ≡ length types →
    All (λ t. t < length types) starts → IsMarking marks queue → All (Contains queue) starts →
    Grows starts [] queue → IsWalk types starts marks queue 0
walk_begun types starts marks queue whole in_range marking held (rest, is, among) = record {
  marking = marking;
  whole = whole;
  begun = held;
  sound = subst (All (IsReached types starts)) (sym is)
      (All-weaker (Contains starts) (IsReached types starts) (λ x h. (x, h, ([], refl))) rest among);
  within = subst (All (λ t. t < length types)) (sym is)
      (All-weaker (Contains starts) (λ t. t < length types)
      (λ x h. All-contains (λ t. t < length types) starts x in_range h) rest among);
  closed = λ i b none. absurd (omega arith);
  next_within = omega arith;
}

-- the parents of one type more are marked
pub walk_more : (types : List TypeDef) (starts : List ℕ) (marks marks' : List Bool) (queue queue' : List ℕ)
    (next : ℕ) (d : TypeDef) →
    IsWalk types starts marks queue next → next < length queue →
    slice_get types (get_or queue next 0) ≡ Some d →
    All (λ p. p < length types) d.parents → length marks' ≡ length marks → IsMarking marks' queue' →
    All (Contains queue') d.parents → Grows d.parents queue queue' →
    IsWalk types starts marks' queue' (next + 1)
walk_more types starts marks marks' queue queue' next d w here found in_range same marking held
    (rest, is, among) = record {
      marking = marking;
      whole = same ∙ w.whole;
      begun = held_longer d.parents starts queue queue' (rest, is, among) w.begun;
      sound = subst (All (IsReached types starts)) (sym is)
          (All-append (IsReached types starts) queue rest w.sound
          (All-weaker (Contains d.parents) (IsReached types starts)
          (λ x h. reached_more types starts (get_or queue next 0) x (w.sound next 0 here) (d, found, h)) rest
          among));
      within = subst (All (λ t. t < length types)) (sym is)
          (All-append (λ t. t < length types) queue rest w.within
          (All-weaker (Contains d.parents) (λ t. t < length types)
          (λ x h. All-contains (λ t. t < length types) d.parents x in_range h) rest among));
      closed = λ i b below _ parent. elim (cases_eq i next) [
        | inl at ↦ new_parent b (subst (λ t. IsParent types t b) (old_element i (omega arith) ∙
            ap (λ j. get_or queue j 0) at) parent)
        | inr apart ↦ longer b (w.closed i b (omega arith) (omega (arith, w.next_within))
            (subst (λ t. IsParent types t b) (old_element i (omega (arith, w.next_within))) parent))
      ];
      next_within = omega (arith, ap length is, length-append queue rest);
    }
  where
    old_element : (i : ℕ) → i < length queue → get_or queue' i 0 ≡ get_or queue i 0
    old_element i h = ap (λ q. get_or q i 0) is ∙ get_or_append_left queue rest 0 i h

    longer : (b : ℕ) → Contains queue b → Contains queue' b
    longer b h = subst (λ q. Contains q b) (sym is) (Contains-append_left queue rest b h)

    new_parent : (b : ℕ) → IsParent types (get_or queue next 0) b → Contains queue' b
    new_parent b (d', found', among') =
        let e : d' ≡ d = cc in All-contains (Contains queue') d.parents b held
        (subst (λ x. Contains x.parents b) e among')

-- a closed queue holds what a chain from one of its members leads to
chain_held : (types : List TypeDef) (queue : List ℕ) (a : ℕ) (rest : List ℕ) (t : ℕ) →
    ((i b : ℕ) → i < length queue → IsParent types (get_or queue i 0) b → Contains queue b) →
    Contains queue a → IsChain types a rest t → Contains queue t
chain_held types queue a [] t closed held here = subst (Contains queue) here held
chain_held types queue a (b ∷ rest) t closed (k, within, is) chain =
    chain_held types queue b rest t closed
    (closed k b within (subst (λ x. IsParent types x b) (sym (get_or_default queue k 0 a within ∙ is))
    chain.0)) chain.1

-- at the end of the queue the marks tell what is reached
pub walk_ended : (types : List TypeDef) (starts : List ℕ) (marks : List Bool) (queue : List ℕ) (next t : ℕ) →
    IsWalk types starts marks queue next → length queue ≤ next → (get_or marks t false ≡ true) ↔
    IsReached types starts t
walk_ended types starts marks queue next t w ended = (
  (λ h. All-contains (IsReached types starts) queue t w.sound ((w.marking.marked t).0 h)),
  (λ (a, among, (rest, chain)). (w.marking.marked t).1
      (chain_held types queue a rest t (λ i b h p. w.closed i b (omega arith) h p)
      (All-contains (Contains queue) starts a w.begun among) chain)),
)

-- the type that the code reads at the place that it reads from the queue
pub read_at : (types : List TypeDef) (queue : List ℕ) (next n : ℕ) (d : TypeDef) →
    All (λ t. t < length types) queue → next < length queue →
    n ≡ get_or queue next n → d ≡ get_or types n d →
    (slice_get types (get_or queue next 0) ≡ Some d) × (n < length types)
read_at types queue next n d within here is reads =
    let in_range : n < length types = subst (λ i. i < length types) (sym is) (within next n here) in (
      subst (λ i. slice_get types i ≡ Some d) (is ∙ get_or_default queue next n 0 here)
          (slice_get_read types (length types) n d refl in_range reads),
      in_range,
    )

-- the parents of the type that the code reads are types
pub parents_at : (types : List TypeDef) (n : ℕ) (d : TypeDef) →
    All (λ (t : TypeDef). All (λ p. p < length types) t.parents) types → n < length types →
    d ≡ get_or types n d → All (λ p. p < length types) d.parents
parents_at types n d all within reads = subst (λ (t : TypeDef). All (λ p. p < length types) t.parents)
    (sym reads) (all n d within)
