-- The keys that wait: the first one on top, one more, and none.
use Rattle.std.proofs.Common.{◌≡◌, ◌⊎◌, ◌+◌, ◌*◌, ◌-◌, ◌^◌, ◌<◌, ◌≤◌, ℕ, suc, Bool, true, false, List, []}
use Rattle.std.proofs.Common.{◌∷◌, ◌++◌, map, length, length-append, append_assoc, add-one, get_or, Contains}
use Rattle.std.proofs.Common.{All, refl, sym, ap, ◌∙◌, subst, inl, inr, arith}
use Rattle.std.specs.Prelude.{◌%◌}
use Rattle.std.specs.BinaryHeap.{IsHeap, PopsGreatest}
use Rattle.std.specs.Ordering.{nat_cmp}
use Rattle.std.specs.List.{IsDistinct}
use Rattle.std.specs.List.Sorted.{IsPermutation}
use lib.Dec.{eqb}
use Rattle.std.proofs.lemmas.Bool.{eqb-true, eqb-false, eq-eqb, ne_eqb}
use Rattle.std.proofs.lemmas.Nat.{mod-mul-add, mod_below, row_fits}
use Rattle.std.proofs.lemmas.List.{append-nil, get_or-map, get_or_append_left, get_or_at, get_or_default}
use Rattle.std.proofs.lemmas.List.Elements.{All-cons, All-head, All-tail, Contains-get_or}
use Rattle.std.proofs.lemmas.List.Elements.{Contains-append_cases, Contains-append_right}
use Rattle.std.proofs.lemmas.List.Sorted.{le_from_greatest, All-permutation, IsPermutation-refl}
use Rattle.std.proofs.lemmas.List.Sorted.{IsPermutation-map, IsPermutation-sym, IsPermutation-trans}
use Rattle.std.proofs.lemmas.List.Sorted.{IsPermutation-middle, IsPermutation-append_right}
use Rattle.std.proofs.lemmas.List.Sorted.{IsPermutation-push_more, length_permutation, Contains-permutation}
use Rattle.std.proofs.lemmas.Map.Keys.{IsDistinct-from_apart, IsDistinct-IsPermutation, apart_from_distinct}
use Rattle.pl_task.specs.Instance.{Instance}
use Rattle.pl_task.specs.declared.task.Task.{Task}
use Rattle.pl_task.specs.Goal.{unmet}
use Rattle.pl_state.specs.StateOf.{state_in}
use Rattle.pl_registry.specs.SearchRecord.{Entry, entry_at, Precedes}
use Rattle.pl_registry.specs.Registered.{Register, Registered, registered_at, with_entry, entry_of}
use Rattle.pl_registry.specs.Registered.{entries_of}
use Rattle.pl_registry.specs.Held.{turns, state_at}
use Rattle.pl_registry.proofs.Lists.{Contains-cons_first, Contains-map, Contains-map_cases}
use Rattle.pl_registry.proofs.ByNumber.{turns_long, turns_read}
use Rattle.pl_greedy.specs.Queue.{key_of, number_of, IsKey, IsQueued}
use Rattle.pl_greedy.specs.UnderWay.{IsMoreKeys}

same_flips : (x y : ℕ) → eqb x y ≡ eqb y x
same_flips x y = decide (eqb x y) (eqb y x)
    (λ e. eq-eqb y x (sym (eqb-true x y e))) (λ e. ne_eqb y x (λ same. eqb-false x y e (sym same)))
  where
    decide : (a b : Bool) → (a ≡ true → b ≡ true) → (a ≡ false → b ≡ false) → a ≡ b
    decide true b yes_b no_b = sym (yes_b refl)
    decide false b yes_b no_b = sym (no_b refl)

turns_distinct : (n : ℕ) → IsDistinct eqb (turns n)
turns_distinct n = IsDistinct-from_apart eqb (turns n) (λ i j d less l.
    ne_eqb (get_or (turns n) i d) (get_or (turns n) j d) (λ e.
    let many = turns_long n in
    let a = get_or_default (turns n) i d 0 (omega (arith, less, l))
    ∙ turns_read n i (omega (arith, many, less, l)) in
    let b = get_or_default (turns n) j d 0 l ∙ turns_read n j (omega (arith, many, l)) in
    omega (arith, a, b, e, less)))

turns_has : (n i : ℕ) → i < n → Contains (turns n) i
turns_has n i l =
    let many = turns_long n in
    (i, omega (arith, many, l), get_or_default (turns n) i i 0 (omega (arith, many, l)) ∙ turns_read n i l)

pub turns_under : (n i : ℕ) → Contains (turns n) i → i < n
turns_under n i (k, l, e) =
    let many = turns_long n in
    let read = get_or_default (turns n) k 0 i l ∙ e in
    let is = turns_read n k (omega (arith, many, l)) in omega (arith, many, l, read, is)

-- the first one of those that are left is not among those that are done
pub not_done : (n x : ℕ) (done left : List ℕ) → IsPermutation (turns n) (done ++ x ∷ left) → Contains done x
    → ⊥
not_done n x done left p (k, l, e) =
    let apart = IsDistinct-IsPermutation eqb same_flips (turns n) (done ++ x ∷ left) p (turns_distinct n) in
    let many = length-append done (x ∷ left) in
    let differ = apart_from_distinct eqb (done ++ x ∷ left) k (length done) x apart l (omega (arith, many)) in
    let one : get_or (done ++ x ∷ left) k x ≡ x = get_or_append_left done (x ∷ left) x k l ∙ e in
    let two : get_or (done ++ x ∷ left) (length done) x ≡ x = get_or_at done x left x (length done) refl in
    eqb-false (get_or (done ++ x ∷ left) k x) (get_or (done ++ x ∷ left) (length done) x) differ
    (one ∙ sym two)

pub is_there : (n x : ℕ) (done left : List ℕ) → IsPermutation (turns n) (done ++ x ∷ left) → x < n
is_there n x done left p =
    turns_under n x (Contains-permutation (done ++ x ∷ left) (turns n) x
    (IsPermutation-sym (turns n) (done ++ x ∷ left) p)
    (Contains-append_right done (x ∷ left) x (Contains-cons_first x left)))

-- what is not done is left
pub is_left : (n i : ℕ) (done left : List ℕ) → IsPermutation (turns n) (done ++ left) → i < n
    → (Contains done i → ⊥) → Contains left i
is_left n i done left p l free =
    elim (Contains-append_cases done left i
    (Contains-permutation (turns n) (done ++ left) i p (turns_has n i l))) [
      | inl before ↦ absurd (free before)
      | inr behind ↦ behind
    ]

-- where none is left, all are done
pub all_done : (n i : ℕ) (done : List ℕ) → IsPermutation (turns n) (done ++ []) → i < n → Contains done i
all_done n i done p l = Contains-permutation (turns n) done i
    (subst (IsPermutation (turns n)) (append-nil done) p) (turns_has n i l)

pub many_done : (n : ℕ) (done left : List ℕ) → IsPermutation (turns n) (done ++ left)
    → length done + length left ≡ n
many_done n done left p =
    let same = length_permutation (turns n) (done ++ left) p in
    let both = length-append done left in
    let many = turns_long n in omega (arith, same, both, many)

-- the top is taken
pub taken : (n x : ℕ) (done keys rest : List ℕ) → IsPermutation (turns n) (done ++ map number_of keys)
    → IsPermutation keys (x ∷ rest) →
    IsPermutation (turns n) (done ++ number_of x ∷ map number_of rest)
taken n x done keys rest p popped =
    IsPermutation-trans (turns n) (done ++ map number_of keys) (done ++ number_of x ∷ map number_of rest) p
    (IsPermutation-append_right done (map number_of keys) (number_of x ∷ map number_of rest)
    (IsPermutation-map number_of keys (x ∷ rest) popped))

-- one more entry, whose key is one more
pub one_more : (n x : ℕ) (done keys more : List ℕ) → IsPermutation (turns n) (done ++ map number_of keys)
    → IsPermutation (x ∷ keys) more → number_of x ≡ n →
    IsPermutation (turns (suc n)) (done ++ map number_of more)
one_more n x done keys more p pushed is =
    IsPermutation-push_more (turns n) (done ++ map number_of keys) (done ++ map number_of more) n p
    (IsPermutation-trans (n ∷ (done ++ map number_of keys)) (done ++ n ∷ map number_of keys)
    (done ++ map number_of more)
    (IsPermutation-sym (done ++ n ∷ map number_of keys) (n ∷ (done ++ map number_of keys))
    (IsPermutation-middle done n (map number_of keys)))
    (IsPermutation-append_right done (n ∷ map number_of keys) (map number_of more)
    (subst (λ (k : ℕ). IsPermutation (k ∷ map number_of keys) (map number_of more)) is
    (IsPermutation-map number_of (x ∷ keys) more pushed))))

key_fits : (rank n : ℕ) → rank < 2 ^ 32 → n < 2 ^ 32 → rank * 2 ^ 32 + n ≤ 2 ^ 64 - 1
key_fits rank n r l = omega (arith, r, l)

-- a key stands for its number
pub number_is : (rank n : ℕ) → rank < 2 ^ 32 → n < 2 ^ 32 → number_of (key_of rank n) ≡ n
number_is rank n r l = ap (λ (k : ℕ). k % 2 ^ 32)
    (back (rank * 2 ^ 32 + n) (2 ^ 64 - 1) (key_fits rank n r l)) ∙ mod-mul-add rank (2 ^ 32) n l
  where
    back : (k c : ℕ) → k ≤ c → c - (c - k) ≡ k
    back k c l = omega arith

pub key_is : (rank n : ℕ) → rank < 2 ^ 32 → n < 2 ^ 32 → key_of rank n + (rank * 2 ^ 32 + n) ≡ 2 ^ 64 - 1
key_is rank n r l = whole (rank * 2 ^ 32 + n) (2 ^ 64 - 1) (key_fits rank n r l)
  where
    whole : (k c : ℕ) → k ≤ c → (c - k) + k ≡ c
    whole k c l = omega arith

pub small_number : (key : ℕ) → number_of key < 2 ^ 32
small_number key = mod_below ((2 ^ 64 - 1) - key) (2 ^ 32) (omega arith)

-- a key that is no greater stands for a higher rank, or for an equal one and a number that is no lower
before : (x y a n b m c w : ℕ) → y ≤ x → x + (a * w + n) ≡ c → y + (b * w + m) ≡ c → n < w → m < w → (a < b)
    ⊎ ((a ≡ b) × (n ≤ m))
before x y a n b m c w l e f s t = elim (three a b) [
  | inl less ↦ inl less
  | inr (inl same) ↦ (let p = ap (λ k. k * w) same in inr (same, omega (arith, l, e, f, p)))
  | inr (inr more) ↦ (let p = row_fits b w a w more (omega arith) in absurd (omega (arith, l, e, f, s, t, p)))
]
  where
    three : (a b : ℕ) → (a < b) ⊎ ((a ≡ b) ⊎ (b < a))
    three a b = grind arith

state_read : (task : Task) (now : Register) (n : ℕ) → n < length now.entries
    → (entry_at (entries_of task now) n).state ≡ state_at task now n
state_read task now n l = ap (λ (e : Entry). e.state) (get_or-map (entry_of task) now.entries n _ _ l)

precedes_by : (task : Task) (now : Register) (x y : ℕ) → number_of x < length now.entries
    → number_of y < length now.entries →
    y ≤ x → IsKey task now x → IsKey task now y → Precedes (unmet task) (entries_of task now) (number_of x)
    (number_of y)
precedes_by task now x y lx ly l kx ky =
    let a = state_read task now (number_of x) lx in
    let b = state_read task now (number_of y) ly in
    subst (λ s. (unmet task s < unmet task (entry_at (entries_of task now) (number_of y)).state)
    ⊎ ((unmet task s ≡ unmet task (entry_at (entries_of task now) (number_of y)).state)
    × (number_of x ≤ number_of y))) (sym a)
    (subst (λ s. (unmet task (state_at task now (number_of x)) < unmet task s)
    ⊎ ((unmet task (state_at task now (number_of x)) ≡ unmet task s) × (number_of x ≤ number_of y))) (sym b)
    (before x y (unmet task (state_at task now (number_of x))) (number_of x)
    (unmet task (state_at task now (number_of y))) (number_of y) (2 ^ 64 - 1) (2 ^ 32)
    l kx ky (small_number x) (small_number y)))

module _ (task : Task) (now : Register) (past : List ℕ) (x : ℕ) (keys rest : List ℕ)
    (q : IsQueued task now past keys) (popped : IsPermutation keys (x ∷ rest))
    (greatest : PopsGreatest nat_cmp keys x rest) where
  top_left : IsPermutation (turns (length now.entries)) (past ++ number_of x ∷ map number_of rest)
  top_left = taken (length now.entries) x past keys rest q.all popped

  those : All (IsKey task now) (x ∷ rest)
  those = All-permutation (IsKey task now) keys (x ∷ rest) popped q.keys_are

  pub top_there : number_of x < length now.entries
  top_there = is_there (length now.entries) (number_of x) past (map number_of rest) top_left

  pub top_unexpanded : Contains past (number_of x) → ⊥
  top_unexpanded = not_done (length now.entries) (number_of x) past (map number_of rest) top_left

  pub top_precedes : (i : ℕ) → i < length now.entries → (Contains past i → ⊥)
      → Precedes (unmet task) (entries_of task now) (number_of x) i
  top_precedes i l free =
      let (y, m, e) = Contains-map_cases number_of (x ∷ rest) i
      (is_left (length now.entries) i past (map number_of (x ∷ rest)) top_left l free) in
      let (k, w, read) = m in
      let upper : All (λ y. y ≤ x) keys = le_from_greatest x keys (greatest q.heap).1 in
      let upto : All (λ y. y ≤ x) (x ∷ rest) = All-permutation (λ y. y ≤ x) keys (x ∷ rest) popped upper in
      let ky : IsKey task now y = subst (IsKey task now) read (those k y w) in
      let ly : y ≤ x = (let u = upto k y w in omega (arith, u, read)) in
      subst (Precedes (unmet task) (entries_of task now) (number_of x)) e
      (precedes_by task now x y top_there (subst (λ (j : ℕ). j < length now.entries) (sym e) l) ly
      (All-head (IsKey task now) x rest those) ky)

  pub top_taken : IsQueued task now (past ++ number_of x ∷ []) rest
  top_taken = record {
    heap = (greatest q.heap).0;
    keys_are = All-tail (IsKey task now) x rest those;
    all = subst (IsPermutation (turns (length now.entries)))
        (sym (append_assoc past (number_of x ∷ []) (map number_of rest))) top_left;
  }

-- one more entry waits
module _ (task : Task) (now : Register) (past keys more words : List ℕ) (parent : ℕ) (step : Instance)
    (q : IsQueued task now past keys)
    (m : IsMoreKeys task (with_entry now words parent step) (length now.entries) keys more) where
  its_number : number_of
      (key_of (unmet task (state_at task (with_entry now words parent step) (length now.entries)))
      (length now.entries)) ≡ length now.entries
  its_number = number_is _ (length now.entries) m.small m.few

  its_key : IsKey task (with_entry now words parent step)
      (key_of (unmet task (state_at task (with_entry now words parent step) (length now.entries)))
      (length now.entries))
  its_key =
      let e = its_number in
      let s = key_is (unmet task (state_at task (with_entry now words parent step) (length now.entries)))
      (length now.entries) m.small m.few in
      subst (λ (n : ℕ). key_of
      (unmet task (state_at task (with_entry now words parent step) (length now.entries)))
      (length now.entries)
      + (unmet task (state_at task (with_entry now words parent step) n) * 2 ^ 32 + n) ≡ 2 ^ 64 - 1) (sym e) s

  still_keys : All (IsKey task (with_entry now words parent step)) keys
  still_keys k d l =
      let key = get_or keys k d in
      let among : Contains (map number_of keys) (number_of key) =
      Contains-map number_of keys key (Contains-get_or keys k d l) in
      let under = turns_under (length now.entries) (number_of key)
      (Contains-permutation (past ++ map number_of keys) (turns (length now.entries)) (number_of key)
      (IsPermutation-sym (turns (length now.entries)) (past ++ map number_of keys) q.all)
      (Contains-append_right past (map number_of keys) (number_of key) among)) in
      let same : registered_at (now.entries ++ record { words = words; parent = parent; step = step } ∷ [])
      (number_of key) ≡ registered_at now.entries (number_of key) =
      get_or_append_left now.entries (record { words = words; parent = parent; step = step } ∷ []) _
      (number_of key) under in
      subst (λ (e : Registered). key + (unmet task (state_in task e.words) * 2 ^ 32 + number_of key) ≡ 2 ^
      64 - 1) (sym same) (q.keys_are k d l)

  pub queued_more : IsQueued task (with_entry now words parent step) past more
  queued_more = record {
    heap = m.keeps q.heap;
    keys_are = All-permutation (IsKey task (with_entry now words parent step)) _ more m.more
        (All-cons (IsKey task (with_entry now words parent step)) _ keys its_key still_keys);
    all = subst (λ n. IsPermutation (turns n) (past ++ map number_of more))
        (sym (length-append now.entries (record { words = words; parent = parent; step = step } ∷ [])
        ∙ add-one (length now.entries)))
        (one_more (length now.entries) _ past keys more q.all m.more its_number);
  }

-- the initial state alone waits
pub queued_first : (task : Task) (now : Register) (more : List ℕ) → length now.entries ≡ 1
    → IsMoreKeys task now 0 [] more → IsHeap nat_cmp [] → IsQueued task now [] more
queued_first task now more one m start =
    let number : number_of (key_of (unmet task (state_at task now 0)) 0) ≡ 0 =
    number_is (unmet task (state_at task now 0)) 0 m.small (omega arith) in
    let key : IsKey task now (key_of (unmet task (state_at task now 0)) 0) =
    subst (λ (n : ℕ). key_of (unmet task (state_at task now 0))
    0 + (unmet task (state_at task now n) * 2 ^ 32 + n) ≡ 2 ^ 64 - 1) (sym number)
    (key_is (unmet task (state_at task now 0)) 0 m.small (omega arith)) in
    record {
      heap = m.keeps start;
      keys_are = All-permutation (IsKey task now) _ more m.more
          (All-cons (IsKey task now) _ [] key (λ k d l. absurd (omega arith)));
      all = subst (λ n. IsPermutation (turns n) (map number_of more)) (sym one)
          (one_more 0 (key_of (unmet task (state_at task now 0)) 0) [] [] more
          (IsPermutation-refl []) m.more number);
    }
