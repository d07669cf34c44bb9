-- Lists of numbers as sets: members, members but one, and rising lists.
use Rattle.std.proofs.Common.{◌≡◌, ◌≢◌, ℕ, zero, suc, ◌<◌, ◌⊎◌, not, eqb, List, [], ◌∷◌, length, get_or, refl}
use Rattle.std.proofs.Common.{sym, ap, ◌∙◌, subst, inl, inr, arith, eq-eqb, ne_eqb}
use Rattle.std.specs.List.{Contains, AllPairs, range_with_len, remove}
use Rattle.std.proofs.lemmas.List.FromFn.{length-range_with_len, get_or-range_with_len}
use Rattle.std.proofs.lemmas.List.Kept.{AllPairs-filter}
use Rattle.std.proofs.lemmas.List.Elements.{Contains-get_or}
use Rattle.pl_hyper.specs.Ears.{without}

pub same_or_not : (a b : ℕ) → (a ≡ b) ⊎ (a ≢ b)
same_or_not a b = grind arith

pub here : (x : ℕ) (xs : List ℕ) → Contains (x ∷ xs) x
here x xs = (0, omega arith, refl)

pub there : (x y : ℕ) (xs : List ℕ) → Contains xs y → Contains (x ∷ xs) y
there x y xs (k, h, e) = (suc k, omega arith, e)

pub cons_cases : (x : ℕ) (xs : List ℕ) (y : ℕ) → Contains (x ∷ xs) y → (y ≡ x) ⊎ Contains xs y
cons_cases x xs y (zero, h, e) = inl (sym e)
cons_cases x xs y (suc k, h, e) = inr (k, omega arith, e)

pub not_in_nil : (y : ℕ) → Contains [] y → ⊥
not_in_nil y (k, h, e) = omega arith

-- ---- the numbers below a bound

pub range_contains : (n e : ℕ) → e < n → Contains (range_with_len 0 n) e
range_contains n e h =
    let long = length-range_with_len 0 n in
    (e, omega arith, get_or-range_with_len 0 n e e h ∙ omega arith)

pub within_range : (n e : ℕ) → Contains (range_with_len 0 n) e → e < n
within_range n e (k, h, s) =
    let long = length-range_with_len 0 n in
    let low : k < n = omega arith in
    let at = get_or-range_with_len 0 n k e low in
    omega arith

pub range_rises : (n : ℕ) → AllPairs (λ e f. e < f) (range_with_len 0 n)
range_rises n i j d h k =
    let long = length-range_with_len 0 n in
    let high : j < n = omega arith in
    let low : i < n = omega arith in
    rw (get_or-range_with_len 0 n i d low, get_or-range_with_len 0 n j d high) (omega arith)

-- ---- the members but one

without_here : (e x : ℕ) (xs : List ℕ) → x ≡ e → without e (x ∷ xs) ≡ without e xs
without_here e x xs s = rw (eq-eqb x e s)

without_other : (e x : ℕ) (xs : List ℕ) → x ≢ e → without e (x ∷ xs) ≡ x ∷ without e xs
without_other e x xs n = rw (ne_eqb x e n)

without_contains_cons : (e x : ℕ) (xs : List ℕ) (g : ℕ) → g ≢ e → (x ≡ e) ⊎ (x ≢ e) →
    (g ≡ x) ⊎ Contains xs g → (Contains xs g → Contains (without e xs) g) → Contains (without e (x ∷ xs)) g
without_contains_cons e x xs g n (inl s) (inl q) next = absurd (n (q ∙ s))
without_contains_cons e x xs g n (inl s) (inr k) next = rw (without_here e x xs s) (next k)
without_contains_cons e x xs g n (inr d) (inl q) next = rw (without_other e x xs d, q) (here x (without e xs))
without_contains_cons e x xs g n (inr d) (inr k) next = rw (without_other e x xs d)
    (there x g (without e xs) (next k))

within_without_cons : (e x : ℕ) (xs : List ℕ) (g : ℕ) → (x ≡ e) ⊎ (x ≢ e) → Contains (without e (x ∷ xs)) g →
    (Contains (without e xs) g → Contains xs g × (g ≢ e)) → Contains (x ∷ xs) g × (g ≢ e)
within_without_cons e x xs g (inl s) h next =
    let k = next (rw (without_here e x xs s) at h) in
    (there x g xs k.0, k.1)
within_without_cons e x xs g (inr d) h next =
    elim (cons_cases x (without e xs) g (rw (without_other e x xs d) at h)) [
      | inl q ↦ (subst (Contains (x ∷ xs)) (sym q) (here x xs), λ s. d (sym q ∙ s))
      | inr k ↦ (let known = next k in (there x g xs known.0, known.1))
    ]

pub without_contains : (e : ℕ) (xs : List ℕ) (g : ℕ) → Contains xs g → g ≢ e → Contains (without e xs) g
without_contains e [] g h n = absurd (not_in_nil g h)
without_contains e (x ∷ xs) g h n = without_contains_cons e x xs g n (same_or_not x e) (cons_cases x xs g h)
    (λ k. without_contains e xs g k n)

pub within_without : (e : ℕ) (xs : List ℕ) (g : ℕ) → Contains (without e xs) g → Contains xs g × (g ≢ e)
within_without e [] g h = absurd (not_in_nil g h)
within_without e (x ∷ xs) g h = within_without_cons e x xs g (same_or_not x e) h (within_without e xs g)

pub without_rises : (e : ℕ) (xs : List ℕ) → AllPairs (λ a b. a < b) xs →
    AllPairs (λ a b. a < b) (without e xs)
without_rises e xs r = AllPairs-filter (λ a b. a < b) (λ g. not (eqb g e)) xs r

-- ---- rising lists

pub rises_tail : (x : ℕ) (xs : List ℕ) → AllPairs (λ a b. a < b) (x ∷ xs) → AllPairs (λ a b. a < b) xs
rises_tail x xs r i j d h k = r (suc i) (suc j) d (omega arith) (omega arith)

pub rises_head : (x : ℕ) (xs : List ℕ) → AllPairs (λ a b. a < b) (x ∷ xs) → (g : ℕ) → Contains xs g → x < g
rises_head x xs r g (k, h, s) = let low = r 0 (suc k) g (omega arith) (omega arith) in omega arith

-- a number that is not a member is not taken away
pub without_absent : (e : ℕ) (xs : List ℕ) → (Contains xs e → ⊥) → without e xs ≡ xs
without_absent e [] n = refl
without_absent e (x ∷ xs) n =
    without_other e x xs (λ s. n (subst (Contains (x ∷ xs)) s (here x xs))) ∙
    ap (λ ys. x ∷ ys) (without_absent e xs (λ h. n (there x e xs h)))

-- a rising list without the member at a place
pub remove_is_without : (xs : List ℕ) (i d : ℕ) → AllPairs (λ a b. a < b) xs → i < length xs →
    remove xs i ≡ without (get_or xs i d) xs
remove_is_without [] i d r h = absurd (omega arith)
remove_is_without (x ∷ xs) zero d r h =
    sym (without_here x x xs refl ∙ without_absent x xs (λ k. let low = rises_head x xs r x k in omega arith))
remove_is_without (x ∷ xs) (suc i) d r h =
    let low = rises_head x xs r (get_or xs i d) (Contains-get_or xs i d (omega arith)) in
    ap (λ ys. x ∷ ys) (remove_is_without xs i d (rises_tail x xs r) (omega arith)) ∙
    sym (without_other (get_or xs i d) x xs (omega arith))
