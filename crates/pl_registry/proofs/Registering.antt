-- What a registry holds, by its states and links.
use Rattle.std.proofs.Common.{◌≡◌, ◌≢◌, ◌⊎◌, ◌+◌, ◌-◌, ◌^◌, ◌<◌, ◌≤◌, ℕ, zero, suc, true, false, List, []}
use Rattle.std.proofs.Common.{◌∷◌, ◌++◌, length, get_or, slice_get, Some, Contains, AllPairs, refl, sym, ap}
use Rattle.std.proofs.Common.{◌∙◌, subst, inl, inr, arith, append_assoc, length-append, not, take, reverse}
use Rattle.std.proofs.Common.{if◌then◌else◌}
use Rattle.std.specs.List.{list_any}
use Rattle.std.specs.Str.{bytes_eq}
use Rattle.std.proofs.lemmas.Bool.{cases_Bool, false≢true}
use Rattle.std.proofs.lemmas.List.{get_or_default, get_or_append_left, get_or_at, take-append-le}
use Rattle.std.proofs.lemmas.List.{reverse-append}
use Rattle.std.proofs.lemmas.List.Folds.{Any-from_list_any, list_any-from_Any}
use Rattle.std.proofs.lemmas.List.Quantifiers.{all_pairs_push}
use Rattle.std.proofs.lemmas.Option.{get_or_from_slice_get}
use Rattle.std.proofs.lemmas.Slice.Eq.{bytes_eq-Decides}
use Rattle.pl_task.specs.Instance.{Instance}
use Rattle.pl_registry.specs.Links.{Link, link_at}
use Rattle.pl_registry.specs.Registered.{Register, IsRegister, IsKept, IsHeld, IsHeldAs, paired, words_of}
use Rattle.pl_registry.specs.Registered.{registered_at, with_entry, registered_path_within}

pub paired_many : (states : List (List ℕ)) (links : List Link) → length links ≡ length states
    → length (paired states links) ≡ length states
paired_many [] links e = refl
paired_many (w ∷ states) [] e = absurd (omega (arith, e))
paired_many (w ∷ states) (l ∷ links) e = ap suc (paired_many states links (omega (arith, e)))

pub paired_words : (states : List (List ℕ)) (links : List Link) → length links ≡ length states
    → words_of (paired states links) ≡ states
paired_words [] links e = refl
paired_words (w ∷ states) [] e = absurd (omega (arith, e))
paired_words (w ∷ states) (l ∷ links) e = ap (λ ws. w ∷ ws) (paired_words states links (omega (arith, e)))

pub words_at : (states : List (List ℕ)) (links : List Link) (n : ℕ) → length links ≡ length states
    → (registered_at (paired states links) n).words ≡ get_or states n []
words_at [] links n e = refl
words_at (w ∷ states) [] n e = absurd (omega (arith, e))
words_at (w ∷ states) (l ∷ links) zero e = refl
words_at (w ∷ states) (l ∷ links) (suc n) e = words_at states links n (omega (arith, e))

pub parent_at : (states : List (List ℕ)) (links : List Link) (n : ℕ) → length links ≡ length states
    → (registered_at (paired states links) n).parent ≡ (link_at links n).parent
parent_at [] [] n e = refl
parent_at [] (l ∷ links) n e = absurd (omega (arith, e))
parent_at (w ∷ states) [] n e = absurd (omega (arith, e))
parent_at (w ∷ states) (l ∷ links) zero e = refl
parent_at (w ∷ states) (l ∷ links) (suc n) e = parent_at states links n (omega (arith, e))

pub step_at : (states : List (List ℕ)) (links : List Link) (n : ℕ) → length links ≡ length states
    → (registered_at (paired states links) n).step ≡ (link_at links n).step
step_at [] [] n e = refl
step_at [] (l ∷ links) n e = absurd (omega (arith, e))
step_at (w ∷ states) [] n e = absurd (omega (arith, e))
step_at (w ∷ states) (l ∷ links) zero e = refl
step_at (w ∷ states) (l ∷ links) (suc n) e = step_at states links n (omega (arith, e))

pub paired_push : (states : List (List ℕ)) (links : List Link) (w : List ℕ) (l : Link)
    → length links ≡ length states →
    paired (states ++ w ∷ []) (links ++ l ∷ []) ≡ paired states links
    ++ record { words = w; parent = l.parent; step = l.step } ∷ []
paired_push [] [] w l e = refl
paired_push [] (k ∷ links) w l e = absurd (omega (arith, e))
paired_push (v ∷ states) [] w l e = absurd (omega (arith, e))
paired_push (v ∷ states) (k ∷ links) w l e =
    ap (λ es. record { words = v; parent = k.parent; step = k.step } ∷ es)
    (paired_push states links w l (omega (arith, e)))

-- a state that the test finds is a member, and the other way round
pub found_member : (states : List (List ℕ)) (v : List ℕ) → list_any (bytes_eq v) states ≡ true
    → Contains states v
found_member states v h =
    let (k, x, l, is, same) = Any-from_list_any (bytes_eq v) states h in
    let e : v ≡ x = (bytes_eq-Decides v x).0 same in
    (k, l, get_or_default states k v x l ∙ is ∙ sym e)

pub member_found : (states : List (List ℕ)) (v : List ℕ) → Contains states v
    → list_any (bytes_eq v) states ≡ true
member_found states v (k, l, is) = list_any-from_Any (bytes_eq v) states
    (k, v, l, is, (bytes_eq-Decides v v).1 refl)

module _ (now : Register) (limit : ℕ) (states : List (List ℕ)) (links : List Link)
    (kept : IsKept limit states links)
    (view_is : record { limit = limit; entries = paired states links } ≡ now) where
  pub limit_is : now.limit ≡ limit
  limit_is = sym (ap (λ (r : Register). r.limit) view_is)

  pub entries_are : now.entries ≡ paired states links
  entries_are = sym (ap (λ (r : Register). r.entries) view_is)

  pub many : length now.entries ≡ length states
  many = ap length entries_are ∙ paired_many states links kept.alike

  pub held_words : words_of now.entries ≡ states
  held_words = ap words_of entries_are ∙ paired_words states links kept.alike

  pub read_words : (n : ℕ) → (registered_at now.entries n).words ≡ get_or states n []
  read_words n = ap (λ es. (registered_at es n).words) entries_are ∙ words_at states links n kept.alike

  -- a number below the length fits 32 bits
  pub small : (n : ℕ) → n ≤ length states → n < 2 ^ 32 - 1
  small n l =
      let few = kept.register.few in
      let fits = kept.register.fits in
      omega (arith, few, fits, paired_many states links kept.alike)

  pub register_now : IsRegister now
  register_now = subst IsRegister view_is kept.register

  pub held_as : (n : ℕ) (v k : List ℕ) (seen : List (List ℕ)) → seen ≡ states → slice_get seen n ≡ Some k
      → bytes_eq v k ≡ true → n < length seen → IsHeldAs now v n
  held_as n v k seen same at equal within =
      let e : v ≡ k = (bytes_eq-Decides v k).0 equal in (
        omega (arith, many, ap length same),
        read_words n ∙ ap (λ ws. get_or ws n []) (sym same)
            ∙ get_or_from_slice_get seen n k [] at ∙ sym e,
      )

  pub not_held : (v : List ℕ) → list_any (bytes_eq v) states ≡ false → IsHeld now v → ⊥
  not_held v gone held = false≢true
      (sym gone ∙ member_found states v (subst (λ ws. Contains ws v) held_words held))

  -- other words for the same states show the same
  pub same_view : (others : List (List ℕ)) (more : List Link) → others ≡ states → more ≡ links
      → record { limit = limit; entries = paired others more } ≡ now
  same_view others more a b = (λ i. record { limit = limit; entries = paired (a i) (b i) }) ∙ view_is

  -- a new state
  pub with_new : (v : List ℕ) (parent : ℕ) (step : Instance) (others : List (List ℕ)) (more : List Link)
      → list_any (bytes_eq v) states ≡ false →
      others ≡ states ++ v ∷ [] → more ≡ links ++ record { parent = parent; step = step } ∷ [] →
      record { limit = limit; entries = paired others more } ≡ with_entry now v parent step
  with_new v parent step others more gone a b =
      (λ i. record { limit = limit; entries = paired (a i) (b i) })
      ∙ ap (λ es. record { limit = limit; entries = es })
      (paired_push states links v (record { parent = parent; step = step }) kept.alike)
      ∙ (λ i. record {
        limit = sym limit_is i;
        entries = sym entries_are i
            ++ record { words = v; parent = parent; step = step } ∷ [];
      })

  -- which the registry keeps
  pub kept_new : (v : List ℕ) (parent : ℕ) (step : Instance) (others : List (List ℕ)) (more : List Link)
      → list_any (bytes_eq v) states ≡ false →
      others ≡ states ++ v ∷ [] → more ≡ links ++ record { parent = parent; step = step } ∷ []
      → length states ≢ limit → parent < length now.entries → IsKept limit others more
  kept_new v parent step others more gone a b room lower =
      let old_many = paired_many states links kept.alike in
      let alike : length more ≡ length others =
      ap length b ∙ length-append links (record { parent = parent; step = step } ∷ [])
      ∙ ap (λ n. n + 1) kept.alike ∙ sym (length-append states (v ∷ [])) ∙ sym (ap length a) in
      let others_many : length others ≡ length states + 1 = ap length a ∙ length-append states (v ∷ []) in
      let all_many = paired_many others more alike in
      let few = kept.register.few in
      record {
        alike = alike;
        register = record {
          some = omega (arith, all_many, others_many);
          few = omega (arith, all_many, others_many, few, old_many, room);
          fits = kept.register.fits;
          differ = subst (AllPairs (λ (p q : List ℕ). p ≢ q)) (sym a ∙ sym (paired_words others more alike))
              (all_pairs_push (λ (p q : List ℕ). p ≢ q) states v
              (subst (AllPairs (λ (p q : List ℕ). p ≢ q)) (paired_words states links kept.alike)
              kept.register.differ)
              (λ k d l e. false≢true
              (sym gone ∙ member_found states v (k, l, get_or_default states k v d l ∙ e))));
          lower = λ n l. below n l (before_or_last n (omega (arith, all_many, others_many, l)));
        };
      }
    where
      before_or_last : (n : ℕ) → n < length states → (suc n < length states) ⊎ (suc n ≡ length states)
      before_or_last n l = grind arith

      more_at : (n : ℕ) → suc n < length states
          → (link_at more (suc n)).parent ≡ (link_at links (suc n)).parent
      more_at n l =
          let same = kept.alike in
          ap (λ ls. (link_at ls (suc n)).parent) b ∙ ap (λ (k : Link). k.parent)
          (get_or_append_left links (record { parent = parent; step = step } ∷ []) _ (suc n)
          (omega (arith, same, l)))

      last_at : (n : ℕ) → suc n ≡ length states → (link_at more (suc n)).parent ≡ parent
      last_at n l = ap (λ ls. (link_at ls (suc n)).parent) b
          ∙ ap (λ (k : Link). k.parent)
          (get_or_at links (record { parent = parent; step = step }) [] _ (suc n) (kept.alike ∙ sym l))

      also_alike : length more ≡ length others
      also_alike =
          ap length b ∙ length-append links (record { parent = parent; step = step } ∷ [])
          ∙ ap (λ n. n + 1) kept.alike ∙ sym (length-append states (v ∷ [])) ∙ sym (ap length a)

      below : (n : ℕ) → suc n < length (paired others more) → (suc n < length states)
          ⊎ (suc n ≡ length states) → (registered_at (paired others more) (suc n)).parent ≤ n
      below n l (inl before) =
          let read = parent_at others more (suc n) also_alike ∙ more_at n before
          ∙ sym (parent_at states links (suc n) kept.alike) in
          let old = kept.register.lower n
          (let m = paired_many states links kept.alike in omega (arith, m, before)) in
          omega (arith, read, old)
      below n l (inr last) =
          let read = parent_at others more (suc n) also_alike ∙ last_at n last in
          omega (arith, read, lower, many, last)

  -- a path is the same with any more steps allowed
  pub path_settled : (a b i : ℕ) → i ≤ a → i ≤ b → i < length now.entries
      → registered_path_within now.entries a i ≡ registered_path_within now.entries b i
  path_settled zero zero i la lb l = refl
  path_settled zero (suc b) zero la lb l = refl
  path_settled zero (suc b) (suc i) la lb l = absurd (omega arith)
  path_settled (suc a) zero zero la lb l = refl
  path_settled (suc a) zero (suc i) la lb l = absurd (omega arith)
  path_settled (suc a) (suc b) zero la lb l = refl
  path_settled (suc a) (suc b) (suc i) la lb l =
      let low = register_now.lower i l in
      ap (λ p. p ++ (registered_at now.entries (suc i)).step ∷ [])
      (path_settled a b (registered_at now.entries (suc i)).parent (omega (arith, low)) (omega (arith, low))
      (omega (arith, low)))

  -- one step of the way up from an entry
  pub path_up : (at above : ℕ) (link : Link) (steps : List Instance) → 0 < at → at < length now.entries
      → link ≡ link_at links at → above ≡ link.parent →
      registered_path_within now.entries at at ++ steps ≡ registered_path_within now.entries above above
      ++ link.step ∷ steps
  path_up zero above link steps some l is up = absurd (omega arith)
  path_up (suc i) above link steps some l is up =
      let low = register_now.lower i l in
      let p : (registered_at now.entries (suc i)).parent ≡ above =
      ap (λ es. (registered_at es (suc i)).parent) entries_are ∙ parent_at states links (suc i) kept.alike
      ∙ sym (ap (λ (k : Link). k.parent) is) ∙ sym up in
      let s : (registered_at now.entries (suc i)).step ≡ link.step =
      ap (λ es. (registered_at es (suc i)).step) entries_are ∙ step_at states links (suc i) kept.alike
      ∙ sym (ap (λ (k : Link). k.step) is) in
      let settled = path_settled i (registered_at now.entries (suc i)).parent
      (registered_at now.entries (suc i)).parent low (omega arith) (omega (arith, low)) in
      (λ j. (settled j ++ s j ∷ []) ++ steps)
      ∙ ap (λ q. (registered_path_within now.entries q q ++ link.step ∷ []) ++ steps) p
      ∙ append_assoc (registered_path_within now.entries above above) (link.step ∷ []) steps

  pub lower_above : (at above : ℕ) → 0 < at → at < length now.entries → above ≡ (link_at links at).parent
      → above < at
  lower_above zero above some l up = absurd (omega arith)
  lower_above (suc i) above some l up =
      let low = register_now.lower i l in
      let p : (registered_at now.entries (suc i)).parent ≡ (link_at links (suc i)).parent =
      ap (λ es. (registered_at es (suc i)).parent) entries_are ∙ parent_at states links (suc i) kept.alike in
      omega (arith, low, p, up)

-- what an insertion says of the states, by whether it added one
pub was_held : (states : List (List ℕ)) (v : List ℕ) (others : List (List ℕ))
    → false ≡ not (list_any (bytes_eq v) states) →
    others ≡ (if list_any (bytes_eq v) states then states else states ++ v ∷ []) → others ≡ states
was_held states v others added keys = elim (cases_Bool (list_any (bytes_eq v) states)) [
  | inl there ↦ rw there at keys
  | inr gone ↦ absurd (false≢true (rw gone at added))
]

pub was_not : (states : List (List ℕ)) (v : List ℕ) (others : List (List ℕ))
    → true ≡ not (list_any (bytes_eq v) states) →
    others ≡ (if list_any (bytes_eq v) states then states else states ++ v ∷ [])
    → (list_any (bytes_eq v) states ≡ false) × (others ≡ states ++ v ∷ [])
was_not states v others added keys = elim (cases_Bool (list_any (bytes_eq v) states)) [
  | inl there ↦ absurd (false≢true (sym (rw there at added)))
  | inr gone ↦ (gone, rw gone at keys)
]

-- a new state that is taken back
pub taken_back : (states : List (List ℕ)) (v : List ℕ) (others back : List (List ℕ)) (n : ℕ) → others ≡ states
    ++ v ∷ [] → n ≡ length states → back ≡ take n others → back ≡ states
taken_back states v others back n a l b =
    b ∙ (λ i. take (l i) (a i)) ∙ take-append-le (length states) states (v ∷ []) (omega arith) ∙ whole states
  where
    whole : (xs : List (List ℕ)) → take (length xs) xs ≡ xs
    whole [] = refl
    whole (x ∷ xs) = ap (λ t. x ∷ t) (whole xs)

pub reverse_push : (steps : List Instance) (step : Instance)
    → reverse (steps ++ step ∷ []) ≡ step ∷ reverse steps
reverse_push steps step = reverse-append steps (step ∷ [])
