-- The loops that number the atoms of a state.
use Rattle.std.proofs.Common.{◌≡◌, ◌+◌, ◌<◌, ◌≤◌, ℕ, true, List, [], ◌∷◌, ◌++◌, map, length, get_or, take}
use Rattle.std.proofs.Common.{position, slice_get, Some, refl, sym, ap, ◌∙◌, subst, All, arith, append_assoc}
use Rattle.std.proofs.Common.{length-append}
use Rattle.std.specs.List.{list_any}
use Rattle.std.specs.Str.{bytes_eq}
use Rattle.std.proofs.lemmas.List.{map-append, take_more, take_all, append-nil, get_or_append_left}
use Rattle.std.proofs.lemmas.List.{get_or_default}
use Rattle.std.proofs.lemmas.List.Elements.{All-nil, All-cons, All-append, All-weaker, All-head, All-tail}
use Rattle.std.proofs.lemmas.List.Quantifiers.{position-Some}
use Rattle.std.proofs.lemmas.Option.{get_or_from_slice_get, same_Some}
use Rattle.std.proofs.lemmas.Slice.Eq.{bytes_eq-Decides}
use Rattle.indexmap.specs.IndexSet.{insert_key}
use Rattle.pl_task.specs.declared.data.Lifted.{Lifted}
use Rattle.pl_task.specs.declared.data.Schema.{Schema}
use Rattle.pl_task.specs.declared.task.Task.{Task}
use Rattle.pl_task.specs.Instance.{Instance}
use Rattle.pl_task.specs.States.{IsStep}
use Rattle.pl_task.specs.WellFormed.{IsTermOf, IsLiftedOf}
use Rattle.pl_state.specs.Changing.{HasValue}
use Rattle.pl_state.proofs.Applyings.{step_read}
use Rattle.pl_novel.specs.Keys.{key_at, key_under, keys_added, keys_added_by, with_all, IsPlaced, AreNumbered}
use Rattle.pl_novel.specs.Keys.{Extends}
use Rattle.pl_novel.proofs.Lists.{member_found, all_append, all_extends, extends_by}

-- a key that is there
pub placed_there : (keys : List (List ℕ)) (key : List ℕ) (n : ℕ) → Some n ≡ position (bytes_eq key) keys
    → IsPlaced keys key keys n
placed_there keys key n found =
    let (l, same, _) = position-Some (bytes_eq key) keys n [] (sym found) in
    let is : key ≡ get_or keys n [] = (bytes_eq-Decides key (get_or keys n [])).0 same in
    let there : list_any (bytes_eq key) keys ≡ true = member_found keys key
    (n, l, get_or_default keys n key [] l ∙ sym is) in
    record {
      new_is = rw there refl;
      within = l;
      reads = sym is;
    }

-- a key that was put there
pub placed_new : (keys new : List (List ℕ)) (key made stored : List ℕ) (n : ℕ) → made ≡ key
    → new ≡ insert_key bytes_eq keys made → n < length new →
    slice_get new n ≡ Some stored → bytes_eq made stored ≡ true → IsPlaced keys key new n
placed_new keys new key made stored n copied is within at same = record {
  new_is = is ∙ ap (insert_key bytes_eq keys) copied;
  within = within;
  reads = get_or_from_slice_get new n stored [] at ∙ sym ((bytes_eq-Decides made stored).0 same) ∙ copied;
}

pub placed_extends : (keys new : List (List ℕ)) (key : List ℕ) (n : ℕ) → IsPlaced keys key new n
    → Extends keys new
placed_extends keys new key n p = extends_by keys (with_all keys (key ∷ [])) new (all_extends keys (key ∷ []))
    (sym p.new_is)

-- numbers of keys stay those of the keys where the list grows
reads_on : (old new : List (List ℕ)) (numbers : List ℕ) → Extends old new → All (λ n. n < length old) numbers
    → map (key_at new) numbers ≡ map (key_at old) numbers
reads_on old new [] e within = refl
reads_on old new (n ∷ numbers) e within =
    let here : key_at new n ≡ key_at old n = ap (λ ks. key_at ks n) e.is
    ∙ get_or_append_left old e.more [] n (All-head (λ m. m < length old) n numbers within) in
    let rest = reads_on old new numbers e (All-tail (λ m. m < length old) n numbers within) in
    (λ i. here i ∷ rest i)

pub longer : (old new : List (List ℕ)) → Extends old new → length old ≤ length new
longer old new e = let l = ap length e.is in let a = length-append old e.more in omega (arith, l, a)

within_on : (old new : List (List ℕ)) (numbers : List ℕ) → Extends old new → All (λ n. n < length old) numbers
    → All (λ n. n < length new) numbers
within_on old new numbers e within = let l = longer old new e in
    All-weaker (λ n. n < length old) (λ n. n < length new) (λ n h. omega (arith, h, l)) numbers within

pub numbered_none : (old : List (List ℕ)) (numbers : List ℕ) → AreNumbered old numbers [] old numbers
numbered_none old numbers = record {
  added = [];
  new_is = refl;
  more_is = sym (append-nil numbers);
  within = All-nil (λ n. n < length old);
  reads = refl;
}

pub numbered_extends : (old keys new : List (List ℕ)) (numbers more : List ℕ)
    → AreNumbered old numbers keys new more → Extends old new
numbered_extends old keys new numbers more n = extends_by old (with_all old keys) new (all_extends old keys)
    (sym n.new_is)

-- first some keys, then others
pub numbered_trans : (old keys now others new : List (List ℕ)) (numbers more most : List ℕ)
    → AreNumbered old numbers keys now more → AreNumbered now more others new most →
    AreNumbered old numbers (keys ++ others) new most
numbered_trans old keys now others new numbers more most a b =
    let e = numbered_extends now others new more most b in
    record {
      added = a.added ++ b.added;
      new_is = b.new_is ∙ ap (λ ks. with_all ks others) a.new_is ∙ sym (all_append old keys others);
      more_is = b.more_is ∙ ap (λ ns. ns ++ b.added) a.more_is ∙ append_assoc numbers a.added b.added;
      within = All-append (λ n. n < length new) a.added b.added (within_on now new a.added e a.within)
          b.within;
      reads = map-append (key_at new) a.added b.added
          ∙ (λ i. (reads_on now new a.added e a.within ∙ a.reads) i ++ b.reads i);
    }

-- one key
pub numbered_one : (old new : List (List ℕ)) (key : List ℕ) (n : ℕ) (numbers more : List ℕ)
    → IsPlaced old key new n → more ≡ numbers ++ n ∷ [] → AreNumbered old numbers (key ∷ []) new more
numbered_one old new key n numbers more p is = record {
  added = n ∷ [];
  new_is = p.new_is;
  more_is = is;
  within = All-cons (λ m. m < length new) n [] p.within (All-nil (λ m. m < length new));
  reads = ap (λ k. k ∷ []) p.reads;
}

-- one more row
pub numbered_row : (old now new : List (List ℕ)) (rows : List (List ℕ)) (predicate i n : ℕ) (row key : List ℕ)
    (numbers more most : List ℕ) → i < length rows → row ≡ get_or rows i [] →
    key ≡ predicate ∷ row → AreNumbered old numbers (map (λ r. predicate ∷ r) (take i rows)) now more
    → IsPlaced now key new n → most ≡ more ++ n ∷ [] →
    AreNumbered old numbers (map (λ r. predicate ∷ r) (take (i + 1) rows)) new most
numbered_row old now new rows predicate i n row key numbers more most l reads made before placed pushed =
    let cut : map (λ r. predicate ∷ r) (take i rows)
    ++ key ∷ [] ≡ map (λ r. predicate ∷ r) (take (i + 1) rows) =
    ap (λ k. map (λ r. predicate ∷ r) (take i rows) ++ k ∷ []) (made ∙ ap (λ r. predicate ∷ r) reads)
    ∙ sym (ap (map (λ r. predicate ∷ r)) (take_more rows i [] l)
    ∙ map-append (λ r. predicate ∷ r) (take i rows) (get_or rows i [] ∷ [])) in
    subst (λ ks. AreNumbered old numbers ks new most) cut
    (numbered_trans old (map (λ r. predicate ∷ r) (take i rows)) now (key ∷ []) new numbers more most before
    (numbered_one now new key n more most placed pushed))

pub numbered_rows : (old now rows : List (List ℕ)) (predicate i : ℕ) (numbers more : List ℕ) → length rows ≤ i
    → AreNumbered old numbers (map (λ r. predicate ∷ r) (take i rows)) now more →
    AreNumbered old numbers (map (λ r. predicate ∷ r) rows) now more
numbered_rows old now rows predicate i numbers more l n =
    subst (λ rs. AreNumbered old numbers (map (λ r. predicate ∷ r) rs) now more) (take_all i rows l) n

-- one more effect
pub numbered_effect : (old now new : List (List ℕ)) (args : List ℕ) (effects : List Lifted) (i n : ℕ)
    (effect : Lifted) (key numbers more most : List ℕ) → i < length effects →
    effect ≡ get_or effects i effect → key ≡ key_under args effect
    → AreNumbered old numbers (map (key_under args) (take i effects)) now more → IsPlaced now key new n
    → most ≡ more ++ n ∷ [] →
    AreNumbered old numbers (map (key_under args) (take (i + 1) effects)) new most
numbered_effect old now new args effects i n effect key numbers more most l reads made before placed pushed =
    let cut : map (key_under args) (take i effects) ++ key ∷ [] ≡ map (key_under args)
    (take (i + 1) effects) =
    ap (λ k. map (key_under args) (take i effects) ++ k ∷ []) (made ∙ ap (key_under args) reads)
    ∙ sym (ap (map (key_under args)) (take_more effects i effect l)
    ∙ map-append (key_under args) (take i effects) (get_or effects i effect ∷ [])) in
    subst (λ ks. AreNumbered old numbers ks new most) cut
    (numbered_trans old (map (key_under args) (take i effects)) now (key ∷ []) new numbers more most before
    (numbered_one now new key n more most placed pushed))

pub numbered_effects : (old now : List (List ℕ)) (args : List ℕ) (effects : List Lifted) (i : ℕ)
    (numbers more : List ℕ) → length effects ≤ i →
    AreNumbered old numbers (map (key_under args) (take i effects)) now more
    → AreNumbered old numbers (map (key_under args) effects) now more
numbered_effects old now args effects i numbers more l n =
    subst (λ (es : List Lifted). AreNumbered old numbers (map (key_under args) es) now more)
    (take_all i effects l) n

-- the effects of a step, as its schema is read
module _ (task : Task) (step : Instance) (schemas : List Schema) (schema : Schema) (adds : List Lifted)
    (is_step : IsStep task step) (are : schemas ≡ task.schemas)
    (reads : schema ≡ get_or schemas step.schema schema) (lent : adds ≡ schema.add) where
  pub effects_have_values : All (λ (e : Lifted). All (HasValue (length step.args)) e.terms) adds
  effects_have_values =
      let read = step_read task step schemas schema is_step are reads in
      let one : is_step.schema ≡ schema = same_Some is_step.schema schema (sym is_step.found ∙ read.found) in
      let many : length step.args ≡ length schema.parameters = is_step.many
      ∙ ap (λ (x : Schema). length x.parameters) one in
      subst (All (λ (e : Lifted). All (HasValue (length step.args)) e.terms)) (sym lent)
      (All-weaker (IsLiftedOf task.predicates (length task.objects) (length schema.parameters))
      (λ (e : Lifted). All (HasValue (length step.args)) e.terms)
      (λ e x. All-weaker (IsTermOf (length task.objects) (length schema.parameters))
      (HasValue (length step.args)) (λ t y n is. subst (λ m. n < m) (sym many) (y.parameter n is)) e.terms
      x.terms)
      schema.add read.well.adds)

  effect_keys : map (key_under step.args) adds ≡ keys_added task step
  effect_keys =
      let read = step_read task step schemas schema is_step are reads in
      ap (map (key_under step.args)) lent ∙ sym (ap (keys_added_by step.args) read.found)

  pub added_numbered : (old new : List (List ℕ)) (numbers more : List ℕ) → numbers ≡ []
      → AreNumbered old numbers (map (key_under step.args) adds) new more →
      AreNumbered old [] (keys_added task step) new more
  added_numbered old new numbers more none h =
      subst (λ ns. AreNumbered old ns (keys_added task step) new more) none
      (subst (λ ks. AreNumbered old numbers ks new more) effect_keys h)
