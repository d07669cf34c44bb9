-- The options of `plan`, word by word.
use Rattle.std.proofs.Common.{◌≡◌, ◌+◌, ◌-◌, ◌^◌, ◌<◌, ◌≤◌, ℕ, Bool, true, false, cond, ◌&&◌, List, [], ◌∷◌}
use Rattle.std.proofs.Common.{length, drop, slice_get, Option, Some, None, refl, sym, ◌∙◌, ap, subst, arith}
use Rattle.std.proofs.Common.{length-drop, nat_le}
use Rattle.std.specs.Prelude.{codes, is_some, ⊤}
use Rattle.std.specs.Option.{option_map}
use Rattle.std.proofs.lemmas.Bool.{and_parts, leb-true}
use Rattle.std.specs.Str.{bytes_eq}
use Rattle.pl_make.specs.declared.kind.Kind.{Kind}
use Rattle.pl_make.specs.declared.kind.Kind.TheVariants.{Hop, Wide}
use Rattle.pl_make.specs.Texts.{IsSize}
use Rattle.pl_registry.specs.declared.search.Search.{Search}
use Rattle.pl_top.specs.Request.{Request, Options, PlanOptions, Successors, FindPlan, Make, count_of}
use Rattle.pl_top.specs.Request.{is_file_name, is_limit, is_size, kind_of, limit_within, made_from, made_of}
use Rattle.pl_top.specs.Request.{make_of, no_options, no_plan_options, plan_of, request_of, search_named}
use Rattle.pl_top.specs.Request.{size_within, start_of, successors_of, validate_of, with_all, with_each}
use Rattle.pl_top.specs.Request.{with_limit, with_search, with_stats, with_value}
use Rattle.pl_top.specs.Searching.{CanRun, limit_of}
use Rattle.pl_top.proofs.RequestLemmas.{at_place, two_places}

-- no word changes nothing, and refused options stay refused
no_words : (options : Option PlanOptions) → with_each [] options ≡ options
no_words None = refl
no_words (Some options) = refl

still_none : (words : List (List ℕ)) → with_each words None ≡ None
still_none [] = refl
still_none (w ∷ []) = refl
still_none (v ∷ w ∷ words) = refl

-- the word `--stats` first
stats_first : (words : List (List ℕ)) (name : List ℕ) (old : PlanOptions)
    → bytes_eq name (codes "--stats") ≡ true →
    with_each (name ∷ words) (Some old) ≡ with_each words (with_stats old)
stats_first [] name old is = ap (λ b. cond b (with_stats old) None) is ∙ sym (no_words (with_stats old))
stats_first (w ∷ words) name old is =
    ap (λ b. cond b (with_each (w ∷ words) (with_stats old)) (with_each words (with_value old name w))) is

pub next_stats : (words : List (List ℕ)) (i : ℕ) (name : List ℕ) (old : PlanOptions)
    (found : Option PlanOptions) →
    slice_get words i ≡ Some name → true ≡ bytes_eq name (codes "--stats") → found ≡ with_stats old →
    with_each (drop i words) (Some old) ≡ with_each (drop (i + 1) words) found
next_stats words i name old found here test is =
    ap (λ (l : List (List ℕ)). with_each l (Some old)) (at_place words i (i + 1) name refl here)
    ∙ stats_first (drop (i + 1) words) name old (sym test) ∙ ap (with_each (drop (i + 1) words)) (sym is)

pub no_stats : (words : List (List ℕ)) (i : ℕ) (name : List ℕ) (old : PlanOptions)
    → slice_get words i ≡ Some name →
    true ≡ bytes_eq name (codes "--stats") → None ≡ with_stats old
    → with_each (drop i words) (Some old) ≡ None
no_stats words i name old here test is = next_stats words i name old None here test is
    ∙ still_none (drop (i + 1) words)

-- another word with a value behind it
pub next_value : (words : List (List ℕ)) (i : ℕ) (name value : List ℕ) (old : PlanOptions)
    (found : Option PlanOptions) →
    slice_get words i ≡ Some name → slice_get words (i + 1) ≡ Some value
    → false ≡ bytes_eq name (codes "--stats") →
    found ≡ with_value old name value → with_each (drop i words) (Some old) ≡ with_each
    (drop (i + 2) words) found
next_value words i name value old found here there test is =
    ap (λ (l : List (List ℕ)). with_each l (Some old)) (two_places words i name value here there)
    ∙ ap (λ b. cond b (with_each (value ∷ drop (i + 2) words) (with_stats old))
    (with_each (drop (i + 2) words) (with_value old name value))) (sym test)
    ∙ ap (with_each (drop (i + 2) words)) (sym is)

pub no_value : (words : List (List ℕ)) (i : ℕ) (name value : List ℕ) (old : PlanOptions)
    → slice_get words i ≡ Some name →
    slice_get words (i + 1) ≡ Some value → false ≡ bytes_eq name (codes "--stats")
    → None ≡ with_value old name value →
    with_each (drop i words) (Some old) ≡ None
no_value words i name value old here there test is =
    next_value words i name value old None here there test is ∙ still_none (drop (i + 2) words)

-- another word without a value
alone : (rest : List (List ℕ)) (name : List ℕ) (old : PlanOptions) → length rest ≡ 0
    → false ≡ bytes_eq name (codes "--stats") →
    with_each (name ∷ rest) (Some old) ≡ None
alone [] name old none test = ap (λ b. cond b (with_stats old) None) (sym test)
alone (w ∷ rest) name old none test = absurd (omega (arith, none))

pub last_alone : (words : List (List ℕ)) (i : ℕ) (name : List ℕ) (old : PlanOptions)
    → slice_get words i ≡ Some name →
    false ≡ bytes_eq name (codes "--stats") → length words - i ≡ 1
    → with_each (drop i words) (Some old) ≡ None
last_alone words i name old here test one =
    ap (λ (l : List (List ℕ)). with_each l (Some old)) (at_place words i (i + 1) name refl here)
    ∙ alone (drop (i + 1) words) name old (omega (arith, one, length-drop {A = List ℕ} (i + 1) words)) test

-- ---- a request that words are can run

abbrev IsWithin : PlanOptions → Type 0
IsWithin options = (1 ≤ limit_of options) × (limit_of options < 2 ^ 32 - 1)

abbrev Fits : Option PlanOptions → Type 0
Fits None = ⊤
Fits (Some options) = IsWithin options

fits_cond : (b : Bool) (x y : Option PlanOptions) → Fits x → Fits y → Fits (cond b x y)
fits_cond true x y h k = h
fits_cond false x y h k = k

fits_stats : (options : PlanOptions) → IsWithin options → Fits (with_stats options)
fits_stats options h = fits_cond options.stats None _ tt h

fits_search : (options : PlanOptions) (word : List ℕ) → IsWithin options → Fits (with_search options word)
fits_search options word h = fits_cond (is_some options.search) None _ tt (by_name (search_named word))
  where
    by_name : (found : Option Search) →
        Fits (option_map (λ s. record { search = Some s; limit = options.limit; stats = options.stats })
        found)
    by_name None = tt
    by_name (Some by) = h

-- a number that can be a limit
limit_fits : (options : PlanOptions) (n : Option ℕ) → IsWithin options →
    Fits (option_map (λ l. record { search = options.search; limit = Some l; stats = options.stats })
    (limit_within n))
limit_fits options None h = tt
limit_fits options (Some n) h = by_test (is_limit n) refl
  where
    by_test : (b : Bool) → is_limit n ≡ b →
        Fits (option_map (λ l. record { search = options.search; limit = Some l; stats = options.stats })
        (cond b (Some n) None))
    by_test true is =
        (let parts = and_parts (nat_le 1 n) (nat_le n 4294967294) is in
        (leb-true 1 n parts.0, omega (arith, leb-true n 4294967294 parts.1)))
    by_test false is = tt

fits_limit : (options : PlanOptions) (word : List ℕ) → IsWithin options → Fits (with_limit options word)
fits_limit options word h = fits_cond (is_some options.limit) None _ tt (limit_fits options (count_of word) h)

fits_value : (options : PlanOptions) (name value : List ℕ) → IsWithin options
    → Fits (with_value options name value)
fits_value options name value h =
    fits_cond (bytes_eq name (codes "--search")) _ _ (fits_search options value h)
    (fits_cond (bytes_eq name (codes "--limit")) _ None (fits_limit options value h) tt)

fits_each : (words : List (List ℕ)) (options : Option PlanOptions) → Fits options
    → Fits (with_each words options)
fits_each words None h = subst Fits (sym (still_none words)) tt
fits_each [] (Some options) h = h
fits_each (name ∷ []) (Some options) h = fits_cond (bytes_eq name (codes "--stats")) _ None
    (fits_stats options h) tt
fits_each (name ∷ value ∷ words) (Some options) h =
    fits_cond (bytes_eq name (codes "--stats")) _ _
    (fits_each (value ∷ words) (with_stats options) (fits_stats options h))
    (fits_each words (with_value options name value) (fits_value options name value h))

abbrev FitsAll : Option Request → Type 0
FitsAll None = ⊤
FitsAll (Some request) = CanRun request

all_cond : (b : Bool) (x y : Option Request) → FitsAll x → FitsAll y → FitsAll (cond b x y)
all_cond true x y h k = h
all_cond false x y h k = k

all_listed : (domain problem : List ℕ) (options : Option Options)
    → FitsAll (option_map (Successors domain problem) options)
all_listed domain problem None = tt
all_listed domain problem (Some options) = tt

all_planned : (domain problem : List ℕ) (options : Option PlanOptions) → Fits options
    → FitsAll (option_map (FindPlan domain problem) options)
all_planned domain problem None h = tt
all_planned domain problem (Some options) h = h

validate_runs : (words : List (List ℕ)) → FitsAll (validate_of words)
validate_runs [] = tt
validate_runs (a ∷ []) = tt
validate_runs (a ∷ b ∷ []) = tt
validate_runs (a ∷ b ∷ c ∷ []) = all_cond (is_file_name a && is_file_name b && is_file_name c) _ None tt tt
validate_runs (a ∷ b ∷ c ∷ d ∷ words) = tt

successors_run : (words : List (List ℕ)) → FitsAll (successors_of words)
successors_run [] = tt
successors_run (a ∷ []) = tt
successors_run (a ∷ b ∷ words) = all_cond (is_file_name a && is_file_name b) _ None
    (all_listed a b (with_all words (Some no_options))) tt

plan_runs : (words : List (List ℕ)) → FitsAll (plan_of words)
plan_runs [] = tt
plan_runs (a ∷ []) = tt
plan_runs (a ∷ b ∷ words) =
    all_cond (is_file_name a && is_file_name b) _ None
    (all_planned a b (with_each words (Some no_plan_options))
    (fits_each words (Some no_plan_options) (omega arith, omega arith))) tt

-- a size that is one of the kind
pub size_fits : (kind : Kind) (n : ℕ) → is_size kind n ≡ true → IsSize kind n
size_fits Hop n is = let parts = and_parts (nat_le 1 n) (nat_le n 1000) is in
    (leb-true 1 n parts.0, leb-true n 1000 parts.1)
size_fits Wide n is = let parts = and_parts (nat_le 1 n) (nat_le n 100) is in
    (leb-true 1 n parts.0, leb-true n 100 parts.1)

all_started : (kind : Kind) (n : ℕ) (start : Option ℕ) → IsSize kind n
    → FitsAll (option_map (Make kind n) start)
all_started kind n None h = tt
all_started kind n (Some start) h = h

all_sized : (kind : Kind) (n start : Option ℕ) → FitsAll (made_from kind (size_within kind n) start)
all_sized kind None start = tt
all_sized kind (Some n) start = by_test (is_size kind n) refl
  where
    by_test : (b : Bool) → is_size kind n ≡ b → FitsAll (made_from kind (cond b (Some n) None) start)
    by_test true is = all_started kind n start (size_fits kind n is)
    by_test false is = tt

all_made : (kind : Option Kind) (size start : List ℕ) → FitsAll (made_of kind size start)
all_made None size start = tt
all_made (Some kind) size start = all_sized kind (count_of size) (start_of start)

make_runs : (words : List (List ℕ)) → FitsAll (make_of words)
make_runs [] = tt
make_runs (a ∷ []) = tt
make_runs (a ∷ b ∷ []) = tt
make_runs (a ∷ b ∷ c ∷ []) = all_made (kind_of a) b c
make_runs (a ∷ b ∷ c ∷ d ∷ words) = tt

all_run : (words : List (List ℕ)) → FitsAll (request_of words)
all_run [] = tt
all_run (command ∷ words) =
    all_cond (bytes_eq command (codes "validate")) _ _ (validate_runs words)
    (all_cond (bytes_eq command (codes "successors")) _ _ (successors_run words)
    (all_cond (bytes_eq command (codes "plan")) _ _ (plan_runs words)
    (all_cond (bytes_eq command (codes "make")) _ None (make_runs words) tt)))

pub request_runs : (words : List (List ℕ)) (request : Request) → Some request ≡ request_of words
    → CanRun request
request_runs words request is = subst FitsAll (sym is) (all_run words)
