-- What was handed in for the nodes of a recipe, while other relations take their places.
use Rattle.std.proofs.Common.{◌≡◌, ◌⊎◌, ◌<◌, ℕ, zero, suc, true, false, List, [], ◌∷◌, ◌++◌, Option, None}
use Rattle.std.proofs.Common.{Some}
use Rattle.std.proofs.Common.{length, get_or, map, set, is_some, refl, sym, ap, ◌∙◌, subst, inl, inr, arith}
use Rattle.std.proofs.lemmas.Bool.{false≢true}
use Rattle.std.proofs.lemmas.List.{get_or_default, length-map}
use Rattle.pl_hyper.specs.declared.ear.Ear.{Ear}
use Rattle.pl_hyper.specs.Ears.{Removal}
use Rattle.pl_join.specs.Relation.{ClassRows}
use Rattle.pl_join.specs.Keyed.{KeyedRows}
use Rattle.pl_reduce.specs.Arranged.{IsArrangement, IsArrangedAt}
use Rattle.pl_reduce.specs.Fixing.{AreLentOf, IsPairReduction, AreKeyedOf}
use Rattle.pl_reduce.specs.Handed.{handed, handed_in}
use Rattle.pl_reduce.specs.Lent.{keyed_at, lent_of}
use Rattle.pl_reduce.specs.Recipes.{FixedJoin, option_at}
use Rattle.pl_reduce.proofs.Arrangements.{left_arranged, none_some, none_to_arrange, set_arranged}
use Rattle.pl_reduce.proofs.Beginnings.{some_or}
use Rattle.pl_reduce.proofs.Keyings.{lent_same}

-- ---- no origins

pub none_there : (k : ℕ) → option_at [] k ≡ None
none_there zero = refl
none_there (suc k) = refl

pub none_pushed : (origins : List (Option ClassRows)) → ((k : ℕ) → option_at origins k ≡ None) → (k : ℕ)
    → option_at (origins ++ None ∷ []) k ≡ None
none_pushed [] none zero = refl
none_pushed [] none (suc k) = refl
none_pushed (o ∷ origins) none zero = none zero
none_pushed (o ∷ origins) none (suc k) = none_pushed origins (λ j. none (suc j)) k

pub handed_none : (origins nodes : List (Option ClassRows)) → ((k : ℕ) → option_at origins k ≡ None)
    → handed_in origins nodes ≡ nodes
handed_none [] [] none = refl
handed_none (o ∷ origins) [] none = refl
handed_none [] (n ∷ nodes) none = ap (λ ns. n ∷ ns) (handed_none [] nodes none)
handed_none (o ∷ origins) (n ∷ nodes) none =
    ap (λ x. handed x n ∷ handed_in origins nodes) (none zero)
    ∙ ap (λ ns. n ∷ ns) (handed_none origins nodes (λ j. none (suc j)))

-- ---- another relation in the place of a node's

-- the one that was there becomes the origin
pub handed_first : (origins nodes : List (Option ClassRows)) (k : ℕ) (now : Option ClassRows)
    → k < length nodes → length origins ≡ length nodes → is_some (option_at nodes k) ≡ true
    → is_some (option_at origins k) ≡ false
    → handed_in (set origins k (option_at nodes k)) (set nodes k now) ≡ handed_in origins nodes
handed_first origins [] k now low many there none = absurd (omega (arith, low))
handed_first [] (n ∷ nodes) k now low many there none = absurd (omega (arith, many))
handed_first (Some o ∷ origins) (n ∷ nodes) zero now low many there none = absurd (false≢true (sym none))
handed_first (None ∷ origins) (None ∷ nodes) zero now low many there none = absurd (false≢true there)
handed_first (None ∷ origins) (Some n ∷ nodes) zero now low many there none = refl
handed_first (o ∷ origins) (n ∷ nodes) (suc k) now low many there none =
    ap (λ ns. handed o n ∷ ns)
    (handed_first origins nodes k now (omega (arith, low)) (omega (arith, many)) there
    none)

-- where there is an origin already, nothing changes
pub handed_again : (origins nodes : List (Option ClassRows)) (k : ℕ) (now : Option ClassRows)
    → k < length nodes → length origins ≡ length nodes → is_some (option_at origins k) ≡ true
    → handed_in origins (set nodes k now) ≡ handed_in origins nodes
handed_again origins [] k now low many some = absurd (omega (arith, low))
handed_again [] (n ∷ nodes) k now low many some = absurd (omega (arith, many))
handed_again (None ∷ origins) (n ∷ nodes) zero now low many some = absurd (false≢true some)
handed_again (Some o ∷ origins) (n ∷ nodes) zero now low many some = refl
handed_again (o ∷ origins) (n ∷ nodes) (suc k) now low many some =
    ap (λ ns. handed o n ∷ ns)
    (handed_again origins nodes k now (omega (arith, low)) (omega (arith, many)) some)

-- the two, as they are read
pub put_first : (origins nodes : List (Option ClassRows)) (k : ℕ) (before now kept d e : Option ClassRows)
    → k < length nodes → length origins ≡ length nodes → is_some (option_at nodes k) ≡ true
    → before ≡ get_or nodes k d → kept ≡ get_or origins k e → is_some kept ≡ false
    → handed_in (set origins k before) (set nodes k now) ≡ handed_in origins nodes
put_first origins nodes k before now kept d e low many there was is none =
    ap (λ o. handed_in (set origins k o) (set nodes k now)) (was ∙ get_or_default nodes k d None low)
    ∙ handed_first origins nodes k now low many there
    (ap is_some (sym (is ∙ get_or_default origins k e None (omega (arith, low, many)))) ∙ none)

pub put_again : (origins nodes : List (Option ClassRows)) (k : ℕ) (now kept e : Option ClassRows)
    → k < length nodes → length origins ≡ length nodes → kept ≡ get_or origins k e → is_some kept ≡ true
    → handed_in origins (set nodes k now) ≡ handed_in origins nodes
put_again origins nodes k now kept e low many is some =
    handed_again origins nodes k now low many
    (ap is_some (sym (is ∙ get_or_default origins k e None (omega (arith, low, many)))) ∙ some)

-- ---- where it is done

-- what was reduced was there
pub pair_there : (keep by : Option ClassRows) (kept : ClassRows) → IsPairReduction keep by (Some kept)
    → is_some keep ≡ true
pair_there None by kept is = none_some kept (Some kept) refl is
pair_there (Some keep) by kept is = refl

-- what was arranged was there
pub arranged_there : (order : List ℕ) (old : Option ClassRows) (made : ClassRows)
    → IsArrangement order old (Some made) → is_some old ≡ true
arranged_there order None made is = none_some made (Some made) refl is
arranged_there order (Some old) made is = refl

pub put_arranged : (order : List ℕ) (nodes : List (Option ClassRows)) (node : ℕ) (made : ClassRows)
    → node < length nodes → IsArrangement order (option_at nodes node) (Some made)
    → IsArrangedAt order nodes (set nodes node (Some made)) node
put_arranged order nodes node made low is = at (some_or (option_at nodes node))
  where
    at : (option_at nodes node ≡ None) ⊎ ((r : ClassRows) × (option_at nodes node ≡ Some r))
        → IsArrangedAt order nodes (set nodes node (Some made)) node
    at (inl none) = none_some made (Some made) refl
        (subst (λ o. IsArrangement order o (Some made)) none is)
    at (inr (r, e)) = set_arranged order nodes node r made low e
        (subst (λ o. IsArrangement order o (Some made)) e is)

pub not_arranged : (order : List ℕ) (nodes : List (Option ClassRows)) (node : ℕ)
    → IsArrangement order (option_at nodes node) None → IsArrangedAt order nodes nodes node
not_arranged order nodes node is = at (some_or (option_at nodes node))
  where
    at : (option_at nodes node ≡ None) ⊎ ((r : ClassRows) × (option_at nodes node ≡ Some r))
        → IsArrangedAt order nodes nodes node
    at (inl none) = none_to_arrange order nodes node none
    at (inr (r, e)) = left_arranged order nodes node r e (subst (λ o. IsArrangement order o None) e is)

-- ---- what is lent

pub handed_long : (origins nodes : List (Option ClassRows)) → length (handed_in origins nodes) ≡ length nodes
handed_long origins [] = refl
handed_long [] (n ∷ nodes) = ap suc (handed_long [] nodes)
handed_long (o ∷ origins) (n ∷ nodes) = ap suc (handed_long origins nodes)

pub handed_lent : (origins : List (Option ClassRows)) (lent : List (Option KeyedRows))
    → length (handed_in origins (map lent_of lent)) ≡ length lent
handed_lent origins lent = handed_long origins (map lent_of lent) ∙ length-map lent lent_of

-- lists with the same elements by their numbers
same_list : (xs ys : List (Option ClassRows)) → length xs ≡ length ys
    → ((k : ℕ) → option_at xs k ≡ option_at ys k) → xs ≡ ys
same_list [] [] long same = refl
same_list [] (y ∷ ys) long same = absurd (omega (arith, long))
same_list (x ∷ xs) [] long same = absurd (omega (arith, long))
same_list (x ∷ xs) (y ∷ ys) long same =
    ap (λ z. z ∷ xs) (same zero)
    ∙ ap (λ zs. y ∷ zs) (same_list xs ys (omega (arith, long)) (λ k. same (suc k)))

-- the keyed relations are those of the nodes
pub keyed_lent : (plan : Removal) (nodes : List (Option ClassRows)) (lent : List (Option KeyedRows))
    → AreKeyedOf plan nodes lent → map lent_of lent ≡ nodes
keyed_lent plan nodes lent are =
    same_list (map lent_of lent) nodes (length-map lent lent_of ∙ are.many)
    (λ k. lent_same plan nodes lent k are (some_or (option_at nodes k)))

-- a relation is lent just where one is fixed
pub is_lent : (plan : Removal) (fixed : List (Option ClassRows)) (lent : List (Option KeyedRows)) (k : ℕ)
    → AreLentOf plan fixed lent → is_some (keyed_at lent k) ≡ is_some (option_at fixed k)
is_lent plan fixed lent k are = at (some_or (option_at fixed k))
  where
    at : (option_at fixed k ≡ None) ⊎ ((r : ClassRows) × (option_at fixed k ≡ Some r))
        → is_some (keyed_at lent k) ≡ is_some (option_at fixed k)
    at (inl none) = ap is_some (are.none k none) ∙ sym (ap is_some none)
    at (inr (r, e)) = (let (q, there, is) = are.some k r e in ap is_some there ∙ sym (ap is_some e))

pub lent_known : (plan : Removal) (fixed : List (Option ClassRows)) (lent : List (Option KeyedRows)) (k : ℕ)
    (at d : Option KeyedRows) → AreLentOf plan fixed lent → k < length lent → at ≡ get_or lent k d
    → is_some at ≡ is_some (option_at fixed k)
lent_known plan fixed lent k at d are low is =
    ap is_some (is ∙ get_or_default lent k d None low) ∙ is_lent plan fixed lent k are

-- ---- the recipe that is made

abbrev join_of : List ℕ → List Ear → List ℕ → List (Option ClassRows) → FixedJoin
join_of edges ears core fixed =
    record { plan = record { edges = edges; removed = ears; core = core }; fixed = fixed }

pub join_made : (plan : Removal) (edges : List ℕ) (ears : List Ear) (core : List ℕ)
    (now fixed : List (Option ClassRows)) → edges ≡ plan.edges → ears ≡ plan.removed → core ≡ plan.core
    → now ≡ fixed → join_of edges ears core now ≡ join_of plan.edges plan.removed plan.core fixed
join_made plan edges ears core now fixed ee er ec ef =
    ap (λ xs. join_of xs ears core now) ee ∙ ap (λ xs. join_of plan.edges xs core now) er
    ∙ ap (λ xs. join_of plan.edges plan.removed xs now) ec
    ∙ ap (λ xs. join_of plan.edges plan.removed plan.core xs) ef
