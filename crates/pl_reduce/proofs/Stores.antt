-- The nodes that are stored of the relations, one after another.
use Rattle.std.proofs.Common.{◌≡◌, ◌⊎◌, ◌+◌, ◌<◌, ℕ, suc, List, [], ◌∷◌, ◌++◌, Option, None, Some, length}
use Rattle.std.proofs.Common.{map, get_or, refl, sym, ap, ◌∙◌, subst, inl, inr, arith}
use Rattle.std.proofs.lemmas.List.{length-map, map_push, length_push, length-append}
use Rattle.std.proofs.lemmas.Grind.{common_steps}
use Rattle.pl_join.specs.Relation.{ClassRows, IsRelation}
use Rattle.pl_hyper.specs.Ears.{Removal}
use Rattle.pl_reduce.specs.Nodes.{node_at}
use Rattle.pl_reduce.specs.Plan.{relation_at}
use Rattle.std.proofs.Math.Seq.{get_or-append_seam}
use Rattle.pl_join.specs.Keyed.{KeyedRows}
use Rattle.pl_reduce.specs.Recipes.{option_at, chosen, relations_with}
use Rattle.pl_reduce.specs.Lent.{keyed_at, lent_of, nodes_with, AreThere, option_rows, own_rows}
use Rattle.pl_reduce.specs.Arranged.{node_for, key_width}
use Rattle.std.proofs.lemmas.List.Sums.{sum_by_push}
use Rattle.pl_reduce.specs.Kept.{node_of, AreStored}
use Rattle.pl_reduce.proofs.Options.{many_with, none_at, lent_mapped}
use Rattle.pl_reduce.specs.declared.reduced.Stored.{Stored}

same_or_less : (i n : ℕ) → i < n + 1 → (i < n) ⊎ (i ≡ n)
same_or_less i n l = grind arith

before : {X : Type 0} (xs : List X) (x d : X) (i : ℕ) → i < length xs
    → get_or (xs ++ x ∷ []) i d ≡ get_or xs i d
before xs x d i l = grind (arith, common_steps)

at_end : {X : Type 0} (xs : List X) (x d : X) (i : ℕ) → i ≡ length xs → get_or (xs ++ x ∷ []) i d ≡ x
at_end xs x d i e = grind (arith, common_steps)

pub none_stored : (plan : Removal) (lent : List (Option KeyedRows)) → AreStored plan (nodes_with lent []) []
none_stored plan lent = record {
  many = refl;
  nodes = λ i l. absurd (omega arith);
  relations_are = λ i l. absurd (omega arith);
}

one_stored : (plan : Removal) (relations : List ClassRows) (stored : List Stored) (relation : ClassRows)
    (made : Stored) → AreStored plan relations stored → IsRelation relation
    → node_of made ≡ node_for plan (length stored) relation
    → AreStored plan (relations ++ relation ∷ []) (stored ++ made ∷ [])
one_stored plan relations stored relation made are is node = record {
  many = omega (arith, length_push stored made, length_push relations relation, are.many);
  nodes = λ i l. nodes i (same_or_less i (length relations) (omega (arith, length_push relations relation)));
  relations_are = λ i l. relations_are i
      (same_or_less i (length relations) (omega (arith, length_push relations relation)));
}
  where
    spread : map node_of (stored ++ made ∷ []) ≡ map node_of stored ++ node_of made ∷ []
    spread = map_push node_of stored made

    nodes : (i : ℕ) → (i < length relations) ⊎ (i ≡ length relations)
        → node_at (map node_of (stored ++ made ∷ [])) i ≡ node_for plan i
        (relation_at (relations ++ relation ∷ []) i)
    nodes i (inl l) =
        ap (λ nodes. node_at nodes i) spread
        ∙ before (map node_of stored) (node_of made) _ i (omega (arith, length-map stored node_of, are.many))
        ∙ are.nodes i l ∙ ap (node_for plan i) (sym (before relations relation _ i l))
    nodes i (inr e) =
        ap (λ nodes. node_at nodes i) spread
        ∙ at_end (map node_of stored) (node_of made) _ i (omega (arith, length-map stored node_of, are.many))
        ∙ node ∙ ap (λ n. node_for plan n relation) (omega (arith, are.many))
        ∙ ap (node_for plan i) (sym (at_end relations relation _ i e))

    relations_are : (i : ℕ) → (i < length relations) ⊎ (i ≡ length relations)
        → IsRelation (relation_at (relations ++ relation ∷ []) i)
    relations_are i (inl l) = subst IsRelation (sym (before relations relation _ i l)) (are.relations_are i l)
    relations_are i (inr e) = subst IsRelation (sym (at_end relations relation _ i e)) is

-- one relation more, its own or a lent one
with_push : (fixed given : List (Option ClassRows)) (g : Option ClassRows)
    → relations_with fixed (given ++ g ∷ []) ≡ relations_with fixed given
    ++ chosen g (option_at fixed (length given)) ∷ []
with_push [] [] g = refl
with_push (f ∷ fixed) [] g = refl
with_push [] (h ∷ given) g = ap (λ rest. chosen h None ∷ rest)
    (with_push [] given g ∙ ap (λ o. relations_with [] given ++ chosen g o ∷ [])
    (none_at (length given) ∙ sym (none_at (suc (length given)))))
with_push (f ∷ fixed) (h ∷ given) g = ap (λ rest. chosen h f ∷ rest) (with_push fixed given g)

longer : (own : List (Option ClassRows)) (relation : Option ClassRows) (rest : List (Option ClassRows))
    → length own < length (own ++ relation ∷ rest)
longer own relation rest = omega (arith, length-append own (relation ∷ rest))

pub one_stored_with : (plan : Removal) (lent : List (Option KeyedRows)) (own : List (Option ClassRows))
    (stored : List Stored) (relation : Option ClassRows) (made : Stored)
    → AreStored plan (nodes_with lent own) stored
    → IsRelation (chosen relation (lent_of (keyed_at lent (length stored))))
    → node_of made ≡ node_for plan (length stored) (chosen relation (lent_of (keyed_at lent (length stored))))
    → AreStored plan (nodes_with lent (own ++ relation ∷ [])) (stored ++ made ∷ [])
one_stored_with plan lent own stored relation made are is node =
    subst (λ relations. AreStored plan relations (stored ++ made ∷ [])) (sym spread)
    (one_stored plan (nodes_with lent own) stored (chosen relation (lent_of (keyed_at lent (length stored))))
    made are is node)
  where
    place : length own ≡ length stored
    place = omega (arith, are.many, many_with (map lent_of lent) own)

    spread : nodes_with lent (own ++ relation ∷ []) ≡ nodes_with lent own
        ++ chosen relation (lent_of (keyed_at lent (length stored))) ∷ []
    spread = with_push (map lent_of lent) own relation
        ∙ ap (λ o. nodes_with lent own ++ chosen relation o ∷ [])
        (lent_mapped lent (length own) ∙ ap (λ n. lent_of (keyed_at lent n)) place)

pub rows_more : (own : List (Option ClassRows)) (relation : Option ClassRows)
    → own_rows (own ++ relation ∷ []) ≡ own_rows own + option_rows relation
rows_more own relation = sum_by_push option_rows own relation

-- the relation that is stored next has its place
pub next_there : (plan : Removal) (lent : List (Option KeyedRows)) (all own rest : List (Option ClassRows))
    (relation : Option ClassRows) (stored : List Stored) → AreThere lent all → own ++ relation ∷ rest ≡ all
    → AreStored plan (nodes_with lent own) stored → relation ≡ None → (q : KeyedRows)
    × (keyed_at lent (length stored) ≡ Some q)
next_there plan lent all own rest relation stored there whole are none =
    let place : length own ≡ length stored = omega (arith, are.many, many_with (map lent_of lent) own) in
    let at : option_at all (length own) ≡ relation = ap (λ xs. option_at xs (length own)) (sym whole)
    ∙ get_or-append_seam own relation rest None in
    let within : length own < length all = subst (λ xs. length own < length xs) whole
    (longer own relation rest) in
    subst (λ n. (q : KeyedRows) × (keyed_at lent n ≡ Some q)) place (there (length own) within (at ∙ none))

-- the width of a stored relation
pub width_made : (plan : Removal) (node width : ℕ) (held classes : List ℕ) → width ≡ key_width plan node held
    → held ≡ classes → width ≡ key_width plan node classes
width_made plan node width held classes e f = e ∙ ap (key_width plan node) f
