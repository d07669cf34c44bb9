-- The relations of the nodes that are of a share, node by node.
use Rattle.std.proofs.Common.{◌≡◌, ℕ, ◌+◌, ◌<◌, suc, Bool, List, [], ◌∷◌, ◌++◌, length, get_or, Option, Some}
use Rattle.std.proofs.Common.{None, refl, sym, ◌∙◌, ap, subst, arith, length-append}
use Rattle.std.proofs.lemmas.List.{get_or_default}
use Rattle.pl_task.specs.declared.data.Schema.{Schema}
use Rattle.pl_task.specs.declared.task.Task.{Task}
use Rattle.pl_task.specs.States.{State}
use Rattle.pl_hyper.specs.declared.ear.Ear.{Ear}
use Rattle.pl_hyper.specs.Ears.{ear_at}
use Rattle.pl_join.specs.Relation.{ClassRows}
use Rattle.pl_normal.specs.declared.nodes.Share.{Share}
use Rattle.pl_normal.specs.Queries.{IsRelationAt}
use Rattle.pl_normal.specs.Recipes.{AreOfShare, IsNodeRelation, IsWanted, is_fixed_edge, is_fixed_node}
use Rattle.pl_normal.specs.Recipes.{node_edges, plan_of, takes}
use Rattle.std.proofs.Math.Bool.{and-true}
use Rattle.pl_normal.proofs.Joins.{no_ear, ear_node}
use Rattle.pl_normal.proofs.Pushing.{each_pushed}

wanted_as : (b c : Bool) (P Q : ClassRows → Type 0) (x : Option ClassRows) → b ≡ c →
    ((r : ClassRows) → P r → Q r) → IsWanted b P x → IsWanted c Q x
wanted_as b c P Q None same weaker h = sym same ∙ h
wanted_as b c P Q (Some r) same weaker h = (sym same ∙ h.0, weaker r h.1)

module _ (task : Task) (schema : Schema) (s : State) (share : Share) where
  -- what an ear's edge gave, as what its node has
  pub ear_wanted : (i : ℕ) (ears : List Ear) (d : Ear) (x : Option ClassRows) →
      ears ≡ (plan_of schema).removed → i < length ears →
      IsWanted (takes share (is_fixed_edge task schema (get_or ears i d).edge))
      (IsRelationAt task schema s (get_or ears i d).edge) x →
      IsWanted (takes share (is_fixed_node task schema (suc i))) (IsNodeRelation task schema s (suc i)) x
  ear_wanted i ears d x removed low h =
      wanted_as (takes share (is_fixed_edge task schema (get_or ears i d).edge))
      (takes share (is_fixed_node task schema (suc i)))
      (IsRelationAt task schema s (get_or ears i d).edge) (IsNodeRelation task schema s (suc i)) x
      (ap (takes share) (ap (λ (e : Ear). is_fixed_edge task schema e.edge) here ∙ sym
      (and-true (is_fixed_edge task schema (ear_at (plan_of schema) i no_ear).edge))))
      (λ r is. ear_node task schema s i r (subst (λ xs. i < length xs) removed low)
      (subst (λ (e : Ear). IsRelationAt task schema s e.edge r) here is)) h
    where
      here : get_or ears i d ≡ ear_at (plan_of schema) i no_ear
      here = get_or_default ears i d no_ear low ∙ ap (λ xs. get_or xs i no_ear) removed

  pub ear_wanted_at : (i n : ℕ) (ears : List Ear) (d : Ear) (x : Option ClassRows) →
      ears ≡ (plan_of schema).removed → i < length ears → n ≡ i + 1 →
      IsWanted (takes share (is_fixed_edge task schema (get_or ears i d).edge))
      (IsRelationAt task schema s (get_or ears i d).edge) x →
      IsWanted (takes share (is_fixed_node task schema n)) (IsNodeRelation task schema s n) x
  ear_wanted_at i n ears d x removed low next h =
      subst (λ k. IsWanted (takes share (is_fixed_node task schema k)) (IsNodeRelation task schema s k) x)
      (same n i next) (ear_wanted i ears d x removed low h)
    where
      same : (n i : ℕ) → n ≡ i + 1 → suc i ≡ n
      same n i h = omega (arith, h)

  -- the edge of an ear, as those of its node
  pub ear_edges : (i n : ℕ) (ears : List Ear) (d : Ear) → ears ≡ (plan_of schema).removed →
      i < length ears → n ≡ i + 1 → (get_or ears i d).edge ∷ [] ≡ node_edges (plan_of schema) n
  ear_edges i n ears d removed low next =
      subst (λ k. (get_or ears i d).edge ∷ [] ≡ node_edges (plan_of schema) k) (same n i next)
      (ap (λ (e : Ear). e.edge ∷ [])
      (get_or_default ears i d no_ear low ∙ ap (λ xs. get_or xs i no_ear) removed))
    where
      same : (n i : ℕ) → n ≡ i + 1 → suc i ≡ n
      same n i h = omega (arith, h)

  -- a node more
  pub share_more : (n m : ℕ) (old new : List (Option ClassRows)) (x : Option ClassRows) →
      AreOfShare task schema s share n old → new ≡ old ++ x ∷ [] → m ≡ n + 1 →
      IsWanted (takes share (is_fixed_node task schema n)) (IsNodeRelation task schema s n) x →
      AreOfShare task schema s share m new
  share_more n m old new x are e next h = subst (λ k. AreOfShare task schema s share k new) (sym next)
      (record {
        many = ap length e ∙ (length-append old (x ∷ []) ∙ ap (λ k. k + 1) are.many);
        each = each_pushed (λ k y. IsWanted (takes share (is_fixed_node task schema k))
            (IsNodeRelation task schema s k) y) n old new x are.many are.each h e;
      })

  -- the root alone
  pub share_root : (new : List (Option ClassRows)) (x : Option ClassRows) → new ≡ [] ++ x ∷ [] →
      IsWanted (takes share (is_fixed_node task schema 0)) (IsNodeRelation task schema s 0) x →
      AreOfShare task schema s share 1 new
  share_root new x e h = share_more 0 1 [] new x (record
      { many = refl; each = λ k d low. absurd (omega (arith, low)) }) e refl h
