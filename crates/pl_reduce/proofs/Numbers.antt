-- The numbers of the nodes, and the places at which they are walked.
use Rattle.std.proofs.Common.{◌≡◌, ◌⊎◌, ◌+◌, ◌-◌, ◌<◌, ◌≤◌, ℕ, zero, suc, List, [], ◌∷◌, ◌++◌, length}
use Rattle.std.proofs.Common.{reverse, Contains, All, refl, sym, ap, ◌∙◌, subst, inl, inr, arith}
use Rattle.std.proofs.Common.{append_assoc}
use Rattle.std.proofs.lemmas.List.{reverse-reverse, reverse-append, length-reverse, length-append, get_or_at}
use Rattle.std.proofs.lemmas.List.{get_or-append_right, get_or_default}
use Rattle.std.proofs.lemmas.List.Elements.{Contains-get_or}
use Rattle.pl_rows.proofs.Canonical.{Contains-cons_cases, Contains-cons_first, Contains-cons_rest}
use Rattle.pl_reduce.specs.Nodes.{Node, node_at}
use Rattle.pl_reduce.specs.Walk.{walk_of}
use Rattle.pl_reduce.specs.Passes.{Remains}
use Rattle.pl_reduce.proofs.Lists.{Contains-reverse}

-- what is true of each node by its number
pub all_numbered : (P : Node → Type 0) (nodes : List Node)
    → ((i : ℕ) → i < length nodes → P (node_at nodes i)) → All P nodes
all_numbered P nodes h k d l = subst P (get_or_default nodes k _ d l) (h k l)

pub numbered : (nodes : List Node) (node : Node) → Contains nodes node → (i : ℕ) × (i < length nodes)
    × (node_at nodes i ≡ node)
numbered nodes node (i, l, e) = (i, l, get_or_default nodes i _ node l ∙ e)

-- the others, where a node is walked behind some and before others
others_are : (others before after : List Node) (node : Node) → reverse others ≡ before ++ node ∷ after
    → others ≡ reverse after ++ node ∷ reverse before
others_are others before after node e =
    sym (reverse-reverse others) ∙ ap reverse (e ∙ sym (append_assoc before (node ∷ []) after))
    ∙ reverse-append (before ++ node ∷ []) after
    ∙ ap (λ xs. reverse after ++ xs) (reverse-append before (node ∷ []))

-- a node's place in the walk, by its number: the nodes walked before it are those that remained when it was
-- removed
pub record IsPlaced (nodes : List Node) (root : Node) (before : List Node) (node : Node)
    (number : ℕ) : Type 0 where
  pub some : 0 < number
  pub within : number < length nodes
  pub is : node_at nodes number ≡ node
  pub root_is : node_at nodes 0 ≡ root
  pub remain : (k : ℕ) → k < length nodes → Remains number k → Contains (root ∷ before) (node_at nodes k)
  pub remaining : (other : Node) → Contains (root ∷ before) other → (k : ℕ) × (k < length nodes)
      × Remains number k × (node_at nodes k ≡ other)

placed_in : (root : Node) (others before after : List Node) (node : Node) → others ≡ reverse after
    ++ node ∷ reverse before → IsPlaced (root ∷ others) root before node (suc (length after))
placed_in root others before after node e = record {
  some = omega arith;
  within = omega (arith, many);
  is = ap (λ xs. node_at xs (length after)) e ∙ get_or_at (reverse after) node (reverse before) _
      (length after) (length-reverse after);
  root_is = refl;
  remain = remain;
  remaining = λ other h. remaining other (Contains-cons_cases root before other h);
}
  where
    many : length others ≡ length after + suc (length before)
    many = ap length e ∙ length-append (reverse after) (node ∷ reverse before)
        ∙ omega (arith, length-reverse after, length-reverse before)

    split : others ≡ (reverse after ++ node ∷ []) ++ reverse before
    split = e ∙ sym (append_assoc (reverse after) (node ∷ []) (reverse before))

    front : length (reverse after ++ node ∷ []) ≡ suc (length after)
    front = length-append (reverse after) (node ∷ []) ∙ omega (arith, length-reverse after)

    behind : (j : ℕ) → suc (length after) ≤ j → node_at others j ≡ node_at (reverse before)
        (j - suc (length after))
    behind j l = ap (λ xs. node_at xs j) split ∙ get_or-append_right (reverse after ++ node ∷ [])
        (reverse before) (suc (length after)) j _ front l

    in_before : (other : Node) → Contains (reverse before) other → Contains before other
    in_before other h = subst (λ xs. Contains xs other) (reverse-reverse before)
        (Contains-reverse (reverse before) other h)

    remain : (k : ℕ) → k < suc (length others) → Remains (suc (length after)) k
        → Contains (root ∷ before) (node_at (root ∷ others) k)
    remain zero l m = Contains-cons_first root before
    remain (suc j) l (inl z) = absurd (omega arith)
    remain (suc j) l (inr m) =
        Contains-cons_rest root before (node_at others j)
        (subst (Contains before) (sym (behind j (omega arith)))
        (in_before (node_at (reverse before) (j - suc (length after)))
        (Contains-get_or (reverse before) (j - suc (length after)) _
        (omega (arith, length-reverse before, many)))))

    remaining : (other : Node) → (root ≡ other) ⊎ Contains before other → (k : ℕ) × (k < suc (length others))
        × Remains (suc (length after)) k × (node_at (root ∷ others) k ≡ other)
    remaining other (inl s) = (0, omega arith, inl refl, s)
    remaining other (inr h) =
        let (p, l, s) = Contains-reverse before other h in
        let there : suc (length after) + p - suc (length after) ≡ p = omega arith in (
          suc (suc (length after) + p),
          omega (arith, length-reverse before, many, l),
          inr (omega arith),
          behind (suc (length after) + p) (omega arith) ∙ ap (node_at (reverse before)) there
              ∙ get_or_default (reverse before) p _ other l ∙ s,
        )

pub placed : (nodes : List Node) (root : Node) (before after : List Node) (node : Node)
    → walk_of nodes ≡ root ∷ before ++ node ∷ after → IsPlaced nodes root before node (suc (length after))
placed [] root before after node e = absurd (nothing (ap length e))
  where
    nothing : 0 ≡ suc (length (before ++ node ∷ after)) → ⊥
    nothing s = omega arith
placed (first ∷ others) root before after node e =
    let same : first ≡ root = cc in
    let rest : reverse others ≡ before ++ node ∷ after = cc in
    subst (λ r. IsPlaced (first ∷ others) r before node (suc (length after))) same
    (placed_in first others before after node (others_are others before after node rest))
