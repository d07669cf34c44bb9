-- The trees of a file lie in it one after another, and a file has one list of trees.
use Rattle.std.proofs.Common.{◌≡◌, ℕ, ◌+◌, ◌-◌, ◌<◌, ◌≤◌, List, [], ◌∷◌, ◌++◌, length, sym, ◌∙◌, subst, ap}
use Rattle.std.proofs.Common.{refl, arith, append_assoc}
use Rattle.pl_text.specs.Tokens as token
use Rattle.pl_text.specs.Tokens.{Token, Open, Close, Rises, tokens}
use Rattle.pl_text.specs.Trees.{Tree, Trees, word, list, end, more, span_of, written, written_all, AreTreesOf}
use Rattle.pl_text.specs.Trees.{LiesBetween, LieBetween, IsInFile, AreInFile}
use Rattle.pl_text.proofs.CountLemmas.{head_same, tail_same}
use Rattle.pl_text.proofs.RiseLemmas.{Rises-tokens}
use Rattle.pl_text.proofs.TokenLaws.{same_span}

Rises-ends : (low high : ℕ) (all : List Token) → Rises low high all → low ≤ high
Rises-ends low high [] h = h
Rises-ends low high (t ∷ rest) h = omega (arith, h.0, h.1, Rises-ends (token.end_of t) high rest h.2)

-- trees that lie between two places leave the first no greater than the second
pub LieBetween-ends : (low high : ℕ) (trees : Trees) → LieBetween low high trees → low ≤ high
LieBetween-ends low high end h = h
LieBetween-ends low high (more (word span) rest) h =
    omega (arith, h.0, LieBetween-ends span.to high rest h.1)
LieBetween-ends low high (more (list span trees) rest) h =
    omega (arith, h.0.0, h.0.1, LieBetween-ends span.to high rest h.1)

-- a tree that lies between two places lies between wider ones
pub LiesBetween-wider : (low high low' high' : ℕ) (tree : Tree) → low' ≤ low → (span_of tree).to ≤ high' →
    LiesBetween low high tree → LiesBetween low' high' tree
LiesBetween-wider low high low' high' (word span) less most h =
    let from : low ≤ span.from = h.0 in (omega arith, h.1, most)
LiesBetween-wider low high low' high' (list span trees) less most h =
    let from : low ≤ span.from = h.0 in (omega arith, h.1, most, h.3)

-- a tree that lies between two places ends by the second
pub LiesBetween-to : (low high : ℕ) (tree : Tree) → LiesBetween low high tree → (span_of tree).to ≤ high
LiesBetween-to low high (word span) h = h.2
LiesBetween-to low high (list span trees) h = h.2

-- it begins at the first or later
pub LiesBetween-from : (low high : ℕ) (tree : Tree) → LiesBetween low high tree → low ≤ (span_of tree).from
LiesBetween-from low high (word span) h = h.0
LiesBetween-from low high (list span trees) h = h.0

-- and it has a byte
pub LiesBetween-some : (low high : ℕ) (tree : Tree) → LiesBetween low high tree →
    (span_of tree).from < (span_of tree).to
LiesBetween-some low high (word span) h = h.1
LiesBetween-some low high (list span trees) h = h.1

-- tokens that rise begin with those of a tree
record Lies (low high : ℕ) (tree : Tree) (rest : List Token) : Type 0 where
  here : LiesBetween low high tree
  later : Rises (span_of tree).to high rest

-- tokens that rise begin with those of trees and a close bracket
record Lie (low high : ℕ) (trees : Trees) (close : ℕ) (rest : List Token) : Type 0 where
  here : LieBetween low close trees
  later : Rises (close + 1) high rest

mutual
  lies : (low high : ℕ) (tree : Tree) (rest : List Token) → Rises low high (written tree ++ rest) →
      Lies low high tree rest
  lies low high (word span) rest h =
      record { here = (h.0, h.1, Rises-ends span.to high rest h.2); later = h.2 }
  lies low high (list span trees) rest h =
      let joined = append_assoc (written_all trees) (Close (span.to - 1) ∷ []) rest in
      let within = lie (span.from + 1) high trees (span.to - 1) rest
      (subst (Rises (span.from + 1) high) joined h.2) in
      let ends = LieBetween-ends (span.from + 1) (span.to - 1) trees within.here in
      let most = Rises-ends (span.to - 1 + 1) high rest within.later in
      let low_from : low ≤ span.from = h.0 in
      record {
        here = (low_from, omega (arith, ends), omega (arith, ends, most), within.here);
        later = subst (λ p. Rises p high rest)
            (let e : span.to - 1 + 1 ≡ span.to = omega (arith, ends) in e) within.later;
      }

  lie : (low high : ℕ) (trees : Trees) (close : ℕ) (rest : List Token) →
      Rises low high (written_all trees ++ Close close ∷ rest) → Lie low high trees close rest
  lie low high end close rest h = record { here = h.0; later = h.2 }
  lie low high (more tree trees) close rest h =
      let first = lies low high tree (written_all trees ++ Close close ∷ rest)
      (subst (Rises low high) (append_assoc (written tree) (written_all trees) (Close close ∷ rest)) h)
      in
      let others = lie (span_of tree).to high trees close rest first.later in
      let ends = LieBetween-ends (span_of tree).to close trees others.here in
      record {
        here = (
          LiesBetween-wider low high low close tree (omega arith) ends first.here,
          others.here,
        );
        later = others.later;
      }

lie_all : (low high : ℕ) (trees : Trees) → Rises low high (written_all trees) → LieBetween low high trees
lie_all low high end h = h
lie_all low high (more tree rest) h =
    let first = lies low high tree (written_all rest) h in
    (first.here, lie_all (span_of tree).to high rest first.later)

-- the trees of a file lie in it one after another
pub AreTreesOf-lie : (bytes : List ℕ) (trees : Trees) → AreTreesOf bytes trees →
    LieBetween 0 (length bytes) trees
AreTreesOf-lie bytes trees are =
    lie_all 0 (length bytes) trees (subst (Rises 0 (length bytes)) (sym are) (Rises-tokens bytes))

mutual
  -- spans that lie between two places of a file are parts of it
  pub LiesBetween-in_file : (low high size : ℕ) (tree : Tree) → high ≤ size → LiesBetween low high tree →
      IsInFile size tree
  LiesBetween-in_file low high size (word span) le h =
      let some : span.from < span.to = h.1 in let most : span.to ≤ high = h.2 in (omega arith, omega arith)
  LiesBetween-in_file low high size (list span trees) le h =
      let some : span.from < span.to = h.1 in
      let most : span.to ≤ high = h.2 in (
        omega arith,
        omega arith,
        LieBetween-in_file (span.from + 1) (span.to - 1) size trees (omega arith) h.3,
      )

  pub LieBetween-in_file : (low high size : ℕ) (trees : Trees) → high ≤ size → LieBetween low high trees →
      AreInFile size trees
  LieBetween-in_file low high size end le h = tt
  LieBetween-in_file low high size (more tree rest) le h =
      let ends = LieBetween-ends (span_of tree).to high rest h.1 in (
        LiesBetween-in_file low high size tree le h.0,
        LieBetween-in_file (span_of tree).to high size rest le h.1,
      )

-- the spans of the trees of a file are parts of it
pub AreTreesOf-in_file : (bytes : List ℕ) (trees : Trees) → AreTreesOf bytes trees →
    AreInFile (length bytes) trees
AreTreesOf-in_file bytes trees are =
    LieBetween-in_file 0 (length bytes) (length bytes) trees (omega arith) (AreTreesOf-lie bytes trees are)

-- a tree begins with a word or an open bracket, and never with nothing or a close bracket
not_closed : (tree : Tree) (c : ℕ) (xs rest : List Token) → Close c ∷ xs ≡ written tree ++ rest → ⊥
not_closed (word span) c xs rest e = cc
not_closed (list span trees) c xs rest e = cc

not_empty : (tree : Tree) (rest : List Token) → [] ≡ written tree ++ rest → ⊥
not_empty (word span) rest e = cc
not_empty (list span trees) rest e = cc

record OneTree (tree other : Tree) (xs ys : List Token) : Type 0 where
  same : tree ≡ other
  rest : xs ≡ ys

record OneInside (trees others : Trees) (c d : ℕ) (xs ys : List Token) : Type 0 where
  same : trees ≡ others
  close : c ≡ d
  rest : xs ≡ ys

mutual
  one_tree : (low high low' high' : ℕ) (tree other : Tree) (xs ys : List Token) → LiesBetween low high tree →
      LiesBetween low' high' other → written tree ++ xs ≡ written other ++ ys → OneTree tree other xs ys
  one_tree low high low' high' (word span) (word other) xs ys p q e = record {
    same = let h : token.Word span ≡ token.Word other = head_same _ _ _ _ e in cc;
    rest = tail_same _ _ _ _ e;
  }
  one_tree low high low' high' (word span) (list other trees) xs ys p q e =
      absurd (let never : ⊥ = cc in never)
  one_tree low high low' high' (list span trees) (word other) xs ys p q e =
      absurd (let never : ⊥ = cc in never)
  one_tree low high low' high' (list span trees) (list other others) xs ys p q e =
      let first : Open span.from ≡ Open other.from = head_same _ _ _ _ e in
      let inner : written_all trees ++ Close (span.to - 1) ∷ xs ≡ written_all others ++ Close
      (other.to - 1) ∷ ys =
      sym (append_assoc (written_all trees) (Close (span.to - 1) ∷ []) xs) ∙
      tail_same _ _ _ _ e ∙
      append_assoc (written_all others) (Close (other.to - 1) ∷ []) ys
      in
      let rest = one_inside (span.from + 1) (span.to - 1) (other.from + 1) (other.to - 1) trees others
      (span.to - 1) (other.to - 1)
      xs ys p.3 q.3 inner in
      let some : span.from < span.to = p.1 in
      let some' : other.from < other.to = q.1 in
      let close : span.to ≡ other.to = omega (arith, rest.close) in
      let span_is : span ≡ other = same_span span other (cc) close in
      record { same = ap (λ s. list s trees) span_is ∙ ap (list other) rest.same; rest = rest.rest }

  one_inside : (low high low' high' : ℕ) (trees others : Trees) (c d : ℕ) (xs ys : List Token) →
      LieBetween low high trees →
      LieBetween low' high' others → written_all trees ++ Close c ∷ xs ≡ written_all others ++ Close d ∷ ys →
      OneInside trees others c d xs ys
  one_inside low high low' high' end end c d xs ys p q e =
      let h : Close c ≡ Close d = head_same _ _ _ _ e in
      record { same = refl; close = cc; rest = tail_same _ _ _ _ e }
  one_inside low high low' high' end (more other others) c d xs ys p q e =
      absurd (not_closed other c xs (written_all others ++ Close d ∷ ys)
      (e ∙ append_assoc (written other) (written_all others) (Close d ∷ ys)))
  one_inside low high low' high' (more tree trees) end c d xs ys p q e =
      absurd (not_closed tree d ys (written_all trees ++ Close c ∷ xs)
      (sym e ∙ append_assoc (written tree) (written_all trees) (Close c ∷ xs)))
  one_inside low high low' high' (more tree trees) (more other others) c d xs ys p q e =
      let first = one_tree low high low' high' tree other (written_all trees ++ Close c ∷ xs)
      (written_all others ++ Close d ∷ ys)
      p.0 q.0
      (sym (append_assoc (written tree) (written_all trees) (Close c ∷ xs)) ∙
      e ∙
      append_assoc (written other) (written_all others) (Close d ∷ ys))
      in
      let later = one_inside (span_of tree).to high
      (span_of other).to high' trees others c d xs ys p.1 q.1 first.rest in
      record {
        same = ap (λ t. more t trees) first.same ∙ ap (more other) later.same;
        close = later.close;
        rest = later.rest;
      }

one_all : (low high low' high' : ℕ) (trees others : Trees) → LieBetween low high trees →
    LieBetween low' high' others →
    written_all trees ≡ written_all others → trees ≡ others
one_all low high low' high' end end p q e = refl
one_all low high low' high' end (more other others) p q e = absurd (not_empty other (written_all others) e)
one_all low high low' high' (more tree trees) end p q e = absurd (not_empty tree (written_all trees) (sym e))
one_all low high low' high' (more tree trees) (more other others) p q e =
    let first = one_tree low high low' high' tree other (written_all trees) (written_all others) p.0 q.0 e in
    let later = one_all (span_of tree).to high (span_of other).to high' trees others p.1 q.1 first.rest in
    ap (λ t. more t trees) first.same ∙ ap (more other) later

-- a file has one list of trees at most
pub AreTreesOf-one : (bytes : List ℕ) (trees others : Trees) → AreTreesOf bytes trees →
    AreTreesOf bytes others → trees ≡ others
AreTreesOf-one bytes trees others are are' =
    one_all 0 (length bytes) 0 (length bytes) trees others (AreTreesOf-lie bytes trees are)
    (AreTreesOf-lie bytes others are')
    (are ∙ sym are')
