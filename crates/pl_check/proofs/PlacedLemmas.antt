-- Trees that lie in a file are no more than its bytes, and so are the elements of each list.
use Rattle.std.proofs.Common.{◌≡◌, ◌+◌, ◌-◌, ◌<◌, ◌≤◌, ℕ, List, [], ◌∷◌, map, length, All, refl, sym, ap}
use Rattle.std.proofs.Common.{subst, arith}
use Rattle.std.proofs.lemmas.List.{length-map}
use Rattle.std.proofs.lemmas.List.Elements.{All-nil, All-cons}
use Rattle.pl_text.specs.declared.form.Form.{Form}
use Rattle.pl_text.specs.Trees.{Tree, Trees, word, list, end, more, tree_of, trees_of, span_of, members}
use Rattle.pl_text.specs.Trees.{LiesBetween, LieBetween}
use Rattle.pl_text.proofs.TreeLaws.{members-trees_of}
use Rattle.pl_text.proofs.TreePlaceLaws.{LiesBetween-from, LiesBetween-some, LieBetween-ends}
use Rattle.pl_check.specs.Elements.{trees}
use Rattle.pl_check.specs.Reading.{HasFew, HaveFew}

-- trees between two places are no more than the bytes between them
count_between : (low high : ℕ) (ts : Trees) → LieBetween low high ts → length (members ts) + low ≤ high
count_between low high end h = omega (arith, h)
count_between low high (more tree rest) h =
    omega (
      arith,
      LiesBetween-from low high tree h.0,
      LiesBetween-some low high tree h.0,
      count_between (span_of tree).to high rest h.1,
    )

mutual
  few_between : (low high : ℕ) (tree : Tree) → high ≤ 16777216 → LiesBetween low high tree → HasFew tree
  few_between low high (word span) le h = tt
  few_between low high (list span inner) le h =
      let most : span.to ≤ high = h.2 in
      let count = count_between (span.from + 1) (span.to - 1) inner h.3 in
      (omega (arith, count), have_few_between (span.from + 1) (span.to - 1) inner (omega arith) h.3)

  have_few_between : (low high : ℕ) (ts : Trees) → high ≤ 16777216 → LieBetween low high ts → HaveFew ts
  have_few_between low high end le h = tt
  have_few_between low high (more tree rest) le h =
      (few_between low high tree le h.0, have_few_between (span_of tree).to high rest le h.1)

all_few : (ts : Trees) → HaveFew ts → All HasFew (members ts)
all_few end h = All-nil HasFew
all_few (more tree rest) h = All-cons HasFew tree (members rest) h.0 (all_few rest h.1)

-- the forms of a file are no more than its bytes
pub forms_short : (size : ℕ) (forms : List Form) → size ≤ 16777216 → LieBetween 0 size (trees_of forms) →
    length forms ≤ 16777216
forms_short size forms le h =
    omega (
      arith,
      count_between 0 size (trees_of forms) h,
      ap length (members-trees_of forms),
      length-map forms tree_of,
    )

-- and so are the elements of each list in them
pub forms_few : (size : ℕ) (forms : List Form) → size ≤ 16777216 → LieBetween 0 size (trees_of forms) →
    All HasFew (trees forms)
forms_few size forms le h =
    subst (All HasFew) (members-trees_of forms)
    (all_few (trees_of forms) (have_few_between 0 size (trees_of forms) le h))
