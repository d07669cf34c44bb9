-- The words and lists of a file are no more than its bytes, so all that is counted in it is bounded.
use Rattle.std.proofs.Common.{◌≡◌, ◌+◌, ◌-◌, ◌<◌, ◌≤◌, ℕ, zero, suc, Bool, true, false, not, cond, ◌||◌, List}
use Rattle.std.proofs.Common.{[], ◌∷◌, ◌++◌, map, filter, drop, length, Option, Some, None, codes, bytes_eq}
use Rattle.std.proofs.Common.{All, refl, sym, ap, ◌∙◌, subst, arith}
use Rattle.std.specs.List.{flat_map, filter_map, cons_option}
use Rattle.std.proofs.lemmas.List.{length-map, length-append}
use Rattle.pl_names.specs.Names.{first_appearances}
use Rattle.pl_text.specs.Trees.{Tree, word, list, Trees, end, more, members, span_of, LiesBetween, LieBetween}
use Rattle.pl_text.specs.declared.form.Span.{Span}
use Rattle.pl_check.specs.Conditions.{counted, counted_all, is_connective, is_basic}
use Rattle.pl_check.specs.Elements.{word_of, elements}
use Rattle.pl_check.specs.Known.{sections, has_key, first_section, sections_of, all_after, type_names}
use Rattle.pl_check.specs.Known.{object_occurrences}
use Rattle.pl_check.specs.Literals.{literals_of}
use Rattle.pl_check.specs.Terms.{Scope, head_of}
use Rattle.pl_check.specs.TypedLists.{items, is_dash, item_names}
use Rattle.pl_check.specs.Words.{is_name}
use Rattle.pl_check.proofs.ActionRangeLemmas.{filter_few, literals_counted}

abbrev mutual
  -- the words and lists of a tree
  pub weight : Tree → ℕ
  weight (word span) = 1
  weight (list span inner) = weights inner + 1

  pub weights : Trees → ℕ
  weights end = 0
  weights (more tree rest) = weight tree + weights rest

-- the same of trees in a list
abbrev pub total : List Tree → ℕ
total [] = 0
total (tree ∷ rest) = weight tree + total rest

mutual
  weight_between : (low high : ℕ) (tree : Tree) → LiesBetween low high tree →
      weight tree + low ≤ (span_of tree).to
  weight_between low high (word span) h = omega (arith, h.0, h.1)
  weight_between low high (list span inner) h =
      omega (arith, h.0, h.1, weights_between (span.from + 1) (span.to - 1) inner h.3)

  pub weights_between : (low high : ℕ) (trees : Trees) → LieBetween low high trees →
      weights trees + low ≤ high
  weights_between low high end h = omega (arith, h)
  weights_between low high (more tree rest) h =
      omega (arith, weight_between low high tree h.0, weights_between (span_of tree).to high rest h.1)

pub total_members : (trees : Trees) → total (members trees) ≡ weights trees
total_members end = refl
total_members (more tree rest) = ap (λ n. weight tree + n) (total_members rest)

weight_some : (tree : Tree) → 1 ≤ weight tree
weight_some (word span) = omega arith
weight_some (list span inner) = omega arith

total_elements : (tree : Tree) → total (elements tree) ≤ weight tree
total_elements (word span) = omega arith
total_elements (list span inner) = omega (arith, total_members inner)

total_drop : (n : ℕ) (trees : List Tree) → total (drop n trees) ≤ total trees
total_drop zero trees = omega arith
total_drop (suc n) [] = omega arith
total_drop (suc n) (tree ∷ rest) = omega (arith, total_drop n rest)

pub total_length : (trees : List Tree) → length trees ≤ total trees
total_length [] = omega arith
total_length (tree ∷ rest) = omega (arith, weight_some tree, total_length rest)

total_append : (xs ys : List Tree) → total (xs ++ ys) ≡ total xs + total ys
total_append [] ys = omega arith
total_append (x ∷ xs) ys = omega (arith, total_append xs ys)

after_first : (section : Tree) → total (drop 1 (elements section)) ≤ weight section
after_first section = omega (arith, total_drop 1 (elements section), total_elements section)

pub total_sections : (forms : List Tree) → total (sections forms) ≤ total forms
unfolding sections
total_sections [] = omega arith
total_sections (tree ∷ rest) = omega (arith, total_drop 2 (elements tree), total_elements tree)

pub total_first : (text key : List ℕ) (list : List Tree) → total (first_section text key list) ≤ total list
total_first text key [] = omega arith
total_first text key (section ∷ rest) = by_test (has_key text key section) (total_first text key rest)
  where
    by_test : (b : Bool) → total (first_section text key rest) ≤ total rest →
        total (cond b (drop 1 (elements section)) (first_section text key rest)) ≤ weight section + total rest
    by_test true later = omega (arith, after_first section)
    by_test false later = omega (arith, later)

pub total_after : (text key : List ℕ) (list : List Tree) → total (all_after text key list) ≤ total list
total_after text key [] = omega arith
total_after text key (section ∷ rest) = by_test (has_key text key section) (total_after text key rest)
  where
    by_test : (b : Bool) → total (all_after text key rest) ≤ total rest →
        total (flat_map (λ s. drop 1 (elements s))
        (cond b (section ∷ sections_of text key rest) (sections_of text key rest))) ≤
        weight section + total rest
    by_test true later = omega (
      arith,
      after_first section,
      later,
      total_append (drop 1 (elements section))
          (all_after text key rest),
    )
    by_test false later = omega (arith, later)

-- ---- literals

single : (head : _) (inner most : ℕ) → inner ≤ most → 1 ≤ most →
    cond (is_connective head) inner (cond (is_basic head) 1 0) ≤ most
single head inner most h k = by_test (is_connective head) (is_basic head)
  where
    by_test : (a b : Bool) → cond a inner (cond b 1 0) ≤ most
    by_test true b = h
    by_test false true = k
    by_test false false = omega arith

mutual
  counted_weight : (text : List ℕ) (tree : Tree) → counted text tree ≤ weight tree
  counted_weight text (word span) = omega arith
  counted_weight text (list span end) = omega arith
  counted_weight text (list span (more head rest)) =
      single (head_of text (head ∷ members rest)) (counted_all text rest) (weight head + weights rest + 1)
      (omega (arith, counted_all_weight text rest)) (omega arith)

  counted_all_weight : (text : List ℕ) (trees : Trees) → counted_all text trees ≤ weights trees
  counted_all_weight text end = omega arith
  counted_all_weight text (more tree rest) =
      omega (arith, counted_weight text tree, counted_all_weight text rest)

pub literals_few : (scope : Scope) (trees : List Tree) →
    length (flat_map (literals_of scope) trees) ≤ total trees
literals_few scope [] = omega arith
literals_few scope (tree ∷ rest) =
    omega (
      arith,
      length-append (literals_of scope tree) (flat_map (literals_of scope) rest),
      literals_counted scope tree,
      counted_weight scope.text tree,
      literals_few scope rest,
    )

pub found_few : {X Y : Type 0} (f : X → Option Y) (xs : List X) → length (filter_map f xs) ≤ length xs
found_few {X = X} {Y = Y} f [] = omega arith
found_few {X = X} {Y = Y} f (x ∷ xs) = by_value (f x) (found_few f xs)
  where
    by_value : (r : Option Y) → length (filter_map f xs) ≤ length xs →
        length (cons_option r (filter_map f xs)) ≤ suc (length xs)
    by_value None h = omega (arith, h)
    by_value (Some y) h = omega (arith, h)

-- ---- names

pub firsts_few : (names : List (List ℕ)) → length (first_appearances names) ≤ length names
firsts_few [] = omega arith
firsts_few (name ∷ names) = omega (
  arith,
  filter_few (λ other. not (bytes_eq other name))
      (first_appearances names),
  firsts_few names,
)

items_few : (text : List ℕ) (after_dash : Bool) (forms : List Tree) →
    length (items text after_dash forms) ≤ length forms
items_few text after_dash [] = omega arith
items_few text after_dash (tree ∷ rest) = by_test (after_dash || is_dash text tree)
    (items_few text (is_dash text tree) rest) (items_few text false rest)
  where
    by_test : (b : Bool) → length (items text (is_dash text tree) rest) ≤ length rest →
        length (items text false rest) ≤ length rest →
        length (cond b (items text (is_dash text tree) rest) (tree ∷ items text false rest)) ≤ suc
        (length rest)
    by_test true h k = omega (arith, h)
    by_test false h k = omega (arith, k)

names_few : (text : List ℕ) (forms : List Tree) → length (item_names text forms) ≤ length forms
names_few text forms =
    omega (
      arith,
      filter_few is_name (map (word_of text) (items text false forms)),
      length-map (items text false forms) (word_of text),
      items_few text false forms,
    )

pub types_few : (text : List ℕ) (list : List Tree) → length (type_names text list) ≤ total list + 1
unfolding type_names
types_few text forms_in =
    let forms = first_section text (codes ":types") forms_in in
    let names = filter is_name (map (word_of text) forms) in
    omega (
      arith,
      firsts_few (codes "object" ∷ names),
      filter_few is_name (map (word_of text) forms),
      length-map forms (word_of text),
      total_length forms,
      total_first text (codes ":types") forms_in,
    )

pub types_some : (text : List ℕ) (list : List Tree) → 0 < length (type_names text list)
unfolding type_names
types_some text forms_in = omega arith

pub objects_few : (domain : List ℕ) (domain_list : List Tree) (problem : List ℕ) (problem_list : List Tree) →
    length (object_occurrences domain domain_list problem problem_list) ≤ total
    domain_list + total problem_list
unfolding object_occurrences
objects_few domain domain_list problem problem_list =
    let constants = first_section domain (codes ":constants") domain_list in
    let objects = first_section problem (codes ":objects") problem_list in
    omega (
      arith,
      length-append (item_names domain constants) (item_names problem objects),
      names_few domain constants,
      names_few problem objects,
      total_length constants,
      total_length objects,
      total_first domain (codes ":constants") domain_list,
      total_first problem (codes ":objects") problem_list,
    )
