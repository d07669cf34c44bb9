-- The files of made tasks: a chain of places that is hopped along, and a wide join with one answer. Each line
-- ends with byte 10.
use Rattle.std.specs.Prelude.{ℕ, ◌+◌, ◌-◌, ◌*◌, ◌/◌, ◌%◌, ◌^◌, ◌≤◌, ◌++◌, [], zero, suc, cond, nat_lt, List}
use Rattle.std.specs.Prelude.{codes, decimal}
use Rattle.std.specs.List.{flat_map}
use Rattle.pl_task.specs.Types.{numbers_below}
use Rattle.pl_make.specs.declared.kind.Kind.{Kind}
use Rattle.pl_make.specs.declared.kind.Kind.TheVariants.{Hop, Wide}

-- the sizes that a task of the kind is made in
abbrev pub IsSize : Kind → ℕ → Type 0
IsSize Hop n = (1 ≤ n) × (n ≤ 1000)
IsSize Wide n = (1 ≤ n) × (n ≤ 100)

-- a blank and a name for each number below n
abbrev pub names_text : List ℕ → ℕ → List ℕ
names_text letter n = flat_map (λ i. codes " " ++ letter ++ decimal i) (numbers_below n)

-- a line with an atom of two objects, whose names are the letter with these numbers
abbrev pub atom_line : List ℕ → List ℕ → ℕ → ℕ → List ℕ
atom_line predicate letter left right =
    codes "(" ++ predicate ++ codes " " ++ letter ++ decimal left ++ codes " " ++ letter ++
    decimal right ++ codes ")\n"

-- What is drawn for a chain: a linear congruential generator modulo 2 to the power of 64.

abbrev pub next_seed : ℕ → ℕ
next_seed x = (x * 6364136223846793005 + 1442695040888963407) % 2 ^ 64

-- the seed after so many drawings
abbrev pub seed_after : ℕ → ℕ → ℕ
seed_after start zero = start
seed_after start (suc count) = next_seed (seed_after start count)

-- the place that a seed stands for, of n places
abbrev pub place_of : ℕ → ℕ → ℕ
place_of n seed = seed / 8589934592 % n

-- The chain: n places, each linked to the next one and to one that is drawn.

abbrev pub hop_domain : List ℕ
hop_domain = codes "(define (domain hop)\n(:predicates (at ?x) (link ?x ?y))\n(:action hop :parameters (?x ?y)\n:precondition (and (at ?x) (link ?x ?y))\n:effect (and (not (at ?x)) (at ?y))))\n"

abbrev pub link_line : ℕ → ℕ → List ℕ
link_line from to = atom_line (codes "link") (codes "p") from to

-- the links of a place: to the next one, where there is one, and to the one that is drawn
abbrev pub links_of : ℕ → ℕ → ℕ → List ℕ
links_of n start i = cond (nat_lt (i + 1) n) (link_line i (i + 1)) [] ++
    link_line i (place_of n (seed_after start (i + 1)))

abbrev pub hop_problem : ℕ → ℕ → List ℕ
hop_problem n start =
    codes "(define (problem hop)\n(:objects" ++ names_text (codes "p") n ++ codes ")\n(:init (at p0)\n"
    ++ flat_map (links_of n start) (numbers_below n)
    ++ codes ")\n(:goal (at p" ++ decimal (n - 1) ++ codes ")))\n"

-- The wide join: seven relations in a row, each with n times n pairs that lead nowhere and one pair that goes
-- on.

abbrev pub wide_domain : List ℕ
wide_domain = codes "(define (domain wide)\n(:predicates (r1 ?x ?y) (r2 ?x ?y) (r3 ?x ?y) (r4 ?x ?y) (r5 ?x ?y) (r6 ?x ?y) (r7 ?x ?y) (done))\n(:action pass :parameters (?a ?b ?c ?d ?e ?f ?g ?h)\n:precondition (and (r1 ?a ?b) (r2 ?b ?c) (r3 ?c ?d) (r4 ?d ?e) (r5 ?e ?f) (r6 ?f ?g) (r7 ?g ?h))\n:effect (done)))\n"

abbrev pub relation_name : ℕ → List ℕ
relation_name k = codes "r" ++ decimal k

-- all pairs of the n objects from `left` on with the n objects from `right` on
abbrev pub pairs_text : ℕ → ℕ → ℕ → ℕ → List ℕ
pairs_text k n left right =
    flat_map (λ i. flat_map (λ j. atom_line (relation_name k) (codes "o") (left + i) (right + j))
    (numbers_below n)) (numbers_below n)

-- relation k of the first six: the pairs of block k - 1 with block k, and the pair that goes on
abbrev pub relation_text : ℕ → ℕ → List ℕ
relation_text n k = pairs_text k n (n * (k - 1)) (n * k) ++ atom_line (relation_name k) (codes "o")
    (7 * n + k - 1) (7 * n + k)

-- the last relation: its pairs begin at objects that the sixth does not lead to
abbrev pub last_relation_text : ℕ → List ℕ
last_relation_text n = pairs_text 7 n (7 * n + 8) (7 * n + 8) ++ atom_line (relation_name 7)
    (codes "o") (7 * n + 6) (7 * n + 7)

abbrev pub wide_problem : ℕ → List ℕ
wide_problem n =
    codes "(define (problem wide)\n(:objects" ++ names_text (codes "o") (8 * n + 8) ++ codes ")\n(:init\n"
    ++ flat_map (λ i. relation_text n (i + 1)) (numbers_below 6) ++ last_relation_text n
    ++ codes ")\n(:goal (done)))\n"

-- the texts of a kind, a size and a start; the wide join takes no start
abbrev pub domain_text : Kind → List ℕ
domain_text Hop = hop_domain
domain_text Wide = wide_domain

abbrev pub problem_text : Kind → ℕ → ℕ → List ℕ
problem_text Hop n start = hop_problem n start
problem_text Wide n start = wide_problem n
