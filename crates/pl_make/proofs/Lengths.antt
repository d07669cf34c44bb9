-- How long the texts are at most.
use Rattle.std.proofs.Common.{◌≡◌, ℕ, ◌+◌, ◌-◌, ◌*◌, ◌<◌, ◌≤◌, ◌++◌, ◌∷◌, [], zero, suc, List, length}
use Rattle.std.proofs.Common.{length-append, cond, nat_lt, Bool, true, false, codes, decimal, arith}
use Rattle.std.proofs.Math.Nat.{mul-le-mul_left}
use Rattle.std.specs.List.{flat_map}
use Rattle.std.proofs.lemmas.Fmt.{length-decimal-le}
use Rattle.std.proofs.lemmas.List.Concat.{flat_map-append}
use Rattle.pl_task.specs.Types.{numbers_below}
use Rattle.pl_make.specs.Texts.{names_text, atom_line, place_of, seed_after, link_line, links_of, IsSize}
use Rattle.pl_make.specs.Texts.{domain_text, hop_problem, problem_text, relation_name, pairs_text}
use Rattle.pl_make.specs.Texts.{relation_text, last_relation_text, wide_problem}
use Rattle.pl_make.specs.declared.kind.Kind.{Kind}
use Rattle.pl_make.specs.declared.kind.Kind.TheVariants.{Hop, Wide}

-- pieces of at most m bytes, one for each number below n
pub pieces-short : (f : ℕ → List ℕ) (m n : ℕ) → ((i : ℕ) → i < n → length (f i) ≤ m) →
    length (flat_map f (numbers_below n)) ≤ n * m
pieces-short f m zero short = omega arith
pieces-short f m (suc n) short =
    let front = pieces-short f m n (λ i below. short i (omega (arith, below))) in
    let last : length (f n) ≤ m = short n (omega arith) in
    let split : length (flat_map f (numbers_below (suc n))) ≡ length (flat_map f (numbers_below n)) + length
    (f n) =
    rw (flat_map-append f (numbers_below n) (n ∷ [])) (simp length-append (omega arith)) in
    omega (arith, front, last, split)

-- a number below 10,000 has at most four digits
pub decimal-short : (n : ℕ) → n < 10000 → length (decimal n) ≤ 4
decimal-short n below = length-decimal-le 4 n (omega arith) (omega (arith, below)) (omega (arith, below))

pub atom_line-short : (predicate letter : List ℕ) (left right : ℕ) → length predicate ≤ 5 →
    length letter ≤ 1 → left < 10000 → right < 10000 →
    length (atom_line predicate letter left right) ≤ 30
atom_line-short predicate letter left right short one l r =
    simp length-append (omega (arith, decimal-short left l, decimal-short right r))

pub names_text-short : (letter : List ℕ) (n : ℕ) → length letter ≤ 1 → n ≤ 10000 →
    length (names_text letter n) ≤ n * 6
names_text-short letter n one few =
    pieces-short (λ i. codes " " ++ letter ++ decimal i) 6 n
    (λ i below. simp length-append (omega (arith, decimal-short i (omega (arith, below, few)))))

pub links_of-short : (n start i : ℕ) → 1 ≤ n → n ≤ 1000 → i < n → length (links_of n start i) ≤ 60
links_of-short n start i some few below =
    let drawn : length (link_line i (place_of n (seed_after start (i + 1)))) ≤ 30 =
    atom_line-short (codes "link") (codes "p") i (place_of n (seed_after start (i + 1))) (omega arith)
    (omega arith) (omega arith) (omega arith) in
    let next : length (link_line i (i + 1)) ≤ 30 = atom_line-short (codes "link") (codes "p") i (i + 1)
    (omega arith) (omega arith) (omega arith) (omega arith) in
    let first = either_short (nat_lt (i + 1) n) (link_line i (i + 1)) next in
    rw (length-append (cond (nat_lt (i + 1) n) (link_line i (i + 1)) [])
    (link_line i (place_of n (seed_after start (i + 1))))) (omega (arith, drawn, first))
  where
    either_short : (b : Bool) (text : List ℕ) → length text ≤ 30 → length (cond b text []) ≤ 30
    either_short true text short = short
    either_short false text short = omega arith

pub hop_problem-short : (n start : ℕ) → 1 ≤ n → n ≤ 1000 → length (hop_problem n start) ≤ 16777216
hop_problem-short n start some few =
    let names = names_text-short (codes "p") n (omega arith) (omega arith) in
    let links = pieces-short (links_of n start) 60 n (λ i below. links_of-short n start i some few below) in
    simp length-append (omega (arith, names, links, decimal-short (n - 1) (omega arith)))

pub relation_name-short : (k : ℕ) → k < 10 → length (relation_name k) ≤ 5
relation_name-short k one = simp length-append (omega (arith, decimal-short k (omega (arith, one))))

pub pairs_text-short : (k n left right : ℕ) → k < 10 → n ≤ 100 → left ≤ 1000 → right ≤ 1000 →
    length (pairs_text k n left right) ≤ 300000
pairs_text-short k n left right one few l r =
    let row : (i : ℕ) → i < n → length
    (flat_map (λ j. atom_line (relation_name k) (codes "o") (left + i) (right + j)) (numbers_below n)) ≤
    3000 = (λ i below.
    let each = pieces-short (λ j. atom_line (relation_name k) (codes "o") (left + i) (right + j)) 30 n
    (λ j under. atom_line-short (relation_name k) (codes "o") (left + i) (right + j)
    (relation_name-short k one) (omega arith) (omega (arith, below)) (omega (arith, under))) in
    omega (arith, each)) in
    let all = pieces-short (λ i. flat_map (λ j. atom_line (relation_name k) (codes "o") (left + i)
    (right + j)) (numbers_below n)) 3000 n row in
    omega (arith, all)

pub relation_text-short : (n k : ℕ) → n ≤ 100 → 1 ≤ k → k ≤ 6 → length (relation_text n k) ≤ 300030
relation_text-short n k few first last =
    let pairs = pairs_text-short k n (n * (k - 1)) (n * k) (omega (arith, last)) few
    (most n (k - 1) few (omega arith)) (most n k few last) in
    let on = atom_line-short (relation_name k) (codes "o") (7 * n + k - 1) (7 * n + k)
    (relation_name-short k (omega arith)) (omega arith) (omega arith) (omega arith) in
    rw (length-append (pairs_text k n (n * (k - 1)) (n * k))
    (atom_line (relation_name k) (codes "o") (7 * n + k - 1) (7 * n + k))) (omega (arith, pairs, on))
  where
    most : (n k : ℕ) → n ≤ 100 → k ≤ 6 → n * k ≤ 1000
    most n k few low = omega (arith, mul-le-mul_left n low)

pub last_relation_text-short : (n : ℕ) → n ≤ 100 → length (last_relation_text n) ≤ 300030
last_relation_text-short n few =
    let pairs = pairs_text-short 7 n (7 * n + 8) (7 * n + 8) (omega arith) few (omega arith) (omega arith) in
    let on = atom_line-short (relation_name 7) (codes "o") (7 * n + 6) (7 * n + 7)
    (relation_name-short 7 (omega arith)) (omega arith) (omega arith) (omega arith) in
    rw (length-append (pairs_text 7 n (7 * n + 8) (7 * n + 8))
    (atom_line (relation_name 7) (codes "o") (7 * n + 6) (7 * n + 7))) (omega (arith, pairs, on))

pub wide_problem-short : (n : ℕ) → n ≤ 100 → length (wide_problem n) ≤ 16777216
wide_problem-short n few =
    let names = names_text-short (codes "o") (8 * n + 8) (omega arith) (omega arith) in
    let six = pieces-short (λ i. relation_text n (i + 1)) 300030 6
    (λ i below. relation_text-short n (i + 1) few (omega arith) (omega (arith, below))) in
    together (names_text (codes "o") (8 * n + 8)) (flat_map (λ i. relation_text n (i + 1)) (numbers_below 6))
    (last_relation_text n)
    (omega (arith, names)) six (last_relation_text-short n few)
  where
    together : (names six last : List ℕ) → length names ≤ 10000 →
        length six ≤ 6 * 300030 → length last ≤ 300030 →
        length (codes "(define (problem wide)\n(:objects" ++ names ++ codes ")\n(:init\n" ++ six ++ last ++
        codes ")\n(:goal (done)))\n") ≤ 16777216
    together names six last a b c = simp length-append (omega (arith, a, b, c))

-- the texts of a kind, in a size that it is made in
pub domain_text-short : (kind : Kind) → length (domain_text kind) ≤ 16777216
domain_text-short Hop = omega arith
domain_text-short Wide = omega arith

pub problem_text-short : (kind : Kind) (n start : ℕ) → IsSize kind n →
    length (problem_text kind n start) ≤ 16777216
problem_text-short Hop n start size = hop_problem-short n start size.0 size.1
problem_text-short Wide n start size = wide_problem-short n size.1
