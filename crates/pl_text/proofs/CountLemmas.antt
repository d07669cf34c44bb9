-- How many brackets the tokens have, and how the fronts of a list of tokens lie.
use Rattle.std.proofs.Common.{◌≡◌, ◌⊎◌, ℕ, ◌+◌, ◌-◌, ◌≤◌, List, [], ◌∷◌, ◌++◌, length, take, drop, refl, sym}
use Rattle.std.proofs.Common.{ap, ◌∙◌, subst, arith, inl, inr, append_assoc}
use Rattle.std.proofs.lemmas.List.{append-nil}
use Rattle.pl_text.specs.Limits.{most_open}
use Rattle.pl_text.specs.declared.form.Form.{Form}
use Rattle.pl_text.specs.declared.reading.Opened.{Opened}
use Rattle.pl_text.specs.Tokens.{Token, Open, Close, Word}
use Rattle.pl_text.specs.Trees as tree
use Rattle.pl_text.specs.Trees.{Tree, Trees, trees_of, written, written_all}
use Rattle.pl_text.specs.Forms.{flatten_all}
use Rattle.pl_text.specs.TextFaults.{opens, closes, ClosesNothing}
use Rattle.pl_text.specs.Reading.{tokens_read, IsQuiet}

pub opens-append : (xs ys : List Token) → opens (xs ++ ys) ≡ opens xs + opens ys
opens-append [] ys = omega arith
opens-append (Open at ∷ xs) ys = omega (arith, opens-append xs ys)
opens-append (Close at ∷ xs) ys = omega (arith, opens-append xs ys)
opens-append (Word span ∷ xs) ys = omega (arith, opens-append xs ys)

pub closes-append : (xs ys : List Token) → closes (xs ++ ys) ≡ closes xs + closes ys
closes-append [] ys = omega arith
closes-append (Open at ∷ xs) ys = omega (arith, closes-append xs ys)
closes-append (Close at ∷ xs) ys = omega (arith, closes-append xs ys)
closes-append (Word span ∷ xs) ys = omega (arith, closes-append xs ys)

pub head_same : {A : Type 0} (x y : A) (xs ys : List A) → x ∷ xs ≡ y ∷ ys → x ≡ y
head_same x y xs ys e = cc

pub tail_same : {A : Type 0} (x y : A) (xs ys : List A) → x ∷ xs ≡ y ∷ ys → xs ≡ ys
tail_same x y xs ys e = cc

-- where a list that is split in two is split in two elsewhere
pub record EndsInFirst {A : Type 0} (xs ys front rest : List A) : Type 0 where
  pub more : List A
  pub first : xs ≡ front ++ more
  pub last : rest ≡ more ++ ys

pub record EndsInSecond {A : Type 0} (xs ys front rest : List A) : Type 0 where
  pub more : List A
  pub first : front ≡ xs ++ more
  pub last : ys ≡ more ++ rest

pub split : {A : Type 0} (xs ys front rest : List A) → xs ++ ys ≡ front ++ rest →
    EndsInFirst xs ys front rest ⊎ EndsInSecond xs ys front rest
split [] ys front rest e = inr (record { more = front; first = refl; last = e })
split (x ∷ xs) ys [] rest e = inl (record { more = x ∷ xs; first = refl; last = sym e })
split (x ∷ xs) ys (y ∷ front) rest e =
    let same = head_same x y _ _ e in
    elim (split xs ys front rest (tail_same x y _ _ e)) [
      | inl h ↦ inl (record {
        more = h.more;
        first = ap (λ t. t ∷ xs) same ∙ ap (λ ts. y ∷ ts) h.first;
        last = h.last;
      })
      | inr h ↦ inr (record {
        more = h.more;
        first = ap (λ t. t ∷ front) (sym same) ∙ ap (λ ts. x ∷ ts) h.first;
        last = h.last;
      })
    ]

-- no front of these tokens has more closes than opens and k more
abbrev pub AtMost : ℕ → List Token → Type 0
AtMost k all = (front rest : List Token) → all ≡ front ++ rest → closes front ≤ opens front + k

nothing : (rest : List Token) (k : ℕ) (front : List Token) → [] ≡ front ++ rest →
    closes front ≤ opens front + k
nothing rest k [] e = omega arith
nothing rest k (x ∷ front) e = absurd (let never : ⊥ = cc in never)

AtMost-nil : (k : ℕ) → AtMost k []
AtMost-nil k front rest e = nothing rest k front e

AtMost-open : (k at : ℕ) (all : List Token) → AtMost (k + 1) all → AtMost k (Open at ∷ all)
AtMost-open k at all h [] rest e = omega arith
AtMost-open k at all h (x ∷ front) rest e =
    subst (λ t. closes (t ∷ front) ≤ opens (t ∷ front) + k) (head_same _ _ _ _ e)
    (omega (arith, h front rest (tail_same _ _ _ _ e)))

AtMost-close : (k at : ℕ) (all : List Token) → AtMost k all → AtMost (k + 1) (Close at ∷ all)
AtMost-close k at all h [] rest e = omega arith
AtMost-close k at all h (x ∷ front) rest e =
    subst (λ t. closes (t ∷ front) ≤ opens (t ∷ front) + (k + 1)) (head_same _ _ _ _ e)
    (omega (arith, h front rest (tail_same _ _ _ _ e)))

AtMost-word : (k : ℕ) (word : Token) (all : List Token) →
    ((front : List Token) → closes (word ∷ front) ≡ closes front) →
    ((front : List Token) → opens (word ∷ front) ≡ opens front) → AtMost k all → AtMost k (word ∷ all)
AtMost-word k word all c o h [] rest e = omega arith
AtMost-word k word all c o h (x ∷ front) rest e =
    subst (λ t. closes (t ∷ front) ≤ opens (t ∷ front) + k) (head_same _ _ _ _ e)
    (omega (arith, c front, o front, h front rest (tail_same _ _ _ _ e)))

AtMost-append : (k : ℕ) (xs ys : List Token) → AtMost k xs → closes xs ≤ opens xs → AtMost k ys →
    AtMost k (xs ++ ys)
AtMost-append k xs ys h whole later front rest e =
    elim (split xs ys front rest e) [
      | inl s ↦ h front s.more s.first
      | inr s ↦ subst (λ f. closes f ≤ opens f + k) (sym s.first)
          (omega (arith, opens-append xs s.more, closes-append xs s.more, later s.more rest s.last))
    ]

-- tokens that close all that they open, and nothing else
pub record IsWhole (all : List Token) : Type 0 where
  pub even : opens all ≡ closes all
  pub keeps : (k : ℕ) → AtMost k all

whole_append : (xs ys : List Token) → IsWhole xs → IsWhole ys → IsWhole (xs ++ ys)
whole_append xs ys p q = record {
  even = omega (arith, opens-append xs ys, closes-append xs ys, p.even, q.even);
  keeps = λ k. AtMost-append k xs ys (p.keeps k) (omega (arith, p.even)) (q.keeps k);
}

whole_nil : IsWhole []
whole_nil = record { even = refl; keeps = AtMost-nil }

mutual
  whole : (t : Tree) → IsWhole (written t)
  whole (tree.word span) = record {
    even = refl;
    keeps = λ k. AtMost-word k (Word span) [] (λ _. refl) (λ _. refl) (AtMost-nil k);
  }
  whole (tree.list span trees) =
      let within = whole_all trees in
      let last = Close (span.to - 1) ∷ [] in
      record {
        even = omega (
          arith,
          opens-append (written_all trees) last,
          closes-append (written_all trees) last,
          within.even,
        );
        keeps =
            λ k. AtMost-open k span.from (written_all trees ++ last)
            (AtMost-append (k + 1) (written_all trees) last (within.keeps (k + 1))
            (omega (arith, within.even))
            (AtMost-close k (span.to - 1) [] (AtMost-nil k)));
      }

  -- trees close each list that they open
  pub whole_all : (trees : Trees) → IsWhole (written_all trees)
  whole_all tree.end = whole_nil
  whole_all (tree.more first rest) =
      whole_append (written first) (written_all rest) (whole first) (whole_all rest)

pub nothing_closed : (all : List Token) → AtMost 0 all → ClosesNothing all
nothing_closed all h front rest e = omega (arith, h front rest e)

closes_nothing : (all : List Token) → ClosesNothing all → AtMost 0 all
closes_nothing all h front rest e = omega (arith, h front rest e)

-- the lists that are open are as many as the opens are more than the closes
pub opens-tokens_read : (lists : List Opened) (done : List Form) →
    opens (tokens_read lists done) ≡ closes (tokens_read lists done) + length lists
opens-tokens_read [] done = omega (arith, (whole_all (trees_of done)).even)
opens-tokens_read (list ∷ outer) done =
    let before = tokens_read outer (take list.before done) in
    let inside = flatten_all (drop list.before done) in
    omega (
      arith,
      opens-append before (Open list.at ∷ inside),
      closes-append before (Open list.at ∷ inside),
      opens-tokens_read outer (take list.before done),
      (whole_all (trees_of (drop list.before done))).even,
    )

-- the outermost open list: the forms before it, its bracket, and tokens that do not close it
pub record Outermost (all : List Token) (at : ℕ) : Type 0 where
  pub forms : List Form
  pub rest : List Token
  pub splits : all ≡ flatten_all forms ++ Open at ∷ rest
  pub open_still : ClosesNothing rest

pub outermost : (inner : List Opened) (list : Opened) (done : List Form) →
    Outermost (tokens_read (inner ++ list ∷ []) done) list.at
outermost [] list done = record {
  forms = take list.before done;
  rest = flatten_all (drop list.before done);
  splits = refl;
  open_still = nothing_closed _ ((whole_all (trees_of (drop list.before done))).keeps 0);
}
outermost (inmost ∷ inner) list done =
    let around = outermost inner list (take inmost.before done) in
    let inside = Open inmost.at ∷ flatten_all (drop inmost.before done) in
    record {
      forms = around.forms;
      rest = around.rest ++ inside;
      splits = ap (λ ts. ts ++ inside) around.splits ∙
          append_assoc (flatten_all around.forms) (Open list.at ∷ around.rest) inside;
      open_still =
          nothing_closed _
          (AtMost-append 0 around.rest inside (closes_nothing around.rest around.open_still)
          (around.open_still around.rest [] (sym (append-nil around.rest)))
          (AtMost-open 0 inmost.at _ ((whole_all (trees_of (drop inmost.before done))).keeps 1)));
    }

-- one token more
pub IsQuiet-push : (all : List Token) (token : Token) → IsQuiet all →
    closes (all ++ token ∷ []) ≤ opens (all ++ token ∷ []) →
    opens (all ++ token ∷ []) ≤ closes (all ++ token ∷ []) + most_open →
    IsQuiet (all ++ token ∷ [])
IsQuiet-push all token quiet low high front rest e =
    elim (split all (token ∷ []) front rest e) [
      | inl s ↦ quiet front s.more s.first
      | inr s ↦ by_more s.more s.first s.last
    ]
  where
    by_more : (more : List Token) → front ≡ all ++ more → token ∷ [] ≡ more ++ rest →
        (closes front ≤ opens front) × (opens front ≤ closes front + most_open)
    by_more [] first last = quiet front [] (sym (append-nil all) ∙ sym first ∙ sym (append-nil front))
    by_more (x ∷ []) first last =
        let same : all ++ token ∷ [] ≡ front = ap (λ t. all ++ t ∷ []) (head_same token x _ _ last) ∙
        sym first in
        subst (λ f. (closes f ≤ opens f) × (opens f ≤ closes f + most_open)) same (low, high)
    by_more (x ∷ y ∷ more) first last = absurd (let never : ⊥ = cc (tail_same token x _ _ last) in never)
