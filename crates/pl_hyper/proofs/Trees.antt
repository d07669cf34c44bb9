-- Trees over a set of edges, with a rank that falls from each edge to its parent; how an ear is taken out and
-- put back. Here `has e c ≡ 1` says that the edge e holds the class c, and R says which edges there are.
use Rattle.std.proofs.Common.{◌≡◌, ◌≢◌, ℕ, zero, suc, ◌+◌, ◌<◌, ◌≤◌, ◌⊎◌, cond, eqb, List, [], ◌∷◌, refl, sym}
use Rattle.std.proofs.Common.{ap, ◌∙◌, subst, inl, inr, arith, eq-eqb, ne_eqb, le_refl}
use Rattle.std.specs.List.{Contains}
use Rattle.pl_hyper.proofs.Members.{same_or_not, here, there, cons_cases, not_in_nil}

-- e holds c and is the root or has a parent that lacks it
pub record Top (has : ℕ → ℕ → ℕ) (root : ℕ) (parent : ℕ → ℕ) (c e : ℕ) : Type 0 where
  pub holds : has e c ≡ 1
  pub lacks : e ≢ root → has (parent e) c ≢ 1

pub record Tree (has : ℕ → ℕ → ℕ) (R : ℕ → Type 0) : Type 0 where
  pub root : ℕ
  pub parent : ℕ → ℕ
  pub rank : ℕ → ℕ
  pub at_root : R root
  pub up : (e : ℕ) → R e → e ≢ root → R (parent e)
  pub falls : (e : ℕ) → R e → e ≢ root → rank (parent e) < rank e
  pub connected : (c e g : ℕ) → R e → R g → Top has root parent c e → Top has root parent c g → e ≡ g

pub record Served (has : ℕ → ℕ → ℕ) (R : ℕ → Type 0) (e f : ℕ) : Type 0 where
  pub ear : R e
  pub parent_remains : R f
  pub apart : e ≢ f
  pub serves : (c g : ℕ) → R g → g ≢ e → has e c ≡ 1 → has g c ≡ 1 → has f c ≡ 1

abbrev pub But : (ℕ → Type 0) → ℕ → ℕ → Type 0
But R e g = R g × (g ≢ e)

not_below : (a b : ℕ) (rank : ℕ → ℕ) → a ≡ b → rank b < rank a → ⊥
not_below a b rank e h = let same : rank a ≡ rank b = ap rank e in omega arith

-- a function changed at one place
abbrev changed : ℕ → ℕ → (ℕ → ℕ) → ℕ → ℕ
changed at to f g = cond (eqb g at) to (f g)

changed_here : (at to g : ℕ) (f : ℕ → ℕ) → g ≡ at → changed at to f g ≡ to
changed_here at to g f e = rw (eq-eqb g at e)

changed_elsewhere : (at to g : ℕ) (f : ℕ → ℕ) → g ≢ at → changed at to f g ≡ f g
changed_elsewhere at to g f n = rw (ne_eqb g at n)

-- one edge is a tree
unfoldable pub single : (has : ℕ → ℕ → ℕ) (R : ℕ → Type 0) (r : ℕ) → R r →
    ((e : ℕ) → R e → e ≡ r) → Tree has R
single has R r at all = record {
  root = r;
  parent = λ e. e;
  rank = λ _. 0;
  at_root = at;
  up = λ e h n. absurd (n (all e h));
  falls = λ e h n. absurd (n (all e h));
  connected = λ c e g h k _ _. let a = all e h in let b = all g k in cc;
}

-- the same edges under another description
unfoldable pub carried : (has : ℕ → ℕ → ℕ) (R S : ℕ → Type 0) → ((e : ℕ) → R e → S e) →
    ((e : ℕ) → S e → R e) → Tree has R → Tree has S
carried has R S to from t = record {
  root = t.root;
  parent = t.parent;
  rank = t.rank;
  at_root = to t.root t.at_root;
  up = λ e h n. to _ (t.up e (from e h) n);
  falls = λ e h n. t.falls e (from e h) n;
  connected = λ c e g h k a b. t.connected c e g (from e h) (from g k) a b;
}

-- ---- an ear is put back below its parent

put_back_up : (has : ℕ → ℕ → ℕ) (R : ℕ → Type 0) (e f : ℕ) (ear : Served has R e f) (t : Tree has (But R e))
    (g : ℕ) → (g ≡ e) ⊎ (g ≢ e) → R g → g ≢ t.root → R (changed e f t.parent g)
put_back_up has R e f ear t g (inl s) h n = rw (changed_here e f g t.parent s) ear.parent_remains
put_back_up has R e f ear t g (inr d) h n = rw (changed_elsewhere e f g t.parent d) ((t.up g (h, d) n).0)

put_back_falls : (has : ℕ → ℕ → ℕ) (R : ℕ → Type 0) (e f : ℕ) (ear : Served has R e f)
    (t : Tree has (But R e)) (g : ℕ) → (g ≡ e) ⊎ (g ≢ e) → R g → g ≢ t.root →
    changed e (suc (t.rank f)) t.rank (changed e f t.parent g) < changed e (suc (t.rank f)) t.rank g
put_back_falls has R e f ear t g (inl s) h n =
    let f_other : f ≢ e = λ q. ear.apart (sym q) in
    rw (
      changed_here e f g t.parent s,
      changed_here e (suc (t.rank f)) g t.rank s,
      changed_elsewhere e
          (suc (t.rank f)) f t.rank f_other,
    ) (omega arith)
put_back_falls has R e f ear t g (inr d) h n =
    let p : t.parent g ≢ e = (t.up g (h, d) n).1 in
    rw (
      changed_elsewhere e f g t.parent d,
      changed_elsewhere e (suc (t.rank f)) g t.rank d,
      changed_elsewhere
          e (suc (t.rank f)) (t.parent g) t.rank p,
    ) (t.falls g (h, d) n)

put_back_top : (has : ℕ → ℕ → ℕ) (R : ℕ → Type 0) (e f : ℕ) (t : Tree has (But R e)) (c g : ℕ) → g ≢ e →
    Top has t.root (changed e f t.parent) c g → Top has t.root t.parent c g
put_back_top has R e f t c g d a = record {
  holds = a.holds;
  lacks = λ n q. a.lacks n (rw (changed_elsewhere e f g t.parent d) q);
}

-- no other edge of a class is a top beside the ear, since the parent would hold the class
put_back_alone : (has : ℕ → ℕ → ℕ) (R : ℕ → Type 0) (e f : ℕ) (ear : Served has R e f)
    (t : Tree has (But R e)) (c g h : ℕ) → h ≡ e → g ≢ e → R g → Top has t.root (changed e f t.parent) c h →
    has g c ≡ 1 → ⊥
put_back_alone has R e f ear t c g h s d k a held =
    let root_other : h ≢ t.root = λ q. t.at_root.1 (sym q ∙ s) in
    let at_ear : has e c ≡ 1 = subst (λ x. has x c ≡ 1) s a.holds in
    a.lacks root_other (rw (changed_here e f h t.parent s) (ear.serves c g k d at_ear held))

put_back_connected : (has : ℕ → ℕ → ℕ) (R : ℕ → Type 0) (e f : ℕ) (ear : Served has R e f)
    (t : Tree has (But R e)) (c a b : ℕ) → (a ≡ e) ⊎ (a ≢ e) → (b ≡ e) ⊎ (b ≢ e) → R a → R b →
    Top has t.root (changed e f t.parent) c a → Top has t.root (changed e f t.parent) c b → a ≡ b
put_back_connected has R e f ear t c a b (inl p) (inl q) ra rb ta tb = p ∙ sym q
put_back_connected has R e f ear t c a b (inl p) (inr q) ra rb ta tb =
    absurd (put_back_alone has R e f ear t c b a p q rb ta tb.holds)
put_back_connected has R e f ear t c a b (inr p) (inl q) ra rb ta tb =
    absurd (put_back_alone has R e f ear t c a b q p ra tb ta.holds)
put_back_connected has R e f ear t c a b (inr p) (inr q) ra rb ta tb =
    t.connected c a b (ra, p) (rb, q) (put_back_top has R e f t c a p ta) (put_back_top has R e f t c b q tb)

pub put_back : (has : ℕ → ℕ → ℕ) (R : ℕ → Type 0) (e f : ℕ) → Served has R e f →
    Tree has (But R e) → Tree has R
put_back has R e f ear t = record {
  root = t.root;
  parent = changed e f t.parent;
  rank = changed e (suc (t.rank f)) t.rank;
  at_root = t.at_root.0;
  up = λ g h n. put_back_up has R e f ear t g (same_or_not g e) h n;
  falls = λ g h n. put_back_falls has R e f ear t g (same_or_not g e) h n;
  connected = λ c a b ra rb ta tb. put_back_connected has R e f ear t c a b (same_or_not a e)
      (same_or_not b e) ra rb ta tb;
}

pub put_back-root : (has : ℕ → ℕ → ℕ) (R : ℕ → Type 0) (e f : ℕ) (ear : Served has R e f)
    (t : Tree has (But R e)) → (put_back has R e f ear t).root ≡ t.root
unfolding put_back
put_back-root has R e f ear t = refl

pub put_back-parent : (has : ℕ → ℕ → ℕ) (R : ℕ → Type 0) (e f : ℕ) (ear : Served has R e f)
    (t : Tree has (But R e)) (g : ℕ) → (put_back has R e f ear t).parent g ≡ cond (eqb g e) f (t.parent g)
unfolding put_back
put_back-parent has R e f ear t g = refl

-- ---- the root moves to a child of it

abbrev stepped : (ℕ → ℕ) → ℕ → ℕ → ℕ → ℕ
stepped parent r x = changed r x parent

abbrev stepped_rank : (ℕ → ℕ) → ℕ → ℕ → ℕ → ℕ
stepped_rank rank r x = changed x 0 (changed r 1 (λ g. rank g + 2))

step_up : (has : ℕ → ℕ → ℕ) (R : ℕ → Type 0) (t : Tree has R) (x g : ℕ) → R x → (g ≡ t.root) ⊎ (g ≢ t.root) →
    R g → R (stepped t.parent t.root x g)
step_up has R t x g rx (inl s) h = rw (changed_here t.root x g t.parent s) rx
step_up has R t x g rx (inr d) h = rw (changed_elsewhere t.root x g t.parent d) (t.up g h d)

-- the rank of a parent in the moved tree, whichever it is, is below that of an edge which is neither the new
-- root nor the old one
step_low : (rank : ℕ → ℕ) (r x p m : ℕ) → rank p < m → (p ≡ x) ⊎ (p ≢ x) → (p ≡ r) ⊎ (p ≢ r) →
    stepped_rank rank r x p < m + 2
step_low rank r x p m low (inl s) k = rw (changed_here x 0 p (changed r 1 (λ g. rank g + 2)) s) (omega arith)
step_low rank r x p m low (inr d) (inl s) = rw (
  changed_elsewhere x 0 p (changed r 1 (λ g. rank g + 2)) d,
  changed_here r 1 p (λ g. rank g + 2) s,
) (omega arith)
step_low rank r x p m low (inr d) (inr e) = rw (
  changed_elsewhere x 0 p (changed r 1 (λ g. rank g + 2)) d,
  changed_elsewhere r 1 p (λ g. rank g + 2) e,
) (omega arith)

step_falls : (has : ℕ → ℕ → ℕ) (R : ℕ → Type 0) (t : Tree has R) (x g : ℕ) → (g ≡ t.root) ⊎ (g ≢ t.root) →
    R g → g ≢ x → stepped_rank t.rank t.root x (stepped t.parent t.root x g) < stepped_rank t.rank t.root x g
step_falls has R t x g (inl s) h n =
    rw (
      changed_here t.root x g t.parent s,
      changed_here x 0 x (changed t.root 1 (λ k. t.rank k + 2)) refl,
      changed_elsewhere x 0 g (changed t.root 1 (λ k. t.rank k + 2)) n,
      changed_here t.root 1 g
          (λ k. t.rank k + 2) s,
    ) (omega arith)
step_falls has R t x g (inr d) h n =
    let low = step_low t.rank t.root x (t.parent g) (t.rank g) (t.falls g h d) (same_or_not (t.parent g) x)
    (same_or_not (t.parent g) t.root) in
    rw (
      changed_elsewhere t.root x g t.parent d,
      changed_elsewhere x 0 g
          (changed t.root 1 (λ k. t.rank k + 2)) n,
      changed_elsewhere t.root 1 g (λ k. t.rank k + 2) d,
    ) low

-- a top of the moved tree that is not its root was one before
step_top : (has : ℕ → ℕ → ℕ) (R : ℕ → Type 0) (t : Tree has R) (x c g : ℕ) → g ≢ x →
    Top has x (stepped t.parent t.root x) c g → Top has t.root t.parent c g
step_top has R t x c g n a = record {
  holds = a.holds;
  lacks = λ d q. a.lacks n (rw (changed_elsewhere t.root x g t.parent d) q);
}

-- where the new root holds the class, no other edge is a top
step_alone : (has : ℕ → ℕ → ℕ) (R : ℕ → Type 0) (t : Tree has R) (x : ℕ) → R x → x ≢ t.root →
    t.parent x ≡ t.root → (c g : ℕ) → R g → has x c ≡ 1 → g ≢ x → (g ≡ t.root) ⊎ (g ≢ t.root) →
    (has t.root c ≡ 1) ⊎ (has t.root c ≢ 1) → Top has x (stepped t.parent t.root x) c g → ⊥
step_alone has R t x rx d p c g rg held n (inl s) k a =
    a.lacks n (rw (changed_here t.root x g t.parent s) held)
step_alone has R t x rx d p c g rg held n (inr e) (inl k) a =
    let root_top : Top has t.root t.parent c t.root = record { holds = k; lacks = λ q. absurd (q refl) } in
    e (t.connected c g t.root rg t.at_root (step_top has R t x c g n a) root_top)
step_alone has R t x rx d p c g rg held n (inr e) (inr k) a =
    let new_top : Top has t.root t.parent c x = record {
      holds = held;
      lacks = λ q h. k (subst (λ y. has y c ≡ 1) p h);
    } in
    n (t.connected c g x rg rx (step_top has R t x c g n a) new_top)

step_connected : (has : ℕ → ℕ → ℕ) (R : ℕ → Type 0) (t : Tree has R) (x : ℕ) → R x → x ≢ t.root →
    t.parent x ≡ t.root → (c a b : ℕ) → (a ≡ x) ⊎ (a ≢ x) → (b ≡ x) ⊎ (b ≢ x) → R a → R b →
    Top has x (stepped t.parent t.root x) c a → Top has x (stepped t.parent t.root x) c b → a ≡ b
step_connected has R t x rx d p c a b (inl u) (inl v) ra rb ta tb = u ∙ sym v
step_connected has R t x rx d p c a b (inl u) (inr v) ra rb ta tb =
    absurd (step_alone has R t x rx d p c b rb (subst (λ y. has y c ≡ 1) u ta.holds) v (same_or_not b t.root)
    (same_or_not (has t.root c) 1) tb)
step_connected has R t x rx d p c a b (inr u) (inl v) ra rb ta tb =
    absurd (step_alone has R t x rx d p c a ra (subst (λ y. has y c ≡ 1) v tb.holds) u (same_or_not a t.root)
    (same_or_not (has t.root c) 1) ta)
step_connected has R t x rx d p c a b (inr u) (inr v) ra rb ta tb =
    t.connected c a b ra rb (step_top has R t x c a u ta) (step_top has R t x c b v tb)

one_step : (has : ℕ → ℕ → ℕ) (R : ℕ → Type 0) (t : Tree has R) (x : ℕ) → R x → x ≢ t.root →
    t.parent x ≡ t.root → Tree has R
one_step has R t x rx d p = record {
  root = x;
  parent = stepped t.parent t.root x;
  rank = stepped_rank t.rank t.root x;
  at_root = rx;
  up = λ g h n. step_up has R t x g rx (same_or_not g t.root) h;
  falls = λ g h n. step_falls has R t x g (same_or_not g t.root) h n;
  connected = λ c a b ra rb ta tb. step_connected has R t x rx d p c a b (same_or_not a x)
      (same_or_not b x) ra rb ta tb;
}

-- a tree with this root, in which the edges that lay deeper than it keep their parents
record Rooted (has : ℕ → ℕ → ℕ) (R : ℕ → Type 0) (t : Tree has R) (f : ℕ) : Type 0 where
  pub tree : Tree has R
  pub root_is : tree.root ≡ f
  pub kept : (g : ℕ) → t.rank f < t.rank g → tree.parent g ≡ t.parent g

rooted_step : (has : ℕ → ℕ → ℕ) (R : ℕ → Type 0) (t : Tree has R) (f : ℕ) → R f → f ≢ t.root →
    Rooted has R t (t.parent f) → Rooted has R t f
unfolding one_step
rooted_step has R t f rf n u =
    let low = t.falls f rf n in
    let stays : u.tree.parent f ≡ t.parent f = u.kept f low in
    let apart : f ≢ u.tree.root = λ q. not_below f (t.parent f) t.rank (q ∙ u.root_is) low in
    let here : u.tree.parent f ≡ u.tree.root = stays ∙ sym u.root_is in
    record {
      tree = one_step has R u.tree f rf apart here;
      root_is = refl;
      kept = λ g deeper.
          let far : g ≢ u.tree.root = λ q. not_below g (t.parent f) t.rank (q ∙ u.root_is) (omega arith) in
          changed_elsewhere u.tree.root f g u.tree.parent far ∙ u.kept g (omega arith);
    }

rooted : (has : ℕ → ℕ → ℕ) (R : ℕ → Type 0) (t : Tree has R) (m f : ℕ) → R f → t.rank f ≤ m → (f ≡ t.root) ⊎
    (f ≢ t.root) → Rooted has R t f
rooted has R t m f rf h (inl s) = record { tree = t; root_is = sym s; kept = λ g _. refl }
rooted has R t zero f rf h (inr n) = let low = t.falls f rf n in absurd (omega arith)
rooted has R t (suc m) f rf h (inr n) =
    let low = t.falls f rf n in
    rooted_step has R t f rf n (rooted has R t m (t.parent f) (t.up f rf n) (omega arith)
    (same_or_not (t.parent f) t.root))

-- ---- an ear is taken out of a tree whose root serves it

taken_up : (has : ℕ → ℕ → ℕ) (R : ℕ → Type 0) (t : Tree has R) (e g : ℕ) → R e → e ≢ t.root → R g →
    g ≢ t.root → (t.parent g ≡ e) ⊎ (t.parent g ≢ e) → But R e (changed e (t.parent e) (λ y. y) (t.parent g))
taken_up has R t e g re ne rg ng (inl s) =
    rw (changed_here e (t.parent e) (t.parent g) (λ y. y) s)
    (t.up e re ne, λ q. not_below e (t.parent e) t.rank (sym q) (t.falls e re ne))
taken_up has R t e g re ne rg ng (inr d) =
    rw (changed_elsewhere e (t.parent e) (t.parent g) (λ y. y) d) (t.up g rg ng, d)

taken_falls : (has : ℕ → ℕ → ℕ) (R : ℕ → Type 0) (t : Tree has R) (e g : ℕ) → R e → e ≢ t.root → R g →
    g ≢ t.root → (t.parent g ≡ e) ⊎ (t.parent g ≢ e) →
    t.rank (changed e (t.parent e) (λ y. y) (t.parent g)) < t.rank g
taken_falls has R t e g re ne rg ng (inl s) =
    let low = t.falls g rg ng in
    let lower = t.falls e re ne in
    let at : t.rank (t.parent g) ≡ t.rank e = ap t.rank s in
    rw (changed_here e (t.parent e) (t.parent g) (λ y. y) s) (omega arith)
taken_falls has R t e g re ne rg ng (inr d) =
    rw (changed_elsewhere e (t.parent e) (t.parent g) (λ y. y) d) (t.falls g rg ng)

-- a top of the tree without the ear was one before
taken_top : (has : ℕ → ℕ → ℕ) (R : ℕ → Type 0) (t : Tree has R) (e : ℕ) (ear : Served has R e t.root)
    (c g : ℕ) → R g → g ≢ e → (t.parent g ≡ e) ⊎ (t.parent g ≢ e) → (has e c ≡ 1) ⊎ (has e c ≢ 1) →
    Top has t.root (λ y. changed e (t.parent e) (λ z. z) (t.parent y)) c g → Top has t.root t.parent c g
taken_top has R t e ear c g rg ng (inr d) k a = record {
  holds = a.holds;
  lacks = λ n q. a.lacks n (rw (changed_elsewhere e (t.parent e) (t.parent g) (λ y. y) d) q);
}
taken_top has R t e ear c g rg ng (inl s) (inr k) a = record {
  holds = a.holds;
  lacks = λ n q. k (subst (λ y. has y c ≡ 1) s q);
}
taken_top has R t e ear c g rg ng (inl s) (inl k) a = record {
  holds = a.holds;
  lacks = λ n q.
      let root_holds : has t.root c ≡ 1 = ear.serves c g rg ng k a.holds in
      let root_top : Top has t.root t.parent c t.root = record {
        holds = root_holds;
        lacks = λ z. absurd (z refl);
      } in
      let ear_top : Top has t.root t.parent c e = record {
        holds = k;
        lacks = λ z w. a.lacks n (rw (changed_here e (t.parent e) (t.parent g) (λ y. y) s) w);
      } in
      ear.apart (t.connected c e t.root ear.ear t.at_root ear_top root_top);
}

taken_out : (has : ℕ → ℕ → ℕ) (R : ℕ → Type 0) (t : Tree has R) (e : ℕ) →
    Served has R e t.root → Tree has (But R e)
taken_out has R t e ear = record {
  root = t.root;
  parent = λ y. changed e (t.parent e) (λ z. z) (t.parent y);
  rank = t.rank;
  at_root = (t.at_root, λ q. ear.apart (sym q));
  up = λ g h n. taken_up has R t e g ear.ear ear.apart h.0 n (same_or_not (t.parent g) e);
  falls = λ g h n. taken_falls has R t e g ear.ear ear.apart h.0 n (same_or_not (t.parent g) e);
  connected = λ c a b ra rb ta tb.
      t.connected c a b ra.0 rb.0
      (taken_top has R t e ear c a ra.0 ra.1 (same_or_not (t.parent a) e) (same_or_not (has e c) 1) ta)
      (taken_top has R t e ear c b rb.0 rb.1 (same_or_not (t.parent b) e) (same_or_not (has e c) 1) tb);
}

pub without_ear : (has : ℕ → ℕ → ℕ) (R : ℕ → Type 0) (e f : ℕ) → Served has R e f →
    Tree has R → Tree has (But R e)
without_ear has R e f ear t =
    let u = rooted has R t (t.rank f) f ear.parent_remains (le_refl (t.rank f)) (same_or_not f t.root) in
    taken_out has R u.tree e (subst (Served has R e) (sym u.root_is) ear)

-- ---- an edge without children is an ear, and a tree of two edges has one

climbed : (has : ℕ → ℕ → ℕ) (R : ℕ → Type 0) (t : Tree has R) (c g : ℕ) → R g → g ≢ t.root →
    ((h : ℕ) × R h × Top has t.root t.parent c h ×
    ((h ≡ t.parent g) ⊎ ((k : ℕ) × R k × (k ≢ t.root) × (t.parent k ≡ h)))) → (h : ℕ) × R h ×
    Top has t.root t.parent c h × ((h ≡ g) ⊎ ((k : ℕ) × R k × (k ≢ t.root) × (t.parent k ≡ h)))
climbed has R t c g rg d (h, rh, top, inl s) = (h, rh, top, inr (g, rg, d, sym s))
climbed has R t c g rg d (h, rh, top, inr k) = (h, rh, top, inr k)

-- above an edge that holds the class there is a top, which is that edge or the parent of an edge
climb : (has : ℕ → ℕ → ℕ) (R : ℕ → Type 0) (t : Tree has R) (c m g : ℕ) → R g → has g c ≡ 1 → t.rank g ≤ m →
    (g ≡ t.root) ⊎ (g ≢ t.root) → (has (t.parent g) c ≡ 1) ⊎ (has (t.parent g) c ≢ 1) → (h : ℕ) × R h ×
    Top has t.root t.parent c h × ((h ≡ g) ⊎ ((k : ℕ) × R k × (k ≢ t.root) × (t.parent k ≡ h)))
climb has R t c m g rg held le (inl s) k =
    (g, rg, record { holds = held; lacks = λ n. absurd (n s) }, inl refl)
climb has R t c m g rg held le (inr d) (inr k) = (g, rg, record { holds = held; lacks = λ n. k }, inl refl)
climb has R t c zero g rg held le (inr d) (inl k) = let low = t.falls g rg d in absurd (omega arith)
climb has R t c (suc m) g rg held le (inr d) (inl k) =
    let low = t.falls g rg d in
    climbed has R t c g rg d (climb has R t c m (t.parent g) (t.up g rg d) k (omega arith)
    (same_or_not (t.parent g) t.root) (same_or_not (has (t.parent (t.parent g)) c) 1))

-- no edge beside a leaf that is a top leads up to another top
leaf_alone : (has : ℕ → ℕ → ℕ) (R : ℕ → Type 0) (t : Tree has R) (e : ℕ) → R e →
    ((k : ℕ) → R k → k ≢ t.root → t.parent k ≢ e) → (c g : ℕ) → g ≢ e → Top has t.root t.parent c e →
    ((h : ℕ) × R h × Top has t.root t.parent c h ×
    ((h ≡ g) ⊎ ((k : ℕ) × R k × (k ≢ t.root) × (t.parent k ≡ h)))) → has (t.parent e) c ≡ 1
leaf_alone has R t e re leaf c g ng top (h, rh, other, inl s) =
    absurd (ng (sym s ∙ t.connected c h e rh re other top))
leaf_alone has R t e re leaf c g ng top (h, rh, other, inr (k, rk, nk, is)) =
    absurd (leaf k rk nk (is ∙ t.connected c h e rh re other top))

leaf_serves : (has : ℕ → ℕ → ℕ) (R : ℕ → Type 0) (t : Tree has R) (e : ℕ) → R e → e ≢ t.root →
    ((k : ℕ) → R k → k ≢ t.root → t.parent k ≢ e) → (c g : ℕ) → R g → g ≢ e → has e c ≡ 1 → has g c ≡ 1 →
    (has (t.parent e) c ≡ 1) ⊎ (has (t.parent e) c ≢ 1) → has (t.parent e) c ≡ 1
leaf_serves has R t e re ne leaf c g rg ng held also (inl k) = k
leaf_serves has R t e re ne leaf c g rg ng held also (inr k) =
    leaf_alone has R t e re leaf c g ng (record { holds = held; lacks = λ _. k })
    (climb has R t c (t.rank g) g rg also (le_refl (t.rank g)) (same_or_not g t.root)
    (same_or_not (has (t.parent g) c) 1))

-- an edge is an ear if it is not the root and no edge has it as its parent
leaf_is_ear : (has : ℕ → ℕ → ℕ) (R : ℕ → Type 0) (t : Tree has R) (e : ℕ) → R e → e ≢ t.root →
    ((k : ℕ) → R k → k ≢ t.root → t.parent k ≢ e) → Served has R e (t.parent e)
leaf_is_ear has R t e re ne leaf = record {
  ear = re;
  parent_remains = t.up e re ne;
  apart = λ q. not_below e (t.parent e) t.rank q (t.falls e re ne);
  serves = λ c g rg ng held also. leaf_serves has R t e re ne leaf c g rg ng held also
      (same_or_not (has (t.parent e) c) 1);
}

lower_or_not : (a b : ℕ) → (a ≤ b) ⊎ (b ≤ a)
lower_or_not a b = grind arith

deeper_of : (rank : ℕ → ℕ) (x : ℕ) (xs : List ℕ) (e : ℕ) → Contains xs e →
    ((g : ℕ) → Contains xs g → rank g ≤ rank e) → (rank x ≤ rank e) ⊎ (rank e ≤ rank x) →
    (e : ℕ) × Contains (x ∷ xs) e × ((g : ℕ) → Contains (x ∷ xs) g → rank g ≤ rank e)
deeper_of rank x xs e re most (inl low) = (
  e,
  there x e xs re,
  λ g h. elim (cons_cases x xs g h) [
    | inl s ↦ (let at : rank g ≡ rank x = ap rank s in
        omega arith)
    | inr k ↦ most g k
  ],
)
deeper_of rank x xs e re most (inr high) = (
  x,
  here x xs,
  λ g h. elim (cons_cases x xs g h) [
    | inl s ↦ (let at : rank g ≡ rank x = ap rank s in
        omega arith)
    | inr k ↦ (let low = most g k in omega arith)
  ],
)

deeper : (rank : ℕ → ℕ) (x : ℕ) (xs : List ℕ) →
    ((e : ℕ) × Contains xs e × ((g : ℕ) → Contains xs g → rank g ≤ rank e)) → (e : ℕ) × Contains (x ∷ xs) e ×
    ((g : ℕ) → Contains (x ∷ xs) g → rank g ≤ rank e)
deeper rank x xs (e, re, most) = deeper_of rank x xs e re most (lower_or_not (rank x) (rank e))

-- an edge of the greatest rank
pub deepest : (rank : ℕ → ℕ) (x : ℕ) (xs : List ℕ) → (e : ℕ) × Contains (x ∷ xs) e ×
    ((g : ℕ) → Contains (x ∷ xs) g → rank g ≤ rank e)
deepest rank x [] = (
  x,
  here x [],
  λ g h. elim (cons_cases x [] g h)
      [ inl s ↦ (let at : rank g ≡ rank x = ap rank s in omega arith) | inr k ↦ absurd (not_in_nil g k) ],
)
deepest rank x (y ∷ xs) = deeper rank x (y ∷ xs) (deepest rank y xs)

root_is_least : (has : ℕ → ℕ → ℕ) (R : ℕ → Type 0) (t : Tree has R) (m g : ℕ) → R g → t.rank g ≤ m →
    (g ≡ t.root) ⊎ (g ≢ t.root) → t.rank t.root ≤ t.rank g
root_is_least has R t m g rg le (inl s) = let at : t.rank g ≡ t.rank t.root = ap t.rank s in omega arith
root_is_least has R t zero g rg le (inr d) = let low = t.falls g rg d in absurd (omega arith)
root_is_least has R t (suc m) g rg le (inr d) =
    let low = t.falls g rg d in
    let up = root_is_least has R t m (t.parent g) (t.up g rg d) (omega arith)
    (same_or_not (t.parent g) t.root) in
    omega arith

no_ear : (has : ℕ → ℕ → ℕ) (R : ℕ → Type 0) (t : Tree has R) → ((e f : ℕ) → Served has R e f → ⊥) → (e : ℕ) →
    R e → ((g : ℕ) → R g → t.rank g ≤ t.rank e) → (e ≡ t.root) ⊎ (e ≢ t.root) → (g : ℕ) → R g → (g ≡ t.root) ⊎
    (g ≢ t.root) → g ≡ t.root
no_ear has R t none e re most k g rg (inl s) = s
no_ear has R t none e re most (inr n) g rg (inr d) =
    absurd (none e (t.parent e) (leaf_is_ear has R t e re n (λ k rk nk q. let low = t.falls k rk nk in
    let top = most k rk in not_below e (t.parent k) t.rank (sym q) (omega arith))))
no_ear has R t none e re most (inl s) g rg (inr d) =
    let at : t.rank e ≡ t.rank t.root = ap t.rank s in
    let low = t.falls g rg d in
    let up = root_is_least has R t (t.rank (t.parent g)) (t.parent g) (t.up g rg d)
    (le_refl (t.rank (t.parent g))) (same_or_not (t.parent g) t.root) in
    let top = most g rg in
    absurd (omega arith)

-- where no edge is an ear, the root is the only edge
pub no_ear_is_one : (has : ℕ → ℕ → ℕ) (x : ℕ) (xs : List ℕ) (t : Tree has (Contains (x ∷ xs))) →
    ((e f : ℕ) → Served has (Contains (x ∷ xs)) e f → ⊥) → (g : ℕ) → Contains (x ∷ xs) g → g ≡ t.root
no_ear_is_one has x xs t none g rg =
    let (e, re, most) = deepest t.rank x xs in
    no_ear has (Contains (x ∷ xs)) t none e re most (same_or_not e t.root) g rg (same_or_not g t.root)
