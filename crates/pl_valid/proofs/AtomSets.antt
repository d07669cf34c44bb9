-- The keys of a set of atoms as a state, and what it takes to add and to delete atoms one by one.
use Rattle.std.proofs.Common.{◌≡◌, ℕ, ◌+◌, ◌<◌, Bool, true, false, not, cond, ◌&&◌, ◌||◌, ◌==◌, List, [], ◌∷◌}
use Rattle.std.proofs.Common.{◌++◌, map, take, length, get_or, refl, sym, ◌∙◌, ap, subst, arith, nat_lt}
use Rattle.std.proofs.Math.Path.{fun_ext}
use Rattle.std.specs.List.{list_any}
use Rattle.std.proofs.lemmas.Bool.{true≢false, eqb-true, le-ltb}
use Rattle.std.proofs.lemmas.List.{map_more, take_more}
use Rattle.std.proofs.lemmas.List.Folds.{list_any-append}
use Rattle.pl_task.specs.declared.data.Atom.{Atom}
use Rattle.pl_task.specs.declared.data.Lifted.{Lifted}
use Rattle.pl_task.specs.States.{State, is_same, state_of, atom_at, changed}
use Rattle.pl_task.proofs.StateLemmas.{same_atom, is_same-itself}

both_true : (x y : Bool) → (x ≡ true → y ≡ true) → (y ≡ true → x ≡ true) → x ≡ y
both_true true y f g = sym (f refl)
both_true false true f g = g refl
both_true false false f g = refl

same_turned : (a b : Atom) → is_same a b ≡ true → is_same b a ≡ true
same_turned a b h = subst (λ (x : Atom). is_same x a ≡ true) (same_atom a b h) (is_same-itself a)

same_both_ways : (a b : Atom) → is_same a b ≡ is_same b a
same_both_ways a b = both_true (is_same a b) (is_same b a) (same_turned a b) (same_turned b a)

-- a set that differs at one atom only
turned : (old new : List Atom) (x : Atom) (b : Bool) →
    ((q : Atom) → list_any (is_same q) new ≡ cond (is_same x q) b (list_any (is_same q) old)) →
    (q : Atom) → state_of new q ≡ cond (is_same q x) b (state_of old q)
turned old new x b h q = h q ∙ ap (λ t. cond t b (state_of old q)) (same_both_ways x q)

bits_added : (b s : Bool) → cond b true s ≡ ((b || false) || (s && not false))
bits_added true true = refl
bits_added true false = refl
bits_added false true = refl
bits_added false false = refl

bits_deleted : (b s : Bool) → cond b false s ≡ (false || (s && not (b || false)))
bits_deleted true true = refl
bits_deleted true false = refl
bits_deleted false true = refl
bits_deleted false false = refl

pub added_one : (old new : List Atom) (x : Atom) →
    ((q : Atom) → list_any (is_same q) new ≡ cond (is_same x q) true (list_any (is_same q) old)) →
    state_of new ≡ changed (state_of old) [] (x ∷ [])
added_one old new x h = fun_ext (λ q. turned old new x true h q ∙ bits_added (is_same q x) (state_of old q))

pub deleted_one : (old new : List Atom) (x : Atom) →
    ((q : Atom) → list_any (is_same q) new ≡ cond (is_same x q) false (list_any (is_same q) old)) →
    state_of new ≡ changed (state_of old) (x ∷ []) []
deleted_one old new x h = fun_ext (λ q. turned old new x false h q ∙
    bits_deleted (is_same q x) (state_of old q))

-- nothing deleted and nothing added
bits_same : (s : Bool) → s ≡ (false || (s && not false))
bits_same true = refl
bits_same false = refl

pub changed-nothing : (s : State) → s ≡ changed s [] []
changed-nothing s = fun_ext (λ q. bits_same (s q))

bits_delete_more : (s d b : Bool) → (false || ((false || (s && not d)) && not (b || false))) ≡
    (false || (s && not (d || (b || false))))
bits_delete_more true true true = refl
bits_delete_more true true false = refl
bits_delete_more true false true = refl
bits_delete_more true false false = refl
bits_delete_more false true true = refl
bits_delete_more false true false = refl
bits_delete_more false false true = refl
bits_delete_more false false false = refl

delete_more : (s : State) (deletes : List Atom) (x : Atom) →
    changed (changed s deletes []) (x ∷ []) [] ≡ changed s (deletes ++ x ∷ []) []
delete_more s deletes x = fun_ext (λ q. bits_delete_more (s q) (state_of deletes q) (is_same q x) ∙
    ap (λ t. false || (s q && not t)) (sym (list_any-append (is_same q) deletes (x ∷ []))))

bits_add_more : (s a b : Bool) → ((b || false) || ((a || (s && not false)) && not false)) ≡
    ((a || (b || false)) || (s && not false))
bits_add_more true true true = refl
bits_add_more true true false = refl
bits_add_more true false true = refl
bits_add_more true false false = refl
bits_add_more false true true = refl
bits_add_more false true false = refl
bits_add_more false false true = refl
bits_add_more false false false = refl

add_more : (s : State) (adds : List Atom) (x : Atom) →
    changed (changed s [] adds) [] (x ∷ []) ≡ changed s [] (adds ++ x ∷ [])
add_more s adds x = fun_ext (λ q. bits_add_more (s q) (state_of adds q) (is_same q x) ∙
    ap (λ t. t || (s q && not false)) (sym (list_any-append (is_same q) adds (x ∷ []))))

bits_in_turn : (s d a : Bool) → (a || ((false || (s && not d)) && not false)) ≡ (a || (s && not d))
bits_in_turn true true true = refl
bits_in_turn true true false = refl
bits_in_turn true false true = refl
bits_in_turn true false false = refl
bits_in_turn false true true = refl
bits_in_turn false true false = refl
bits_in_turn false false true = refl
bits_in_turn false false false = refl

-- the deletes first, then the adds
pub changed-in_turn : (s : State) (deletes adds : List Atom) →
    changed (changed s deletes []) [] adds ≡ changed s deletes adds
changed-in_turn s deletes adds = fun_ext (λ q. bits_in_turn (s q) (state_of deletes q) (state_of adds q))

bits_listed : (s b : Bool) → ((b || false) || (s && not false)) ≡ (s || (b || false))
bits_listed true true = refl
bits_listed true false = refl
bits_listed false true = refl
bits_listed false false = refl

-- an atom more in a list of atoms
pub state_of-push : (atoms : List Atom) (x : Atom) →
    changed (state_of atoms) [] (x ∷ []) ≡ state_of (atoms ++ x ∷ [])
state_of-push atoms x = fun_ext (λ q. bits_listed (state_of atoms q) (is_same q x) ∙
    sym (list_any-append (is_same q) atoms (x ∷ [])))

-- one effect more is deleted
pub deleted_more : (s before after : State) (args : List ℕ) (effects : List Lifted) (i : ℕ) (effect : Lifted)
    (x : Atom) → i < length effects →
    effect ≡ get_or effects i effect → x ≡ atom_at args effect →
    before ≡ changed s (map (atom_at args) (take i effects)) [] →
    after ≡ changed before (x ∷ []) [] → after ≡ changed s (map (atom_at args) (take (i + 1) effects)) []
deleted_more s before after args effects i effect x within reads is held h =
    h ∙ ap (λ (t : State). changed t (x ∷ []) []) held ∙
    ap (λ (y : Atom). changed (changed s (map (atom_at args) (take i effects)) []) (y ∷ []) [])
    (is ∙ ap (atom_at args) reads) ∙
    delete_more s (map (atom_at args) (take i effects)) (atom_at args (get_or effects i effect)) ∙
    ap (λ (l : List Atom). changed s l []) (sym (map_more (atom_at args) effects i effect within))

-- one effect more is added
pub added_more : (s before after : State) (args : List ℕ) (effects : List Lifted) (i : ℕ) (effect : Lifted)
    (x : Atom) → i < length effects →
    effect ≡ get_or effects i effect → x ≡ atom_at args effect →
    before ≡ changed s [] (map (atom_at args) (take i effects)) →
    after ≡ changed before [] (x ∷ []) → after ≡ changed s [] (map (atom_at args) (take (i + 1) effects))
added_more s before after args effects i effect x within reads is held h =
    h ∙ ap (λ (t : State). changed t [] (x ∷ [])) held ∙
    ap (λ (y : Atom). changed (changed s [] (map (atom_at args) (take i effects))) [] (y ∷ []))
    (is ∙ ap (atom_at args) reads) ∙
    add_more s (map (atom_at args) (take i effects)) (atom_at args (get_or effects i effect)) ∙
    ap (λ (l : List Atom). changed s [] l) (sym (map_more (atom_at args) effects i effect within))

-- one atom more of the initial state is listed
pub listed_more : (before after : State) (init atoms : List Atom) (i : ℕ) (atom x : Atom) →
    atoms ≡ init → i < length atoms →
    atom ≡ get_or atoms i atom → x ≡ atom → before ≡ state_of (take i init) →
    after ≡ changed before [] (x ∷ []) → after ≡ state_of (take (i + 1) init)
listed_more before after init atoms i atom x are within reads is held h =
    h ∙ ap (λ (t : State). changed t [] (x ∷ []))
    (held ∙ ap (λ (l : List Atom). state_of (take i l)) (sym are)) ∙
    ap (λ (y : Atom). changed (state_of (take i atoms)) [] (y ∷ [])) (is ∙ reads) ∙
    state_of-push (take i atoms) (get_or atoms i atom) ∙
    ap state_of (sym (take_more atoms i atom within)) ∙
    ap (λ (l : List Atom). state_of (take (i + 1) l)) are
