-- Atoms of a state, what a step changes, and execution in parts.
use Rattle.std.proofs.Common.{◌≡◌, ℕ, ◌<◌, true, not, ◌&&◌, ◌||◌, List, [], ◌∷◌, ◌++◌, ◌↔◌, refl, sym, ◌∙◌}
use Rattle.std.proofs.Common.{ap, subst, IsTrue, Contains, eqb-true, eq-eqb, nat_eq, length, get_or}
use Rattle.std.proofs.Math.Path.{fun_ext}
use Rattle.std.specs.Str.{bytes_eq}
use Rattle.std.proofs.lemmas.Bool.{and_parts, and_from}
use Rattle.std.proofs.lemmas.List.Folds.{Any-from_list_any, list_any-from_Any}
use Rattle.std.proofs.lemmas.Slice.Eq.{bytes_eq-Decides}
use Rattle.pl_task.specs.declared.data.Atom.{Atom}
use Rattle.pl_task.specs.declared.task.Task.{Task}
use Rattle.pl_task.specs.Instance.{Instance}
use Rattle.pl_task.specs.States.{State, is_same, state_of, changed, result_of}
use Rattle.pl_task.specs.Plans.{Executes}

-- atoms that the test calls the same are one atom
pub same_atom : (a b : Atom) → is_same a b ≡ true → a ≡ b
same_atom a b h =
    let parts = and_parts (nat_eq a.predicate b.predicate) (bytes_eq a.objects b.objects) h in
    let p : a.predicate ≡ b.predicate = eqb-true a.predicate b.predicate parts.0 in
    let o : a.objects ≡ b.objects = (bytes_eq-Decides a.objects b.objects).0 parts.1 in
    λ i. record { predicate = p i; objects = o i }

-- the test says so of an atom and itself
pub is_same-itself : (a : Atom) → is_same a a ≡ true
is_same-itself a = and_from (nat_eq a.predicate a.predicate) (bytes_eq a.objects a.objects)
    (eq-eqb a.predicate a.predicate refl) ((bytes_eq-Decides a.objects a.objects).1 refl)

-- the atoms of a list are those that are true in its state
pub state_of-members : (atoms : List Atom) (a : Atom) → IsTrue (state_of atoms a) ↔ Contains atoms a
state_of-members atoms a = (
  (λ h. found (Any-from_list_any (is_same a) atoms h)),
  (λ (k, within, is). list_any-from_Any (is_same a) atoms (k, a, within, is, is_same-itself a)),
)
  where
    found : (k : ℕ) × (x : Atom) × (k < length atoms) × (get_or atoms k x ≡ x) × (is_same a x ≡ true) →
        Contains atoms a
    found (k, x, within, is, same) = subst (Contains atoms) (sym (same_atom a x same)) (k, within, is)

-- an atom that is added is true afterwards, deleted or not
pub changed-added : (s : State) (deletes adds : List Atom) (a : Atom) → Contains adds a →
    IsTrue (changed s deletes adds a)
changed-added s deletes adds a h = ap (λ b. b || (s a && not (state_of deletes a)))
    ((state_of-members adds a).1 h)

-- states that agree on every atom are one
pub agreeing_states : (s t : State) → ((a : Atom) → s a ≡ t a) → s ≡ t
agreeing_states s t h = fun_ext h

-- steps lead to one state
pub one_end : (task : Task) (s x y : State) (steps : List Instance) → Executes task s steps x →
    Executes task s steps y → x ≡ y
one_end task s x y [] p q = sym p ∙ q
one_end task s x y (step ∷ steps) p q = one_end task (result_of task s step) x y steps p.1 q.1

-- a list of steps leads where its second part leads from where its first part leads
pub executes_parts : (task : Task) (s after : State) (first rest : List Instance) →
    Executes task s (first ++ rest) after →
    (middle : State) × Executes task s first middle × Executes task middle rest after
executes_parts task s after [] rest h = (s, refl, h)
executes_parts task s after (step ∷ first) rest h =
    let (middle, one, two) = executes_parts task (result_of task s step) after first rest h.1 in
    (middle, (h.0, one), two)

pub executes_joined : (task : Task) (s middle after : State) (first rest : List Instance) →
    Executes task s first middle → Executes task middle rest after →
    Executes task s (first ++ rest) after
executes_joined task s middle after [] rest p q = subst (λ t. Executes task t rest after) (sym p) q
executes_joined task s middle after (step ∷ first) rest p q =
    (p.0, executes_joined task (result_of task s step) middle after first rest p.1 q)
