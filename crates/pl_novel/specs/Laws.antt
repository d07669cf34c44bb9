-- Laws of noted sets, carried by the functions of the module `laws`.
use Rattle.std.specs.Prelude.{◌≡◌, ◌↔◌, ◌≤◌, List, [], ◌∷◌, ◌++◌, Any}
use Rattle.pl_task.specs.declared.data.Atom.{Atom}
use Rattle.pl_task.specs.declared.task.Task.{Task}
use Rattle.pl_task.specs.States.{State}
use Rattle.pl_registry.specs.Novelty.{IsNovel}
use Rattle.pl_novel.specs.AtomSets.{IsSetOf}
use Rattle.pl_novel.specs.Noting.{Noted, IsNoted, HasNewSet, NotesState}

-- noted are exactly the sets of fluent atoms that are together in one of the states seen
abbrev pub AreSetsSeen : Task → Noted → List State → Type 0
AreSetsSeen task noted seen = (set : List Atom) → IsNoted noted set
    ↔ Any (λ s. IsSetOf task noted.width s set) seen

-- where these are noted, a state has a set that is not exactly where it is new under the width
abbrev pub NewSetsAreNovel : Task → Type 0
NewSetsAreNovel task = (noted : Noted) (seen : List State) (s : State) → 1 ≤ noted.width → noted.width ≤ 2
    → AreSetsSeen task noted seen →
    HasNewSet task noted s ↔ IsNovel task noted.width seen s

-- noting a state is seeing it
abbrev pub NotingIsSeeing : Task → Type 0
NotingIsSeeing task = (old new : Noted) (seen : List State) (s : State) → AreSetsSeen task old seen
    → NotesState task s old new →
    AreSetsSeen task new (s ∷ seen) × AreSetsSeen task new (seen ++ s ∷ [])

-- where nothing is noted, nothing was seen
abbrev pub NothingIsSeen : Task → Type 0
NothingIsSeen task = (noted : Noted) → noted.sets ≡ [] → AreSetsSeen task noted []
