-- How the parents and steps of the entries are kept: one list of parents, one of words with the steps laid
-- one after another, and where each step ends in it.
use Rattle.std.specs.Prelude.{◌≡◌, ℕ, ◌+◌, ◌-◌, ◌<◌, ◌≤◌, List, [], ◌∷◌, take, drop, slice_index}
use Rattle.std.specs.Prelude.{slice_index_or}
use Rattle.pl_task.specs.Instance.{Instance}
use Rattle.pl_registry.specs.SearchRecord.{no_step}

-- the number of the entry that an entry was reached from, and the step that led to it
pub record Link : Type 0 where
  pub parent : ℕ
  pub step : Instance

abbrev pub link_at : List Link → ℕ → Link
link_at links n = slice_index_or links n (record { parent = 0; step = no_step })

-- a step as words: the number of the schema, then the objects
abbrev pub step_in : List ℕ → Instance
step_in words = record { schema = slice_index words 0; args = drop 1 words }

-- the links whose steps stand in the words from `start` on, each up to its end
abbrev pub links_from : ℕ → List ℕ → List ℕ → List ℕ → List Link
links_from start [] ends words = []
links_from start (p ∷ parents) [] words = []
links_from start (p ∷ parents) (e ∷ ends) words =
    record { parent = p; step = step_in (take (e - start) (drop start words)) } ∷ links_from e parents ends
    words

-- each step has a schema and at most 64 objects, there is an end for each parent, and the last end is that of
-- the words
abbrev pub AreLaidOut : ℕ → List ℕ → List ℕ → ℕ → Type 0
AreLaidOut start [] [] total = start ≡ total
AreLaidOut start [] (e ∷ ends) total = ⊥
AreLaidOut start (p ∷ parents) [] total = ⊥
AreLaidOut start (p ∷ parents) (e ∷ ends) total = (start < e) × (e ≤ start + 65)
    × AreLaidOut e parents ends total

-- where the step of link n begins, where the first begins at `start`
abbrev pub begin_of : ℕ → List ℕ → ℕ → ℕ
begin_of start ends n = slice_index (start ∷ ends) n
