-- What the answers begin with, and how many values they have.
use Rattle.std.proofs.Common.{◌≡◌, ◌+◌, ◌≤◌, true, ℕ, List, [], ◌∷◌, ◌++◌, length, get_or, take, drop, All}
use Rattle.std.proofs.Common.{Contains, refl, sym, ap, ◌∙◌, arith, slice_index}
use Rattle.std.proofs.lemmas.List.{length-append, length-drop, length-map, take-take, take_at, take_all}
use Rattle.std.proofs.lemmas.List.{take-append-drop}
use Rattle.std.proofs.lemmas.List.Elements.{All-contains, Contains-get_or}
use Rattle.std.proofs.lemmas.Slice.Eq.{bytes_eq-Decides}
use Rattle.pl_rows.specs.Rows.{begins_with}
use Rattle.pl_join.proofs.Members.{Contains-from_filter}
use Rattle.pl_cursor.specs.Answers.{Stage, IsStage, AreStages, answers, matching, grown, key_of, IsAnswer}
use Rattle.pl_cursor.proofs.Chains.{members}

-- ---- a row that goes on with values

-- it is the key, and then what it brings
pub begins-split : (key row : List ℕ) → begins_with key row ≡ true → key ++ drop (length key) row ≡ row
begins-split key row h =
    let front : take (length key) row ≡ key = (bytes_eq-Decides (take (length key) row) key).0 h in
    ap (λ k. k ++ drop (length key) row) (sym front) ∙ take-append-drop (length key) row

pub length-key_of : (keys values : List ℕ) → length (key_of keys values) ≡ length keys
length-key_of keys values = length-map keys (slice_index values)

pub matching-split : (stage : Stage) (values row : List ℕ) → Contains (matching stage values) row
    → key_of stage.keys values ++ drop (length stage.keys) row ≡ row
matching-split stage values row h =
    let (held, begins) = Contains-from_filter (begins_with (key_of stage.keys values)) stage.rows row h in
    ap (λ k. key_of stage.keys values ++ drop k row) (sym (length-key_of stage.keys values))
    ∙ begins-split (key_of stage.keys values) row begins

pub length-matching : (stage : Stage) (before brought : ℕ) (values row : List ℕ)
    → IsStage stage before brought → Contains (matching stage values) row
    → length row ≡ length stage.keys + brought
length-matching stage before brought values row is h =
    let (held, begins) = Contains-from_filter (begins_with (key_of stage.keys values)) stage.rows row h in
    All-contains (λ r. length r ≡ length stage.keys + brought) stage.rows row is.rows.width held

-- a row of a stage brings so many values
pub length-grown : (stage : Stage) (before brought : ℕ) (values row : List ℕ) → length values ≡ before
    → length row ≡ length stage.keys + brought → length (grown stage values row) ≡ before + brought
length-grown stage before brought values row long wide =
    omega (arith, length-append values (drop (length stage.keys) row), length-drop (length stage.keys) row)

pub length-grown_matching : (stage : Stage) (before brought : ℕ) (values row : List ℕ)
    → IsStage stage before brought → length values ≡ before → Contains (matching stage values) row
    → length (grown stage values row) ≡ before + brought
length-grown_matching stage before brought values row is long h =
    length-grown stage before brought values row long (length-matching stage before brought values row is h)

-- ---- an answer

-- it begins with the values
pub chain-front : (stages : List Stage) (values answer : List ℕ) → IsAnswer stages values answer
    → take (length values) answer ≡ values
chain-front [] values answer e = ap (take (length values)) e ∙ take_all (length values) values (omega arith)
chain-front (stage ∷ stages) values answer (row, held, rest) =
    let brings : List ℕ = drop (length stage.keys) row in
    let front : take (length (values ++ brings)) answer ≡ values
    ++ brings = chain-front stages (values ++ brings) answer rest in
    let shorter : length values ≤ length (values ++ brings) = omega (arith, length-append values brings) in
    sym (take-take (length values) (length (values ++ brings)) answer shorter)
    ∙ ap (take (length values)) front ∙ take_at values brings (length values) refl

-- and has as many values as stand at the end
pub chain-length : (stages : List Stage) (before width : ℕ) (values answer : List ℕ)
    → AreStages stages before width → length values ≡ before → IsAnswer stages values answer
    → length answer ≡ width
chain-length [] before width values answer are long e = ap length e ∙ long ∙ are
chain-length (stage ∷ stages) before width values answer (brought, is, follow) long (row, held, rest) =
    chain-length stages (before + brought) width (grown stage values row) answer follow
    (length-grown_matching stage before brought values row is long held) rest

-- ---- the answers

pub front : (stages : List Stage) (values : List ℕ) → All (λ answer. take (length values) answer ≡ values)
    (answers stages values)
front stages values k d l =
    chain-front stages values (get_or (answers stages values) k d)
    ((members stages values (get_or (answers stages values) k d)).0
    (Contains-get_or (answers stages values) k d l))

pub length_answers : (stages : List Stage) (before width : ℕ) (values : List ℕ)
    → AreStages stages before width → length values ≡ before
    → All (λ answer. length answer ≡ width) (answers stages values)
length_answers stages before width values are long k d l =
    chain-length stages before width values (get_or (answers stages values) k d) are long
    ((members stages values (get_or (answers stages values) k d)).0
    (Contains-get_or (answers stages values) k d l))
