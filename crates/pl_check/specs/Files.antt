-- The domain and the problem as files: one `define` list each.
use Rattle.std.specs.Prelude.{◌≡◌, ℕ, Bool, true, false, not, cond, ◌&&◌, ◌==◌, List, [], ◌∷◌, ◌++◌, length}
use Rattle.std.specs.Prelude.{drop, codes, bytes_eq}
use Rattle.std.specs.List.{list_any}
use Rattle.pl_text.specs.Trees.{Tree}
use Rattle.pl_check.specs.declared.role.FileRole.{FileRole}
use Rattle.pl_check.specs.declared.role.FileRole.TheVariants.{Domain, Problem, Plan}
use Rattle.pl_check.specs.declared.fault.FaultKind.TheVariants as kind
use Rattle.pl_check.specs.declared.reading.Fault.{Fault}
use Rattle.pl_check.specs.Words.{is_name}
use Rattle.pl_check.specs.Elements.{place, is_list, elements, head_word}
use Rattle.pl_check.specs.FaultLists.{fault_if, or_inside}
use Rattle.pl_check.specs.Known.{Known}
use Rattle.pl_check.specs.Sections.{sections_faults}

-- the word before a file's name
unfoldable pub role_word : FileRole → List ℕ
role_word Domain = codes "domain"
role_word Problem = codes "problem"
role_word Plan = []

-- `(domain N)` in the domain, `(problem N)` in the problem
unfoldable pub is_title : List ℕ → FileRole → Tree → Bool
is_title text role tree =
    (length (elements tree) == 2) && bytes_eq (head_word text (elements tree)) (role_word role) &&
    is_name (head_word text (drop 1 (elements tree)))

-- whether the first of these is a list
abbrev pub begins_with_list : List Tree → Bool
begins_with_list [] = false
begins_with_list (tree ∷ rest) = is_list tree

-- the faults of a `define` list itself
unfoldable pub define_own : List ℕ → Tree → List Fault
define_own text tree =
    fault_if (not (bytes_eq (head_word text (elements tree)) (codes "define") && begins_with_list
    (drop 1 (elements tree))))
    (place tree) kind.BadForm

-- the faults of the elements of a `define` list after the word, which are a title and sections
abbrev pub define_inside : FileRole → List ℕ → Known → List Tree → List Fault
define_inside role text known [] = []
define_inside role text known (title ∷ rest) =
    fault_if (not (is_title text role title)) (place title) kind.BadForm ++
    sections_faults role text known (record { keys = []; actions = [] }) rest

-- the faults of a file's first form: it is a list that begins with `define`
unfoldable pub form_faults : FileRole → List ℕ → Known → Tree → List Fault
form_faults role text known tree =
    cond (is_list tree)
    (or_inside (define_own text tree) (define_inside role text known (drop 1 (elements tree))))
    (fault_if true (place tree) kind.NotOneForm)

-- the fault of a second form
abbrev pub further_faults : List Tree → List Fault
further_faults [] = []
further_faults (tree ∷ rest) = fault_if true (place tree) kind.NotOneForm

-- the faults of a file with this many bytes
abbrev pub file_faults : FileRole → List ℕ → Known → ℕ → List Tree → List Fault
file_faults role text known size [] = fault_if true size kind.NotOneForm
file_faults role text known size (tree ∷ rest) = form_faults role text known tree ++ further_faults rest
