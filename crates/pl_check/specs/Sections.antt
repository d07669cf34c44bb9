-- Sections: the further elements of a file's `define` list.
use Rattle.std.specs.Prelude.{◌≡◌, ℕ, Bool, true, false, not, cond, ◌&&◌, ◌||◌, ◌==◌, ◌%◌, List, [], ◌∷◌}
use Rattle.std.specs.Prelude.{◌++◌, length, drop, nat_lt, nat_le, codes, bytes_eq}
use Rattle.std.specs.List.{list_any, flat_map}
use Rattle.pl_text.specs.Trees.{Tree}
use Rattle.pl_check.specs.declared.role.FileRole.{FileRole}
use Rattle.pl_check.specs.declared.role.FileRole.TheVariants.{Domain, Problem, Plan}
use Rattle.pl_check.specs.declared.fault.FaultKind.TheVariants as kind
use Rattle.pl_check.specs.declared.reading.Fault.{Fault}
use Rattle.pl_check.specs.declared.typed.TypedRole.TheVariants.{Names}
use Rattle.pl_check.specs.Words.{is_key, is_name}
use Rattle.pl_check.specs.Elements.{place, is_list, elements, head_word}
use Rattle.pl_check.specs.FaultLists.{fault_if, or_inside}
use Rattle.pl_check.specs.TypedLists.{typed_faults, at_start}
use Rattle.pl_check.specs.Predicates.{predicates_faults}
use Rattle.pl_check.specs.Known.{Known}
use Rattle.pl_check.specs.Terms.{Scope, basic_faults}
use Rattle.pl_check.specs.Conditions.{effect_faults}
use Rattle.pl_check.specs.Actions.{action_name, action_faults}

-- the keys of the sections of a file
unfoldable pub section_keys : FileRole → List (List ℕ)
section_keys Domain =
    codes ":requirements" ∷ codes ":types" ∷ codes ":constants" ∷ codes ":predicates" ∷ codes ":action" ∷ []
section_keys Problem = codes ":domain" ∷ codes ":requirements" ∷ codes ":objects" ∷ codes
    ":init" ∷ codes ":goal" ∷ []
section_keys Plan = []

-- `(:domain N)`
unfoldable pub is_domain_name : List ℕ → List Tree → Bool
is_domain_name text list = (length list == 2) && is_name (head_word text (drop 1 list))

-- `(:action N ..)` with pairs after the name
unfoldable pub is_action_form : List ℕ → List Tree → Bool
is_action_form text list = is_name (head_word text (drop 1 list)) && (length list % 2 == 0)

-- whether a section of these elements has the shape that its key asks for, in whichever file it stands
unfoldable pub has_shape : List ℕ → List Tree → Bool
has_shape text list =
    let key = head_word text list in
    cond (bytes_eq key (codes ":domain")) (is_domain_name text list)
    (cond (bytes_eq key (codes ":goal")) (nat_le (length list) 2)
    (cond (bytes_eq key (codes ":action")) (is_action_form text list) true))

-- what stands before a section: the keys of the sections other than actions, and the names of the actions
pub record Earlier : Type 0 where
  pub keys : List (List ℕ)
  pub actions : List (List ℕ)

abbrev pub is_action : List ℕ → Tree → Bool
is_action text section = bytes_eq (head_word text (elements section)) (codes ":action")

-- what stands before the next section
abbrev pub earlier_after : List ℕ → Tree → Earlier → Earlier
earlier_after text section earlier =
    cond (is_action text section)
    (record { keys = earlier.keys; actions = earlier.actions ++ action_name text section ∷ [] })
    (record { keys = earlier.keys ++ head_word text (elements section) ∷ []; actions = earlier.actions })

-- the faults of a section itself
unfoldable pub section_own : List ℕ → FileRole → List (List ℕ) → Tree → List Fault
section_own text role earlier section =
    let key = head_word text (elements section) in
    cond (is_key key)
    (fault_if (not (has_shape text (elements section))) (place section) kind.BadForm ++
    fault_if (not (list_any (bytes_eq key) (section_keys role))) (place section) kind.Unsupported ++
    fault_if (list_any (bytes_eq key) earlier) (place section) kind.Duplicate)
    (fault_if true (place section) kind.BadForm)

-- the faults of an element of `:requirements`
unfoldable pub requirement_faults : Tree → List Fault
requirement_faults tree = fault_if (is_list tree) (place tree) kind.BadForm

-- the faults of the elements after the key of a section of the domain that isn't an action
unfoldable pub domain_inside : List ℕ → Known → List ℕ → List Tree → List Fault
domain_inside text known key list =
    cond (bytes_eq key (codes ":requirements")) (flat_map requirement_faults list)
    (cond (bytes_eq key (codes ":types") || bytes_eq key (codes ":constants"))
    (typed_faults text known.types Names at_start list)
    (cond (bytes_eq key (codes ":predicates")) (predicates_faults text known.types [] list) []))

-- the faults inside a section of the domain
unfoldable pub domain_section : List ℕ → Known → Earlier → Tree → List Fault
domain_section text known earlier section =
    cond (is_action text section) (action_faults text known earlier.actions section)
    (domain_inside text known (head_word text (elements section)) (drop 1 (elements section)))

-- the faults of the elements after the key of a section of the problem
unfoldable pub problem_inside : Scope → List ℕ → List Tree → List Fault
problem_inside scope key list =
    cond (bytes_eq key (codes ":requirements")) (flat_map requirement_faults list)
    (cond (bytes_eq key (codes ":objects")) (typed_faults scope.text scope.known.types Names at_start list)
    (cond (bytes_eq key (codes ":init")) (flat_map (basic_faults scope false) list)
    (cond (bytes_eq key (codes ":goal")) (flat_map (effect_faults scope) list) [])))

-- the scope of a problem, where there are no parameters
abbrev pub problem_scope : List ℕ → Known → Scope
problem_scope text known = record { text = text; known = known; parameters = [] }

-- the faults inside a section of the problem
unfoldable pub problem_section : List ℕ → Known → Tree → List Fault
problem_section text known section =
    problem_inside (problem_scope text known) (head_word text (elements section)) (drop 1 (elements section))

-- the faults inside a section of a file
abbrev pub section_inside : FileRole → List ℕ → Known → Earlier → Tree → List Fault
section_inside Domain text known earlier section = domain_section text known earlier section
section_inside Problem text known earlier section = problem_section text known section
section_inside Plan text known earlier section = []

-- the faults of sections
abbrev pub sections_faults : FileRole → List ℕ → Known → Earlier → List Tree → List Fault
sections_faults role text known earlier [] = []
sections_faults role text known earlier (section ∷ rest) =
    or_inside (section_own text role earlier.keys section) (section_inside role text known earlier section) ++
    sections_faults role text known (earlier_after text section earlier) rest
