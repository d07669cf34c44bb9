-- What the opening of a file comes to: its sections, which are left to be tested, or its first fault.
use Rattle.std.specs.Prelude.{◌≡◌, ℕ, List, [], ◌++◌, drop, length, Some, Result, Ok, Err}
use Rattle.std.specs.Borrow.{Bor}
use Rattle.pl_text.specs.declared.form.Form.{Form}
use Rattle.pl_text.specs.Trees.{Tree}
use Rattle.pl_check.specs.declared.role.FileRole.{FileRole}
use Rattle.pl_check.specs.declared.reading.ReadEnd.{ReadEnd}
use Rattle.pl_check.specs.declared.reading.ReadEnd.TheVariants as read_end
use Rattle.pl_check.specs.Elements.{trees}
use Rattle.pl_check.specs.FaultLists.{first}
use Rattle.pl_check.specs.Elements.{elements}
use Rattle.pl_check.specs.Files.{define_inside, form_faults, file_faults, further_faults}
use Rattle.pl_check.specs.Known.{Known, sections}
use Rattle.pl_check.specs.Sections.{Earlier, sections_faults}

-- before the first section
abbrev pub no_section : Earlier
no_section = record { keys = []; actions = [] }

-- the elements of a `define` list after the word: the sections are left, or the title has a fault
abbrev pub OpensTitle : FileRole → List ℕ → Known → List Tree → Result (Bor (List Form)) ReadEnd → Type 0
OpensTitle role text known all (Ok found) =
    (trees found.now ≡ drop 1 all) ×
    (first (define_inside role text known all) ≡ first
    (sections_faults role text known no_section (trees found.now)))
OpensTitle role text known all (Err (read_end.Fault fault)) =
    first (define_inside role text known all) ≡ Some fault
OpensTitle role text known all (Err (read_end.Memory error)) = ⊥

-- the first form of a file: the sections are left, or the form itself or its title has a fault
abbrev pub OpensForm : FileRole → List ℕ → Known → Tree → Result (Bor (List Form)) ReadEnd → Type 0
OpensForm role text known tree (Ok found) =
    (trees found.now ≡ drop 1 (drop 1 (elements tree))) ×
    (first (form_faults role text known tree) ≡ first
    (sections_faults role text known no_section (trees found.now)))
OpensForm role text known tree (Err (read_end.Fault fault)) =
    first (form_faults role text known tree) ≡ Some fault
OpensForm role text known tree (Err (read_end.Memory error)) = ⊥

-- the first fault is that of the sections, and then that of a second form
pub record AreLeft (role : FileRole) (text : List ℕ) (known : Known) (all : List Tree) (found : List Tree) :
    Type 0 where
  pub are : found ≡ sections all
  pub decide : first (file_faults role text known (length text) all) ≡
      first (sections_faults role text known (record { keys = []; actions = [] }) found ++
      further_faults (drop 1 all))

abbrev pub Opens : FileRole → List ℕ → Known → List Tree → Result (Bor (List Form)) ReadEnd → Type 0
Opens role text known all (Ok found) = AreLeft role text known all (trees found.now)
Opens role text known all (Err (read_end.Fault fault)) =
    first (file_faults role text known (length text) all) ≡ Some fault
Opens role text known all (Err (read_end.Memory error)) = ⊥
