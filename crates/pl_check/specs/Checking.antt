-- What the check of two files comes to that have forms: a task, or the first fault of the forms.
use Rattle.std.specs.Prelude.{◌≡◌, ℕ, List, [], ◌++◌, length, map, Some, Result, Ok, Err, ⊤}
use Rattle.pl_text.specs.Trees.{Tree}
use Rattle.pl_task.specs.declared.task.Task.{Task}
use Rattle.pl_check.specs.declared.role.FileRole.TheVariants.{Domain, Problem}
use Rattle.pl_check.specs.declared.fault.InputFault.{InputFault}
use Rattle.pl_check.specs.declared.fault.CheckEnd.{CheckEnd}
use Rattle.pl_check.specs.declared.fault.CheckEnd.TheVariants as check_end
use Rattle.pl_check.specs.FirstFault.{in_file, first_of}
use Rattle.pl_check.specs.Files.{file_faults}
use Rattle.pl_check.specs.Known.{Known, known_of, sections}
use Rattle.pl_check.specs.Stated.{StatesTask}

-- what the forms of both files declare
abbrev pub known_by : List ℕ → List Tree → List ℕ → List Tree → Known
known_by domain in_domain problem in_problem =
    known_of domain (sections in_domain) problem (sections in_problem)

-- the faults of the forms of two files of these bytes
abbrev pub faults_by : List ℕ → List Tree → List ℕ → List Tree → List InputFault
faults_by domain in_domain problem in_problem =
    let known = known_by domain in_domain problem in_problem in
    map (in_file Domain) (file_faults Domain domain known (length domain) in_domain) ++
    map (in_file Problem) (file_faults Problem problem known (length problem) in_problem)

abbrev pub Checks : List ℕ → List Tree → List ℕ → List Tree → Result Task CheckEnd → Type 0
Checks domain in_domain problem in_problem (Ok task) =
    (faults_by domain in_domain problem in_problem ≡ []) ×
    StatesTask domain (sections in_domain) problem (sections in_problem)
    (known_by domain in_domain problem in_problem) task
Checks domain in_domain problem in_problem (Err (check_end.Fault fault)) =
    first_of (faults_by domain in_domain problem in_problem) ≡ Some fault
Checks domain in_domain problem in_problem (Err (check_end.Memory error)) = ⊤
