-- The first fault of two files: a text fault of the domain, else of the problem, else the first of the faults
-- of their forms, those of the domain before those of the problem.
use Rattle.std.specs.Prelude.{◌≡◌, ℕ, ◌⊎◌, List, [], ◌∷◌, ◌++◌, length, map, Option, Some, None}
use Rattle.pl_text.specs.Trees.{Tree, Trees, members, AreTreesOf}
use Rattle.pl_text.specs.Words.{folded}
use Rattle.pl_text.specs.TextFaults.{IsGivenFault, IsFaultless}
use Rattle.pl_text.specs.declared.fault.TextFault.{TextFault}
use Rattle.pl_text.specs.declared.fault.TextFault.TheVariants as text_fault
use Rattle.pl_check.specs.declared.role.FileRole.{FileRole}
use Rattle.pl_check.specs.declared.role.FileRole.TheVariants.{Domain, Problem, Plan}
use Rattle.pl_check.specs.declared.fault.FaultKind.TheVariants as kind
use Rattle.pl_check.specs.declared.fault.InputFault.{InputFault}
use Rattle.pl_check.specs.declared.fault.CheckEnd.{CheckEnd}
use Rattle.pl_check.specs.declared.fault.CheckEnd.TheVariants as check_end
use Rattle.pl_check.specs.declared.reading.Fault.{Fault}
use Rattle.pl_check.specs.FaultLists.{first}
use Rattle.pl_check.specs.Known.{Known, known_of, sections}
use Rattle.pl_check.specs.Files.{file_faults}

-- a fault of a form as a fault of a file
abbrev pub in_file : FileRole → Fault → InputFault
in_file file fault = record { file = file; at = fault.at; kind = fault.kind }

-- a text fault as a fault of a file
abbrev pub text_in_file : FileRole → TextFault → InputFault
text_in_file file (text_fault.BadByte at) = record { file = file; at = at; kind = kind.BadByte }
text_in_file file (text_fault.StrayClose at) = record { file = file; at = at; kind = kind.StrayClose }
text_in_file file (text_fault.TooDeep at) = record { file = file; at = at; kind = kind.TooDeep }
text_in_file file (text_fault.Unclosed at) = record { file = file; at = at; kind = kind.Unclosed }

-- the forms of a file without a text fault
pub record AreRead (bytes : List ℕ) (trees : Trees) : Type 0 where
  pub faultless : IsFaultless bytes
  pub are : AreTreesOf bytes trees

-- what both files declare
abbrev pub known_in : List ℕ → Trees → List ℕ → Trees → Known
known_in domain domain_trees problem problem_trees =
    known_of (folded domain) (sections (members domain_trees)) (folded problem)
    (sections (members problem_trees))

-- The faults of the forms of two files, those of each file in reading order.
abbrev pub faults_of : List ℕ → Trees → List ℕ → Trees → List InputFault
faults_of domain domain_trees problem problem_trees =
    let known = known_in domain domain_trees problem problem_trees in
    map (in_file Domain) (file_faults Domain (folded domain) known (length domain) (members domain_trees)) ++
    map (in_file Problem) (file_faults Problem (folded problem) known (length problem)
    (members problem_trees))

-- the first of faults
abbrev pub first_of : List InputFault → Option InputFault
first_of [] = None
first_of (fault ∷ rest) = Some fault

-- the text fault of a file, as the fault of the file
pub record IsTextFaultOf (file : FileRole) (bytes : List ℕ) (fault : InputFault) : Type 0 where
  pub given : TextFault
  pub is_given : IsGivenFault bytes given
  pub is : fault ≡ text_in_file file given

-- the text fault of the problem, where the domain has none
pub record IsLaterTextFault (domain problem : List ℕ) (fault : InputFault) : Type 0 where
  pub domain_trees : Trees
  pub domain_read : AreRead domain domain_trees
  pub of_problem : IsTextFaultOf Problem problem fault

-- the first fault of the forms, where neither file has a text fault
pub record IsFormFault (domain problem : List ℕ) (fault : InputFault) : Type 0 where
  pub domain_trees : Trees
  pub problem_trees : Trees
  pub domain_read : AreRead domain domain_trees
  pub problem_read : AreRead problem problem_trees
  pub is_first : first_of (faults_of domain domain_trees problem problem_trees) ≡ Some fault

-- the first fault of two files
abbrev pub IsFirstFault : List ℕ → List ℕ → InputFault → Type 0
IsFirstFault domain problem fault =
    IsTextFaultOf Domain domain fault ⊎ IsLaterTextFault domain problem fault ⊎
    IsFormFault domain problem fault

-- how a check may end that gives no task: by the first fault, or out of memory
abbrev pub EndsBy : List ℕ → List ℕ → CheckEnd → Type 0
EndsBy domain problem (check_end.Fault fault) = IsFirstFault domain problem fault
EndsBy domain problem (check_end.Memory error) = Unit {0}
