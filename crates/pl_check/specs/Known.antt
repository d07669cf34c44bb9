-- What both files declare, collected before any test, whatever faults stand in or around the declarations.
use Rattle.std.specs.Prelude.{◌≡◌, ℕ, Bool, not, ◌&&◌, List, [], ◌∷◌, ◌++◌, cond, map, filter, drop, codes}
use Rattle.std.specs.Prelude.{bytes_eq}
use Rattle.std.specs.List.{flat_map}
use Rattle.pl_names.specs.Names.{first_appearances}
use Rattle.pl_text.specs.Trees.{Tree}
use Rattle.pl_check.specs.Words.{is_name}
use Rattle.pl_check.specs.Elements.{word_of, elements, head_word}
use Rattle.pl_check.specs.TypedLists.{item_names}
use Rattle.pl_check.specs.Predicates.{declared_name, declared_arity, declarations}

-- the sections of a file: from the third element of its first form on
unfoldable pub sections : List Tree → List Tree
sections [] = []
sections (file ∷ rest) = drop 2 (elements file)

-- whether a section has this key
abbrev pub has_key : List ℕ → List ℕ → Tree → Bool
has_key text key section = bytes_eq (head_word text (elements section)) key

-- the elements after the key of the first section that has it, and none where no section has it
abbrev pub first_section : List ℕ → List ℕ → List Tree → List Tree
first_section text key [] = []
first_section text key (section ∷ rest) =
    cond (has_key text key section) (drop 1 (elements section)) (first_section text key rest)

-- the sections of this key
abbrev pub sections_of : List ℕ → List ℕ → List Tree → List Tree
sections_of text key list = filter (has_key text key) list

-- what stands after the key in the sections of this key, of which a file without a fault has one at most
abbrev pub all_after : List ℕ → List ℕ → List Tree → List Tree
all_after text key list = flat_map (λ section. drop 1 (elements section)) (sections_of text key list)

-- the names of types: `object`, and the names in `:types` on either side of `-`, by first appearance
unfoldable pub type_names : List ℕ → List Tree → List (List ℕ)
type_names text list =
    first_appearances (codes "object" ∷ filter is_name
    (map (word_of text) (first_section text (codes ":types") list)))

-- the names in item position of `:constants` and `:objects`, in their order
unfoldable pub object_occurrences : List ℕ → List Tree → List ℕ → List Tree → List (List ℕ)
object_occurrences domain domain_sections problem problem_sections =
    item_names domain (first_section domain (codes ":constants") domain_sections) ++
    item_names problem (first_section problem (codes ":objects") problem_sections)

-- What is known of both files: the names of types, of objects and of predicates with their numbers of
-- arguments. A name means the first that has it, so a predicate that is declared twice has the arguments of
-- its first declaration.
pub record Known : Type 0 where
  pub types : List (List ℕ)
  pub objects : List (List ℕ)
  pub predicates : List (List ℕ)
  pub arities : List ℕ

-- what the sections of a domain and of a problem declare
abbrev pub known_of : List ℕ → List Tree → List ℕ → List Tree → Known
known_of domain domain_sections problem problem_sections =
    let declared = declarations domain (first_section domain (codes ":predicates") domain_sections) in
    record {
      types = type_names domain domain_sections;
      objects = first_appearances (object_occurrences domain domain_sections problem problem_sections);
      predicates = map (declared_name domain) declared;
      arities = map (declared_arity domain) declared;
    }
