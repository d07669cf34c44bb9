-- What a list of words asks for.
use Rattle.std.specs.Prelude.{ℕ, Bool, true, false, not, ◌&&◌, cond, List, [], ◌∷◌, map, Option, Some, None}
use Rattle.std.specs.Prelude.{is_some, codes, bytes_eq, nat_eq, nat_le, decimal}
use Rattle.std.specs.List.{starts_with}
use Rattle.std.specs.Option.{option_map}
use Rattle.std.specs.Str.Parse.{digits_value}
use Rattle.pl_check.specs.declared.role.FileRole.{FileRole}
use Rattle.pl_check.specs.declared.role.FileRole.TheVariants.{Domain, Problem, Plan}
use Rattle.pl_make.specs.declared.kind.Kind.{Kind}
use Rattle.pl_make.specs.declared.kind.Kind.TheVariants.{Hop, Wide}
use Rattle.pl_registry.specs.declared.search.Search.{Search}
use Rattle.pl_registry.specs.declared.search.Search.TheVariants as search

-- the options of `successors`: the steps after a plan, past a step, and at most so many
pub record Options : Type 0 where
  -- the name of the plan file
  pub after : Option (List ℕ)
  -- the text of the step
  pub past : Option (List ℕ)
  pub count : Option ℕ

-- the options of `plan`: by which search, with how many states at most, and whether what it counted is
-- printed
pub record PlanOptions : Type 0 where
  pub search : Option Search
  pub limit : Option ℕ
  pub stats : Bool

-- a request, by the names of its files, or by what is made
pub data Request : Type 0 where
  -- judge a plan: a domain, a problem, a plan
  Validate : List ℕ → List ℕ → List ℕ → Request
  -- list applicable steps: a domain, a problem, and the options
  Successors : List ℕ → List ℕ → Options → Request
  -- find a plan: a domain, a problem, and the options
  FindPlan : List ℕ → List ℕ → PlanOptions → Request
  -- make a task and find a plan of it: a kind, a size, and what is drawn from
  Make : Kind → ℕ → ℕ → Request

-- a file name is any word that doesn't begin with `--`
abbrev pub is_file_name : List ℕ → Bool
is_file_name word = not (starts_with nat_eq word (codes "--"))

-- whether a word is the decimal text, without leading zeros, of a number up to 4,294,967,295
abbrev pub is_count : List ℕ → Bool
is_count word = nat_le (digits_value 10 word) 4294967295 && bytes_eq word (decimal (digits_value 10 word))

-- the number of which the word is such a text
abbrev pub count_of : List ℕ → Option ℕ
count_of word = cond (is_count word) (Some (digits_value 10 word)) None

-- none of the options
abbrev pub no_options : Options
no_options = record { after = None; past = None; count = None }

abbrev pub with_after : Options → List ℕ → Option Options
with_after options name = cond (not (is_some options.after) && is_file_name name)
    (Some (record { after = Some name; past = options.past; count = options.count })) None

abbrev pub with_past : Options → List ℕ → Option Options
with_past options text = cond (not (is_some options.past))
    (Some (record { after = options.after; past = Some text; count = options.count })) None

abbrev pub with_count : Options → List ℕ → Option Options
with_count options word = cond (is_some options.count) None
    (option_map (λ n. record { after = options.after; past = options.past; count = Some n }) (count_of word))

-- the options with a further one; none where it stood before, isn't one, or has no value of its kind
abbrev pub with_option : Options → List ℕ → List ℕ → Option Options
with_option options name value =
    cond (bytes_eq name (codes "--after")) (with_after options value)
    (cond (bytes_eq name (codes "--past")) (with_past options value)
    (cond (bytes_eq name (codes "--count")) (with_count options value) None))

-- the options with those that the words are, in pairs of a name and a value
abbrev pub with_all : List (List ℕ) → Option Options → Option Options
with_all words None = None
with_all [] (Some options) = Some options
with_all (name ∷ []) (Some options) = None
with_all (name ∷ value ∷ words) (Some options) = with_all words (with_option options name value)

-- none of the options
abbrev pub no_plan_options : PlanOptions
no_plan_options = record { search = None; limit = None; stats = false }

-- the search that a word names
abbrev pub search_named : List ℕ → Option Search
search_named word =
    cond (bytes_eq word (codes "bfs")) (Some search.Bfs)
    (cond (bytes_eq word (codes "gbfs")) (Some search.Gbfs)
    (cond (bytes_eq word (codes "iw1")) (Some search.Iw1)
    (cond (bytes_eq word (codes "iw2")) (Some search.Iw2) None)))

-- whether a search can have this limit
abbrev pub is_limit : ℕ → Bool
is_limit n = nat_le 1 n && nat_le n 4294967294

abbrev pub limit_within : Option ℕ → Option ℕ
limit_within None = None
limit_within (Some n) = cond (is_limit n) (Some n) None

abbrev pub with_search : PlanOptions → List ℕ → Option PlanOptions
with_search options word = cond (is_some options.search) None
    (option_map (λ s. record { search = Some s; limit = options.limit; stats = options.stats })
    (search_named word))

abbrev pub with_limit : PlanOptions → List ℕ → Option PlanOptions
with_limit options word = cond (is_some options.limit) None
    (option_map (λ n. record { search = options.search; limit = Some n; stats = options.stats })
    (limit_within (count_of word)))

abbrev pub with_stats : PlanOptions → Option PlanOptions
with_stats options =
    cond options.stats None (Some (record { search = options.search; limit = options.limit; stats = true }))

-- the options with a further one that has a value
abbrev pub with_value : PlanOptions → List ℕ → List ℕ → Option PlanOptions
with_value options name value =
    cond (bytes_eq name (codes "--search")) (with_search options value)
    (cond (bytes_eq name (codes "--limit")) (with_limit options value) None)

-- the options with those that the words are: `--stats` is one word, and any other option is a name and a
-- value
abbrev pub with_each : List (List ℕ) → Option PlanOptions → Option PlanOptions
with_each words None = None
with_each [] (Some options) = Some options
with_each (name ∷ []) (Some options) = cond (bytes_eq name (codes "--stats")) (with_stats options) None
with_each (name ∷ value ∷ words) (Some options) =
    cond (bytes_eq name (codes "--stats")) (with_each (value ∷ words) (with_stats options))
    (with_each words (with_value options name value))

-- the request of the words after `validate`
abbrev pub validate_of : List (List ℕ) → Option Request
validate_of (domain ∷ problem ∷ plan ∷ []) =
    cond (is_file_name domain && is_file_name problem && is_file_name plan)
    (Some (Validate domain problem plan)) None
validate_of words = None

-- the request of the words after `successors`
abbrev pub successors_of : List (List ℕ) → Option Request
successors_of (domain ∷ problem ∷ options) =
    cond (is_file_name domain && is_file_name problem)
    (option_map (Successors domain problem) (with_all options (Some no_options))) None
successors_of words = None

-- the request of the words after `plan`
abbrev pub plan_of : List (List ℕ) → Option Request
plan_of (domain ∷ problem ∷ options) =
    cond (is_file_name domain && is_file_name problem)
    (option_map (FindPlan domain problem) (with_each options (Some no_plan_options))) None
plan_of words = None

-- the kind of made tasks that a word names
abbrev pub kind_of : List ℕ → Option Kind
kind_of word = cond (bytes_eq word (codes "hop")) (Some Hop)
    (cond (bytes_eq word (codes "wide")) (Some Wide) None)

-- whether a task of the kind is made in this size
abbrev pub is_size : Kind → ℕ → Bool
is_size Hop n = nat_le 1 n && nat_le n 1000
is_size Wide n = nat_le 1 n && nat_le n 100

abbrev pub size_within : Kind → Option ℕ → Option ℕ
size_within kind None = None
size_within kind (Some n) = cond (is_size kind n) (Some n) None

-- whether a word is the decimal text, without leading zeros, of a number up to 18,446,744,073,709,551,615
abbrev pub is_start : List ℕ → Bool
is_start word =
    nat_le (digits_value 10 word) 18446744073709551615 && bytes_eq word (decimal (digits_value 10 word))

-- the number of which the word is such a text
abbrev pub start_of : List ℕ → Option ℕ
start_of word = cond (is_start word) (Some (digits_value 10 word)) None

-- a kind, a size of it, and a start, where each is there
abbrev pub made_from : Kind → Option ℕ → Option ℕ → Option Request
made_from kind None start = None
made_from kind (Some n) start = option_map (Make kind n) start

abbrev pub made_of : Option Kind → List ℕ → List ℕ → Option Request
made_of None size start = None
made_of (Some kind) size start = made_from kind (size_within kind (count_of size)) (start_of start)

-- the request of the words after `make`
abbrev pub make_of : List (List ℕ) → Option Request
make_of (kind ∷ size ∷ start ∷ []) = made_of (kind_of kind) size start
make_of words = None

-- the request that some words are; any other list of words is none
abbrev pub request_of : List (List ℕ) → Option Request
request_of [] = None
request_of (command ∷ words) =
    cond (bytes_eq command (codes "validate")) (validate_of words)
    (cond (bytes_eq command (codes "successors")) (successors_of words)
    (cond (bytes_eq command (codes "plan")) (plan_of words)
    (cond (bytes_eq command (codes "make")) (make_of words) None)))

-- the plan file, where one is named
abbrev pub plan_files : Option (List ℕ) → List (FileRole × List ℕ)
plan_files None = []
plan_files (Some plan) = (Plan, plan) ∷ []

-- the files of a request, each with its role, in the order in which they are read
abbrev pub files_of : Request → List (FileRole × List ℕ)
files_of (Validate domain problem plan) = (Domain, domain) ∷ (Problem, problem) ∷ (Plan, plan) ∷ []
files_of (Successors domain problem options) = (Domain, domain) ∷ (Problem, problem) ∷ plan_files
    options.after
files_of (FindPlan domain problem options) = (Domain, domain) ∷ (Problem, problem) ∷ []
files_of (Make kind n start) = []

abbrev pub roles_of : Request → List FileRole
roles_of request = map (λ (file : FileRole × List ℕ). file.0) (files_of request)

abbrev pub names_of : Request → List (List ℕ)
names_of request = map (λ (file : FileRole × List ℕ). file.1) (files_of request)

-- the name of a request's file of this role, where it has one
abbrev pub name_of : Request → FileRole → Option (List ℕ)
name_of (Validate domain problem plan) Domain = Some domain
name_of (Validate domain problem plan) Problem = Some problem
name_of (Validate domain problem plan) Plan = Some plan
name_of (Successors domain problem options) Domain = Some domain
name_of (Successors domain problem options) Problem = Some problem
name_of (Successors domain problem options) Plan = options.after
name_of (FindPlan domain problem options) Domain = Some domain
name_of (FindPlan domain problem options) Problem = Some problem
name_of (FindPlan domain problem options) Plan = None
name_of (Make kind n start) role = None
