-- What a shelf of files and a sink of bytes tell of themselves, and what a call does to them. A shelf or a
-- sink may tell nothing of its bytes (`None`), as one over the operating system does.
use Rattle.std.specs.Prelude.{◌≡◌, ℕ, ◌+◌, ◌-◌, ◌^◌, ◌<◌, ◌≤◌, min, Bool, true, false, cond, ◌⊎◌, List, []}
use Rattle.std.specs.Prelude.{◌∷◌, ◌++◌, length, take, drop, flat_map, bytes_eq, ⊤, Option, Some, None}
use Rattle.std.specs.Prelude.{is_some, IsSome, IsSomeAnd, option_map, Result, Ok, Err, OnErr}
use denote.Ref.{Bor}
use Rattle.pl_io.specs.declared.error.Failed.{Failed}
use Rattle.pl_io.specs.declared.error.ReadEnd.{ReadEnd}
use Rattle.pl_io.specs.declared.error.ReadEnd.TheVariants.{Missing, ReadFault, TooLong, Memory}

-- the most bytes that are read of a file
abbrev pub most_file_bytes : ℕ
most_file_bytes = 16777216

-- a file: its name, and its bytes
abbrev pub NamedBytes : Type 0
NamedBytes = List ℕ × List ℕ

-- what a shelf tells of itself
pub record ShelfSeen : Type 0 where
  -- the files with their names, where it tells them; the first file of a name counts, and no call changes
  -- them
  pub files : Option (List NamedBytes)
  -- the name of the file at hand; of a shelf that tells no files it only says whether there is one
  pub current : Option (List ℕ)
  -- how many bytes were given since the last `begin`
  pub place : ℕ
  -- the names that were begun, in their order, also those of which `begin` failed, where it tells them
  pub begun : Option (List (List ℕ))
  -- how many calls failed: it never falls, and stops at 18,446,744,073,709,551,615
  pub faults : ℕ

-- what a sink tells of itself
pub record SinkSeen : Type 0 where
  -- the bytes that were written, where it tells them
  pub written : Option (List ℕ)
  -- how many calls failed: it never falls, and stops at 18,446,744,073,709,551,615
  pub faults : ℕ

-- the bytes of the first file of that name
abbrev pub content_of : List NamedBytes → List ℕ → Option (List ℕ)
content_of [] name = None
content_of (file ∷ files) name = cond (bytes_eq file.0 name) (Some file.1) (content_of files name)

-- the bytes of the file of that name, where the files are told
abbrev pub known_content : Option (List NamedBytes) → List ℕ → Option (List ℕ)
known_content None name = None
known_content (Some files) name = content_of files name

-- the files are told, and none has that name
abbrev pub IsMissing : Option (List NamedBytes) → List ℕ → Type 0
IsMissing None name = ⊥
IsMissing (Some files) name = content_of files name ≡ None

-- a file is at hand, and where the files are told, it is the one of that name
abbrev pub IsAtHand : Option (List NamedBytes) → List ℕ → Option (List ℕ) → Type 0
IsAtHand None name current = IsSome current
IsAtHand (Some files) name current = (current ≡ Some name) × IsSome (content_of files name)

-- where the files are told, these are the bytes of the file of that name
abbrev pub IsWholeFile : Option (List NamedBytes) → List ℕ → List ℕ → Type 0
IsWholeFile None name bytes = ⊤
IsWholeFile (Some files) name bytes = content_of files name ≡ Some bytes

-- where the files are told, the file of that name is there and has more bytes than that
abbrev pub IsLongerThan : ℕ → Option (List NamedBytes) → List ℕ → Type 0
IsLongerThan most None name = ⊤
IsLongerThan most (Some files) name = IsSomeAnd (content_of files name) (λ bytes. most < length bytes)

-- what the file at hand has left after that many of its bytes, where it is known
abbrev pub left_of : Option (List NamedBytes) → Option (List ℕ) → ℕ → Option (List ℕ)
left_of None current place = None
left_of (Some files) None place = None
left_of (Some files) (Some name) place = option_map (drop place) (content_of files name)

-- what the file at hand of a shelf has left, where it is known
abbrev pub left_in : ShelfSeen → Option (List ℕ)
left_in shelf = left_of shelf.files shelf.current shelf.place

-- what `begin` answers of a name, and which file is at hand afterwards
abbrev pub Begins : Option (List NamedBytes) → List ℕ → Option (List ℕ) → Result Bool Failed → Type 0
Begins files name current (Ok true) = IsAtHand files name current
Begins files name current (Ok false) = IsMissing files name × (current ≡ None)
Begins files name current (Err e) = current ≡ None

-- Where the names begun are told after some calls, they are those told before them, and then these. A shelf
-- may stop telling them.
abbrev pub BegunThen : Option (List (List ℕ)) → List (List ℕ) → Option (List (List ℕ)) → Type 0
BegunThen old names None = ⊤
BegunThen None names (Some new) = ⊥
BegunThen (Some old) names (Some new) = new ≡ old ++ names

-- a count rose, or stands at the largest number that it can hold
abbrev pub Rose : ℕ → ℕ → Type 0
Rose before now = min (before + 1) (2 ^ 64 - 1) ≤ now

-- a count of faults never falls, and it rose where the call failed
pub record HasCause {T E : Type 0} (before now : ℕ) (result : Result T E) : Type 0 where
  pub later : before ≤ now
  pub failed : OnErr result (Rose before now)

-- a count of faults after a call: one more where the call failed, up to the largest number that it can hold
abbrev pub faults_after : {T : Type 0} → ℕ → Result T Failed → ℕ
faults_after before (Ok x) = before
faults_after before (Err e) = min (before + 1) (2 ^ 64 - 1)

-- both tell their bytes, or neither does
abbrev pub SameTelling : Option (List ℕ) → Option (List ℕ) → Type 0
SameTelling old new = is_some old ≡ is_some new

-- known bytes grow by some front of the piece: by all of it, by nothing, or by what lies between
abbrev pub AppendsFront : Option (List ℕ) → Option (List ℕ) → List ℕ → Type 0
AppendsFront None new piece = ⊤
AppendsFront (Some xs) None piece = ⊥
AppendsFront (Some xs) (Some ys) piece = (n : ℕ) × (n ≤ length piece) × (ys ≡ xs ++ take n piece)

-- the bytes of the pieces, one after the other
abbrev pub joined : List (Bor (List ℕ)) → List ℕ
joined pieces = flat_map (λ (piece : Bor (List ℕ)). piece.now) pieces

-- a file that isn't there is answered by `Missing`, or the shelf failed
abbrev pub IsAnswerToAbsence : {T : Type 0} → Result T ReadEnd → Type 0
IsAnswerToAbsence (Ok bytes) = ⊥
IsAnswerToAbsence (Err Missing) = ⊤
IsAnswerToAbsence (Err ReadFault) = ⊤
IsAnswerToAbsence (Err TooLong) = ⊥
IsAnswerToAbsence (Err (Memory e)) = ⊥

-- which file is at hand after a reading of the file of that name
abbrev pub LeavesCurrent : {T : Type 0} → Option (List NamedBytes) → List ℕ → Option (List ℕ) →
    Result T ReadEnd → Type 0
LeavesCurrent files name current (Ok bytes) = IsAtHand files name current
LeavesCurrent files name current (Err Missing) = current ≡ None
LeavesCurrent files name current (Err ReadFault) = (current ≡ None) ⊎ IsAtHand files name current
LeavesCurrent files name current (Err TooLong) = IsAtHand files name current
LeavesCurrent files name current (Err (Memory e)) = IsAtHand files name current
