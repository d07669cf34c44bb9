-- The first file of a name, by its place.
use Rattle.std.proofs.Common.{◌≡◌, ℕ, suc, ◌+◌, ◌-◌, min, Bool, true, false, cond, List, [], ◌∷◌, length}
use Rattle.std.proofs.Common.{take, drop, get_or, Some, None, is_some, refl, sym, ap, ◌∙◌, subst, arith}
use Rattle.std.proofs.Common.{bytes_eq, take-append-drop, ◌++◌}
use Rattle.std.specs.Prelude.{Option, option_map}
use Rattle.std.specs.List.{slice_get, position_from}
use Rattle.std.proofs.lemmas.Iterator.Adapters.{position_from-zero}
use Rattle.std.proofs.lemmas.Slice.Eq.{bytes_eq-Decides}
use Rattle.std.proofs.lemmas.Option.{slice_get_within, slice_get_read}
use Rattle.std.proofs.lemmas.List.{drop_min, take_rest, drop-drop, drop_all}
use Rattle.std.specs.Io.KnownBytes.{Consumes, IsAtEnd}
use Rattle.pl_io.specs.Outside.{NamedBytes, content_of, left_of}
use Rattle.pl_io.specs.Places.{name_at, first_place, IsFirstOfItsName}

abbrev has_name : List ℕ → NamedBytes → Bool
has_name name file = bytes_eq file.0 name

-- the first file of that name stands at that place
record IsFirst (name : List ℕ) (files : List NamedBytes) (i : ℕ) : Type 0 where
  file : NamedBytes
  at : slice_get files i ≡ Some file
  named : file.0 ≡ name
  content : content_of files name ≡ Some file.1

IsFirst-head : (name : List ℕ) (file : NamedBytes) (files : List NamedBytes) → bytes_eq file.0 name ≡ true
    → IsFirst name (file ∷ files) 0
IsFirst-head name file files e =
    record { file = file; at = refl; named = (bytes_eq-Decides file.0 name).0 e; content = rw e }

IsFirst-cons : (name : List ℕ) (file : NamedBytes) (files : List NamedBytes) (i : ℕ) →
    bytes_eq file.0 name ≡ false
    → IsFirst name files i → IsFirst name (file ∷ files) (suc i)
IsFirst-cons name file files i e first =
    record { file = first.file; at = first.at; named = first.named; content = rw e first.content }

-- what a search from `start` on finds
abbrev Finds : List ℕ → List NamedBytes → ℕ → ℕ → Type 0
Finds name files start k = (i : ℕ) × (k ≡ start + i) × IsFirst name files i

Finds-cons : (name : List ℕ) (file : NamedBytes) (files : List NamedBytes) (start k : ℕ) →
    bytes_eq file.0 name ≡ false
    → Finds name files (start + 1) k → Finds name (file ∷ files) start k
Finds-cons name file files start k e (i, at, first) =
    (suc i, omega (arith, at), IsFirst-cons name file files i e first)

finds : (name : List ℕ) (files : List NamedBytes) (start k : ℕ)
    → position_from (has_name name) start files ≡ Some k → Finds name files start k
finds name [] start k found = absurd (cc found)
finds name (file ∷ files) start k found =
    let P : Bool → Type 0 = λ b. bytes_eq file.0 name ≡ b
    → cond b (Some start) (position_from (has_name name) (start + 1) files) ≡ Some k →
    Finds name (file ∷ files) start k in
    elim (bytes_eq file.0 name) as P [
      | true ↦ λ e here. (
        0,
        (let same : start ≡ k = (cc) in omega (arith, same)),
        IsFirst-head name file files e,
      )
      | false ↦ λ e later. Finds-cons name file files start k e (finds name files (start + 1) k later)
    ] refl found

-- a search finds a place exactly where there is a file of that name
some_place : (name : List ℕ) (files : List NamedBytes) (start : ℕ)
    → is_some (content_of files name) ≡ is_some (position_from (has_name name) start files)
some_place name [] start = refl
some_place name (file ∷ files) start =
    let P : Bool → Type 0 = λ b. is_some (cond b (Some file.1) (content_of files name))
    ≡ is_some (cond b (Some start) (position_from (has_name name) (start + 1) files)) in
    elim (bytes_eq file.0 name) as P [ true ↦ refl | false ↦ some_place name files (start + 1) ]

pub first_place-is_some : (files : List NamedBytes) (name : List ℕ)
    → is_some (first_place files name) ≡ is_some (content_of files name)
first_place-is_some files name =
    ap is_some (position_from-zero (has_name name) files) ∙ sym (some_place name files 0)

first_at : (files : List NamedBytes) (name : List ℕ) (k : ℕ) → first_place files name ≡ Some k →
    IsFirst name files k
first_at files name k found = at_zero
    (finds name files 0 k (sym (position_from-zero (has_name name) files) ∙ found))
  where
    at_zero : Finds name files 0 k → IsFirst name files k
    at_zero (i, at, first) = let same : i ≡ k = omega (arith, at) in subst (IsFirst name files) same first

pub first_place-name_at : (files : List NamedBytes) (name : List ℕ) (k : ℕ) → first_place files name ≡ Some k
    → name_at files k ≡ Some name
first_place-name_at files name k found =
    let first = first_at files name k found in
    rw first.at (ap Some first.named)

pub first_place-IsFirstOfItsName : (files : List NamedBytes) (name : List ℕ) (k : ℕ) →
    first_place files name ≡ Some k
    → IsFirstOfItsName files k
first_place-IsFirstOfItsName files name k found =
    let first = first_at files name k found in (
      slice_get_within files k first.file first.at,
      λ file here.
          let same : first.file ≡ file = cc (first.at, here) in
          subst (λ (f : NamedBytes). content_of files f.0 ≡ Some f.1) same
          (subst (λ (n : List ℕ). content_of files n ≡ Some first.file.1) (sym first.named) first.content),
    )

-- what the file at that place has left, as the slice of its bytes from there on
pub left_of-name_at : (files : List NamedBytes) (i place start : ℕ) (file : NamedBytes) (bytes : List ℕ)
    → IsFirstOfItsName files i → file ≡ get_or files i file → bytes ≡ file.1 →
    start ≡ min place (length bytes)
    → left_of (Some files) (name_at files i) place ≡ Some (take (length bytes - start) (drop start bytes))
left_of-name_at files i place start file bytes (within, first) read content from =
    let at : slice_get files i ≡ Some file = slice_get_read files (length files) i file refl within read in
    let left : drop place file.1 ≡ take (length bytes - start) (drop start bytes) =
    ap (drop place) (sym content) ∙ sym (drop_min place bytes) ∙ ap (λ (n : ℕ). drop n bytes) (sym from)
    ∙ sym (take_rest bytes start) in
    rw (at, first file at) (ap Some left)

-- what the place of the first file of a name says
pub ruleset by_place = (first_place-is_some, first_place-name_at, first_place-IsFirstOfItsName)

-- what is left after so many bytes more
left_of-add : (files : Option (List NamedBytes)) (current : Option (List ℕ)) (place count : ℕ) (left : List ℕ)
    → left_of files current place ≡ Some left → left_of files current (place + count) ≡ Some (drop count left)
left_of-add None current place count left known = absurd (cc known)
left_of-add (Some files) None place count left known = absurd (cc known)
left_of-add (Some files) (Some name) place count left known = content_left (content_of files name) known
  where
    content_left : (content : Option (List ℕ)) → option_map (drop place) content ≡ Some left
        → option_map (drop (place + count)) content ≡ Some (drop count left)
    content_left None left_is = absurd (cc left_is)
    content_left (Some bytes) left_is =
        let same : drop place bytes ≡ left = (cc) in
        ap Some (sym (drop-drop count place bytes) ∙ ap (drop count) same)

-- a read that gives the front of what is left
pub Consumes-left_of : (old : Option (List ℕ)) (files : Option (List NamedBytes))
    (current : Option (List ℕ)) (place count : ℕ)
    (left bytes : List ℕ) → old ≡ Some left → left_of files current place ≡ Some left →
    bytes ≡ take count left
    → Consumes old (left_of files current (place + count)) bytes
Consumes-left_of old files current place count left bytes before known given =
    rw (before, left_of-add files current place count left known)
    (sym (take-append-drop count left) ∙ ap (λ (front : List ℕ). front ++ drop count left) (sym given))

-- where nothing is left, the file is at its end
pub IsAtEnd-left_of : (files : Option (List NamedBytes)) (current : Option (List ℕ))
    (place count : ℕ) (left : List ℕ)
    → left_of files current place ≡ Some left → length left ≡ 0 →
    IsAtEnd (left_of files current (place + count))
IsAtEnd-left_of files current place count left known none =
    rw (left_of-add files current place count left known) (drop_all count left (omega (arith, none)))
