-- What the reading of a request's files, one after the other, comes to.
use Rattle.std.proofs.Common.{◌≡◌, ℕ, ◌≤◌, List, [], ◌∷◌, ◌++◌, take, Option, Some, None, ◌⊎◌, inl, inr, refl}
use Rattle.std.proofs.Common.{sym, ◌∙◌, subst, arith, IfSome}
use Rattle.pl_io.specs.Outside.{NamedBytes, ShelfSeen, BegunThen, IsAtHand}
use Rattle.pl_io.proofs.Telling.{BegunThen-trans}
use Rattle.pl_top.specs.declared.refusal.Refusal.{Refusal}
use Rattle.pl_top.specs.declared.refusal.Refusal.TheVariants as refused
use Rattle.pl_check.specs.declared.role.FileRole.{FileRole}
use Rattle.pl_top.specs.Answer.{Outcome, Reading, Absent, Overlong, Whole, IsReadingOf, GoesOn, IsRead}
use Rattle.pl_top.specs.Answer.{IsAnswer, cannot_read, too_long}
use Rattle.pl_top.specs.Refusal.{outcome_of, HasBegun, IsForced, IsOfLast, IsRefused, IsUnanswered, IsUnread}
use Rattle.pl_top.specs.Request.{Request, names_of, roles_of, name_of}
use Rattle.pl_top.specs.Run.{EndsWith}

-- further files of the request were begun
pub begun_more : (request : Request) (count next : ℕ) (more : List (List ℕ)) (shelf mid shelf' : ShelfSeen)
    → take next (names_of request) ≡ take count (names_of request) ++ more
    → HasBegun request count shelf mid → shelf'.files ≡ mid.files → mid.faults ≤ shelf'.faults
    → BegunThen mid.begun more shelf'.begun → HasBegun request next shelf shelf'
begun_more request count next more shelf mid shelf' names h files faults begun = record {
  files = files ∙ h.files;
  faults = omega (arith, h.faults, faults);
  names = subst (λ ns. BegunThen shelf.begun ns shelf'.begun) (sym names)
      (BegunThen-trans _ _ _ _ _ h.names begun);
}

-- the next file of the request was begun
pub begun_next : (request : Request) (count next : ℕ) (name : List ℕ) (shelf mid shelf' : ShelfSeen)
    → take next (names_of request) ≡ take count (names_of request) ++ name ∷ []
    → HasBegun request count shelf mid → shelf'.files ≡ mid.files → mid.faults ≤ shelf'.faults
    → BegunThen mid.begun (name ∷ []) shelf'.begun → HasBegun request next shelf shelf'
begun_next request count next name = begun_more request count next (name ∷ [])

-- the first file of the request was begun
pub begun_first : (request : Request) (name : List ℕ) (shelf shelf' : ShelfSeen)
    → take 1 (names_of request) ≡ name ∷ []
    → shelf'.files ≡ shelf.files → shelf.faults ≤ shelf'.faults
    → BegunThen shelf.begun (name ∷ []) shelf'.begun
    → HasBegun request 1 shelf shelf'
begun_first request name shelf shelf' names files faults begun = record {
  files = files;
  faults = faults;
  names = subst (λ ns. BegunThen shelf.begun ns shelf'.begun) (sym names) begun;
}

-- where a told file is at hand, it is the one of that name
at_hand : (files : Option (List NamedBytes)) (name : List ℕ) (current : Option (List ℕ))
    → (current ≡ None) ⊎ IsAtHand files name current → IfSome files (λ _. IfSome current (λ c. c ≡ name))
at_hand None name current h = tt
at_hand (Some files) name current (inl none) = subst (λ o. IfSome o (λ c. c ≡ name)) (sym none) tt
at_hand (Some files) name current (inr is) = subst (λ o. IfSome o (λ c. c ≡ name)) (sym is.0) refl

-- what is so for further bytes is so for a reading
pub IsRead-weaker : (files : Option (List NamedBytes)) (place : ℕ) (name : List ℕ) (role : FileRole)
    (outcome : Outcome)
    (Less More : List ℕ → Type 0) → ((bytes : List ℕ) → Less bytes → More bytes)
    → IsRead files place name role outcome Less → IsRead files place name role outcome More
IsRead-weaker files place name role outcome Less More weaker h =
    record { reading = h.reading; of_file = h.of_file; goes_on = by_reading h.reading h.goes_on }
  where
    by_reading : (reading : Reading) → GoesOn role outcome Less reading → GoesOn role outcome More reading
    by_reading Absent is = is
    by_reading Overlong is = is
    by_reading (Whole bytes) is = weaker bytes is

-- the reading stops at this file
abbrev pub Stops : Option (List NamedBytes) → ℕ → List ℕ → FileRole → Outcome → Type 0
Stops files place name role outcome = IsRead files place name role outcome (λ _. ⊥)

-- the refusal of a file that isn't read whole: the answer, where an answer is what a reading that stops here
-- leads to
unread_cause : (request : Request) (name : List ℕ) (role : FileRole) (shelf mid shelf' : ShelfSeen)
    (r : Refusal)
    → name_of request role ≡ Some name → mid.files ≡ shelf.files → shelf.faults ≤ mid.faults
    → shelf'.files ≡ mid.files
    → ((outcome : Outcome) → Stops shelf.files shelf'.place name role outcome
    → IsAnswer request shelf.files shelf'.place outcome)
    → IsUnread name role mid shelf' r
    → IsAnswer request shelf.files shelf'.place (outcome_of r) ⊎ IsForced request shelf shelf' r
unread_cause request name role shelf mid shelf' (refused.CannotRead other) named before later after leads
    (same, why) =
    elim why [
      | inl absent ↦ inl (leads _ (record {
        reading = Absent;
        of_file = subst (λ f. IsReadingOf f shelf'.place name Absent) before absent;
        goes_on = subst (λ (o : FileRole). cannot_read o ≡ cannot_read role) (sym same) refl;
      }))
      | inr failed ↦ inr (
        omega (arith, failed.0, later),
        record {
          name = name;
          named = subst (λ (o : FileRole). name_of request o ≡ Some name) (sym same) named;
          at_hand = subst (λ f. IfSome f (λ _. IfSome shelf'.current (λ c. c ≡ name))) (sym after)
              (at_hand mid.files name shelf'.current failed.1);
        },
      )
    ]
unread_cause request name role shelf mid shelf' (refused.TooLong other) named before later after leads
    (same, long) =
    inl (leads _ (record {
      reading = Overlong;
      of_file = subst (λ f. IsReadingOf f shelf'.place name Overlong) before long;
      goes_on = subst (λ (o : FileRole). too_long o ≡ too_long role) (sym same) refl;
    }))
unread_cause request name role shelf mid shelf' (refused.Input file line column kind) named before later after
    leads h = absurd h
unread_cause request name role shelf mid shelf' refused.NotAStep named before later after leads h = absurd h
unread_cause request name role shelf mid shelf' (refused.Memory error) named before later after leads h =
    inr tt

-- a file that can't be read is the one that was begun last
of_last : (name : List ℕ) (role : FileRole) (shelf shelf' : ShelfSeen) (r : Refusal) (roles : List FileRole)
    → EndsWith roles role → IsUnread name role shelf shelf' r → IsOfLast roles r
of_last name role shelf shelf' (refused.CannotRead other) roles ends h = subst (EndsWith roles) (sym h.0) ends
of_last name role shelf shelf' (refused.TooLong other) roles ends h = tt
of_last name role shelf shelf' (refused.Input file line column kind) roles ends h = tt
of_last name role shelf shelf' refused.NotAStep roles ends h = tt
of_last name role shelf shelf' (refused.Memory error) roles ends h = tt

-- a request whose file isn't read whole is refused, after `count` files were begun
pub unread : (request : Request) (count : ℕ) (name : List ℕ) (role : FileRole) (shelf mid shelf' : ShelfSeen)
    (r : Refusal)
    → name_of request role ≡ Some name → EndsWith (take count (roles_of request)) role
    → HasBegun request count shelf shelf' → mid.files ≡ shelf.files → shelf.faults ≤ mid.faults
    → ((outcome : Outcome) → Stops shelf.files shelf'.place name role outcome
    → IsAnswer request shelf.files shelf'.place outcome)
    → IsUnread name role mid shelf' r → IsRefused request shelf shelf' r
unread request count name role shelf mid shelf' r named ends begun before later leads h = record {
  count = count;
  begun = begun;
  cause = unread_cause request name role shelf mid shelf' r named before later
      (begun.files ∙ sym before) leads h;
  last = of_last name role mid shelf' r _ ends h;
}

-- a request whose files have no answer to print is refused
pub unanswered : (request : Request) (count : ℕ) (shelf shelf' : ShelfSeen) (IsOutcome : Outcome → Type 0)
    (r : Refusal)
    → HasBegun request count shelf shelf'
    → ((outcome : Outcome) → IsOutcome outcome → IsAnswer request shelf.files shelf'.place outcome)
    → IsUnanswered IsOutcome r → IsRefused request shelf shelf' r
unanswered request count shelf shelf' IsOutcome (refused.CannotRead role) begun answers why = absurd why
unanswered request count shelf shelf' IsOutcome (refused.TooLong role) begun answers why = absurd why
unanswered request count shelf shelf' IsOutcome (refused.Input file line column kind) begun answers why =
    record { count = count; begun = begun; cause = inl (answers _ why); last = tt }
unanswered request count shelf shelf' IsOutcome refused.NotAStep begun answers why =
    record { count = count; begun = begun; cause = inl (answers _ why); last = tt }
unanswered request count shelf shelf' IsOutcome (refused.Memory error) begun answers why =
    record { count = count; begun = begun; cause = inr tt; last = tt }
