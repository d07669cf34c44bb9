-- Which assignments a relation holds whose rows are picked or kept from those of another.
use Rattle.std.proofs.Common.{◌≡◌, ◌≢◌, ◌↔◌, ◌==◌, ℕ, Bool, true, not, List, length, map}
use Rattle.std.proofs.Common.{filter, Contains, All, refl, sym, ap, ◌∙◌, subst, inl, inr, arith, Option, None}
use Rattle.std.proofs.Common.{Some, IfNone}
use Rattle.std.proofs.lemmas.Bool.{cases_Bool}
use Rattle.std.proofs.lemmas.Bool.Decides.{Decides-eqb, Decides-not}
use Rattle.pl_rows.specs.Rows.{Rows, SameRows}
use Rattle.pl_join.specs.declared.slot.Slot.{Slot}
use Rattle.pl_join.specs.declared.source.Source.{Source}
use Rattle.std.proofs.lemmas.List.Elements.{Contains-get_or}
use Rattle.std.proofs.lemmas.Slice.Eq.{bytes_eq-Decides}
use Rattle.pl_join.specs.declared.slot.Slot.TheVariants.{Class}
use Rattle.pl_join.specs.Relation.{IsSelectionOf, IsSlotOver, IsJoinOf, IsSemijoinOf, AgreeOnShared}
use Rattle.pl_join.specs.Relation.{has_class, ClassRows, Assignment, IsRelation, Holds, Agree, IsProjectionOf}
use Rattle.pl_join.specs.Relation.{AreUnequalOf, AreAbsentOf, slot_value}
use Rattle.pl_join.specs.declared.filters.Keep.TheVariants.{Found, Missing}
use Rattle.pl_join.specs.Source.{of_rows, fits_slots, shared_with, value_at, picked, looked_at, differ}
use Rattle.pl_join.specs.Source.{is_kept}
use Rattle.pl_join.proofs.Assignments.{value_of, map_agree, agree_map, row_held}
use Rattle.pl_join.proofs.Loops.{same_rows}
use Rattle.pl_join.proofs.Members.{Contains-map, Contains-from_map, Contains-filter, Contains-from_filter}
use Rattle.pl_join.proofs.Members.{has_row-Contains, has_class-Contains}

-- the rows of some columns are the projection onto the classes of these columns
pub projected : (from : ClassRows) (classes columns : List ℕ) (rows : List (List ℕ)) → IsRelation from
    → ((f : Assignment) → picked columns (map f from.classes) ≡ map f classes)
    → SameRows rows (map (picked columns) from.rows)
    → IsProjectionOf from (record { classes = classes; rows = rows })
projected from classes columns rows is values same f = (forth, back)
  where
    forth : Contains rows (map f classes) → (g : Assignment) × Holds from g × Agree classes f g
    forth h =
        let (row, held, e) = Contains-from_map (picked columns) from.rows (map f classes)
        ((same (map f classes)).0 h) in
        let g : Assignment = value_of from.classes row in
        let whole : map g from.classes ≡ row = row_held from is row held in (
          g,
          subst (Contains from.rows) (sym whole) held,
          agree_map classes f g (sym e ∙ sym (ap (picked columns) whole) ∙ values g),
        )

    back : (g : Assignment) × Holds from g × Agree classes f g → Contains rows (map f classes)
    back (g, held, agree) =
        (same (map f classes)).1
        (subst (Contains (map (picked columns) from.rows)) (values g ∙ sym (map_agree classes f g agree))
        (Contains-map (picked columns) from.rows (map g from.classes) held))

-- the rows that pass a test are those of the assignments whose values pass it
pub kept_by : (relation : ClassRows) (rows : List (List ℕ)) (p : List ℕ → Bool)
    → SameRows rows (filter p relation.rows) → (f : Assignment)
    → Holds (record { classes = relation.classes; rows = rows }) f
    ↔ (Holds relation f × (p (map f relation.classes) ≡ true))
kept_by relation rows p same f = (
  λ h. Contains-from_filter p relation.rows (map f relation.classes) ((same (map f relation.classes)).0 h),
  λ (held, passes). (same (map f relation.classes)).1
      (Contains-filter p relation.rows (map f relation.classes) held passes),
)

-- two numbers differ where the test for it says so
not_same : (a b : ℕ) → (not (a == b) ≡ true) ↔ (a ≢ b)
not_same a b = Decides-not (a == b) (Decides-eqb a b)

pub unequal : (relation : ClassRows) (rows : List (List ℕ)) (a b : Slot) (first second : Source)
    → ((f : Assignment) → value_at (map f relation.classes) first ≡ slot_value f a)
    → ((f : Assignment) → value_at (map f relation.classes) second ≡ slot_value f b)
    → SameRows rows (filter (differ first second) relation.rows)
    → AreUnequalOf relation a b (record { classes = relation.classes; rows = rows })
unequal relation rows a b first second at_first at_second same f =
    let (forth, back) = kept_by relation rows (differ first second) same f in
    let (apart, differs) = not_same (value_at (map f relation.classes) first)
    (value_at (map f relation.classes) second) in (
      λ h. (let (held, passes) = forth h in (held, λ e. apart passes (at_first f ∙ e ∙ sym (at_second f)))),
      λ (held, unlike). back (held, differs (λ e. unlike (sym (at_first f) ∙ e ∙ at_second f))),
    )

pub absent : (relation : ClassRows) (rows others : List (List ℕ)) (slots : List Slot) (sources : List Source)
    → ((f : Assignment) → looked_at sources (map f relation.classes) ≡ map (slot_value f) slots)
    → SameRows rows (filter (is_kept Missing others sources) relation.rows)
    → AreAbsentOf relation others slots (record { classes = relation.classes; rows = rows })
absent relation rows others slots sources values same f =
    let (forth, back) = kept_by relation rows (is_kept Missing others sources) same f in
    let key : looked_at sources (map f relation.classes) ≡ map (slot_value f) slots = values f in
    let (found, has) = has_row-Contains others (looked_at sources (map f relation.classes)) in (
      λ h. (let (held, passes) = forth h in
          (held, λ m. missing _ passes (has (subst (Contains others) (sym key) m)))),
      λ (held, none). back (held, missed _ (λ t. none (subst (Contains others) key (found t)))),
    )
  where
    missing : (b : Bool) → not b ≡ true → b ≡ true → ⊥
    missing b n t = grind arith

    missed : (b : Bool) → (b ≡ true → ⊥) → not b ≡ true
    missed b n = elim (cases_Bool b) [
      | inl t ↦ absurd (n t)
      | inr e ↦ rw e refl
    ]

-- the same of what the calls give, each known by an equation
pub projected_made : (relation result : ClassRows) (held classes columns given items : List ℕ)
    (table made : Rows) → IsRelation relation → held ≡ relation.classes
    → table ≡ record { arity = length relation.classes; rows = relation.rows }
    → ((f : Assignment) → picked columns (map f held) ≡ map f classes) → given ≡ columns
    → SameRows made.rows (map (picked given) table.rows) → items ≡ classes
    → result ≡ record { classes = items; rows = made.rows } → IsProjectionOf relation result
projected_made relation result held classes columns given items table made is eh et values eg same ei er =
    rw (er, ei) (projected relation classes columns made.rows is (rw eh at values) (rw (eg, et) at same))

pub unequal_made : (relation result : ClassRows) (held items : List ℕ) (table made : Rows) (a b : Slot)
    (first second : Source) → held ≡ relation.classes
    → table ≡ record { arity = length relation.classes; rows = relation.rows }
    → ((f : Assignment) → value_at (map f held) first ≡ slot_value f a)
    → ((f : Assignment) → value_at (map f held) second ≡ slot_value f b)
    → SameRows made.rows (filter (differ first second) table.rows) → items ≡ held
    → result ≡ record { classes = items; rows = made.rows } → AreUnequalOf relation a b result
unequal_made relation result held items table made a b first second eh et at_first at_second same ei er =
    rw (er, ei, eh) (unequal relation made.rows a b first second (rw eh at at_first) (rw eh at at_second)
    (rw et at same))

pub absent_made : (relation result : ClassRows) (held items : List ℕ) (table made : Rows)
    (others : List (List ℕ)) (slots : List Slot) (sources given : List Source) → held ≡ relation.classes
    → table ≡ record { arity = length relation.classes; rows = relation.rows }
    → ((f : Assignment) → looked_at sources (map f held) ≡ map (slot_value f) slots) → given ≡ sources
    → made.rows ≡ filter (is_kept Missing others given) table.rows → items ≡ held
    → result ≡ record { classes = items; rows = made.rows } → AreAbsentOf relation others slots result
absent_made relation result held items table made others slots sources given eh et values eg same ei er =
    rw (er, ei, eh) (absent relation made.rows others slots sources (rw eh at values)
    (same_rows _ _ (rw (eg, et) at same)))

-- the rows that fit the slots, by the values of the classes, are the selection
pub selected : (rows : List (List ℕ)) (slots : List Slot) (classes columns : List ℕ) (sources : List Source)
    (out : List (List ℕ)) → ((f : Assignment) → picked columns (map (slot_value f) slots) ≡ map f classes)
    → ((f : Assignment) → looked_at sources (map f classes) ≡ map (slot_value f) slots)
    → SameRows out (map (picked columns) (filter (fits_slots sources columns) rows))
    → IsSelectionOf rows slots (record { classes = classes; rows = out })
selected rows slots classes columns sources out picks looks same f = (forth, back)
  where
    forth : Contains out (map f classes) → Contains rows (map (slot_value f) slots)
    forth h =
        let (row, kept, e) = Contains-from_map (picked columns) (filter (fits_slots sources columns) rows)
        (map f classes) ((same (map f classes)).0 h) in
        let (held, fits) = Contains-from_filter (fits_slots sources columns) rows row kept in
        let whole : row ≡ looked_at sources (picked columns row) =
        (bytes_eq-Decides row (looked_at sources (picked columns row))).0 fits in
        subst (Contains rows) (whole ∙ ap (looked_at sources) e ∙ looks f) held

    back : Contains rows (map (slot_value f) slots) → Contains out (map f classes)
    back h =
        let row : List ℕ = map (slot_value f) slots in
        let whole : row ≡ looked_at sources (picked columns row) =
        sym (ap (looked_at sources) (picks f) ∙ looks f) in
        let fits : fits_slots sources columns row ≡ true =
        (bytes_eq-Decides row (looked_at sources (picked columns row))).1 whole in
        (same (map f classes)).1
        (subst (Contains (map (picked columns) (filter (fits_slots sources columns) rows))) (picks f)
        (Contains-map (picked columns) (filter (fits_slots sources columns) rows) row
        (Contains-filter (fits_slots sources columns) rows row h fits)))

pub selected_made : (rows : List (List ℕ)) (result : ClassRows) (slots : List Slot)
    (classes columns given_columns given_classes : List ℕ) (sources given : List Source) (made : Rows)
    → ((f : Assignment) → picked columns (map (slot_value f) slots) ≡ map f classes) → given_classes ≡ classes
    → ((f : Assignment) → looked_at sources (map f given_classes) ≡ map (slot_value f) slots)
    → given_columns ≡ columns → given ≡ sources → SameRows made.rows
    (map (picked given_columns) (filter (fits_slots given given_columns) rows))
    → result ≡ record { classes = classes; rows = made.rows } → IsSelectionOf rows slots result
selected_made rows result slots classes columns given_columns given_classes sources given made picks ec looks
    ek eg same er =
    rw er (selected rows slots classes columns sources made.rows picks (rw ec at looks) (rw (eg, ek) at same))

-- the rows whose values are a row of another relation over some of the classes are the join with it
pub restricted_to : (keep by : ClassRows) (rows : List (List ℕ)) (sources : List Source)
    → ((f : Assignment) → looked_at sources (map f keep.classes) ≡ map f by.classes)
    → SameRows rows (filter (is_kept Found by.rows sources) keep.rows)
    → IsJoinOf keep by (record { classes = keep.classes; rows = rows })
restricted_to keep by rows sources values same f =
    let (forth, back) = kept_by keep rows (is_kept Found by.rows sources) same f in
    let key : looked_at sources (map f keep.classes) ≡ map f by.classes = values f in
    let (found, has) = has_row-Contains by.rows (looked_at sources (map f keep.classes)) in (
      λ h. (let (held, passes) = forth h in (held, subst (Contains by.rows) key (found passes))),
      λ (held, in_by). back (held, has (subst (Contains by.rows) (sym key) in_by)),
    )

-- the same of what the calls give, where a row is left out and where none is
pub found_made : (classes wanted items : List ℕ) (rows keys : List (List ℕ)) (result : ClassRows)
    (made : Rows) (sources given : List Source)
    → ((f : Assignment) → looked_at sources (map f classes) ≡ map f wanted)
    → given ≡ sources → made.rows ≡ filter (is_kept Found keys given) rows → items ≡ classes
    → result ≡ record { classes = items; rows = made.rows }
    → IsJoinOf (of_rows classes rows) (of_rows wanted keys) result
found_made classes wanted items rows keys result made sources given values eg same ei er =
    rw (er, ei) (restricted_to (of_rows classes rows) (of_rows wanted keys) made.rows sources values
    (same_rows _ _ (rw eg at same)))

pub found_whole : (classes wanted : List ℕ) (rows keys : List (List ℕ)) (sources given : List Source)
    → ((f : Assignment) → looked_at sources (map f classes) ≡ map f wanted)
    → given ≡ sources → filter (is_kept Found keys given) rows ≡ rows
    → IsJoinOf (of_rows classes rows) (of_rows wanted keys) (of_rows classes rows)
found_whole classes wanted rows keys sources given values eg same =
    restricted_to (of_rows classes rows) (of_rows wanted keys) rows sources values
    (same_rows _ _ (sym same ∙ ap (λ s. filter (is_kept Found keys s) rows) eg))

-- what is shared stands in both
pub Contains-shared : (classes others : List ℕ) (c : ℕ) → Contains (shared_with classes others) c
    ↔ (Contains classes c × Contains others c)
Contains-shared classes others c = (
  λ h. (let (held, t) = Contains-from_filter (λ k. has_class others k) classes c h in
      (held, (has_class-Contains others c).0 t)),
  λ (held, other). Contains-filter (λ k. has_class others k) classes c held
      ((has_class-Contains others c).1 other),
)

-- the join with a projection onto the shared classes is the semijoin
pub semijoined_on : (keep by projected kept : ClassRows)
    → ((c : ℕ) → Contains projected.classes c ↔ (Contains by.classes c × Contains keep.classes c))
    → IsProjectionOf by projected → IsJoinOf keep projected kept → IsSemijoinOf keep by kept
semijoined_on keep by projected kept shared projects joins f = (forth, back)
  where
    forth : Holds kept f → Holds keep f × ((g : Assignment) × Holds by g × AgreeOnShared keep by f g)
    forth h =
        let (held, part) = (joins f).0 h in
        let (g, in_by, agree) = (projects f).0 part in
        (held, (g, in_by, λ c k b. agree c ((shared c).1 (b, k))))

    back : Holds keep f × ((g : Assignment) × Holds by g × AgreeOnShared keep by f g) → Holds kept f
    back (held, (g, in_by, agree)) = (joins f).1
        (held, (projects f).1 (g, in_by, λ c m. (let (b, k) = (shared c).0 m in agree c k b)))

pub semijoined_by : (keep by projected kept : ClassRows)
    → projected.classes ≡ shared_with by.classes keep.classes → IsProjectionOf by projected
    → IsJoinOf keep projected kept → IsSemijoinOf keep by kept
semijoined_by keep by projected kept e projects joins =
    semijoined_on keep by projected kept
    (λ c. subst (λ cs. Contains cs c ↔ (Contains by.classes c × Contains keep.classes c)) (sym e)
    (Contains-shared by.classes keep.classes c)) projects joins

-- a relation is its projection onto all its classes
pub whole_projection : (by : ClassRows) → IsProjectionOf by by
whole_projection by f = (
  λ h. (f, h, λ c m. refl),
  λ (g, held, agree). subst (Contains by.rows) (sym (map_agree by.classes f g agree)) held,
)

-- what is shared is among the one and among the others
pub shared_in : (classes others : List ℕ) → All (Contains classes) (shared_with classes others)
shared_in classes others k d l =
    ((Contains-shared classes others _).0 (Contains-get_or (shared_with classes others) k d l)).0

pub shared_held : (classes others : List ℕ) → All (Contains others) (shared_with classes others)
shared_held classes others k d l =
    ((Contains-shared classes others _).0 (Contains-get_or (shared_with classes others) k d l)).1

-- what was chosen, each known by an equation
pub chosen_is : (choose : List ℕ → List ℕ → List ℕ) (classes others given given_others items slice : List ℕ)
    → given ≡ classes → given_others ≡ others → items ≡ choose given given_others → slice ≡ items
    → slice ≡ choose classes others
chosen_is choose classes others given given_others items slice ec eo ei es = es ∙ ei ∙ rw (ec, eo) refl

-- a slot that is a class among these is over them
pub slot_over : (classes : List ℕ) (slot : Slot) (c : ℕ) → slot ≡ Class c → Contains classes c
    → IsSlotOver classes slot
slot_over classes slot c is held k e = let same : c ≡ k = cc in subst (Contains classes) same held

-- what is known where there is no value, and what follows from it
pub none_weaker : {T P Q : Type 0} (o : Option T) → (P → Q) → IfNone o P → IfNone o Q
none_weaker None f h = f h
none_weaker (Some x) f h = h
