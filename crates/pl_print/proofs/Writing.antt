-- Texts of numbered items that are written in several calls, one after the other.
use Rattle.std.proofs.Common.{◌≡◌, ℕ, ◌+◌, ◌<◌, List, [], ◌++◌, length, take, drop, get_or, flat_map, refl}
use Rattle.std.proofs.Common.{sym, subst, ◌∙◌, ap, append-nil, append_assoc, take-append-drop, Some}
use Rattle.std.proofs.Common.{slice_get}
use Rattle.std.specs.Prelude.{Option, codes, decimal}
use Rattle.std.proofs.lemmas.Grind.{flat_map-append}
use Rattle.std.proofs.lemmas.List.{take_more, drop_more, flat_map_more}
use Rattle.std.proofs.lemmas.Option.{slice_get_read, slice_get_within}
use Rattle.std.specs.Io.KnownBytes.{Appends}
use Rattle.std.proofs.KnownBytes.{Appends-trans}
use Rattle.pl_io.specs.Outside.{AppendsFront}
use Rattle.pl_io.proofs.Parts.{AppendsFront-append}
use Rattle.pl_task.specs.declared.data.ObjectDef.{ObjectDef}
use Rattle.pl_task.specs.declared.data.Schema.{Schema}
use Rattle.pl_task.specs.declared.task.Task.{Task}
use Rattle.pl_task.specs.Instance.{Instance}
use Rattle.pl_task.specs.States.{IsStep}
use Rattle.pl_print.specs.Texts.{action_name, object_name, argument_text, step_text, plan_text}

-- the texts of the items before the one at i were written, and then that one's
pub all_to_next : {X : Type 0} (old mid new : Option (List ℕ)) (text : X → List ℕ) (items : List X) (i : ℕ)
    (d : X)
    → i < length items → Appends old mid (flat_map text (take i items))
    → Appends mid new (text (get_or items i d))
    → Appends old new (flat_map text (take (i + 1) items))
all_to_next old mid new text items i d h first second =
    let more : flat_map text (take i items) ++ text (get_or items i d) ≡ flat_map text (take (i + 1) items) =
    flat_map_more text [] (take i items) (get_or items i d)
    ∙ ap (flat_map text) (sym (take_more items i d h)) in
    subst (Appends old new) more (Appends-trans old mid new _ _ first second)

-- the texts of the items before the one at i were written, and then a front of that one's
pub front_to_next : {X : Type 0} (old mid new : Option (List ℕ)) (text : X → List ℕ) (items : List X) (i : ℕ)
    (d : X)
    → i < length items → Appends old mid (flat_map text (take i items))
    → AppendsFront mid new (text (get_or items i d)) → AppendsFront old new (flat_map text items)
front_to_next old mid new text items i d h first second =
    let whole : flat_map text (take i items)
    ++ (text (get_or items i d) ++ flat_map text (drop (i + 1) items)) ≡ flat_map text items =
    ap (λ (l : List _). flat_map text (take i items) ++ flat_map text l) (sym (drop_more items i d h))
    ∙ sym (flat_map-append text (take i items) (drop i items))
    ∙ ap (flat_map text) (take-append-drop i items) in
    subst (AppendsFront old new) whole (AppendsFront-append old mid new _ _ _ first second)

-- the same where the item at i is read first
pub all_to_item : {X : Type 0} (old mid new : Option (List ℕ)) (text : X → List ℕ) (items : List X) (i : ℕ)
    (x : X)
    → i < length items → x ≡ get_or items i x → Appends old mid (flat_map text (take i items))
    → Appends mid new (text x)
    → Appends old new (flat_map text (take (i + 1) items))
all_to_item old mid new text items i x h reads first second =
    all_to_next old mid new text items i x h first (subst (λ y. Appends mid new (text y)) reads second)

pub front_to_item : {X : Type 0} (old mid new : Option (List ℕ)) (text : X → List ℕ) (items : List X) (i : ℕ)
    (x : X)
    → i < length items → x ≡ get_or items i x → Appends old mid (flat_map text (take i items))
    → AppendsFront mid new (text x) → AppendsFront old new (flat_map text items)
front_to_item old mid new text items i x h reads first second =
    front_to_next old mid new text items i x h first (subst (λ y. AppendsFront mid new (text y)) reads second)

-- what is written of a plan is its text
pub plan_is : (task : Task) (steps plan : List Instance) (digits : List ℕ) → steps ≡ plan
    → digits ≡ decimal (length steps)
    → flat_map (step_text task) steps ++ (codes "; length " ++ (digits ++ (codes "\n" ++ []))) ≡ plan_text
    task plan
plan_is task steps plan digits same named =
    ap (λ (l : List ℕ). flat_map (step_text task) steps ++ (codes "; length " ++ (l ++ codes "\n"))) named
    ∙ ap (plan_text task) same

-- what is written of an argument is its text
pub argument_is : (objects : List ObjectDef) (number : ℕ) (object : ObjectDef) (name : List ℕ)
    → number < length objects
    → object ≡ get_or objects number object → name ≡ object.name
    → codes " " ++ (name ++ []) ≡ argument_text objects number
argument_is objects number object name h reads named =
    ap (λ (l : List ℕ). codes " " ++ l)
    (append-nil name ∙ named
    ∙ ap object_name (sym (slice_get_read objects (length objects) number object refl h reads)))

-- what is written of a step is its line
pub step_is : (task : Task) (step : Instance) (schemas : List Schema) (schema : Schema) (name : List ℕ)
    (objects : List ObjectDef)
    → IsStep task step → schemas ≡ task.schemas → schema ≡ get_or schemas step.schema schema
    → name ≡ schema.name
    → objects ≡ task.objects
    → (codes "(" ++ (name ++ [])) ++ (flat_map (argument_text objects) step.args ++ codes ")\n") ≡ step_text
    task step
step_is task step schemas schema name objects is_step are reads named listed =
    let within : step.schema < length task.schemas = slice_get_within task.schemas step.schema is_step.schema
    is_step.found in
    let here : step.schema < length schemas = subst (λ (l : List Schema). step.schema < length l)
    (sym are) within in
    let found : slice_get task.schemas step.schema ≡ Some schema =
    ap (λ (l : List Schema). slice_get l step.schema) (sym are)
    ∙ slice_get_read schemas (length schemas) step.schema schema refl here reads in
    let rest = flat_map (argument_text task.objects) step.args ++ codes ")\n" in
    ap (λ (l : List ObjectDef). (codes "(" ++ (name ++ []))
    ++ (flat_map (argument_text l) step.args ++ codes ")\n")) listed
    ∙ ap (λ (l : List ℕ). (codes "(" ++ l) ++ rest)
    (append-nil name ∙ named ∙ ap action_name (sym found))
    ∙ sym (append_assoc (codes "(" ++ action_name (slice_get task.schemas step.schema))
    (flat_map (argument_text task.objects) step.args)
    (codes ")\n"))
