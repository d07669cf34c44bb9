-- The order of a schema's parameters has the classes of each edge's slots, each once.
use Rattle.std.proofs.Common.{◌≡◌, ◌↔◌, ◌<◌, ℕ, List, length, All, Contains, refl, sym}
use Rattle.std.proofs.Common.{subst}
use Rattle.std.proofs.lemmas.List.Elements.{All-contains, Contains-get_or}
use Rattle.pl_task.specs.declared.data.Schema.{Schema}
use Rattle.pl_task.specs.declared.task.Task.{Task}
use Rattle.pl_join.specs.declared.slot.Slot.{Slot}
use Rattle.pl_join.specs.declared.slot.Slot.TheVariants.{Class}
use Rattle.pl_join.specs.Relation.{ClassRows, AreDistinct, IsSlotOver, classes_in}
use Rattle.pl_join.proofs.Gathering.{in_order}
use Rattle.pl_normal.specs.declared.form.Edge.{Edge}
use Rattle.pl_normal.specs.Edges.{edges_of}
use Rattle.pl_normal.specs.ParameterOrder.{parameter_order}
use Rattle.pl_normal.specs.Queries.{IsEdgeOf, edge_at}
use Rattle.pl_normal.proofs.Forms.{SchemaOf, no_edge}
use Rattle.pl_normal.proofs.Ordered.{class_unfixed, parameter_order-is, unfixed_itself}
use Rattle.pl_normal.proofs.Relating.{edge_given}

pub order_once : (schema : Schema) (order : List ℕ) → order ≡ parameter_order schema → AreDistinct order
order_once schema order same = subst AreDistinct (sym same) (parameter_order-is schema).once

-- the order has the classes of an edge's slots
pub order_holds : (task : Task) (schema : Schema) (order : List ℕ) (edges : List Edge) (e : ℕ)
    (slots : List Slot) → SchemaOf task schema → order ≡ parameter_order schema →
    edges ≡ edges_of schema → e < length edges → slots ≡ (edge_at edges e).slots →
    All (IsSlotOver order) slots
order_holds task schema order edges e slots is same listed low own =
    subst (All (IsSlotOver order)) (sym own) held
  where
    of : IsEdgeOf task schema (edge_at edges e)
    of = edge_given task schema edges e (edge_at edges e) is listed low refl

    among : Contains (edges_of schema) (edge_at edges e)
    among = subst (λ xs. Contains xs (edge_at edges e)) listed (Contains-get_or edges e no_edge low)

    held : All (IsSlotOver order) (edge_at edges e).slots
    held k d below c here =
        let stands : Contains (edge_at edges e).slots (Class c) =
        subst (Contains (edge_at edges e).slots) here (Contains-get_or (edge_at edges e).slots k d below) in
        let small = (unfixed_itself schema c
        (class_unfixed schema (edge_at edges e) c among ((of.set c).1 stands))).0 in
        subst (λ xs. Contains xs c) (sym same) (((parameter_order-is schema).all c).1 small)

-- so the classes in this order are those of the slots
pub ordered_members : (order : List ℕ) (slots : List Slot) (relation : ClassRows) → relation.classes
    ≡ classes_in order slots → All (IsSlotOver order) slots → (c : ℕ) → Contains relation.classes c
    ↔ Contains slots (Class c)
ordered_members order slots relation same held c = (
  λ h. ((in_order order slots c).0 (subst (λ xs. Contains xs c) same h)).1,
  λ h. subst (λ xs. Contains xs c) (sym same)
      ((in_order order slots c).1 (All-contains (IsSlotOver order) slots (Class c) held h c refl, h)),
)
