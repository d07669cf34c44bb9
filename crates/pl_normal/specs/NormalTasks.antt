-- What a normal task keeps.
use Rattle.std.specs.Prelude.{◌≡◌, ◌<◌, ℕ, List, length, Option, Some, slice_get}
use Rattle.std.proofs.Common.{get_or}
use Rattle.pl_rows.specs.Rows.{Rows}
use Rattle.pl_task.specs.declared.data.Schema.{Schema}
use Rattle.pl_task.specs.declared.task.Task.{Task}
use Rattle.pl_normal.specs.declared.form.NormalSchema.{NormalSchema}
use Rattle.pl_normal.specs.NormalForm.{IsNormalForm}
use Rattle.pl_reduce.specs.Recipes.{FixedJoin}
use Rattle.pl_normal.specs.Recipes.{AreRecipes}
use Rattle.pl_normal.specs.Tables.{AreStatics}
use Rattle.pl_normal.specs.Kinds.{AreKindTables}

-- the forms are the normal forms of the first schemas, in their order
pub record AreFormsOf (task : Task) (count : ℕ) (forms : List NormalSchema) : Type 0 where
  pub many : length forms ≡ count
  pub each : (i : ℕ) (schema : Schema) (d : NormalSchema) → slice_get task.schemas i ≡ Some schema →
      i < count → IsNormalForm task schema (get_or forms i d)

abbrev pub AreNormalForms : Task → List NormalSchema → Type 0
AreNormalForms task forms = AreFormsOf task (length task.schemas) forms

-- the normal forms of the schemas, the tables of static predicates, those of the types of parameters, and
-- the recipes of joins
pub record IsNormalTask (task : Task) (schemas : List NormalSchema) (statics : List (Option Rows))
    (starts numbers : List ℕ)
    (tables : List Rows) (recipes : List (Option FixedJoin)) : Type 0 where
  pub schemas_are : AreNormalForms task schemas
  pub statics_are : AreStatics task statics
  pub kinds_are : AreKindTables task starts numbers tables
  pub recipes_are : AreRecipes task (length task.schemas) recipes
