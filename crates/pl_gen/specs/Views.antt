-- What a prepared state has of a schema.
use Rattle.std.specs.Prelude.{◌≡◌, ◌<◌, true, false, [], length}
use Rattle.std.specs.List.{list_all}
use Rattle.pl_task.specs.declared.data.Schema.{Schema}
use Rattle.pl_task.specs.declared.task.Task.{Task}
use Rattle.pl_task.specs.States.{State}
use Rattle.pl_normal.specs.Edges.{edges_of}
use Rattle.pl_normal.specs.Guards.{guards_of}
use Rattle.pl_normal.specs.Query.{meets_guard}
use Rattle.pl_gen.specs.declared.view.View.{View}
use Rattle.pl_gen.specs.declared.view.View.TheVariants as view
use Rattle.pl_gen.specs.Entries.{AreTablesFor}

-- `Never` exactly where a guard is false, `Always` exactly where all guards hold and there is no edge, and
-- else the reduced tables
abbrev pub IsViewOf : Task → Schema → State → View → Type 0
IsViewOf task schema s view.Never = list_all (meets_guard s) (guards_of task schema) ≡ false
IsViewOf task schema s view.Always = (list_all (meets_guard s) (guards_of task schema) ≡ true)
    × (edges_of schema ≡ [])
IsViewOf task schema s (view.Tables join) =
    (list_all (meets_guard s) (guards_of task schema) ≡ true)
    × ((0 < length (edges_of schema)) × AreTablesFor task schema s join.now)
