-- How many probes the preparation of a state may take.
use Rattle.std.specs.Prelude.{◌+◌, ◌*◌, ℕ, length}
use Rattle.pl_task.specs.declared.data.Schema.{Schema}
use Rattle.pl_task.specs.declared.task.Task.{Task}
use Rattle.pl_task.specs.States.{State}
use Rattle.pl_normal.specs.Edges.{edges_of}
use Rattle.pl_normal.specs.Filters.{local_of}
use Rattle.pl_normal.specs.Guards.{guards_of}
use Rattle.pl_normal.specs.Measures.{relation_rows}

-- what the reduced tables of an acyclic schema may take: four probes for each row with each edge and each
-- local filter
abbrev pub table_probes : Task → State → Schema → ℕ
table_probes task s schema = 4 * (length (edges_of schema) + length (local_of schema)) * relation_rows task s
    schema

-- what the entry of an acyclic schema may take: the guards, and the tables
abbrev pub entry_probes : Task → State → Schema → ℕ
entry_probes task s schema = length (guards_of task schema) + table_probes task s schema

-- the same more closely: three probes for each row with each edge, and two with each local filter
abbrev pub close_probes : Task → State → Schema → ℕ
close_probes task s schema =
    (3 * length (edges_of schema) + 2 * length (local_of schema)) * relation_rows task s schema

abbrev pub close_entry_probes : Task → State → Schema → ℕ
close_entry_probes task s schema = length (guards_of task schema) + close_probes task s schema
