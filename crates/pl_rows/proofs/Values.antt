-- What a table's value says of the fields behind it.
use Rattle.std.proofs.Common.{◌≡◌, ◌+◌, ◌*◌, ℕ, List, [], ◌∷◌, ◌++◌, length, sym, ap, ◌∙◌, subst, Result}
use Rattle.std.proofs.Common.{IfOk}
use Rattle.std.specs.declared.alloc.AllocError.{AllocError}
use Rattle.pl_rows.specs.Rows.{Rows, AreRows, SameRows, rows_of}
use Rattle.pl_rows.specs.Layout.{IsLaidOut}
use Rattle.pl_rows.proofs.Places.{length-rows_of, width-rows_of, rows_of-push, rows_of-append}

-- how many rows the table has
pub length-view : (k n : ℕ) (flat : List ℕ) (value : Rows) →
    record { arity = k; rows = rows_of k n flat } ≡ value → n ≡ length value.rows
length-view k n flat value e = sym (length-rows_of k n flat) ∙ ap (λ (v : Rows). length v.rows) e

-- its rows are those of a table
pub are_rows-view : (k n : ℕ) (flat : List ℕ) (value : Rows) →
    record { arity = k; rows = rows_of k n flat } ≡ value → IsLaidOut k n flat →
    AreRows value.arity value.rows
are_rows-view k n flat value e laid = subst (λ (v : Rows). AreRows v.arity v.rows) e (record {
  width = width-rows_of k n flat laid.whole;
  ascending = laid.ascending;
})

-- a row more
pub pushed : (k n : ℕ) (flat row new : List ℕ) (value : Rows) →
    record { arity = k; rows = rows_of k n flat } ≡ value → length flat ≡ k * n → length row ≡ value.arity →
    new ≡ flat ++ row → rows_of k (n + 1) new ≡ value.rows ++ row ∷ []
pushed k n flat row new value e h w is =
    ap (rows_of k (n + 1)) is ∙ rows_of-push k n flat row h (w ∙ sym (ap (λ (v : Rows). v.arity) e)) ∙
    ap (λ (v : Rows). v.rows ++ row ∷ []) e

-- some rows more
pub appended : (k n m : ℕ) (flat more new : List ℕ) (rows : List (List ℕ)) (value : Rows) →
    record { arity = k; rows = rows_of k n flat } ≡ value → length flat ≡ k * n → new ≡ flat ++ more →
    rows_of k m more ≡ rows → rows_of k (n + m) new ≡ value.rows ++ rows
appended k n m flat more new rows value e h is are =
    ap (rows_of k (n + m)) is ∙ rows_of-append k n m flat more h ∙
    ap (λ (v : Rows). v.rows ++ rows_of k m more) e ∙ ap (λ r. value.rows ++ r) are

-- the table that was made of the rows has them
pub made-same : (k n : ℕ) (flat : List ℕ) (value : Rows) (result : Result Rows AllocError) →
    record { arity = k; rows = rows_of k n flat } ≡ value →
    IfOk result (λ t. SameRows t.rows (rows_of k n flat)) → IfOk result (λ t. SameRows t.rows value.rows)
made-same k n flat value result e h = subst (λ (v : Rows). IfOk result (λ (t : Rows). SameRows t.rows v.rows))
    e h
