-- The answers that pass a test, as a part of all answers.
use Rattle.std.proofs.Common.{◌≡◌, ℕ, Bool, true, IsTrue, List, filter, refl, arith}
use Rattle.std.proofs.lemmas.List.Kept.{IsStrictlySortedBy-filter}
use Rattle.pl_rows.specs.Rows.{row_cmp}
use Rattle.pl_rows.proofs.Canonical.{same_rows}
use Rattle.pl_join.proofs.Members.{Contains-filter, Contains-from_filter}
use Rattle.pl_reduce.specs.Nodes.{ReducedJoin}
use Rattle.pl_cursor.specs.Cursor.{AreAnswersPast}

true_is : (b : Bool) → IsTrue b → b ≡ true
true_is b t = grind arith

is_true : (b : Bool) → b ≡ true → IsTrue b
is_true b t = grind arith

pub answers_part : (join : ReducedJoin) (passes : List ℕ → Bool) (all left : List (List ℕ)) →
    AreAnswersPast join (λ _. true) all → AreAnswersPast join passes left → left ≡ filter passes all
answers_part join passes all left every some =
    same_rows left (filter passes all) some.ascending
    (IsStrictlySortedBy-filter row_cmp passes all every.ascending) (λ row. (
      λ h. (let (answer, p) = (some.members row).0 h in
          Contains-filter passes all row ((every.members row).1 (answer, is_true true refl))
          (true_is (passes row) p)),
      λ h. (let (held, p) = Contains-from_filter passes all row h in
          (some.members row).1 (((every.members row).0 held).0, is_true (passes row) p)),
    ))
