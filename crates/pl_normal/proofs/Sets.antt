-- Sets of classes as the bits of a number.
use Rattle.std.proofs.Common.{◌≡◌, ℕ, ◌↔◌, true, eqb-true, eq-eqb}
use Rattle.std.specs.Prelude.{bit_and}
use Rattle.std.specs.Int.{bit_at}
use Rattle.pl_hyper.proofs.Bits.{and_bit, and_within}
use Rattle.pl_normal.specs.EarRemoval.{serves}

-- a third set has each class that two sets share
pub serves-is : (edge other parent : ℕ) → (serves edge other parent ≡ true)
    ↔ ((c : ℕ) → bit_at edge c ≡ 1 → bit_at other c ≡ 1 → bit_at parent c ≡ 1)
serves-is edge other parent = (
  λ h c a b. (and_within (bit_and edge other) parent).0
      (eqb-true (bit_and (bit_and edge other) parent) (bit_and edge other) h) c
      ((and_bit edge other c).1 (a, b)),
  λ f. eq-eqb (bit_and (bit_and edge other) parent) (bit_and edge other)
      ((and_within (bit_and edge other) parent).1
      (λ c h. let both = (and_bit edge other c).0 h in f c both.0 both.1)),
)
