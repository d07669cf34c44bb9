-- Facts about the parts of an `Option` or a `Result`.
use Rattle.std.proofs.Common.{◌≡◌, ℕ, List, Option, Some, None, sym, subst, IfSome, IfNone}
use Rattle.std.specs.Prelude.{Result, Ok, Err, IfErr, OnErr, OnOk}

-- a fact of a value that is there, and one where none is
pub if_some : {T : Type 0} (P : T → Type 0) (o : Option T) (x : T) → Some x ≡ o → P x → IfSome o P
if_some P o x is h = subst (λ p. IfSome p P) is h

pub if_none : {T : Type 0} (P : Type 0) (o : Option T) → None ≡ o → P → IfNone o P
if_none P o is h = subst (λ p. IfNone p P) is h

-- a fact of the error that a `?` handed on
pub if_err : {T E : Type 0} (P : E → Type 0) (r : Result T E) (handed error : E) → r ≡ Err handed
    → handed ≡ error → P error
    → IfErr r P
if_err P r handed error is same h =
    subst (λ q. IfErr q P) (sym is) (subst P (sym same) h)

-- a fact of three lists, of lists that are equal to them
pub along : (P : List ℕ → List ℕ → List ℕ → Type 0) (xs xs' ys ys' zs zs' : List ℕ) → xs ≡ xs' → ys ≡ ys'
    → zs ≡ zs'
    → P xs ys zs → P xs' ys' zs'
along P xs xs' ys ys' zs zs' first second third h =
    subst (λ a. P a ys' zs') first (subst (λ b. P xs b zs') second (subst (λ c. P xs ys c) third h))

-- what holds anyway holds at an error
pub on_err : {T E : Type 0} (P : Type 0) (result : Result T E) → P → OnErr result P
on_err P (Ok x) p = tt
on_err P (Err e) p = p

-- a fact at an error leads to a further one
pub on_err_weaker : {T E : Type 0} (P Q : Type 0) (result : Result T E) → (P → Q) → OnErr result P
    → OnErr result Q
on_err_weaker P Q (Ok x) weaker h = tt
on_err_weaker P Q (Err e) weaker h = weaker h

-- a fact at a success leads to a further one
pub on_ok_weaker : {T E : Type 0} (P Q : Type 0) (result : Result T E) → (P → Q) → OnOk result P
    → OnOk result Q
on_ok_weaker P Q (Ok x) weaker h = weaker h
on_ok_weaker P Q (Err e) weaker h = tt
