-- What was read or written in several calls is what stands in front of a list, and then what follows it
-- there.
use Rattle.std.proofs.Common.{◌≡◌, ℕ, ◌+◌, ◌-◌, ◌<◌, List, [], ◌++◌, length, take, drop, get_or, sym, subst}
use Rattle.std.proofs.Common.{◌∙◌, ap, Some, None, arith, append_assoc, length-append, take-append-drop}
use Rattle.std.specs.Prelude.{Option}
use denote.Ref.{Bor}
use Rattle.std.proofs.Math.Seq.{take-add, take-append-add}
use Rattle.std.proofs.lemmas.Grind.{flat_map-append}
use Rattle.std.proofs.lemmas.List.{take_rest, take_more, drop_more, take-append-le, flat_map_more}
use Rattle.std.specs.Io.KnownBytes.{Appends, Consumes}
use Rattle.std.proofs.KnownBytes.{Appends-trans, Consumes-trans}
use Rattle.pl_io.specs.Outside.{AppendsFront, joined}

-- the first n bytes were written, and then m bytes of those that follow them
pub Appends-take-add : (old mid new : Option (List ℕ)) (bytes : List ℕ) (n m : ℕ)
    → Appends old mid (take n bytes) → Appends mid new (take m (take (length bytes - n) (drop n bytes)))
    → Appends old new (take (n + m) bytes)
Appends-take-add old mid new bytes n m first second =
    let next : Appends mid new (take m (drop n bytes)) =
    subst (λ (rest : List ℕ). Appends mid new (take m rest)) (take_rest bytes n) second in
    subst (Appends old new) (sym (take-add n m bytes)) (Appends-trans old mid new _ _ first next)

-- the first n bytes were read, and then m bytes that stand behind them
pub Consumes-take-add : (old mid new : Option (List ℕ)) (before after : List ℕ) (n m : ℕ)
    → take n after ≡ take n before
    → Consumes old mid (take n before) → Consumes mid new (take m (drop n after))
    → Consumes old new (take (n + m) after)
Consumes-take-add old mid new before after n m kept first second =
    subst (Consumes old new) (sym (take-add n m after))
    (Consumes-trans old mid new _ _ (subst (Consumes old mid) (sym kept) first) second)

-- the pieces before the one at i, that piece, and the pieces after it
joined_at : (pieces : List (Bor (List ℕ))) (i : ℕ) (d : Bor (List ℕ)) → i < length pieces
    → joined pieces ≡ joined (take i pieces) ++ ((get_or pieces i d).now ++ joined (drop (i + 1) pieces))
joined_at pieces i d h =
    ap joined (sym (take-append-drop i pieces))
    ∙ flat_map-append (λ (piece : Bor (List ℕ)). piece.now) (take i pieces) (drop i pieces)
    ∙ ap (λ (rest : List (Bor (List ℕ))). joined (take i pieces) ++ joined rest) (drop_more pieces i d h)

-- the pieces before the one at i were written, and then that one
pub Appends-joined : (old mid new : Option (List ℕ)) (pieces : List (Bor (List ℕ))) (i : ℕ) (d : Bor (List ℕ))
    → i < length pieces → Appends old mid (joined (take i pieces)) → Appends mid new (get_or pieces i d).now
    → Appends old new (joined (take (i + 1) pieces))
Appends-joined old mid new pieces i d h first second =
    let more : joined (take i pieces) ++ (get_or pieces i d).now ≡ joined (take (i + 1) pieces) =
    flat_map_more (λ (piece : Bor (List ℕ)). piece.now) [] (take i pieces) (get_or pieces i d)
    ∙ ap joined (sym (take_more pieces i d h)) in
    subst (Appends old new) more (Appends-trans old mid new _ _ first second)

-- some bytes, and then a front of some more, are a front of the two
pub AppendsFront-append : (old mid new : Option (List ℕ)) (before piece after : List ℕ)
    → Appends old mid before → AppendsFront mid new piece → AppendsFront old new (before ++ (piece ++ after))
AppendsFront-append None mid new before piece after first second = tt
AppendsFront-append (Some xs) None new before piece after first second = absurd first
AppendsFront-append (Some xs) (Some ys) None before piece after first second = absurd second
AppendsFront-append (Some xs) (Some ys) (Some zs) before piece after first (n, fits, grown) =
    let front : take (length before + n) (before ++ (piece ++ after)) ≡ before ++ take n piece =
    take-append-add before (piece ++ after) n
    ∙ ap (λ (l : List ℕ). before ++ l) (take-append-le n piece after fits) in (
      length before + n,
      omega (arith, fits, length-append before (piece ++ after), length-append piece after),
      grown ∙ ap (λ (l : List ℕ). l ++ take n piece) first ∙ append_assoc xs before (take n piece)
          ∙ ap (λ (l : List ℕ). xs ++ l) (sym front),
    )

-- the pieces before the one at i were written, and then a front of that one
pub AppendsFront-joined : (old mid new : Option (List ℕ)) (pieces : List (Bor (List ℕ)))
    (i : ℕ) (d : Bor (List ℕ))
    → i < length pieces → Appends old mid (joined (take i pieces)) →
    AppendsFront mid new (get_or pieces i d).now
    → AppendsFront old new (joined pieces)
AppendsFront-joined old mid new pieces i d h first second =
    subst (AppendsFront old new) (sym (joined_at pieces i d h))
    (AppendsFront-append old mid new _ _ _ first second)

-- where no piece has a byte, the one at i has none
pub joined-empty : (pieces : List (Bor (List ℕ))) (i : ℕ) (d : Bor (List ℕ)) → i < length pieces
    → length (joined pieces) ≡ 0 → length (get_or pieces i d).now ≡ 0
joined-empty pieces i d h none =
    omega (
      arith,
      none,
      ap length (joined_at pieces i d h),
      length-append (joined (take i pieces)) ((get_or pieces i d).now ++ joined (drop (i + 1) pieces)),
      length-append (get_or pieces i d).now (joined (drop (i + 1) pieces)),
    )
