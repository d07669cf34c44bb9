-- Bytes that are held back and sent on, one piece after the other.
use Rattle.std.proofs.Common.{◌≡◌, ℕ, ◌+◌, ◌<◌, List, [], ◌++◌, length, take, drop, get_or, flat_map, sym}
use Rattle.std.proofs.Common.{subst, ◌∙◌, ap, append_assoc, append-nil, take-append-drop, Result, Ok, Err}
use Rattle.std.proofs.Common.{OnErr}
use Rattle.std.specs.Prelude.{Option}
use Rattle.std.proofs.lemmas.Grind.{flat_map-append}
use Rattle.std.proofs.lemmas.List.{take_more, drop_more, flat_map_more}
use Rattle.std.specs.Io.KnownBytes.{Appends}
use Rattle.std.proofs.KnownBytes.{Appends-nil, Appends-trans}
use Rattle.pl_io.specs.Outside.{AppendsFront}
use Rattle.pl_io.specs.Blocks.{SendsOn}
use Rattle.pl_io.proofs.Parts.{AppendsFront-append}

-- what holds anyway holds at an error
pub on_err : {T E P : Type 0} (result : Result T E) → P → OnErr result P
on_err (Ok x) p = tt
on_err (Err e) p = p

-- a front of the first part was written
pub front_of_first : (old new : Option (List ℕ)) (first rest : List ℕ) → AppendsFront old new first
    → AppendsFront old new (first ++ rest)
front_of_first old new first rest h = AppendsFront-append old old new [] first rest (Appends-nil old) h

-- the first part was written, and then a front of the rest
pub front_of_next : (old mid new : Option (List ℕ)) (first rest : List ℕ) → Appends old mid first
    → AppendsFront mid new rest → AppendsFront old new (first ++ rest)
front_of_next old mid new first rest done h =
    subst (λ (l : List ℕ). AppendsFront old new (first ++ l)) (append-nil rest)
    (AppendsFront-append old mid new first rest [] done h)

-- nothing was sent on
pub sent_nothing : (old : Option (List ℕ)) (held bytes left : List ℕ) → left ≡ held ++ bytes →
    SendsOn old old held bytes left
sent_nothing old held bytes left e = record { sent = []; put = Appends-nil old; rest = sym e }

-- a piece in other words
pub sent_same : (old new : Option (List ℕ)) (held bytes text left : List ℕ) → bytes ≡ text →
    SendsOn old new held bytes left
    → SendsOn old new held text left
sent_same old new held bytes text left same h = subst (λ (l : List ℕ). SendsOn old new held l left) same h

-- two pieces, one after the other
pub sent_both : (old mid new : Option (List ℕ)) (held first after second left : List ℕ)
    → SendsOn old mid held first after → SendsOn mid new after second left →
    SendsOn old new held (first ++ second) left
sent_both old mid new held first after second left a b =
    record {
      sent = a.sent ++ b.sent;
      put = Appends-trans old mid new a.sent b.sent a.put b.put;
      rest = sym (append_assoc held first second) ∙ ap (λ (l : List ℕ). l ++ second) a.rest
          ∙ append_assoc a.sent after second ∙ ap (λ (l : List ℕ). a.sent ++ l) b.rest
          ∙ sym (append_assoc a.sent b.sent left);
    }

-- a front of what was held back and a part of the piece
pub front_of_taken : (old new : Option (List ℕ)) (held first rest : List ℕ) →
    AppendsFront old new (held ++ first)
    → AppendsFront old new (held ++ (first ++ rest))
front_of_taken old new held first rest h =
    subst (AppendsFront old new) (append_assoc held first rest)
    (front_of_first old new (held ++ first) rest h)

-- a front of what was held back and the piece, in other words
pub front_of_same : (old new : Option (List ℕ)) (held bytes text : List ℕ) → bytes ≡ text
    → AppendsFront old new (held ++ bytes) → AppendsFront old new (held ++ text)
front_of_same old new held bytes text same h = subst (λ (l : List ℕ). AppendsFront old new (held ++ l)) same h

-- a piece, and then a front of what was held back and the rest
pub front_after : (old mid new : Option (List ℕ)) (held first after rest : List ℕ) →
    SendsOn old mid held first after
    → AppendsFront mid new (after ++ rest) → AppendsFront old new (held ++ (first ++ rest))
front_after old mid new held first after rest a h =
    let whole : a.sent ++ (after ++ rest) ≡ held ++ (first ++ rest) =
    sym (append_assoc a.sent after rest) ∙ ap (λ (l : List ℕ). l ++ rest) (sym a.rest) ∙
    append_assoc held first rest in
    subst (AppendsFront old new) whole (front_of_next old mid new a.sent (after ++ rest) a.put h)

-- a piece was taken, and then a front of what was held back was written
pub front_at_end : (old mid new : Option (List ℕ)) (held bytes after : List ℕ) →
    SendsOn old mid held bytes after
    → AppendsFront mid new after → AppendsFront old new (held ++ bytes)
front_at_end old mid new held bytes after a h =
    subst (AppendsFront old new) (sym a.rest) (front_of_next old mid new a.sent after a.put h)

-- a piece was taken, and then all that was held back was written
pub all_at_end : (old mid new : Option (List ℕ)) (held bytes after : List ℕ) →
    SendsOn old mid held bytes after
    → Appends mid new after → Appends old new (held ++ bytes)
all_at_end old mid new held bytes after a h =
    subst (Appends old new) (sym a.rest) (Appends-trans old mid new a.sent after a.put h)

split : (held front rest bytes : List ℕ) → bytes ≡ front ++ rest → held ++ bytes ≡ (held ++ front) ++ rest
split held front rest bytes e = ap (λ (l : List ℕ). held ++ l) e ∙ sym (append_assoc held front rest)

-- the block was filled by a front of the piece and written, and the rest of the piece is held back
pub sent_block : (old new : Option (List ℕ)) (held block front rest bytes none left : List ℕ) →
    block ≡ held ++ front
    → bytes ≡ front ++ rest → none ≡ [] → left ≡ none ++ rest → Appends old new block →
    SendsOn old new held bytes left
sent_block old new held block front rest bytes none left filled parts empty after h =
    record {
      sent = block;
      put = h;
      rest = split held front rest bytes parts ∙ ap (λ (l : List ℕ). l ++ rest) (sym filled)
          ∙ ap (λ (l : List ℕ). block ++ l) (sym (after ∙ ap (λ (l : List ℕ). l ++ rest) empty));
    }

-- the block was filled and written, and then the rest of the piece was
pub sent_all : (old mid new : Option (List ℕ)) (held block front rest bytes left : List ℕ) →
    block ≡ held ++ front
    → bytes ≡ front ++ rest → left ≡ [] → Appends old mid block → Appends mid new rest →
    SendsOn old new held bytes left
sent_all old mid new held block front rest bytes left filled parts empty h next =
    record {
      sent = block ++ rest;
      put = Appends-trans old mid new block rest h next;
      rest = split held front rest bytes parts ∙ ap (λ (l : List ℕ). l ++ rest) (sym filled)
          ∙ sym (append-nil (block ++ rest)) ∙ ap (λ (l : List ℕ). (block ++ rest) ++ l) (sym empty);
    }

-- the block was filled, and a front of it was written
pub front_of_block : (old new : Option (List ℕ)) (held block front rest bytes : List ℕ) →
    block ≡ held ++ front
    → bytes ≡ front ++ rest → AppendsFront old new block → AppendsFront old new (held ++ bytes)
front_of_block old new held block front rest bytes filled parts h =
    let whole : block ++ rest ≡ held ++ bytes = ap (λ (l : List ℕ). l ++ rest) filled ∙
    sym (split held front rest bytes parts) in
    subst (AppendsFront old new) whole (front_of_first old new block rest h)

-- the block was filled and written, and then a front of the rest of the piece was
pub front_past_block : (old mid new : Option (List ℕ)) (held block front rest bytes : List ℕ) →
    block ≡ held ++ front
    → bytes ≡ front ++ rest → Appends old mid block → AppendsFront mid new rest →
    AppendsFront old new (held ++ bytes)
front_past_block old mid new held block front rest bytes filled parts h next =
    let whole : block ++ rest ≡ held ++ bytes = ap (λ (l : List ℕ). l ++ rest) filled ∙
    sym (split held front rest bytes parts) in
    subst (AppendsFront old new) whole (front_of_next old mid new block rest h next)

-- the texts of the items before the one at i were taken, and then that one's
pub sent_to_next : {X : Type 0} (old mid new : Option (List ℕ)) (text : X →
    List ℕ) (items : List X) (i : ℕ) (d : X)
    (held after left : List ℕ) → i < length items → SendsOn old mid held (flat_map text (take i items)) after
    → SendsOn mid new after (text (get_or items i d)) left →
    SendsOn old new held (flat_map text (take (i + 1) items)) left
sent_to_next old mid new text items i d held after left h first second =
    let more : flat_map text (take i items) ++ text (get_or items i d) ≡ flat_map text (take (i + 1) items) =
    flat_map_more text [] (take i items) (get_or items i d)
    ∙ ap (flat_map text) (sym (take_more items i d h)) in
    subst (λ (l : List ℕ). SendsOn old new held l left) more
    (sent_both old mid new held _ after _ left first second)

-- the texts of the items before the one at i were taken, and then a front of what was held back and that
-- one's was written
pub front_past : {X : Type 0} (old mid new : Option (List ℕ)) (text : X →
    List ℕ) (items : List X) (i : ℕ) (d : X)
    (held after : List ℕ) → i < length items → SendsOn old mid held (flat_map text (take i items)) after
    → AppendsFront mid new (after ++ text (get_or items i d)) →
    AppendsFront old new (held ++ flat_map text items)
front_past old mid new text items i d held after h first second =
    let rest = flat_map text (drop (i + 1) items) in
    let this = text (get_or items i d) in
    let whole : flat_map text (take i items) ++ (this ++ rest) ≡ flat_map text items =
    ap (λ (l : List _). flat_map text (take i items) ++ flat_map text l) (sym (drop_more items i d h))
    ∙ sym (flat_map-append text (take i items) (drop i items))
    ∙ ap (flat_map text) (take-append-drop i items) in
    let longer : AppendsFront mid new (after ++ (this ++ rest)) =
    subst (AppendsFront mid new) (append_assoc after this rest)
    (front_of_first mid new (after ++ this) rest second) in
    subst (λ (l : List ℕ). AppendsFront old new (held ++ l)) whole
    (front_after old mid new held (flat_map text (take i items)) after (this ++ rest) first longer)
