-- How the tokens that were read grow by a form, by a bracket that begins a list and by one that ends it.
use Rattle.std.proofs.Common.{◌≡◌, ℕ, ◌+◌, ◌-◌, ◌≤◌, List, [], ◌∷◌, ◌++◌, length, take, drop, reverse, Vec}
use Rattle.std.proofs.Common.{Global, sym, ap, ◌∙◌, subst, arith, append_assoc, length-append}
use Rattle.std.proofs.lemmas.List.{append-nil, reverse-append, take-append-le, drop-append-le, length-take-le}
use Rattle.pl_text.specs.Limits.{most_open}
use Rattle.pl_text.specs.declared.form.Form as form
use Rattle.pl_text.specs.declared.form.Form.{Form}
use Rattle.pl_text.specs.declared.reading.Opened.{Opened}
use Rattle.pl_text.specs.Tokens.{Token, Open, Close}
use Rattle.pl_text.specs.Trees.{tree_of, written}
use Rattle.pl_text.specs.Forms.{flatten_all}
use Rattle.pl_text.specs.Reading.{tokens_read, AreNested, IsKept, AddsToken}
use Rattle.pl_text.proofs.TreeLaws.{tree_of_list, written_all-append}

flatten_all-push : (forms : List Form) (form : Form) →
    flatten_all (forms ++ form ∷ []) ≡ flatten_all forms ++ written (tree_of form)
flatten_all-push forms form =
    written_all-append forms (form ∷ []) ∙
    ap (λ last. flatten_all forms ++ last) (append-nil (written (tree_of form)))

-- one form more in the innermost list
pub tokens_read-push : (lists : List Opened) (done : List Form) (form : Form) →
    AreNested lists (length done) →
    tokens_read lists (done ++ form ∷ []) ≡ tokens_read lists done ++ written (tree_of form)
tokens_read-push [] done form h = flatten_all-push done form
tokens_read-push (list ∷ outer) done form h =
    let le : list.before ≤ length done = h.0 in
    rw (
      take-append-le list.before done (form ∷ []) le,
      drop-append-le list.before done (form ∷ []) le,
      flatten_all-push (drop list.before done) form,
    )
    (sym
    (append_assoc
    (tokens_read outer (take list.before done))
    (Open list.at ∷ flatten_all (drop list.before done))
    (written (tree_of form))))

pub AreNested-le : (lists : List Opened) (m n : ℕ) → m ≤ n → AreNested lists m → AreNested lists n
AreNested-le [] m n le h = tt
AreNested-le (list ∷ outer) m n le h = let before : list.before ≤ m = h.0 in (omega arith, h.1)

nested_push : (lists : List Opened) (done : List Form) (form : Form) → AreNested lists (length done) →
    AreNested lists (length (done ++ form ∷ []))
nested_push lists done form h =
    AreNested-le lists (length done) _ (omega (arith, length-append done (form ∷ []))) h

-- a word was read
pub adds_word : (lists : List Opened) (done new_done : List Form) (word : Form) (token : Token) →
    new_done ≡ done ++ word ∷ [] → written (tree_of word) ≡ token ∷ [] → IsKept lists done →
    AddsToken lists lists done new_done token
adds_word lists done new_done word token is written kept = record {
  kept = record {
    nested = subst (λ d. AreNested (reverse lists) (length d)) (sym is)
        (nested_push (reverse lists) done word kept.nested);
    depth = kept.depth;
  };
  read =
      ap (tokens_read (reverse lists)) is ∙
      tokens_read-push (reverse lists) done word kept.nested ∙
      ap (λ last. tokens_read (reverse lists) done ++ last) written;
}

-- the innermost list was read, to its close bracket
pub adds_close : (lists new_lists : List Opened) (list : Opened) (done outside new_done : List Form)
    (elements : Vec Form Global)
    (at : ℕ) →
    lists ≡ new_lists ++ list ∷ [] → outside ≡ take list.before done →
    elements.items ≡ drop list.before done →
    new_done ≡ outside ++ form.List (record { from = list.at; to = at + 1 }) elements ∷ [] →
    IsKept lists done →
    AddsToken lists new_lists done new_done (Close at)
adds_close lists new_lists list done outside new_done elements at lists_are outside_is elements_are done_is
    kept =
    let closed = form.List (record { from = list.at; to = at + 1 }) elements in
    let turned : reverse lists ≡ list ∷ reverse new_lists = ap reverse lists_are ∙
    reverse-append new_lists (list ∷ []) in
    let nested : AreNested (list ∷ reverse new_lists) (length done) =
    subst (λ ls. AreNested ls (length done)) turned kept.nested in
    let before : list.before ≤ length done = nested.0 in
    let count : length outside ≡ list.before = ap length outside_is ∙
    length-take-le list.before done before in
    let nested' : AreNested (reverse new_lists) (length outside) =
    subst (AreNested (reverse new_lists)) (sym count) nested.1 in
    let inside : written (tree_of closed) ≡ Open list.at ∷ flatten_all
    (drop list.before done) ++ Close at ∷ [] =
    ap written (tree_of_list (record { from = list.at; to = at + 1 }) elements) ∙
    ap (λ forms. Open list.at ∷ flatten_all forms ++ Close (at + 1 - 1) ∷ []) elements_are ∙
    ap (λ p. Open list.at ∷ flatten_all (drop list.before done) ++ Close p ∷ []) (omega arith)
    in
    let fewer : length new_lists + 1 ≡ length lists =
    omega (arith, ap length lists_are, length-append new_lists (list ∷ [])) in
    let few : length lists ≤ most_open = kept.depth in
    record {
      kept = record {
        nested = subst (λ d. AreNested (reverse new_lists) (length d)) (sym done_is)
            (nested_push (reverse new_lists) outside closed nested');
        depth = omega arith;
      };
      read =
          ap (tokens_read (reverse new_lists)) done_is ∙
          tokens_read-push (reverse new_lists) outside closed nested' ∙
          ap (λ last. tokens_read (reverse new_lists) outside ++ last) inside ∙
          ap (λ d. tokens_read (reverse new_lists) d ++
          (Open list.at ∷ flatten_all (drop list.before done) ++ Close at ∷ [])) outside_is ∙
          sym (append_assoc (tokens_read (reverse new_lists) (take list.before done))
          (Open list.at ∷ flatten_all (drop list.before done)) (Close at ∷ [])) ∙
          ap (λ ls. tokens_read ls done ++ Close at ∷ []) (sym turned);
    }
