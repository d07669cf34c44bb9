-- The kinds of words. A file is read as its copy in small letters, so words are compared as they are.
use Rattle.std.specs.Prelude.{ℕ, Bool, false, not, ◌==◌, ◌&&◌, List, [], ◌∷◌, codes, bytes_eq}
use Rattle.std.specs.List.{list_any}

-- a variable has at least two bytes, the first of them `?`
unfoldable pub is_variable : List ℕ → Bool
is_variable [] = false
is_variable (b ∷ []) = false
is_variable (b ∷ c ∷ rest) = b == 63

-- a key begins with `:`
unfoldable pub is_key : List ℕ → Bool
is_key [] = false
is_key (b ∷ rest) = b == 58

-- a name begins with neither `?` nor `:`, and isn't `-`
unfoldable pub is_name : List ℕ → Bool
is_name [] = false
is_name (b ∷ rest) = not (b == 63) && not (b == 58) && not (bytes_eq (b ∷ rest) (codes "-"))

-- the words that no predicate has as its name
abbrev pub reserved : List (List ℕ)
reserved =
    codes "and" ∷ codes "or" ∷ codes "not" ∷ codes "imply" ∷ codes "forall" ∷ codes "exists" ∷ codes "when" ∷
    codes "preference" ∷ codes "=" ∷ codes "<" ∷ codes ">" ∷ codes "<=" ∷ codes ">=" ∷
    codes "increase" ∷ codes "decrease" ∷ codes "assign" ∷ codes "scale-up" ∷ codes "scale-down" ∷ []

-- one of these words
unfoldable pub is_reserved : List ℕ → Bool
is_reserved word = list_any (bytes_eq word) reserved

-- a name that isn't reserved
unfoldable pub is_predicate_name : List ℕ → Bool
is_predicate_name word = is_name word && not (is_reserved word)
