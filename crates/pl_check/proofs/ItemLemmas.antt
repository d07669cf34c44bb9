-- The items of typed lists, element by element.
use Rattle.std.proofs.Common.{◌≡◌, ◌+◌, ◌<◌, ℕ, suc, Bool, ◌||◌, true, false, not, cond, List, [], ◌∷◌, ◌++◌}
use Rattle.std.proofs.Common.{map, filter, length, refl, sym, ap, ◌∙◌}
use Rattle.pl_text.specs.Trees.{Tree}
use Rattle.pl_check.specs.declared.typed.TypedRole.{TypedRole}
use Rattle.pl_check.specs.declared.typed.TypedRole.TheVariants.{Names, Variables}
use Rattle.pl_check.specs.Words.{is_name, is_variable}
use Rattle.pl_check.specs.Elements.{word_of}
use Rattle.pl_check.specs.TypedLists.{is_dash, is_item, items, item_names, item_variables}

-- the names among items are the items of names
pub name_items : (text : List ℕ) (trees : List Tree) →
    filter (is_item Names) (map (word_of text) (items text false trees)) ≡ item_names text trees
unfolding is_item
name_items text trees = refl

pub variable_items : (text : List ℕ) (trees : List Tree) →
    filter (is_item Variables) (map (word_of text) (items text false trees)) ≡ item_variables text trees
unfolding is_item
variable_items text trees = refl
