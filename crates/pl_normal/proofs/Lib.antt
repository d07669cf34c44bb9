-- for the crates above: classes, slots, the query of a schema, the orders, and the lists of steps
pub mod Joined
pub mod SlotLemmas
pub mod Answering
pub mod Ordered
pub mod Listing
-- for the crates above: members of lists, sets of classes, and the parts of a normal form
pub mod Lists
pub mod Sets
pub mod Forming
pub mod Forms
-- for the crates above: the removal of ears
pub mod Removing
-- for the crates above: the tables that a query is asked of, and the relations of its edges and nodes
pub mod Asking
pub mod Edging
pub mod Few
pub mod Joins
pub mod Leaving
-- the functions that make a normal form
mod Loops
mod Homes
mod Merging
mod Tabling
mod Numbers
pub mod KindLemmas
-- the functions that make relations and recipes
mod Pushing
pub mod Relating
mod OrderedEdges
mod Sieving
pub mod Unchanging
mod Sharing
mod NodeRows
mod Handing
-- the tests
mod Below
