-- for the crates above: the facts of a removal, and that a hypergraph has one
pub mod Removals
-- for the crates above: lists of numbers as sets, first appearances, and the classes of edges as lists
pub mod Members
pub mod Orders
pub mod Rising
-- for the crates above: sets of classes as bits
pub mod Bits
-- trees and ears: how an ear is taken out of a tree and put back, and a join tree exactly where one edge
-- stays
mod Trees
mod Acyclic
-- the search for the next ear, and the loop round it
mod Holding
mod Finding
mod Searches
mod UnderWay
-- for the crates above: what the order of the classes holds
pub mod ClassOrders
