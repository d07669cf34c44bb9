-- what greedy best-first search answers and what it leaves
pub mod Greedy
-- what its parts promise each other
pub mod Queue
pub mod UnderWay
